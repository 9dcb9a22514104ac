use Rattle.std.proofs.Common.{◌≡◌, ◌∙◌, ◌-◌, length, get_or, ap, arith}
use Rattle.prefixes.specs.declared.prefix.IpPrefix.TheVariants.{V6}
use Rattle.vrps.specs.Heads.{v4_prefix}
use Rattle.vrps.proofs.Headed.{first_head, heads_count, other_head}
use Rattle.vrps.proofs.groups.Group.key.Goals as goal

pub returns-then-self-len : goal.returns-then-self-len
returns-then-self-len c = λ d.
    let groups = c.args.self.now.groups.now in
    let size = groups.heads.v4.ok.0 in
    let v4 = c.if-self-len.true in
    let len = c.len.ensures in
    first_head groups.heads c.args.self.now.place c.index.result.now (omega (arith, size, v4, len)) c.index.ensures ∙ groups.headed.each c.args.self.now.place d (v4_prefix c.index.result.now) c.args.self.now.within

pub returns-else-self-len : goal.returns-else-self-len
returns-else-self-len c = λ d.
    let groups = c.args.self.now.groups.now in
    let size = groups.heads.v4.ok.0 in
    let v6 = c.if-self-len.false in
    let len = c.len.ensures in
    let again = c.len-else-self-len.ensures in
    let all = heads_count groups.heads in
    let counted = groups.headed.counted in
    let within = c.args.self.now.within in
    let place : c.args.self.now.place - c.len-else-self-len.result ≡ c.args.self.now.place - length groups.heads.v4.items = omega (arith, size, again) in
    let read = c.index-p.ensures ∙ ap (λ n. get_or groups.heads.v6.items n c.index-p.result.now) place in
    let p = c.index-p.result.now in
    (λ i. V6 (record { addr = c.addr.ensures.value i; len = c.len-else-self-len-2.ensures.value i }))
    ∙ other_head groups.heads c.args.self.now.place p (omega (arith, size, v6, len)) (omega (arith, size, v6, len, all, counted, within)) read
    ∙ groups.headed.each c.args.self.now.place d (V6 p) c.args.self.now.within
