use Rattle.std.proofs.Common.{List, ℕ, sym, subst}
use Rattle.trust_anchors.proofs.Cutting.{Joined, joined_none, joined_on, joined_all}
use Rattle.trust_anchors.proofs.line.join_lines.Goals as goal

pub loop-line-init : goal.loop-line-init
loop-line-init c =
    subst (λ (t : List ℕ). Joined t c.args.bytes.now c.args.bytes.now) (sym c.new-text.ensures.items) (joined_none c.args.bytes.now)

pub loop-line-preserved : goal.loop-line-preserved
loop-line-preserved c =
    let l = c.loop-line in
    joined_on l.text.items c.extend_from_slice.new.self.items c.in-Some.line.text.now l.rest.now c.in-Some.line.rest.now c.args.bytes.now l.invariant c.in-Some.ensures
    c.in_ok-extend_from_slice.ensures.items

pub returns : goal.returns
returns c =
    let l = c.loop-line in
    joined_all l.text.items c.extend_from_slice-2.new.self.items l.rest.now c.args.bytes.now l.invariant c.in_default.ensures c.in_ok-extend_from_slice-2.ensures.items
