use Rattle.std.proofs.Common.{List, ℕ, ◌++◌, ◌∷◌, ◌∙◌, ap, subst}
use Rattle.std.specs.Fmt.{HasWritten, decimal}
use Rattle.std.specs.Net.Addr.{ipv6_segments}
use Rattle.std.specs.Net.Text.{hex_groups_text}
use Rattle.prefixes.proofs.Spelling.{written_v4, written_v6}
use Rattle.prefixes.proofs.text.IpPrefixDisplay.fmt.Goals as goal

pub returns-in-V4-clause-writes : goal.returns-in-V4-clause-writes
returns-in-V4-clause-writes g c plain ok =
    let text = written_v4 c.args.self.now c.in-V4.p c.from_bits-address.result c.addr.result c.len.result c.in-V4.is c.from_bits-address.ensures c.addr.ensures.value c.len.ensures.value c.addr.ensures.prefix in
    subst (λ (t : List ℕ). HasWritten g.W.Write.write_str_gives c.args.f.now t c.write.new.self) text (c.write.ensures.writes plain ok)

pub returns-in-V6-clause-writes : goal.returns-in-V6-clause-writes
returns-in-V6-clause-writes g c plain ok =
    let shown = ap (λ a. hex_groups_text (ipv6_segments a) ++ (47 ∷ decimal c.len-in-V6.result)) c.hex_groups.ensures in
    let text = written_v6 c.args.self.now c.in-V6.p c.from_bits-address-in-V6.result c.addr-in-V6.result c.len-in-V6.result c.in-V6.is c.from_bits-address-in-V6.ensures c.addr-in-V6.ensures.value c.len-in-V6.ensures.value in
    subst (λ (t : List ℕ). HasWritten g.W.Write.write_str_gives c.args.f.now t c.write-in-V6.new.self) (shown ∙ text) (c.write-in-V6.ensures.writes plain ok)
