use Rattle.std.proofs.Common.{◌≡◌, ◌∙◌, ℕ, List, length, ap, arith}
use Rattle.payloads.specs.declared.roa_family.AddressFamily.TheVariants.{Ipv4, Ipv6}
use Rattle.payloads.specs.RoaBytes.{list_bytes}
use Rattle.payloads.proofs.RoaSpellings.{list_short}
use Rattle.payloads.proofs.roa_writing.families.Goals as goal

pub add_family-requires : goal.add_family-requires
add_family-requires c =
    let same : c.as_slice.result.now ≡ list_bytes Ipv4 c.args.entries.now = c.as_slice.ensures ∙ c.in_ok-ipv4.ensures in
    omega (arith, ap (λ (l : List ℕ). length l) same, list_short Ipv4 c.args.entries.now c.requires)

pub add_family-requires-2 : goal.add_family-requires-2
add_family-requires-2 c =
    let same : c.as_slice-2.result.now ≡ list_bytes Ipv6 c.args.entries.now = c.as_slice-2.ensures ∙ c.in_ok-ipv6.ensures in
    omega (arith, ap (λ (l : List ℕ). length l) same, list_short Ipv6 c.args.entries.now c.requires)
