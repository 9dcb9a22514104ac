use Rattle.std.proofs.Common.{◌≡◌, ◌∙◌, ℕ, List, length, map, ap, arith}
use Rattle.std.proofs.lemmas.List.{length-map}
use Rattle.payloads.specs.RoaReading.{family_in}
use Rattle.payloads.proofs.RoaSpellings.{list_few}
use Rattle.ccr.specs.Canonical.{entry_of}
use Rattle.ccr.specs.Families.{addresses_of, family_content}
use Rattle.ccr.specs.declared.family.Family.TheVariants.{Ipv4, Ipv6}
use Rattle.ccr.proofs.payload_set.families.Goals as goal

pub add_family-requires : goal.add_family-requires
add_family-requires c =
    let es = map entry_of c.args.vrps.now in
    let same : c.as_slice.result.now ≡ addresses_of Ipv4 es = c.as_slice.ensures ∙ c.in_ok-ipv4.ensures in
    omega (arith, ap (λ (l : List ℕ). length l) same, list_few (family_in (family_content Ipv4)) es, length-map c.args.vrps.now entry_of, c.requires)

pub add_family-requires-2 : goal.add_family-requires-2
add_family-requires-2 c =
    let es = map entry_of c.args.vrps.now in
    let same : c.as_slice-2.result.now ≡ addresses_of Ipv6 es = c.as_slice-2.ensures ∙ c.in_ok-ipv6.ensures in
    omega (arith, ap (λ (l : List ℕ). length l) same, list_few (family_in (family_content Ipv6)) es, length-map c.args.vrps.now entry_of, c.requires)
