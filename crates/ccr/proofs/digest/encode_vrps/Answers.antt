use Rattle.std.proofs.Common.{◌∙◌, ℕ, ◌++◌, List, ap}
use Rattle.der_lite.specs.Der.{tlv}
use Rattle.vrps.specs.VrpSet.{listing}
use Rattle.ccr.specs.Canonical.{canonical, payload_sets}
use Rattle.ccr.proofs.Sorting.{same_sets}
use Rattle.ccr.proofs.digest.encode_vrps.Goals as goal

pub returns : goal.returns
unfolding canonical
returns c =
    c.into_bytes.ensures ∙ c.in_ok-sequence.ensures ∙ ap (λ (l : List ℕ). l ++ tlv 48 c.as_slice-2.result.now) c.new-sequence.ensures
    ∙ ap (λ (l : List ℕ). tlv 48 l) (c.as_slice-2.ensures ∙ c.in_ok-sets.ensures.value ∙ ap payload_sets c.as_slice.ensures.value ∙ same_sets c.in_ok-list.list.items (listing c.args.set.now) c.in_ok-list.ensures.same)
