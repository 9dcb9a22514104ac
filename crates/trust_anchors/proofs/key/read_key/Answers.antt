use Rattle.std.proofs.Common.{◌≡◌, List, ℕ, sym, subst}
use Rattle.trust_anchors.specs.Keys.{IsKeyInfo}
use Rattle.trust_anchors.proofs.key.read_key.Goals as goal

pub returns-in-Some : goal.returns-in-Some
returns-in-Some c =
    let copied : c.in_ok-from_slice-in-Some.field-0.items ≡ c.in-Some.modulus.now = c.in_ok-from_slice-in-Some.ensures.items in
    let key : IsKeyInfo c.in-Some.modulus.now c.as_slice.result.now = c.in-Some.ensures in
    record {
      octets = c.in_ok-octets.octets.items;
      bytes = c.in_ok-octets.ensures.1;
      encoded = c.in_ok-octets.ensures.0;
      key = subst (λ (m : List ℕ). IsKeyInfo m c.in_ok-octets.octets.items) (sym copied)
          (subst (λ (o : List ℕ). IsKeyInfo c.in-Some.modulus.now o) c.as_slice.ensures.value key);
    }
