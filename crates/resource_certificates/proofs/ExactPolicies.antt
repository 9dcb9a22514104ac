-- Reading of values inside extensions is exact.
use Rattle.std.proofs.Common.{◌≡◌, ℕ, Bool, true, not, List, [], ◌∷◌, Option, Result, Ok, Err, refl, sym, ap, ◌↔◌}
use Rattle.std.specs.Result.{is_ok}
use Rattle.der_lite.specs.Place.{Fault, place_of}
use Rattle.der_lite.specs.Der.{IsBytes, is_ia5}
use Rattle.der_lite.specs.DerReading.{content_at, ia5_at}
use Rattle.der_lite.specs.Grammar.{Members, constructed, last, member, optional}
use Rattle.der_lite.specs.Decoding.{Read, ReadAll, read_constructed, read_member}
use Rattle.der_lite.specs.Fields.{last_at, optional_at}
use Rattle.der_lite.proofs.Exact.{ExactElement, ExactMembers, exact_constructed, exact_member}
use Rattle.der_lite.proofs.ContentReads.{exact_plain}
use Rattle.der_lite.proofs.FieldLaws.{exact_last_at, exact_optional_at}
use Rattle.der_forms.specs.Combinators.{no_rules, told, fixed}
use Rattle.der_forms.specs.CombinatorReading.{told_at, fixed_field}
use Rattle.der_forms.proofs.ExactCombinators.{exact_opened, exact_fixed, exact_told}
use Rattle.resource_certificates.specs.Keys.{second_part}
use Rattle.resource_certificates.specs.Certificates.{short_rules}
use Rattle.resource_certificates.specs.Crls.{crl_number, crl_number_all}
use Rattle.resource_certificates.specs.Policies as p
use Rattle.resource_certificates.specs.Places.{distribution_points, distribution_points_at, points_all, access_list, access_list_at, accesses_all}
use Rattle.resource_certificates.proofs.ExactPlaces.{exact_distribution_points, exact_access_list}
use Rattle.resource_certificates.specs.Laws.{SpelledValues}

abbrev ia5_rules : List ℕ → List (ℕ × Bool)
ia5_rules content = (4, not (is_ia5 content)) ∷ []

-- an OBJECT IDENTIFIER of this content
abbrev id_at : List ℕ → Read (Unit {0})
id_at id q = fixed_field (content_at 6 no_rules q) q.at 27 id

exact_qualifier : ExactElement p.qualifier p.qualifier_at
unfolding p.qualifier p.qualifier_at
exact_qualifier =
    let members = member (fixed 27 6 p.id_cps) (λ _. last p.cps_uri) in
    let read = read_member (id_at p.id_cps) (λ _. last_at ia5_at) in
    exact_opened 48 (constructed no_rules (told {A = Unit {0} × List ℕ} second_part members) no_rules) (read_constructed no_rules (told_at second_part read) no_rules)
    (exact_constructed no_rules (told {A = Unit {0} × List ℕ} second_part members) (told_at second_part read) no_rules
    (exact_told {A = Unit {0} × List ℕ} second_part members read
    (exact_member (fixed 27 6 p.id_cps) (id_at p.id_cps) (exact_fixed 27 6 p.id_cps) (λ _. last p.cps_uri) (λ _. last_at ia5_at) (λ _. exact_last_at p.cps_uri ia5_at (exact_plain 22 ia5_rules)))))

exact_qualifiers : ExactElement p.qualifiers p.qualifiers_at
unfolding p.qualifiers p.qualifiers_at
exact_qualifiers =
    exact_opened 48 (constructed no_rules (last p.qualifier) no_rules) (read_constructed no_rules (last_at p.qualifier_at) no_rules)
    (exact_constructed no_rules (last p.qualifier) (last_at p.qualifier_at) no_rules (exact_last_at p.qualifier p.qualifier_at exact_qualifier))

exact_policy : (arc : ℕ) → ExactElement (p.policy arc) (p.policy_at arc)
unfolding p.policy p.policy_at
exact_policy arc =
    let members = member (fixed 27 6 (p.id_cp arc)) (λ _. optional p.qualifiers) in
    let read = read_member (id_at (p.id_cp arc)) (λ _. optional_at p.qualifiers_at) in
    exact_opened 48 (constructed no_rules (told {A = Unit {0} × Option (List ℕ)} second_part members) no_rules) (read_constructed no_rules (told_at second_part read) no_rules)
    (exact_constructed no_rules (told {A = Unit {0} × Option (List ℕ)} second_part members) (told_at second_part read) no_rules
    (exact_told {A = Unit {0} × Option (List ℕ)} second_part members read
    (exact_member (fixed 27 6 (p.id_cp arc)) (id_at (p.id_cp arc)) (exact_fixed 27 6 (p.id_cp arc)) (λ _. optional p.qualifiers) (λ _. optional_at p.qualifiers_at)
    (λ _. exact_optional_at p.qualifiers p.qualifiers_at exact_qualifiers))))

exact_policies : (arc : ℕ) → ExactElement (p.policies arc) (p.policies_at arc)
unfolding p.policies p.policies_at
exact_policies arc =
    exact_opened 48 (constructed no_rules (last (p.policy arc)) no_rules) (read_constructed no_rules (last_at (p.policy_at arc)) no_rules)
    (exact_constructed no_rules (last (p.policy arc)) (last_at (p.policy_at arc)) no_rules (exact_last_at (p.policy arc) (p.policy_at arc) (exact_policy arc)))

exact_crl_number : ExactElement crl_number (content_at 2 (short_rules 33))
unfolding crl_number
exact_crl_number = exact_plain 2 (short_rules 33)

-- ---- what is read without a fault is spelled

module _ {V : Type 0} (m : Members V) (read : ReadAll V) (x : ExactMembers m read) (value : List ℕ) (bytes : IsBytes value) where
  spelled_so : (y : Result V Fault) → y ≡ read (place_of 0 value) → is_ok y ≡ true → (v : V) × m.Spells v value
  spelled_so (Ok v) e h = (v, x.takes (place_of 0 value) v bytes (sym e))
  spelled_so (Err f) e h = absurd cc

  pub read_spelled : is_ok (read (place_of 0 value)) ≡ true ↔ ((v : V) × m.Spells v value)
  read_spelled = (spelled_so (read (place_of 0 value)) refl, λ s. ap is_ok (x.again (place_of 0 value) s.0 s.1))

module _ {V : Type 0} (m : Members V) (read : ReadAll V) (x : ExactMembers m read) (value : List ℕ) (v : V) (bytes : IsBytes value) where
  pub read_so : read (place_of 0 value) ≡ Ok v ↔ m.Spells v value
  read_so = ((λ e. x.takes (place_of 0 value) v bytes e), λ s. x.again (place_of 0 value) v s)

pub spelled_law : SpelledValues
unfolding p.policies_all crl_number_all points_all accesses_all
spelled_law = (
  (λ value arc bytes. read_spelled (p.policies_value arc) (last_at (p.policies_at arc)) (exact_last_at (p.policies arc) (p.policies_at arc) (exact_policies arc)) value bytes),
  (λ value bytes. read_spelled (last crl_number) (last_at (content_at 2 (short_rules 33))) (exact_last_at crl_number (content_at 2 (short_rules 33)) exact_crl_number) value bytes),
  (λ value uri bytes. read_so (last distribution_points) (last_at distribution_points_at) (exact_last_at distribution_points distribution_points_at exact_distribution_points) value uri bytes),
  (λ value accesses bytes. read_so (last access_list) (last_at access_list_at) (exact_last_at access_list access_list_at exact_access_list) value accesses bytes),
)
