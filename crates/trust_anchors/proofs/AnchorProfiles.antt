-- What is read as the certificate of a trust anchor.
use Rattle.std.proofs.Common.{◌≡◌, ◌≢◌, ◌⊎◌, inl, inr, ℕ, Bool, true, false, List, [], ◌∷◌, Option, Some, None, refl, ap}
use Rattle.std.specs.Prelude.{not, ◌&&◌, is_none}
use Rattle.std.proofs.lemmas.Slice.Eq.{bytes_eq-Decides}
use Rattle.der_lite.specs.Grammar.{KeepsRules}
use Rattle.resource_certificates.specs.declared.role.Role.TheVariants.{Anchor}
use Rattle.resource_certificates.specs.Certificates.{Tbs}
use Rattle.resource_certificates.specs.Profile.{subject_value, authority_value, ca_constraints, usage_of, is_value, profile_rules, is_authority_key, is_info, are_policies}
use Rattle.trust_anchors.specs.Anchors.{HasAnchorProfile, ProfileOfAnchors}

-- what the first six of several rules test, if all are kept
six_kept : (a b c d e f : Bool) (later : List (ℕ × Bool)) → KeepsRules ((20, not a) ∷ (21, not b) ∷ (22, not c) ∷ (23, not d) ∷ (24, not e) ∷ (25, not f) ∷ later)
    → (a ≡ true) × (c ≡ true) × (d ≡ true) × (e ≡ true) × (f ≡ true) × KeepsRules later
six_kept false b c d e f later h = absurd cc
six_kept true false c d e f later h = absurd cc
six_kept true true false d e f later h = absurd cc
six_kept true true true false e f later h = absurd cc
six_kept true true true true false f later h = absurd cc
six_kept true true true true true false later h = absurd cc
six_kept true true true true true true later h = (refl, refl, refl, refl, refl, h)

-- the last of four
four_kept : (a b c d : Bool) → KeepsRules ((26, not a) ∷ (28, b) ∷ (27, not c) ∷ (29, d) ∷ []) → d ≡ false
four_kept false b c d h = absurd cc
four_kept true true c d h = absurd cc
four_kept true false false d h = absurd cc
four_kept true false true true h = absurd cc
four_kept true false true false h = refl

one_there : (ip as_ids : Option (List ℕ)) → is_none ip && is_none as_ids ≡ false → (ip ≢ None) ⊎ (as_ids ≢ None)
one_there (Some v) as_ids h = inl (λ e. absurd cc)
one_there None (Some v) h = inr (λ e. absurd cc)
one_there None None h = absurd cc

both : (a b : Bool) → a ≡ true → b ≡ true → a && b ≡ true
both true b h g = g
both false b h g = absurd cc

missing : (found : Option (List ℕ)) → is_none found ≡ true → found ≡ None
missing None h = refl
missing (Some value) h = absurd cc

own_or_none : (bits : List ℕ) (found : Option (List ℕ)) → is_authority_key Anchor bits found ≡ true → (found ≡ None) ⊎ (found ≡ Some (authority_value bits))
own_or_none bits None h = inl refl
own_or_none bits (Some value) h = inr (ap (λ (l : List ℕ). Some l) ((bytes_eq-Decides value (authority_value bits)).0 h))

-- the rules behind those six
abbrev further : Tbs → List (ℕ × Bool)
further t =
    (26, not (is_info Anchor t.found.subject_info))
    ∷ (28, are_policies 3 t.found.policies)
    ∷ (27, not (are_policies 2 t.found.policies))
    ∷ (29, is_none t.found.ip_blocks && is_none t.found.as_ids)
    ∷ []

profiled : (t : Tbs) → KeepsRules (profile_rules Anchor t) → HasAnchorProfile t
profiled t h =
    let f = t.found in
    let constrained = is_value f.basic_constraints ca_constraints in
    let named = is_value f.subject_key (subject_value t.key.bits) in
    let own = is_authority_key Anchor t.key.bits f.authority_key in
    let used = is_value f.key_usage (usage_of Anchor) in
    let s = six_kept constrained named own used (is_none f.distribution_points) (is_none f.authority_info) (further t) h in
    let last = four_kept (is_info Anchor f.subject_info) (are_policies 3 f.policies) (are_policies 2 f.policies) (is_none f.ip_blocks && is_none f.as_ids) s.5 in
    record {
      issues = both constrained used s.0 s.2;
      own_key = own_or_none t.key.bits f.authority_key s.1;
      no_crl = missing f.distribution_points s.3;
      no_issuer = missing f.authority_info s.4;
      resources = one_there f.ip_blocks f.as_ids last;
    }

pub profile_law : ProfileOfAnchors
profile_law bytes c is = profiled c.tbs is.profile
