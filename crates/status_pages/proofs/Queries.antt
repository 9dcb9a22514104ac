-- The result for the pairs of a query.
use Rattle.std.proofs.Common.{◌≡◌, inl, inr, ℕ, List, [], ◌∷◌, map, Result, Ok, Err, sym, subst, ap, ◌∙◌, refl}
use Rattle.prefixes.specs.declared.route.Route.{Route}
use Rattle.std.specs.List.{before_first, after_first}
use Rattle.status_pages.specs.Query.{FindsIn, FindsInPath, FindsRoute, HasValues, is_slash, text_of}
use Rattle.status_pages.specs.declared.query_fault.QueryFault.{QueryFault}
use Rattle.status_pages.specs.declared.query_fault.QueryFault.TheVariants as fault

-- the result for the two values is the result for the pairs
pub found_in : (pairs : List (List ℕ × List ℕ)) (asn prefix : List ℕ) (r : Result Route QueryFault) → HasValues pairs asn prefix → FindsRoute asn prefix r → FindsIn pairs r
found_in pairs asn prefix (Ok r) has h = record { asn = asn; prefix = prefix; values = has; route = h }
found_in pairs asn prefix (Err fault.Keys) has h = absurd h
found_in pairs asn prefix (Err fault.Asn) has h = record { asn = asn; prefix = prefix; values = has; route = h }
found_in pairs asn prefix (Err (fault.Prefix why)) has h = record { asn = asn; prefix = prefix; values = has; route = h }
found_in pairs asn prefix (Err fault.Path) has h = absurd h
found_in pairs asn prefix (Err fault.Memory) has h = absurd h

-- the result for the two parts of a path is the result for the path
pub found_parts : (path : List ℕ) (r : Result Route QueryFault) → FindsRoute (text_of (before_first is_slash path)) (text_of (after_first is_slash path)) r → FindsInPath path r
found_parts path (Ok r) h = h
found_parts path (Err fault.Keys) h = absurd h
found_parts path (Err fault.Asn) h = h
found_parts path (Err (fault.Prefix why)) h = h
found_parts path (Err fault.Path) h = absurd h
found_parts path (Err fault.Memory) h = absurd h

pub found_in_path : (path asn prefix : List ℕ) (r : Result Route QueryFault) → asn ≡ text_of (before_first is_slash path) → prefix ≡ text_of (after_first is_slash path)
    → FindsRoute asn prefix r → FindsInPath path r
found_in_path path asn prefix r ea ep h =
    found_parts path r (subst (λ p. FindsRoute (text_of (before_first is_slash path)) p r) ep (subst (λ a. FindsRoute a prefix r) ea h))

abbrev pub told : List ℕ × List ℕ → List ℕ × List ℕ
told (name, value) = (text_of name, text_of value)

-- other than two pairs have no two values
pub not_two : (raw : List (List ℕ × List ℕ)) → ((a b : List ℕ × List ℕ) → ¬ (raw ≡ a ∷ b ∷ [])) → (asn prefix : List ℕ) → ¬ (HasValues (map told raw) asn prefix)
not_two [] h asn prefix (inl e) = cc
not_two [] h asn prefix (inr e) = cc
not_two (x ∷ []) h asn prefix (inl e) = cc
not_two (x ∷ []) h asn prefix (inr e) = cc
not_two (x ∷ y ∷ []) h asn prefix e = h x y refl
not_two (x ∷ y ∷ z ∷ more) h asn prefix (inl e) = cc
not_two (x ∷ y ∷ z ∷ more) h asn prefix (inr e) = cc

-- the decoded pairs of a query with these two raw pairs
pub two_told : (raw : List (List ℕ × List ℕ)) (a b : List ℕ × List ℕ) (n v m w : List ℕ) → raw ≡ a ∷ b ∷ [] → n ≡ text_of a.0 → v ≡ text_of a.1 → m ≡ text_of b.0 → w ≡ text_of b.1
    → (r : Result Route QueryFault) → FindsIn ((n, v) ∷ (m, w) ∷ []) r → FindsIn (map told raw) r
two_told raw a b n v m w is en ev em ew r h =
    subst (λ pairs. FindsIn pairs r) ((λ i. (en i, ev i) ∷ (em i, ew i) ∷ []) ∙ sym (ap (map told) is)) h
