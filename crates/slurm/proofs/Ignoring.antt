-- The entries of a file that are not applied are as many as the ASes of its scope.
use Rattle.std.proofs.Common.{◌≡◌, ◌∙◌, ℕ, suc, List, [], ◌∷◌, length, Some, codes, refl, sym, ap, subst}
use Rattle.std.specs.Prelude.{option_and_then, option_map, unwrap_or}
use Rattle.serde_json.specs.Data.{Data, array, object, no_items, item, no_members, member}
use Rattle.serde_json.specs.Find.{as_array, get}
use Rattle.serde_json.specs.Read as json
use Rattle.payload_lists.proofs.Entries.{one_some}
use Rattle.slurm.specs.Entries.{listed}
use Rattle.slurm.specs.Ignored.{IsIgnored, ScopesCount, elements_at, ignored_of}
use Rattle.slurm.specs.Relations.{Each, IsKeyAssertion, IsKeyFilter, Lists}

as_many : {A : Type 0} (Says : Data → A → Type 0) (ds : List Data) (xs : List A) → Each Says ds xs → length xs ≡ length ds
as_many Says [] [] h = refl
as_many Says (d ∷ ds) (x ∷ xs) h = ap suc (as_many Says ds xs h.1)
as_many Says [] (x ∷ xs) h = absurd h
as_many Says (d ∷ ds) [] h = absurd h

counted : {A : Type 0} (Says : Data → A → Type 0) (o a : List ℕ) (d part : Data) (xs : List A) → get o d ≡ Some part → Lists a (λ ds. Each Says ds xs) part → length xs ≡ elements_at o a d
counted Says o a d part xs there lists =
    as_many Says (listed lists.0) xs lists.2
    ∙ sym (ap (λ p. unwrap_or (option_map (λ ds. length (listed ds)) (option_and_then as_array (option_and_then (get a) p))) 0) there ∙ ap (λ p. unwrap_or (option_map (λ ds. length (listed ds)) p) 0) lists.1)

pub scopes_count : ScopesCount
scopes_count bytes s file d is =
    let f = file.0.is_file in
    let same : file.0.value ≡ d = one_some file.0.value d (json.read bytes) file.0.is_json.1 is.1 in
    subst (λ v. IsIgnored v (ignored_of s)) same
    (record {
      bgpsec_filters = sym (ap length file.1) ∙ counted IsKeyFilter (codes "validationOutputFilters") (codes "bgpsecFilters") file.0.value f.filters f.are_filters.ases f.filters_stand f.are_filters.of_keys;
      bgpsec_assertions = sym (ap length file.2) ∙ counted IsKeyAssertion (codes "locallyAddedAssertions") (codes "bgpsecAssertions") file.0.value f.assertions f.are_assertions.ases f.assertions_stand f.are_assertions.of_keys;
    })

-- ---- worked out

abbrev two_keys : Data
two_keys = array (item (object no_members) (item (object no_members) no_items))

-- two filters, and an object in place of the assertions
two_filters : IsIgnored (object (member (codes "validationOutputFilters") (object (member (codes "bgpsecFilters") two_keys no_members)) (member (codes "locallyAddedAssertions") (object no_members) no_members))) (record { bgpsec_filters = 2; bgpsec_assertions = 0 })
two_filters = record { bgpsec_filters = refl; bgpsec_assertions = refl }

two_assertions : IsIgnored (object (member (codes "locallyAddedAssertions") (object (member (codes "bgpsecAssertions") two_keys no_members)) no_members)) (record { bgpsec_filters = 0; bgpsec_assertions = 2 })
two_assertions = record { bgpsec_filters = refl; bgpsec_assertions = refl }
