-- Files as one, and what they make of a set.
use Rattle.std.specs.Prelude.{◌≡◌, ◌⊎◌, zero, suc, ◌<◌, ◌≤◌, not, ◌&&◌, ◌||◌, List, [], ◌∷◌, Result, Ok, Err, IfOk, IfErr, refl}
use Rattle.std.proofs.Common.{arith, ap, sym, ◌∙◌, inl, inr, subst}
use Rattle.std.specs.List.{list_any}
use Rattle.std.proofs.lemmas.List.Folds.{list_any-append}
use Rattle.std.proofs.lemmas.List.Sorted.{list_any-IsPermutation}
use Rattle.prefixes.specs.Payload.{Payload}
use Rattle.vrps.specs.VrpSet.{has, listing, set_of, size}
use Rattle.vrps.proofs.SetLaws.{has-empty, has-listing, has-set_of, has-union, same_set, same_vrp}
use Rattle.slurm.specs.Chains.{seen}
use Rattle.slurm.specs.Exceptions.{exceptions_of, is_filtered, matches}
use Rattle.slurm.specs.Scoped.{Scoped}
use Rattle.slurm.specs.Uniting.{AnyOrder, AreApart, AsnsApart, IsOverlapOf, OneIsApart, PrefixesApart, UnitedApplied, Unites, assertions_in, filters_in, is_asserted_by_any, is_filtered_by_any, records_in, united}
use Rattle.slurm.specs.declared.filter.Slurm.{Slurm}
use Rattle.slurm.specs.declared.unite_fault.Overlap.TheVariants.{Prefixes, Bgpsec}
use Rattle.slurm.specs.declared.unite_fault.UniteFault.{UniteFault}
use Rattle.slurm.specs.declared.unite_fault.UniteFault.TheVariants as fault
use Rattle.slurm.proofs.ExceptionLaws.{is_excepted}

-- ---- assertions

has-assertions : (ss : List Scoped) (v : Payload) → has (assertions_in ss) v ≡ is_asserted_by_any ss v
has-assertions [] v = has-empty v
has-assertions (s ∷ ss) v = has-union s.exceptions.assertions (assertions_in ss) v ∙ ap (λ b. has s.exceptions.assertions v || b) (has-assertions ss v)

any_record : (ss : List Scoped) (v : Payload) → list_any (same_vrp v) (records_in ss) ≡ is_asserted_by_any ss v
any_record [] v = refl
any_record (s ∷ ss) v =
    list_any-append (same_vrp v) (listing s.exceptions.assertions) (records_in ss) ∙ (λ i. sym (has-listing s.exceptions.assertions v) i || any_record ss v i)

pub set_of_records : (ss : List Scoped) → set_of (records_in ss) ≡ assertions_in ss
set_of_records ss = same_set _ _ (λ v. has-set_of (records_in ss) v ∙ any_record ss v ∙ sym (has-assertions ss v))

-- ---- filters

any_filter : (ss : List Scoped) (v : Payload) → is_filtered (filters_in ss) v ≡ is_filtered_by_any ss v
any_filter [] v = refl
any_filter (s ∷ ss) v = list_any-append (λ f. matches f v) s.exceptions.filters (filters_in ss) ∙ ap (λ b. is_filtered s.exceptions.filters v || b) (any_filter ss v)

-- ---- laws

pub united_applied : UnitedApplied
united_applied ss s v = is_excepted (united ss) s v ∙ (λ i. (has s v && not (any_filter ss v i)) || has-assertions ss v i)

pub any_order : AnyOrder
any_order ss ts same s =
    same_set _ _ (λ v.
    united_applied ss s v
    ∙ (λ i. (has s v && not (list_any-IsPermutation (λ t. is_filtered t.exceptions.filters v) ss ts same i)) || list_any-IsPermutation (λ t. has t.exceptions.assertions v) ss ts same i)
    ∙ sym (united_applied ts s v))

pub one_is_apart : OneIsApart
one_is_apart s i zero o h = absurd (omega (arith, h.in_order))
one_is_apart s i (suc j) o h = absurd (let e = h.second_is in cc)

-- ---- the contract

pub overlap_unites : (ss : List Scoped) (f : UniteFault) → IsOverlapOf ss f → Unites ss (Err f)
overlap_unites ss (fault.Overlap i j o) h = h
overlap_unites ss fault.TooMany h = absurd h
overlap_unites ss fault.Memory h = tt

are_apart : (ss : List Scoped) → PrefixesApart ss → AsnsApart ss → AreApart ss
are_apart ss one other i j (Prefixes p q) h = one i j p q h
are_apart ss one other i j (Bgpsec a) h = other i j a h

abbrev pub TooMuch : List Scoped → UniteFault → Type 0
TooMuch ss f = ((f ≡ fault.TooMany) × (16777215 < size (assertions_in ss))) ⊎ (f ≡ fault.Memory)

pub unites : (ss : List Scoped) (r : Result Slurm UniteFault) → PrefixesApart ss → AsnsApart ss → IfOk r (λ s. (size s.assertions ≤ 16777215) × (exceptions_of s ≡ united ss)) → IfErr r (TooMuch ss) → Unites ss (seen exceptions_of r)
unites ss (Ok s) one other h k = (are_apart ss one other, h.0, h.1)
unites ss (Err f) one other h (inl k) = subst (λ g. Unites ss (Err g)) (sym k.0) (are_apart ss one other, k.1)
unites ss (Err f) one other h (inr k) = subst (λ g. Unites ss (Err g)) (sym k) tt
