-- Exceptions are read of bytes exactly where these are a file of them.
use Rattle.std.proofs.Common.{◌≡◌, ℕ, ◌+◌, ◌≤◌, ◌==◌, Bool, true, false, nat_lt, if◌then◌else◌, List, [], ◌∷◌, Option, Some, None, option_and_then, Result, Ok, Err, IsOk, IfOk, codes, inl, inr, refl, sym, ap, ◌∙◌, subst, arith}
use Rattle.std.specs.Prelude.{⊤}
use Rattle.std.proofs.lemmas.Bool.Decides.{nat_tests}
use Rattle.serde_json.specs.Data.{Data, object, Items, Members}
use Rattle.serde_json.specs.Find.{get, as_array}
use Rattle.prefixes.specs.Payload.{Payload}
use Rattle.prefixes.specs.declared.asn.Asn.{Asn}
use Rattle.payload_lists.specs.PayloadList.{member_count, whole_at}
use Rattle.vrps.specs.VrpSet.{VrpSet, set_of, size}
use Rattle.slurm.specs.Chains.{UnlessMemory, ◌>>=◌, given, seen, unless}
use Rattle.slurm.specs.Entries.{AreRead, ReadsAssertion, ReadsFilter, ReadsKeyAssertion, ReadsKeyFilter, listed}
use Rattle.slurm.specs.Exceptions.{Exceptions}
use Rattle.slurm.specs.Members.{one_for}
use Rattle.slurm.specs.Relations.{HasExactly, IsAssertion, IsFilter, IsKeyAssertion, IsKeyFilter, IsSlurmFile, ReadsExactly}
use Rattle.slurm.specs.Scoped.{IsScopedFile, IsScopedValue, ReadsScoped, ReadsScopedArrays, ReadsScopedExactly, ReadsScopedOnce, ReadsScopedValue, Scoped, scoped_by, scoped_of}
use Rattle.slurm.specs.SlurmFile.{Arrays, NamesOnce, ReadsSlurm, array_at, arrays_of, is_file, is_pair, is_version_1, limited, pair_of}
use Rattle.slurm.specs.declared.fault.SlurmArray.TheVariants as array
use Rattle.slurm.specs.declared.fault.SlurmFault.{SlurmFault}
use Rattle.slurm.specs.declared.fault.SlurmFault.TheVariants as fault
use Rattle.slurm.specs.declared.fault.SlurmObject.{SlurmObject}
use Rattle.slurm.specs.declared.fault.SlurmObject.TheVariants as objects
use Rattle.slurm.specs.declared.filter.PrefixFilter.{PrefixFilter}
use Rattle.slurm.specs.declared.scoped.ScopedSlurm.{ScopedSlurm}
use Rattle.slurm.proofs.Ascending.{Ascends, array_ascends, get_ascends, read_ascends}
use Rattle.slurm.proofs.Chained.{after_ok, both_true, given_ok, is_number, number_is, ok_after, ok_is, ok_unless, true_both, unless_ok}
use Rattle.slurm.proofs.Counted.{Apart, count_by_exactly, exactly_by_count}
use Rattle.slurm.proofs.EntryRelations.{assertion_says, each_read, each_says, filter_says, key_assertion_says, key_filter_says, says_assertion, says_filter, says_key_assertion, says_key_filter}
use Rattle.slurm.proofs.Readings.{says_one, says_one_scoped}
use Rattle.slurm.proofs.Scopes.{drop_scope, lift_scope, unscoped}

-- ---- objects of exactly some members

abbrev one : List ℕ → Members → ℕ
one name ms = one_for name (object ms)

sum2 : (a b : ℕ) → a + b ≡ a + (b + 0)
sum2 a b = omega arith

sum3 : (a b c : ℕ) → a + b + c ≡ a + (b + (c + 0))
sum3 a b c = omega arith

module _ (k l : List ℕ) (apart : Apart (k ∷ l ∷ [])) where
  pair_says : (d : Data) → Ascends d → is_pair k l d ≡ true → HasExactly (k ∷ l ∷ []) d
  pair_says (object ms) up h =
      let both = both_true (member_count ms == 2) (one k ms + one l ms == 2) h in
      exactly_by_count (k ∷ l ∷ []) ms apart up (is_number (member_count ms) 2 both.0) (sym (sum2 (one k ms) (one l ms)) ∙ is_number (one k ms + one l ms) 2 both.1)
  pair_says d up h = let no : false ≡ true = h in absurd (cc)

  says_pair : (d : Data) → Ascends d → HasExactly (k ∷ l ∷ []) d → is_pair k l d ≡ true
  says_pair (object ms) up h =
      let both = count_by_exactly (k ∷ l ∷ []) ms apart up h in
      true_both (member_count ms == 2) (one k ms + one l ms == 2) (number_is (member_count ms) 2 both.0) (number_is (one k ms + one l ms) 2 (sum2 (one k ms) (one l ms) ∙ both.1))
  says_pair d up h = let no : false ≡ true = h.no_others.is_object in absurd (cc)

abbrev names : List (List ℕ)
names = codes "slurmVersion" ∷ codes "validationOutputFilters" ∷ codes "locallyAddedAssertions" ∷ []

abbrev names_apart : Apart names
names_apart = ((refl, (refl, tt)), ((refl, tt), (tt, tt)))

abbrev of_file : Members → ℕ
of_file ms = one (codes "slurmVersion") ms + one (codes "validationOutputFilters") ms + one (codes "locallyAddedAssertions") ms

abbrev sum_file : (ms : Members) → of_file ms ≡ one (codes "slurmVersion") ms + (one (codes "validationOutputFilters") ms + (one (codes "locallyAddedAssertions") ms + 0))
sum_file ms = sum3 (one (codes "slurmVersion") ms) (one (codes "validationOutputFilters") ms) (one (codes "locallyAddedAssertions") ms)

members_say : (d : Data) → Ascends d → is_file d ≡ true → HasExactly names d
members_say (object ms) up h =
    let both = both_true (member_count ms == 3) (of_file ms == 3) h in
    exactly_by_count names ms names_apart up (is_number (member_count ms) 3 both.0) (sym (sum_file ms) ∙ is_number (of_file ms) 3 both.1)
members_say d up h = let no : false ≡ true = h in absurd (cc)

say_members : (d : Data) → Ascends d → HasExactly names d → is_file d ≡ true
say_members (object ms) up h =
    let both = count_by_exactly names ms names_apart up h in
    true_both (member_count ms == 3) (of_file ms == 3) (number_is (member_count ms) 3 both.0) (number_is (of_file ms) 3 (sum_file ms ∙ both.1))
say_members d up h = let no : false ≡ true = h.no_others.is_object in absurd (cc)

version_says : (o : Option ℕ) → is_version_1 o ≡ true → o ≡ Some 1
version_says None h = let no : false ≡ true = h in absurd (cc)
version_says (Some n) h = ap Some (is_number n 1 h)

-- ---- the two objects

pair_if : (o : SlurmObject) (k l : List ℕ) (b : Bool) (e d : Data) → is_pair k l e ≡ b → (if b then Ok e else Err (fault.Members o)) ≡ Ok d → (e ≡ d) × (is_pair k l d ≡ true)
pair_if o k l true e d is h = let same : e ≡ d = ok_is {E = SlurmFault} e d h in (same, subst (λ x. is_pair k l x ≡ true) same is)
pair_if o k l false e d is h = absurd (cc)

abbrev pair_by : Bool → SlurmObject → Data → Result Data SlurmFault
pair_by b o d = if b then Ok d else Err (fault.Members o)

pair_found : (o : SlurmObject) (k l : List ℕ) (found : Option Data) (d : Data) → pair_of o k l found ≡ Ok d → (found ≡ Some d) × (is_pair k l d ≡ true)
pair_found o k l None d h = absurd (cc)
pair_found o k l (Some e) d h = let both = pair_if o k l (is_pair k l e) e d refl h in (ap Some both.0, both.1)

found_pair : (o : SlurmObject) (k l : List ℕ) (found : Option Data) (d : Data) → found ≡ Some d → is_pair k l d ≡ true → pair_of o k l found ≡ Ok d
found_pair o k l found d is h = ap (pair_of o k l) is ∙ ap (λ b. pair_by b o d) h

-- ---- the chain of a file

abbrev four : Items → Items → Items → Items → Arrays
four a b c d = record { prefix_filters = a; bgpsec_filters = b; prefix_assertions = c; bgpsec_assertions = d }

abbrev last_steps : Result Items SlurmFault → Result Items SlurmFault → Result Items SlurmFault → Result Items SlurmFault → Result Arrays SlurmFault
last_steps a b c d = a >>= λ one. b >>= λ two. c >>= λ three. d >>= λ fourth. Ok (four one two three fourth)

last_say : (a b c d : Result Items SlurmFault) (x : Arrays) → last_steps a b c d ≡ Ok x → (a ≡ Ok x.prefix_filters) × (b ≡ Ok x.bgpsec_filters) × (c ≡ Ok x.prefix_assertions) × (d ≡ Ok x.bgpsec_assertions)
last_say (Ok a) (Ok b) (Ok c) (Ok d) x h =
    let same : four a b c d ≡ x = ok_is {E = SlurmFault} (four a b c d) x h in
    (ap (λ y. Ok y.prefix_filters) same, ap (λ y. Ok y.bgpsec_filters) same, ap (λ y. Ok y.prefix_assertions) same, ap (λ y. Ok y.bgpsec_assertions) same)
last_say (Ok a) (Ok b) (Ok c) (Err e) x h = absurd (cc)
last_say (Ok a) (Ok b) (Err e) d x h = absurd (cc)
last_say (Ok a) (Err e) c d x h = absurd (cc)
last_say (Err e) b c d x h = absurd (cc)

say_last : (a b c d : Result Items SlurmFault) (x : Arrays) → a ≡ Ok x.prefix_filters → b ≡ Ok x.bgpsec_filters → c ≡ Ok x.prefix_assertions → d ≡ Ok x.bgpsec_assertions → last_steps a b c d ≡ Ok x
say_last a b c d x is_a is_b is_c is_d =
    ap (λ m. last_steps m b c d) is_a ∙ ap (λ m. last_steps (Ok x.prefix_filters) m c d) is_b ∙ ap (λ m. last_steps (Ok x.prefix_filters) (Ok x.bgpsec_filters) m d) is_c
    ∙ ap (λ m. last_steps (Ok x.prefix_filters) (Ok x.bgpsec_filters) (Ok x.prefix_assertions) m) is_d

abbrev steps : Result ⊤ SlurmFault → Result ⊤ SlurmFault → Result Data SlurmFault → Result Data SlurmFault → (Data → Data → Result Arrays SlurmFault) → Result Arrays SlurmFault
steps m n p q g = m >>= λ _. n >>= λ _. p >>= λ fs. q >>= λ ss. g fs ss

record StepsSay (m n : Result ⊤ SlurmFault) (p q : Result Data SlurmFault) (g : Data → Data → Result Arrays SlurmFault) (x : Arrays) : Type 0 where
  first : IsOk m
  second : IsOk n
  filters : Data
  filters_are : p ≡ Ok filters
  assertions : Data
  assertions_are : q ≡ Ok assertions
  rest : g filters assertions ≡ Ok x

steps_say : (m n : Result ⊤ SlurmFault) (p q : Result Data SlurmFault) (g : Data → Data → Result Arrays SlurmFault) (x : Arrays) → steps m n p q g ≡ Ok x → StepsSay m n p q g x
steps_say (Ok t) (Ok u) (Ok fs) (Ok ss) g x h = record { first = refl; second = refl; filters = fs; filters_are = refl; assertions = ss; assertions_are = refl; rest = h }
steps_say (Ok t) (Ok u) (Ok fs) (Err e) g x h = absurd (cc)
steps_say (Ok t) (Ok u) (Err e) q g x h = absurd (cc)
steps_say (Ok t) (Err e) p q g x h = absurd (cc)
steps_say (Err e) n p q g x h = absurd (cc)

say_steps : (m n : Result ⊤ SlurmFault) (p q : Result Data SlurmFault) (g : Data → Data → Result Arrays SlurmFault) (x : Arrays) → StepsSay m n p q g x → steps m n p q g ≡ Ok x
say_steps (Ok t) (Ok u) p q g x s =
    ap (λ r. steps (Ok t) (Ok u) r q g) s.filters_are ∙ ap (λ r. steps (Ok t) (Ok u) (Ok s.filters) r g) s.assertions_are ∙ s.rest
say_steps (Ok t) (Err e) p q g x s = let no : false ≡ true = s.second in absurd (cc)
say_steps (Err e) n p q g x s = let no : false ≡ true = s.first in absurd (cc)

abbrev the_file : Data → Result ⊤ SlurmFault
the_file d = unless (fault.Members objects.File) (is_file d)

abbrev the_version : Data → Result ⊤ SlurmFault
the_version d = unless fault.Version (is_version_1 (whole_at (codes "slurmVersion") d))

abbrev the_filters : Data → Result Data SlurmFault
the_filters d = pair_of objects.Filters (codes "prefixFilters") (codes "bgpsecFilters") (get (codes "validationOutputFilters") d)

abbrev the_assertions : Data → Result Data SlurmFault
the_assertions d = pair_of objects.Assertions (codes "prefixAssertions") (codes "bgpsecAssertions") (get (codes "locallyAddedAssertions") d)

abbrev the_arrays : Data → Data → Result Arrays SlurmFault
the_arrays fs ss =
    last_steps (array_at array.PrefixFilters (codes "prefixFilters") fs) (array_at array.BgpsecFilters (codes "bgpsecFilters") fs)
    (array_at array.PrefixAssertions (codes "prefixAssertions") ss) (array_at array.BgpsecAssertions (codes "bgpsecAssertions") ss)

-- ---- not too many

limit_says : (b : Bool) (xs : List (Option Asn)) (ys : List Asn) (t : Scoped) (x : Exceptions) → Ok t ≡ seen (scoped_by xs ys) (if b then Err fault.TooMany else Ok x) → (b ≡ false) × (t ≡ scoped_by xs ys x)
limit_says true xs ys t x h = absurd (cc)
limit_says false xs ys t x h = (refl, ok_is {E = SlurmFault} t (scoped_by xs ys x) h)

within : (n : ℕ) → nat_lt 16777215 n ≡ false → n ≤ 16777215
within n h = grind (arith, nat_tests)

not_over : (n : ℕ) → n ≤ 16777215 → nat_lt 16777215 n ≡ false
not_over n h = grind (arith, nat_tests)

abbrev these : List PrefixFilter → List Payload → Exceptions
these fs vs = record { filters = fs; assertions = set_of vs }

abbrev read_as : List PrefixFilter → VrpSet → Result Exceptions SlurmFault
read_as fs s = Ok (record { filters = fs; assertions = s })

abbrev limited_by : Bool → List PrefixFilter → List Payload → Result Exceptions SlurmFault
limited_by b fs vs = if b then Err fault.TooMany else Ok (these fs vs)

-- ---- the file

abbrev filters_apart : Apart (codes "prefixFilters" ∷ codes "bgpsecFilters" ∷ [])
filters_apart = ((refl, tt), (tt, tt))

abbrev assertions_apart : Apart (codes "prefixAssertions" ∷ codes "bgpsecAssertions" ∷ [])
assertions_apart = ((refl, tt), (tt, tt))

value_says : (d : Data) (t : Scoped) → Ascends d → ReadsScopedValue d (Ok t) → IsScopedValue d t
value_says d t up h =
    let e = t.exceptions in
    let a = after_ok (arrays_of d) ReadsScopedArrays t h in
    let s = steps_say (the_file d) (the_version d) (the_filters d) (the_assertions d) the_arrays a.0 a.1 in
    let fs = pair_found objects.Filters (codes "prefixFilters") (codes "bgpsecFilters") (get (codes "validationOutputFilters") d) s.filters s.filters_are in
    let ss = pair_found objects.Assertions (codes "prefixAssertions") (codes "bgpsecAssertions") (get (codes "locallyAddedAssertions") d) s.assertions s.assertions_are in
    let lists = last_say (array_at array.PrefixFilters (codes "prefixFilters") s.filters) (array_at array.BgpsecFilters (codes "bgpsecFilters") s.filters)
    (array_at array.PrefixAssertions (codes "prefixAssertions") s.assertions) (array_at array.BgpsecAssertions (codes "bgpsecAssertions") s.assertions) a.0 s.rest in
    let has_1 = given_ok (fault.NoArray array.PrefixFilters) (option_and_then as_array (get (codes "prefixFilters") s.filters)) a.0.prefix_filters lists.0 in
    let has_2 = given_ok (fault.NoArray array.BgpsecFilters) (option_and_then as_array (get (codes "bgpsecFilters") s.filters)) a.0.bgpsec_filters lists.1 in
    let has_3 = given_ok (fault.NoArray array.PrefixAssertions) (option_and_then as_array (get (codes "prefixAssertions") s.assertions)) a.0.prefix_assertions lists.2 in
    let has_4 = given_ok (fault.NoArray array.BgpsecAssertions) (option_and_then as_array (get (codes "bgpsecAssertions") s.assertions)) a.0.bgpsec_assertions lists.3 in
    let up_fs = get_ascends (codes "validationOutputFilters") d s.filters up fs.0 in
    let up_ss = get_ascends (codes "locallyAddedAssertions") d s.assertions up ss.0 in
    let r = a.2 in
    let vs = r.2.2.0 in
    let limit = limit_says (nat_lt 16777215 (size (set_of vs))) r.2.0 r.2.2.2.0 t (these r.0 vs) r.2.2.2.2 in
    let filters_is : r.0 ≡ e.filters = ap (λ x. x.exceptions.filters) (sym limit.1) in
    let key_filters_are : r.2.0 ≡ t.bgpsec_filters = ap (λ x. x.bgpsec_filters) (sym limit.1) in
    let keys_are : r.2.2.2.0 ≡ t.bgpsec_assertions = ap (λ x. x.bgpsec_assertions) (sym limit.1) in (
      record {
        members = members_say d up (unless_ok (fault.Members objects.File) (is_file d) s.first);
        version = version_says (whole_at (codes "slurmVersion") d) (unless_ok fault.Version (is_version_1 (whole_at (codes "slurmVersion") d)) s.second);
        filters = s.filters;
        filters_stand = fs.0;
        are_filters = record {
          members = pair_says (codes "prefixFilters") (codes "bgpsecFilters") filters_apart s.filters up_fs fs.1;
          of_prefixes = (
            a.0.prefix_filters,
            has_1,
            each_says ReadsFilter IsFilter filter_says (listed a.0.prefix_filters) e.filters (array_ascends (codes "prefixFilters") s.filters a.0.prefix_filters up_fs has_1)
                (subst (λ gs. AreRead ReadsFilter (listed a.0.prefix_filters) gs) filters_is r.1),
          );
          ases = t.bgpsec_filters;
          of_keys = (
            a.0.bgpsec_filters,
            has_2,
            each_says ReadsKeyFilter IsKeyFilter key_filter_says (listed a.0.bgpsec_filters) t.bgpsec_filters (array_ascends (codes "bgpsecFilters") s.filters a.0.bgpsec_filters up_fs has_2)
                (subst (λ xs. AreRead ReadsKeyFilter (listed a.0.bgpsec_filters) xs) key_filters_are r.2.1),
          );
        };
        assertions = s.assertions;
        assertions_stand = ss.0;
        payloads = vs;
        are_assertions = record {
          members = pair_says (codes "prefixAssertions") (codes "bgpsecAssertions") assertions_apart s.assertions up_ss ss.1;
          of_prefixes = (
            a.0.prefix_assertions,
            has_3,
            each_says ReadsAssertion IsAssertion assertion_says (listed a.0.prefix_assertions) vs (array_ascends (codes "prefixAssertions") s.assertions a.0.prefix_assertions up_ss has_3) r.2.2.1,
          );
          ases = t.bgpsec_assertions;
          of_keys = (
            a.0.bgpsec_assertions,
            has_4,
            each_says ReadsKeyAssertion IsKeyAssertion key_assertion_says (listed a.0.bgpsec_assertions) t.bgpsec_assertions (array_ascends (codes "bgpsecAssertions") s.assertions a.0.bgpsec_assertions up_ss has_4)
                (subst (λ ys. AreRead ReadsKeyAssertion (listed a.0.bgpsec_assertions) ys) keys_are r.2.2.2.1),
          );
        };
        set_is = ap (λ x. x.exceptions.assertions) limit.1;
        within_limit = within (size (set_of vs)) limit.0;
      },
      refl,
      refl,
    )

says_value : (d : Data) (t : Scoped) → Ascends d → IsScopedValue d t → ReadsScopedValue d (Ok t)
says_value d t up scoped =
    let e = t.exceptions in
    let h = scoped.0 in
    let fs = h.are_filters in
    let ss = h.are_assertions in
    let up_fs = get_ascends (codes "validationOutputFilters") d h.filters up h.filters_stand in
    let up_ss = get_ascends (codes "locallyAddedAssertions") d h.assertions up h.assertions_stand in
    let x = four fs.of_prefixes.0 fs.of_keys.0 ss.of_prefixes.0 ss.of_keys.0 in
    let last = say_last (array_at array.PrefixFilters (codes "prefixFilters") h.filters) (array_at array.BgpsecFilters (codes "bgpsecFilters") h.filters)
    (array_at array.PrefixAssertions (codes "prefixAssertions") h.assertions) (array_at array.BgpsecAssertions (codes "bgpsecAssertions") h.assertions) x
    (ap (given (fault.NoArray array.PrefixFilters)) fs.of_prefixes.1) (ap (given (fault.NoArray array.BgpsecFilters)) fs.of_keys.1)
    (ap (given (fault.NoArray array.PrefixAssertions)) ss.of_prefixes.1) (ap (given (fault.NoArray array.BgpsecAssertions)) ss.of_keys.1) in
    let all = say_steps (the_file d) (the_version d) (the_filters d) (the_assertions d) the_arrays x (record {
      first = ok_unless (fault.Members objects.File) (is_file d) (say_members d up h.members);
      second = ok_unless fault.Version (is_version_1 (whole_at (codes "slurmVersion") d)) (ap is_version_1 h.version);
      filters = h.filters;
      filters_are = found_pair objects.Filters (codes "prefixFilters") (codes "bgpsecFilters") (get (codes "validationOutputFilters") d) h.filters h.filters_stand
          (says_pair (codes "prefixFilters") (codes "bgpsecFilters") filters_apart h.filters up_fs fs.members);
      assertions = h.assertions;
      assertions_are = found_pair objects.Assertions (codes "prefixAssertions") (codes "bgpsecAssertions") (get (codes "locallyAddedAssertions") d) h.assertions h.assertions_stand
          (says_pair (codes "prefixAssertions") (codes "bgpsecAssertions") assertions_apart h.assertions up_ss ss.members);
      rest = last;
    }) in
    let filters_read = each_read ReadsFilter IsFilter says_filter (listed fs.of_prefixes.0) e.filters (array_ascends (codes "prefixFilters") h.filters fs.of_prefixes.0 up_fs fs.of_prefixes.1) fs.of_prefixes.2 in
    let assertions_read =
    each_read ReadsAssertion IsAssertion says_assertion (listed ss.of_prefixes.0) h.payloads (array_ascends (codes "prefixAssertions") h.assertions ss.of_prefixes.0 up_ss ss.of_prefixes.1) ss.of_prefixes.2 in
    let key_filters_read =
    each_read ReadsKeyFilter IsKeyFilter says_key_filter (listed fs.of_keys.0) fs.ases (array_ascends (codes "bgpsecFilters") h.filters fs.of_keys.0 up_fs fs.of_keys.1) fs.of_keys.2 in
    let keys_read =
    each_read ReadsKeyAssertion IsKeyAssertion says_key_assertion (listed ss.of_keys.0) ss.ases (array_ascends (codes "bgpsecAssertions") h.assertions ss.of_keys.0 up_ss ss.of_keys.1) ss.of_keys.2 in
    let limit : Ok e ≡ limited e.filters h.payloads =
    ap (read_as e.filters) h.set_is ∙ sym (ap (λ b. limited_by b e.filters h.payloads) (not_over (size (set_of h.payloads)) h.within_limit)) in
    let whole : Ok t ≡ seen (scoped_by fs.ases ss.ases) (limited e.filters h.payloads) =
    (λ i. Ok (scoped_by (sym scoped.1 i) (sym scoped.2 i) e)) ∙ ap (seen (scoped_by fs.ases ss.ases)) limit in
    ok_after (arrays_of d) ReadsScopedArrays x t all (
      e.filters,
      filters_read,
      (fs.ases, key_filters_read, (h.payloads, assertions_read, (ss.ases, keys_read, whole))),
    )

-- ---- the file with its scope

once_says : (bytes : List ℕ) (d : Data) (t : Scoped) → ReadsScopedOnce bytes d (Ok t) → NamesOnce bytes × ReadsScopedValue d (Ok t)
once_says bytes d t (inl h) = (h.0, h.1)
once_says bytes d t (inr h) = let no : ◌≡◌ {A = Result Scoped SlurmFault} (Ok t) (Err fault.Repeated) = h.1 in absurd (cc)

pub reads_scoped_exactly : ReadsScopedExactly
reads_scoped_exactly bytes t = (
  (λ h.
      let once = once_says bytes h.0 t h.2 in
      let is = value_says h.0 t (read_ascends bytes h.0 h.1.1) once.1 in
      (record { value = h.0; is_json = h.1; names_once = once.0; is_file = is.0 }, is.1, is.2)),
  (λ h. let file = h.0 in (file.value, file.is_json, inl (file.names_once, says_value file.value t (read_ascends bytes file.value file.is_json.1) (file.is_file, h.1, h.2)))),
)

-- ---- the file without it

said_by : (e : Exceptions) (r : Result Scoped SlurmFault) → unscoped r ≡ Ok e → (t : Scoped) × (r ≡ Ok t) × (t.exceptions ≡ e)
said_by e (Ok t) is = (t, refl, ok_is {E = SlurmFault} t.exceptions e is)
said_by e (Err f) is = absurd (cc)

pub reads_exactly : ReadsExactly
reads_exactly bytes e = (
  (λ h.
      let lifted = lift_scope bytes (Ok e) h in
      let said = said_by e lifted.0 lifted.2 in
      subst (λ x. IsSlurmFile bytes x) said.2 ((reads_scoped_exactly bytes said.0).0 (subst (λ r. ReadsScoped bytes r) said.1 lifted.1)).0),
  (λ h.
      let t = scoped_by h.is_file.are_filters.ases h.is_file.are_assertions.ases e in
      drop_scope bytes (Ok t) ((reads_scoped_exactly bytes t).1 (h, refl, refl))),
)

-- ---- the contracts

-- What is read is the file.
pub scoped_read : (bytes : List ℕ) (r : Result ScopedSlurm SlurmFault) → UnlessMemory (ReadsScoped bytes) (seen scoped_of r) → IfOk r (λ s. IsScopedFile bytes (scoped_of s))
scoped_read bytes (Ok s) (inl h) = (reads_scoped_exactly bytes (scoped_of s)).0 h
scoped_read bytes (Ok s) (inr h) = absurd (cc)
scoped_read bytes (Err e) h = tt

pub file_read : (bytes : List ℕ) (e : Exceptions) → UnlessMemory (ReadsSlurm bytes) (Ok e) → IsSlurmFile bytes e
file_read bytes e (inl h) = (reads_exactly bytes e).0 h
file_read bytes e (inr h) = absurd (cc)

-- Bytes that are a file are read, unless memory runs out.
pub read_scoped : (bytes : List ℕ) (r : Result Scoped SlurmFault) (t : Scoped) → UnlessMemory (ReadsScoped bytes) r → IsScopedFile bytes t → UnlessMemory (λ q. q ≡ Ok t) r
read_scoped bytes r t (inl h) is = inl (says_one_scoped bytes r (Ok t) h ((reads_scoped_exactly bytes t).1 is))
read_scoped bytes r t (inr h) is = inr h

pub read_file : (bytes : List ℕ) (r : Result Exceptions SlurmFault) (e : Exceptions) → UnlessMemory (ReadsSlurm bytes) r → IsSlurmFile bytes e → UnlessMemory (λ q. q ≡ Ok e) r
read_file bytes r e (inl h) is = inl (says_one bytes r (Ok e) h ((reads_exactly bytes e).1 is))
read_file bytes r e (inr h) is = inr h
