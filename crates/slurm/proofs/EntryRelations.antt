-- An entry is read exactly where it is a filter or an assertion.
use Rattle.std.proofs.Common.{◌≡◌, ℕ, ◌+◌, ◌<◌, ◌^◌, ◌==◌, ◌||◌, ◌⊎◌, Bool, true, false, nat_lt, if◌then◌else◌, List, [], ◌∷◌, Option, Some, None, is_none, is_some, option_and_then, Result, Ok, Err, IsOk, codes, inl, inr, refl, sym, ap, ◌∙◌, subst, arith}
use Rattle.std.specs.Prelude.{⊤}
use Rattle.std.specs.List.{AllByRecursion}
use Rattle.std.proofs.lemmas.Bool.Decides.{nat_tests}
use Rattle.serde_json.specs.Data.{Data, object, Members}
use Rattle.serde_json.specs.Find.{get, as_number, as_u64}
use Rattle.prefixes.specs.Payload.{Payload, block_of}
use Rattle.prefixes.specs.declared.asn.Asn.{Asn}
use Rattle.prefixes.specs.declared.prefix.IpPrefix.{IpPrefix}
use Rattle.payload_lists.specs.PayloadList.{member_count, text_at, whole_at}
use Rattle.slurm.specs.Chains.{◌>>=◌, given, unless}
use Rattle.slurm.specs.Entries.{AreRead, ReadsAssertion, ReadsAssertionOf, ReadsFilter, ReadsFilterOf, ReadsKeyAssertion, ReadsKeyFilter, ReadsPrefix, asn_if_any, asn_of, assertion_asn, comment_of, filter_asn, max_len_of, members_known, text_if_any, text_of}
use Rattle.slurm.specs.Members.{one_for, total}
use Rattle.slurm.specs.Relations.{Each, HasOnly, HasTextIfAny, IsAssertion, IsFilter, IsKeyAssertion, IsKeyFilter, SaysAsn, SaysMaximum, SaysPrefix}
use Rattle.slurm.specs.declared.fault.SlurmEntryFault.{SlurmEntryFault}
use Rattle.slurm.specs.declared.fault.SlurmEntryFault.TheVariants as why
use Rattle.slurm.specs.declared.filter.PrefixFilter.{PrefixFilter}
use Rattle.slurm.proofs.Ascending.{Ascends, some_is}
use Rattle.slurm.proofs.Chained.{Through1, Through2, Through3, after_ok, either_true, first_ok, is_number, number_is, ok_after, ok_first, ok_is, ok_through1, ok_through2, ok_through3, ok_unless, through1_ok, through2_ok, through3_ok, true_either, unless_ok}
use Rattle.slurm.proofs.Counted.{Apart, count_by_only, only_by_count}

-- ---- members

abbrev known_by : Bool → Result ⊤ SlurmEntryFault
known_by b = if b then Ok tt else Err why.OtherKey

known_if : (b : Bool) → IsOk (known_by b) → b ≡ true
known_if true h = refl
known_if false h = let no : false ≡ true = h in absurd (cc)

if_known : (b : Bool) → b ≡ true → IsOk (known_by b)
if_known true h = refl
if_known false h = let no : false ≡ true = h in absurd (cc)

known_are : (n m : ℕ) → IsOk (members_known n (Some m)) → m ≡ n
known_are n m h = is_number m n (known_if (m == n) h)

are_known : (n m : ℕ) → m ≡ n → IsOk (members_known n (Some m))
are_known n m h = if_known (m == n) (number_is m n h)

-- 1 for a member that is there
abbrev one : List ℕ → Members → ℕ
one name ms = one_for name (object ms)

sum3 : (a b c : ℕ) → a + b + c ≡ a + (b + (c + 0))
sum3 a b c = omega arith

sum4 : (a b c d : ℕ) → a + b + c + d ≡ a + (b + (c + (d + 0)))
sum4 a b c d = omega arith

module _ (k l m : List ℕ) (apart : Apart (k ∷ l ∷ m ∷ [])) where
  pub only_3 : (d : Data) → Ascends d → IsOk (members_known (one_for k d + one_for l d + one_for m d) (total d)) → HasOnly (k ∷ l ∷ m ∷ []) d
  only_3 (object ms) up h = only_by_count (k ∷ l ∷ m ∷ []) ms apart up (known_are (one k ms + one l ms + one m ms) (member_count ms) h ∙ sum3 (one k ms) (one l ms) (one m ms))
  only_3 d up h = let no : false ≡ true = h in absurd (cc)

  pub known_3 : (d : Data) → Ascends d → HasOnly (k ∷ l ∷ m ∷ []) d → IsOk (members_known (one_for k d + one_for l d + one_for m d) (total d))
  known_3 (object ms) up h = are_known (one k ms + one l ms + one m ms) (member_count ms) (count_by_only (k ∷ l ∷ m ∷ []) ms apart up h ∙ sym (sum3 (one k ms) (one l ms) (one m ms)))
  known_3 d up h = let no : false ≡ true = h.is_object in absurd (cc)

module _ (k l m n : List ℕ) (apart : Apart (k ∷ l ∷ m ∷ n ∷ [])) where
  pub only_4 : (d : Data) → Ascends d → IsOk (members_known (one_for k d + one_for l d + one_for m d + one_for n d) (total d)) → HasOnly (k ∷ l ∷ m ∷ n ∷ []) d
  only_4 (object ms) up h =
      only_by_count (k ∷ l ∷ m ∷ n ∷ []) ms apart up (known_are (one k ms + one l ms + one m ms + one n ms) (member_count ms) h ∙ sum4 (one k ms) (one l ms) (one m ms) (one n ms))
  only_4 d up h = let no : false ≡ true = h in absurd (cc)

  pub known_4 : (d : Data) → Ascends d → HasOnly (k ∷ l ∷ m ∷ n ∷ []) d → IsOk (members_known (one_for k d + one_for l d + one_for m d + one_for n d) (total d))
  known_4 (object ms) up h =
      are_known (one k ms + one l ms + one m ms + one n ms) (member_count ms) (count_by_only (k ∷ l ∷ m ∷ n ∷ []) ms apart up h ∙ sym (sum4 (one k ms) (one l ms) (one m ms) (one n ms)))
  known_4 d up h = let no : false ≡ true = h.is_object in absurd (cc)

-- ---- the AS

abbrev whole : Option Data → Option ℕ
whole o = option_and_then as_u64 (option_and_then as_number o)

whole_there : (o : Option Data) (n : ℕ) → whole o ≡ Some n → is_none o ≡ false
whole_there None n h = absurd (cc)
whole_there (Some d) n h = refl

abbrev as_of : ℕ → Asn
as_of n = record { 0 = n }

abbrev below : Bool → ℕ → Result Asn SlurmEntryFault
below b n = if b then Ok (as_of n) else Err why.Asn

is_small : (m : ℕ) → nat_lt m (2 ^ 32) ≡ true → m < 2 ^ 32
is_small m h = grind (arith, nat_tests)

small_is : (m : ℕ) → m < 2 ^ 32 → nat_lt m (2 ^ 32) ≡ true
small_is m h = grind (arith, nat_tests)

below_says : (b : Bool) (n : ℕ) (a : Asn) → nat_lt n (2 ^ 32) ≡ b → below b n ≡ Ok a → (n ≡ a.0) × (a.0 < 2 ^ 32)
below_says true n a is h =
    let same : n ≡ a.0 = ap (λ (x : Asn). x.0) (ok_is {E = SlurmEntryFault} (as_of n) a h) in (same, subst (λ m. m < 2 ^ 32) same (is_small n is))
below_says false n a is h = absurd (cc)

abbrev asn_by : Option ℕ → Result Asn SlurmEntryFault
asn_by o = given why.Asn o >>= λ n. below (nat_lt n (2 ^ 32)) n

asn_by_says : (o : Option ℕ) (a : Asn) → asn_by o ≡ Ok a → (o ≡ Some a.0) × (a.0 < 2 ^ 32)
asn_by_says None a h = absurd (cc)
asn_by_says (Some n) a h = let says = below_says (nat_lt n (2 ^ 32)) n a refl h in (ap Some says.0, says.1)

pub asn_says : (d : Data) (a : Asn) → asn_of d ≡ Ok a → (whole_at (codes "asn") d ≡ Some a.0) × (a.0 < 2 ^ 32)
asn_says d a h = asn_by_says (whole_at (codes "asn") d) a h

pub says_asn : (d : Data) (a : Asn) → whole_at (codes "asn") d ≡ Some a.0 → a.0 < 2 ^ 32 → asn_of d ≡ Ok a
says_asn d a h small = ap asn_by h ∙ ap (λ b. below b a.0) (small_is a.0 small)

some_step : (m : Result Asn SlurmEntryFault) (x : Option Asn) → (m >>= λ a. Ok (Some a)) ≡ Ok x → (a : Asn) × (m ≡ Ok a) × (x ≡ Some a)
some_step (Ok a) x h = (a, refl, sym (ok_is {E = SlurmEntryFault} (Some a) x h))
some_step (Err e) x h = absurd (cc)

abbrev any_by : Bool → Result Asn SlurmEntryFault → Result (Option Asn) SlurmEntryFault
any_by b m = if b then Ok None else (m >>= λ a. Ok (Some a))

any_says : (o : Option Data) (d : Data) (x : Option Asn) → get (codes "asn") d ≡ o → any_by (is_none o) (asn_of d) ≡ Ok x → SaysAsn d x
any_says None d None is h = is
any_says None d (Some a) is h = absurd (cc)
any_says (Some e) d None is h = let s = some_step (asn_of d) None h in let no : None ≡ Some s.0 = s.2 in absurd (cc)
any_says (Some e) d (Some a) is h =
    let s = some_step (asn_of d) (Some a) h in
    asn_says d a (s.1 ∙ ap Ok (sym (some_is a s.0 s.2)))

pub if_any_says : (d : Data) (x : Option Asn) → asn_if_any d ≡ Ok x → SaysAsn d x
if_any_says d x h = any_says (get (codes "asn") d) d x refl h

pub says_if_any : (d : Data) (x : Option Asn) → SaysAsn d x → asn_if_any d ≡ Ok x
says_if_any d None h = ap (λ o. any_by (is_none o) (asn_of d)) h
says_if_any d (Some a) h =
    ap (λ b. any_by b (asn_of d)) (whole_there (get (codes "asn") d) a.0 h.0) ∙ ap (λ m. any_by false m) (says_asn d a h.0 h.1)

-- ---- texts

is_or_is_not : (o : Option Data) (t : Bool) → (is_none o || t) ≡ true → (o ≡ None) ⊎ (t ≡ true)
is_or_is_not None t h = inl refl
is_or_is_not (Some d) t h = inr h

if_either : (o : Option Data) (t : Bool) → (o ≡ None) ⊎ (t ≡ true) → (is_none o || t) ≡ true
if_either o t (inl h) = ap (λ p. is_none p || t) h
if_either o t (inr h) = true_either (is_none o) t (inr h)

module _ (e : SlurmEntryFault) (name : List ℕ) (d : Data) where
  text_says : IsOk (text_if_any e name d) → HasTextIfAny name d
  text_says h = is_or_is_not (get name d) (is_some (text_at name d)) (unless_ok e (is_none (get name d) || is_some (text_at name d)) h)

  says_text : HasTextIfAny name d → IsOk (text_if_any e name d)
  says_text h = ok_unless e (is_none (get name d) || is_some (text_at name d)) (if_either (get name d) (is_some (text_at name d)) h)

-- ---- a prefix

prefix_says : (d : Data) (x : Option IpPrefix) → ReadsPrefix d (Ok x) → SaysPrefix d x
prefix_says d None h = h
prefix_says d (Some p) h = h

says_prefix : (d : Data) (x : Option IpPrefix) → SaysPrefix d x → ReadsPrefix d (Ok x)
says_prefix d None h = h
says_prefix d (Some p) h = h

-- ---- a filter

abbrev has_either : Data → Bool
has_either d = is_some (get (codes "prefix") d) || is_some (get (codes "asn") d)

abbrev filter_apart : Apart (codes "prefix" ∷ codes "asn" ∷ codes "comment" ∷ [])
filter_apart = ((refl, (refl, tt)), ((refl, tt), (tt, tt)))

abbrev filter_known : Data → Result ⊤ SlurmEntryFault
filter_known d = members_known (one_for (codes "prefix") d + one_for (codes "asn") d + one_for (codes "comment") d) (total d)

pub filter_says : (d : Data) (f : PrefixFilter) → Ascends d → ReadsFilter d (Ok f) → IsFilter d f
filter_says d f up h =
    let a = after_ok (filter_asn d) (ReadsFilterOf d) f h in
    let known = first_ok (filter_known d) (unless why.NeitherKey (has_either d) >>= λ _. Through1 (asn_if_any d) (comment_of d)) a.0 a.1 in
    let either = first_ok (unless why.NeitherKey (has_either d)) (Through1 (asn_if_any d) (comment_of d)) a.0 known.1 in
    let rest = through1_ok (asn_if_any d) (comment_of d) a.0 either.1 in
    record {
      members = only_3 (codes "prefix") (codes "asn") (codes "comment") filter_apart d up known.0;
      has_either = either_true (is_some (get (codes "prefix") d)) (is_some (get (codes "asn") d)) (unless_ok why.NeitherKey (has_either d) either.0);
      asn = if_any_says d f.asn (rest.0 ∙ ap Ok (sym a.2.0));
      prefix = prefix_says d f.prefix a.2.1;
      comment = text_says why.Comment (codes "comment") d rest.1;
    }

pub says_filter : (d : Data) (f : PrefixFilter) → Ascends d → IsFilter d f → ReadsFilter d (Ok f)
says_filter d f up h =
    let either = true_either (is_some (get (codes "prefix") d)) (is_some (get (codes "asn") d)) h.has_either in
    let known = known_3 (codes "prefix") (codes "asn") (codes "comment") filter_apart d up h.members in
    ok_after (filter_asn d) (ReadsFilterOf d) f.asn f
    (ok_first (filter_known d) (unless why.NeitherKey (has_either d) >>= λ _. Through1 (asn_if_any d) (comment_of d)) f.asn known
    (ok_first (unless why.NeitherKey (has_either d)) (Through1 (asn_if_any d) (comment_of d)) f.asn (ok_unless why.NeitherKey (has_either d) either)
    (ok_through1 (asn_if_any d) (comment_of d) f.asn (says_if_any d f.asn h.asn) (says_text why.Comment (codes "comment") d h.comment))))
    (refl, says_prefix d f.prefix h.prefix)

-- ---- an assertion

abbrev max_by : Bool → Data → ℕ → Option ℕ
max_by b d len = if b then Some len else whole_at (codes "maxPrefixLength") d

maximum_says : (o : Option Data) (d : Data) (v : Payload) → get (codes "maxPrefixLength") d ≡ o → max_by (is_none o) d (block_of v.prefix).len ≡ Some v.max_len → SaysMaximum d v
maximum_says None d v is h = inl (is, sym (some_is (block_of v.prefix).len v.max_len h))
maximum_says (Some e) d v is h = inr h

says_maximum : (d : Data) (v : Payload) → SaysMaximum d v → max_len_of d (block_of v.prefix).len ≡ Some v.max_len
says_maximum d v (inl h) = ap (λ o. max_by (is_none o) d (block_of v.prefix).len) h.0 ∙ ap Some (sym h.1)
says_maximum d v (inr h) = ap (λ b. max_by b d (block_of v.prefix).len) (whole_there (get (codes "maxPrefixLength") d) v.max_len h) ∙ h

abbrev assertion_apart : Apart (codes "asn" ∷ codes "prefix" ∷ codes "maxPrefixLength" ∷ codes "comment" ∷ [])
assertion_apart = ((refl, (refl, (refl, tt))), ((refl, (refl, tt)), ((refl, tt), (tt, tt))))

abbrev assertion_known : Data → Result ⊤ SlurmEntryFault
assertion_known d = members_known (one_for (codes "asn") d + one_for (codes "prefix") d + one_for (codes "maxPrefixLength") d + one_for (codes "comment") d) (total d)

pub assertion_says : (d : Data) (v : Payload) → Ascends d → ReadsAssertion d (Ok v) → IsAssertion d v
assertion_says d v up h =
    let a = after_ok (assertion_asn d) (ReadsAssertionOf d) v h in
    let known = first_ok (assertion_known d) (Through1 (asn_of d) (comment_of d)) a.0 a.1 in
    let rest = through1_ok (asn_of d) (comment_of d) a.0 known.1 in
    let says = asn_says d a.0 rest.0 in
    record {
      members = only_4 (codes "asn") (codes "prefix") (codes "maxPrefixLength") (codes "comment") assertion_apart d up known.0;
      asn = (says.0 ∙ ap Some (sym a.2.0), subst (λ n. n < 2 ^ 32) (sym a.2.0) says.1);
      prefix = a.2.1;
      max_len = maximum_says (get (codes "maxPrefixLength") d) d v refl a.2.2.0;
      not_shorter = a.2.2.1;
      in_family = a.2.2.2;
      comment = text_says why.Comment (codes "comment") d rest.1;
    }

pub says_assertion : (d : Data) (v : Payload) → Ascends d → IsAssertion d v → ReadsAssertion d (Ok v)
says_assertion d v up h =
    let a : Asn = record { 0 = v.asn } in
    let known = known_4 (codes "asn") (codes "prefix") (codes "maxPrefixLength") (codes "comment") assertion_apart d up h.members in
    ok_after (assertion_asn d) (ReadsAssertionOf d) a v
    (ok_first (assertion_known d) (Through1 (asn_of d) (comment_of d)) a known (ok_through1 (asn_of d) (comment_of d) a (says_asn d a h.asn.0 h.asn.1) (says_text why.Comment (codes "comment") d h.comment)))
    (refl, h.prefix, (says_maximum d v h.max_len, h.not_shorter, h.in_family))

-- ---- a filter on BGPsec

abbrev key_either : Data → Bool
key_either d = is_some (get (codes "SKI") d) || is_some (get (codes "asn") d)

abbrev key_apart : Apart (codes "SKI" ∷ codes "asn" ∷ codes "comment" ∷ [])
key_apart = ((refl, (refl, tt)), ((refl, tt), (tt, tt)))

abbrev key_known : Data → Result ⊤ SlurmEntryFault
key_known d = members_known (one_for (codes "SKI") d + one_for (codes "asn") d + one_for (codes "comment") d) (total d)

abbrev key_rest : Data → Result (Option Asn) SlurmEntryFault
key_rest d = Through2 (asn_if_any d) (comment_of d) (text_if_any why.Ski (codes "SKI") d)

pub key_filter_says : (d : Data) (a : Option Asn) → Ascends d → ReadsKeyFilter d (Ok a) → IsKeyFilter d a
key_filter_says d a up h =
    let known = first_ok (key_known d) (unless why.NeitherSki (key_either d) >>= λ _. key_rest d) a (sym h) in
    let either = first_ok (unless why.NeitherSki (key_either d)) (key_rest d) a known.1 in
    let rest = through2_ok (asn_if_any d) (comment_of d) (text_if_any why.Ski (codes "SKI") d) a either.1 in
    record {
      members = only_3 (codes "SKI") (codes "asn") (codes "comment") key_apart d up known.0;
      has_either = either_true (is_some (get (codes "SKI") d)) (is_some (get (codes "asn") d)) (unless_ok why.NeitherSki (key_either d) either.0);
      asn = if_any_says d a rest.0;
      ski = text_says why.Ski (codes "SKI") d rest.2;
      comment = text_says why.Comment (codes "comment") d rest.1;
    }

pub says_key_filter : (d : Data) (a : Option Asn) → Ascends d → IsKeyFilter d a → ReadsKeyFilter d (Ok a)
says_key_filter d a up h =
    let either = true_either (is_some (get (codes "SKI") d)) (is_some (get (codes "asn") d)) h.has_either in
    let known = known_3 (codes "SKI") (codes "asn") (codes "comment") key_apart d up h.members in
    sym (ok_first (key_known d) (unless why.NeitherSki (key_either d) >>= λ _. key_rest d) a known
    (ok_first (unless why.NeitherSki (key_either d)) (key_rest d) a (ok_unless why.NeitherSki (key_either d) either)
    (ok_through2 (asn_if_any d) (comment_of d) (text_if_any why.Ski (codes "SKI") d) a (says_if_any d a h.asn) (says_text why.Comment (codes "comment") d h.comment) (says_text why.Ski (codes "SKI") d h.ski))))

-- ---- an assertion on BGPsec

abbrev keys_apart : Apart (codes "asn" ∷ codes "SKI" ∷ codes "routerPublicKey" ∷ codes "comment" ∷ [])
keys_apart = ((refl, (refl, (refl, tt))), ((refl, (refl, tt)), ((refl, tt), (tt, tt))))

abbrev keys_known : Data → Result ⊤ SlurmEntryFault
keys_known d = members_known (one_for (codes "asn") d + one_for (codes "SKI") d + one_for (codes "routerPublicKey") d + one_for (codes "comment") d) (total d)

abbrev keys_rest : Data → Result Asn SlurmEntryFault
keys_rest d = Through3 (asn_of d) (comment_of d) (text_of why.Ski (codes "SKI") d) (text_of why.RouterPublicKey (codes "routerPublicKey") d)

pub key_assertion_says : (d : Data) (a : Asn) → Ascends d → ReadsKeyAssertion d (Ok a) → IsKeyAssertion d a
key_assertion_says d a up h =
    let known = first_ok (keys_known d) (keys_rest d) a (sym h) in
    let rest = through3_ok (asn_of d) (comment_of d) (text_of why.Ski (codes "SKI") d) (text_of why.RouterPublicKey (codes "routerPublicKey") d) a known.1 in
    record {
      members = only_4 (codes "asn") (codes "SKI") (codes "routerPublicKey") (codes "comment") keys_apart d up known.0;
      asn = asn_says d a rest.0;
      ski = unless_ok why.Ski (is_some (text_at (codes "SKI") d)) rest.2;
      router_public_key = unless_ok why.RouterPublicKey (is_some (text_at (codes "routerPublicKey") d)) rest.3;
      comment = text_says why.Comment (codes "comment") d rest.1;
    }

pub says_key_assertion : (d : Data) (a : Asn) → Ascends d → IsKeyAssertion d a → ReadsKeyAssertion d (Ok a)
says_key_assertion d a up h =
    let known = known_4 (codes "asn") (codes "SKI") (codes "routerPublicKey") (codes "comment") keys_apart d up h.members in
    sym (ok_first (keys_known d) (keys_rest d) a known
    (ok_through3 (asn_of d) (comment_of d) (text_of why.Ski (codes "SKI") d) (text_of why.RouterPublicKey (codes "routerPublicKey") d) a (says_asn d a h.asn.0 h.asn.1)
    (says_text why.Comment (codes "comment") d h.comment) (ok_unless why.Ski (is_some (text_at (codes "SKI") d)) h.ski)
    (ok_unless why.RouterPublicKey (is_some (text_at (codes "routerPublicKey") d)) h.router_public_key)))

-- ---- all entries of an array

module _ {A : Type 0} (Reads : Data → Result A SlurmEntryFault → Type 0) (Says : Data → A → Type 0) where
  pub each_says : ((d : Data) (x : A) → Ascends d → Reads d (Ok x) → Says d x) → (ds : List Data) (xs : List A) → AllByRecursion Ascends ds → AreRead Reads ds xs → Each Says ds xs
  each_says on [] [] up h = tt
  each_says on [] (x ∷ xs) up h = absurd h
  each_says on (d ∷ ds) [] up h = absurd h
  each_says on (d ∷ ds) (x ∷ xs) up h = (on d x up.0 h.0, each_says on ds xs up.1 h.1)

  pub each_read : ((d : Data) (x : A) → Ascends d → Says d x → Reads d (Ok x)) → (ds : List Data) (xs : List A) → AllByRecursion Ascends ds → Each Says ds xs → AreRead Reads ds xs
  each_read on [] [] up h = tt
  each_read on [] (x ∷ xs) up h = absurd h
  each_read on (d ∷ ds) [] up h = absurd h
  each_read on (d ∷ ds) (x ∷ xs) up h = (on d x up.0 h.0, each_read on ds xs up.1 h.1)
