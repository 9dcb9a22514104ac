-- Bytes say one thing.
use Rattle.std.specs.Prelude.{◌≡◌, ℕ, suc, ◌++◌, List, [], ◌∷◌, length, Option, Some, None, option_and_then, is_some, true, false, Result, Ok, Err, codes, refl}
use Rattle.std.proofs.Common.{inl, inr, ap, sym, ◌∙◌, subst}
use Rattle.serde_json.specs.Data.{Data, Items}
use Rattle.serde_json.specs.Find.{get, as_str}
use Rattle.serde_json.specs.Read as json
use Rattle.prefixes.specs.Payload.{Payload, block_of}
use Rattle.prefixes.specs.declared.asn.Asn.{Asn}
use Rattle.prefixes.specs.declared.prefix.IpPrefix.{IpPrefix}
use Rattle.prefix_texts.specs.MixedText.{SaysText}
use Rattle.prefix_texts.proofs.Sayings.{one_saying}
use Rattle.payload_lists.specs.PayloadList.{text_at}
use Rattle.payload_lists.proofs.Entries.{one_some}
use Rattle.slurm.specs.Chains.{After, Then, seen}
use Rattle.slurm.specs.Entries.{AreRead, IsMaximum, ReadsAssertion, ReadsAssertionOf, ReadsEntries, ReadsFilter, ReadsFilterOf, ReadsKeyAssertion, ReadsKeyFilter, ReadsPrefix, SpellsPrefix, listed, max_len_of}
use Rattle.slurm.specs.Scoped.{OneScopedReading, ReadsScopedArrays, ReadsScopedOnce, scoped_by}
use Rattle.slurm.specs.SlurmFile.{Arrays, OneReading, ReadsArrays, ReadsJson, ReadsOnce, arrays_of, limited}
use Rattle.slurm.specs.declared.fault.SlurmEntryFault.{SlurmEntryFault}
use Rattle.slurm.specs.declared.fault.SlurmEntryFault.TheVariants as why
use Rattle.slurm.specs.declared.fault.SlurmArray.{SlurmArray}
use Rattle.slurm.specs.declared.fault.SlurmArray.TheVariants as array
use Rattle.slurm.specs.declared.fault.SlurmFault.{SlurmFault}
use Rattle.slurm.specs.declared.fault.SlurmFault.TheVariants as fault

-- At most one result is read.
abbrev IsOne : {A E : Type 0} → (Result A E → Type 0) → Type 0
IsOne {A} {E} P = (r q : Result A E) → P r → P q → r ≡ q

module _ {A E : Type 0} where
  same_ok : (x y : A) → ◌≡◌ {A = Result A E} (Ok x) (Ok y) → x ≡ y
  same_ok x y h = cc

  same_err : (e f : E) → ◌≡◌ {A = Result A E} (Err e) (Err f) → e ≡ f
  same_err e f h = cc

  no_both : (x : A) (e : E) → ◌≡◌ {A = Result A E} (Ok x) (Err e) → ⊥
  no_both x e h = cc

-- ---- chains

after_one : {A B E : Type 0} (m : Result A E) (P : A → Result B E → Type 0) → ((x : A) → IsOne (P x)) → IsOne (After m P)
after_one (Ok x) P one r q h k = one x r q h k
after_one (Err e) P one r q h k = h ∙ sym k

module _ {A B E : Type 0} (P : Result A E → Type 0) (Q : A → Result B E → Type 0) (one : IsOne P) (next : (x : A) → IsOne (Q x)) where
  both_on : (x y : A) (r q : Result B E) → P (Ok x) → P (Ok y) → Q x r → Q y q → r ≡ q
  both_on x y r q h k a b = next x r q a (subst (λ z. Q z q) (sym (same_ok {E = E} x y (one (Ok x) (Ok y) h k))) b)

  then_one : IsOne (Then P Q)
  then_one (Ok y) (Ok z) h k = both_on h.0 k.0 (Ok y) (Ok z) h.1 k.1 h.2 k.2
  then_one (Ok y) (Err f) h (inl k) = absurd (no_both h.0 f (one (Ok h.0) (Err f) h.1 k))
  then_one (Ok y) (Err f) h (inr k) = both_on h.0 k.0 (Ok y) (Err f) h.1 k.1 h.2 k.2
  then_one (Err e) (Ok z) (inl h) k = absurd (no_both k.0 e (one (Ok k.0) (Err e) k.1 h))
  then_one (Err e) (Ok z) (inr h) k = both_on h.0 k.0 (Err e) (Ok z) h.1 k.1 h.2 k.2
  then_one (Err e) (Err f) (inl h) (inl k) = ap Err (same_err {A = A} e f (one (Err e) (Err f) h k))
  then_one (Err e) (Err f) (inl h) (inr k) = absurd (no_both k.0 e (one (Ok k.0) (Err e) k.1 h))
  then_one (Err e) (Err f) (inr h) (inl k) = absurd (no_both h.0 f (one (Ok h.0) (Err f) h.1 k))
  then_one (Err e) (Err f) (inr h) (inr k) = both_on h.0 k.0 (Err e) (Err f) h.1 k.1 h.2 k.2

-- ---- arrays

module _ {A : Type 0} (Reads : Data → Result A SlurmEntryFault → Type 0) (one : (d : Data) → IsOne (Reads d)) where
  are_one : (ds : List Data) (xs ys : List A) → AreRead Reads ds xs → AreRead Reads ds ys → xs ≡ ys
  are_one [] [] [] h k = refl
  are_one [] [] (y ∷ ys) h k = absurd k
  are_one [] (x ∷ xs) ys h k = absurd h
  are_one (d ∷ ds) [] ys h k = absurd h
  are_one (d ∷ ds) (x ∷ xs) [] h k = absurd k
  are_one (d ∷ ds) (x ∷ xs) (y ∷ ys) h k = λ i. same_ok {E = SlurmEntryFault} x y (one d (Ok x) (Ok y) h.0 k.0) i ∷ are_one ds xs ys h.1 k.1 i

  -- One that is read has no fault.
  never_both : (d : Data) (x : A) (e : SlurmEntryFault) → Reads d (Ok x) → Reads d (Err e) → ⊥
  never_both d x e h k = no_both x e (one d (Ok x) (Err e) h k)

  no_fault : (before : List Data) (d : Data) (after : List Data) (e : SlurmEntryFault) (xs : List A) → Reads d (Err e) → AreRead Reads (before ++ d ∷ after) xs → ⊥
  no_fault [] d after e [] h k = k
  no_fault [] d after e (x ∷ xs) h k = never_both d x e k.0 h
  no_fault (b ∷ before) d after e [] h k = k
  no_fault (b ∷ before) d after e (x ∷ xs) h k = no_fault before d after e xs h k.1

  heads : (d e : Data) (ds es : List Data) → d ∷ ds ≡ e ∷ es → d ≡ e
  heads d e ds es h = cc

  tails : (d e : Data) (ds es : List Data) → d ∷ ds ≡ e ∷ es → ds ≡ es
  tails d e ds es h = cc

  first_read : (d : Data) (ds : List Data) (xs : List A) → AreRead Reads (d ∷ ds) xs → (x : A) × Reads d (Ok x)
  first_read d ds [] h = absurd h
  first_read d ds (x ∷ xs) h = (x, h.0)

  rest_read : (d : Data) (ds : List Data) (xs : List A) → AreRead Reads (d ∷ ds) xs → (ys : List A) × AreRead Reads ds ys
  rest_read d ds [] h = absurd h
  rest_read d ds (x ∷ xs) h = (xs, h.1)

  one_fault : (b c : List Data) (d e : Data) (s t : List Data) (xs ys : List A) (f g : SlurmEntryFault) → b ++ d ∷ s ≡ c ++ e ∷ t → AreRead Reads b xs → AreRead Reads c ys → Reads d (Err f) → Reads e (Err g)
      → (length b ≡ length c) × (f ≡ g)
  one_fault [] [] d e s t xs ys f g same h k u v = (refl, same_err {A = A} f g (one d (Err f) (Err g) u (subst (λ z. Reads z (Err g)) (sym (heads d e s t same)) v)))
  one_fault [] (c ∷ cs) d e s t xs ys f g same h k u v =
      let read = first_read c cs ys k in absurd (never_both d read.0 f (subst (λ z. Reads z (Ok read.0)) (sym (heads d c s (cs ++ e ∷ t) same)) read.1) u)
  one_fault (b ∷ bs) [] d e s t xs ys f g same h k u v =
      let read = first_read b bs xs h in absurd (never_both e read.0 g (subst (λ z. Reads z (Ok read.0)) (heads b e (bs ++ d ∷ s) t same) read.1) v)
  one_fault (b ∷ bs) (c ∷ cs) d e s t xs ys f g same h k u v =
      let left = rest_read b bs xs h in
      let right = rest_read c cs ys k in
      let more = one_fault bs cs d e s t left.0 right.0 f g (tails b c (bs ++ d ∷ s) (cs ++ e ∷ t) same) left.1 right.1 u v in
      (ap suc more.0, more.1)

  module _ (a : SlurmArray) (ds : Items) where
    ok_err : (xs : List A) (e : SlurmFault) → AreRead Reads (listed ds) xs → ReadsEntries Reads a ds (Err e) → ⊥
    ok_err xs (fault.Entry b i e) h k = no_fault k.1.before k.1.entry k.1.after e xs k.1.fault (subst (λ l. AreRead Reads l xs) k.1.parts h)
    ok_err xs e h k = k

    err_err : (e f : SlurmFault) → ReadsEntries Reads a ds (Err e) → ReadsEntries Reads a ds (Err f) → e ≡ f
    err_err (fault.Entry b i e) (fault.Entry c j f) h k =
        let same = one_fault h.1.before k.1.before h.1.entry k.1.entry h.1.after k.1.after h.1.values k.1.values e f (sym h.1.parts ∙ k.1.parts) h.1.are_read k.1.are_read h.1.fault k.1.fault in
        let index = sym h.1.index_is ∙ same.0 ∙ k.1.index_is in
        let at = h.0 ∙ sym k.0 in
        λ n. fault.Entry (at n) (index n) (same.1 n)
    err_err (fault.Entry b i e) f h k = absurd k
    err_err e f h k = absurd h

    entries_one : IsOne (ReadsEntries Reads a ds)
    entries_one (Ok xs) (Ok ys) h k = ap Ok (are_one (listed ds) xs ys h k)
    entries_one (Ok xs) (Err e) h k = absurd (ok_err xs e h k)
    entries_one (Err e) (Ok ys) h k = absurd (ok_err ys e k h)
    entries_one (Err e) (Err f) h k = ap Err (err_err e f h k)

-- ---- entries

spells_one : (d : Data) (p q : IpPrefix) → SpellsPrefix d p → SpellsPrefix d q → p ≡ q
spells_one d p q h k =
    let same : h.0 ≡ k.0 = one_some h.0 k.0 (text_at (codes "prefix") d) h.1 k.1 in one_saying k.0 p q (subst (λ t. SaysText p t) same h.2.says) k.2.says

no_text : (d : Data) (text : List ℕ) → get (codes "prefix") d ≡ None → text_at (codes "prefix") d ≡ Some text → ⊥
no_text d text h k = let e : None ≡ Some text = sym (ap (option_and_then as_str) h) ∙ k in cc

no_member : {A : Type 0} (o : Option A) → o ≡ None → is_some o ≡ true → ⊥
no_member None h k = let e : false ≡ true = k in cc
no_member (Some x) h k = cc

prefix_one : (d : Data) → IsOne (ReadsPrefix d)
prefix_one d (Ok None) (Ok None) h k = refl
prefix_one d (Ok None) (Ok (Some p)) h k = absurd (no_text d k.0 h k.1)
prefix_one d (Ok (Some p)) (Ok None) h k = absurd (no_text d h.0 k h.1)
prefix_one d (Ok (Some p)) (Ok (Some q)) h k = ap (λ x. Ok (Some x)) (spells_one d p q h k)
prefix_one d (Ok None) (Err e) h k = absurd (no_member (get (codes "prefix") d) h k.1)
prefix_one d (Err e) (Ok None) h k = absurd (no_member (get (codes "prefix") d) k h.1)
prefix_one d (Ok (Some p)) (Err e) h k = absurd (k.2 p h)
prefix_one d (Err e) (Ok (Some p)) h k = absurd (h.2 p k)
prefix_one d (Err e) (Err f) h k = ap Err (h.0 ∙ sym k.0)

filter_of_one : (d : Data) (a : Option Asn) → IsOne (ReadsFilterOf d a)
filter_of_one d a (Ok f) (Ok g) h k =
    let prefix : f.prefix ≡ g.prefix = same_ok {E = SlurmEntryFault} f.prefix g.prefix (prefix_one d (Ok f.prefix) (Ok g.prefix) h.1 k.1) in
    let asn : f.asn ≡ g.asn = h.0 ∙ sym k.0 in
    λ i. Ok (record { prefix = prefix i; asn = asn i })
filter_of_one d a (Ok f) (Err e) h k = absurd (no_both f.prefix e (prefix_one d (Ok f.prefix) (Err e) h.1 k))
filter_of_one d a (Err e) (Ok g) h k = absurd (no_both g.prefix e (prefix_one d (Ok g.prefix) (Err e) k.1 h))
filter_of_one d a (Err e) (Err f) h k = ap Err (same_err {A = Option IpPrefix} e f (prefix_one d (Err e) (Err f) h k))

module _ (d : Data) (a : Asn) where
  max_one : (p q : IpPrefix) (m n : ℕ) → p ≡ q → IsMaximum d p m → IsMaximum d q n → m ≡ n
  max_one p q m n is h k = one_some m n (max_len_of d (block_of q).len) (ap (λ r. max_len_of d (block_of r).len) (sym is) ∙ h.0) k.0

  said_no_fault : (v : Payload) (e : SlurmEntryFault) → ReadsAssertionOf d a (Ok v) → ReadsAssertionOf d a (Err e) → ⊥
  said_no_fault v why.Prefix h k = k v.prefix h.1
  said_no_fault v why.MaxLength h k = k.2 v.max_len (subst (λ p. IsMaximum d p v.max_len) (spells_one d v.prefix k.0 h.1 k.1) h.2)
  said_no_fault v e h k = k

  fault_one : (e f : SlurmEntryFault) → ReadsAssertionOf d a (Err e) → ReadsAssertionOf d a (Err f) → e ≡ f
  fault_one why.Prefix why.Prefix h k = refl
  fault_one why.Prefix why.MaxLength h k = absurd (h k.0 k.1)
  fault_one why.MaxLength why.Prefix h k = absurd (k h.0 h.1)
  fault_one why.MaxLength why.MaxLength h k = refl
  fault_one why.Prefix f h k = absurd k
  fault_one why.MaxLength f h k = absurd k
  fault_one e f h k = absurd h

  assertion_of_one : IsOne (ReadsAssertionOf d a)
  assertion_of_one (Ok v) (Ok w) h k =
      let prefix : v.prefix ≡ w.prefix = spells_one d v.prefix w.prefix h.1 k.1 in
      let max_len : v.max_len ≡ w.max_len = max_one v.prefix w.prefix v.max_len w.max_len prefix h.2 k.2 in
      let asn : v.asn ≡ w.asn = h.0 ∙ sym k.0 in
      λ i. Ok (record { prefix = prefix i; max_len = max_len i; asn = asn i })
  assertion_of_one (Ok v) (Err e) h k = absurd (said_no_fault v e h k)
  assertion_of_one (Err e) (Ok v) h k = absurd (said_no_fault v e k h)
  assertion_of_one (Err e) (Err f) h k = ap Err (fault_one e f h k)

-- ---- the file

arrays_one : (a : Arrays) → IsOne (ReadsArrays a)
arrays_one a =
    then_one _ _ (entries_one ReadsFilter (λ d. after_one _ _ (filter_of_one d)) array.PrefixFilters a.prefix_filters) (λ fs.
    then_one _ _ (entries_one ReadsKeyFilter (λ d r q h k. h ∙ sym k) array.BgpsecFilters a.bgpsec_filters) (λ _.
    then_one _ _ (entries_one ReadsAssertion (λ d. after_one _ _ (assertion_of_one d)) array.PrefixAssertions a.prefix_assertions) (λ vs.
    then_one _ (λ _ s. s ≡ limited fs vs) (entries_one ReadsKeyAssertion (λ d r q h k. h ∙ sym k) array.BgpsecAssertions a.bgpsec_assertions) (λ _ r q h k. h ∙ sym k))))

json_one : (bytes : List ℕ) → IsOne (ReadsJson bytes)
json_one bytes (Ok d) (Ok e) h k = ap Ok (one_some d e (json.read bytes) h.1 k.1)
json_one bytes (Ok d) (Err f) h k = absurd (k.1 d h)
json_one bytes (Err e) (Ok d) h k = absurd (h.1 d k)
json_one bytes (Err e) (Err f) h k = ap Err (h.0 ∙ sym k.0)

once_one : (bytes : List ℕ) (d : Data) → IsOne (ReadsOnce bytes d)
once_one bytes d r q (inl h) (inl k) = after_one (arrays_of d) ReadsArrays arrays_one r q h.1 k.1
once_one bytes d r q (inl h) (inr k) = absurd (k.0 h.0)
once_one bytes d r q (inr h) (inl k) = absurd (h.0 k.0)
once_one bytes d r q (inr h) (inr k) = h.1 ∙ sym k.1

pub says_one : OneReading
says_one bytes r q h k = then_one (ReadsJson bytes) (ReadsOnce bytes) (json_one bytes) (once_one bytes) r q h k

-- ---- the file with its scope

scoped_arrays_one : (a : Arrays) → IsOne (ReadsScopedArrays a)
scoped_arrays_one a =
    then_one _ _ (entries_one ReadsFilter (λ d. after_one _ _ (filter_of_one d)) array.PrefixFilters a.prefix_filters) (λ fs.
    then_one _ _ (entries_one ReadsKeyFilter (λ d r q h k. h ∙ sym k) array.BgpsecFilters a.bgpsec_filters) (λ xs.
    then_one _ _ (entries_one ReadsAssertion (λ d. after_one _ _ (assertion_of_one d)) array.PrefixAssertions a.prefix_assertions) (λ vs.
    then_one _ (λ ys s. s ≡ seen (scoped_by xs ys) (limited fs vs)) (entries_one ReadsKeyAssertion (λ d r q h k. h ∙ sym k) array.BgpsecAssertions a.bgpsec_assertions) (λ _ r q h k. h ∙ sym k))))

scoped_once_one : (bytes : List ℕ) (d : Data) → IsOne (ReadsScopedOnce bytes d)
scoped_once_one bytes d r q (inl h) (inl k) = after_one (arrays_of d) ReadsScopedArrays scoped_arrays_one r q h.1 k.1
scoped_once_one bytes d r q (inl h) (inr k) = absurd (k.0 h.0)
scoped_once_one bytes d r q (inr h) (inl k) = absurd (h.0 k.0)
scoped_once_one bytes d r q (inr h) (inr k) = h.1 ∙ sym k.1

pub says_one_scoped : OneScopedReading
says_one_scoped bytes r q h k = then_one (ReadsJson bytes) (ReadsScopedOnce bytes) (json_one bytes) (scoped_once_one bytes) r q h k
