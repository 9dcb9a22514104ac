-- Entries that come one after the other.
use Rattle.std.proofs.Common.{◌≡◌, ◌≢◌, ℕ, zero, suc, ◌-◌, ◌<◌, List, [], ◌∷◌, ◌++◌, length, take, Option, Some, None, Result, Ok, Err, refl, sym, ap, ◌∙◌, arith, append_assoc, length-append}
use Rattle.std.specs.Prelude.{⊤}
use Rattle.std.proofs.lemmas.Bool.{ne_eqb}
use Rattle.std.proofs.lemmas.List.{append-nil, length-take, nil_from_length}
use Rattle.std.specs.List.{last_or}
use Rattle.der_lite.specs.Place.{Place, Fault}
use Rattle.der_lite.specs.Decoding.{read_each, read_member}
use Rattle.der_lite.specs.DerReading.{element_at}
use Rattle.der_lite.specs.Fields.{optional_at, valued_at}
use Rattle.der_lite.proofs.FieldLaws.{sequence_shorter}
use Rattle.der_lite.proofs.Loops.{Goes, goes_begin, goes_on, goes_wrong, goes_out}
use Rattle.payloads.specs.declared.roa_family.AddressFamily.{AddressFamily}
use Rattle.payloads.specs.declared.roa_entry.RoaEntry.{RoaEntry}
use Rattle.payloads.specs.declared.fault.GrammarFault.{GrammarFault}
use Rattle.payloads.specs.Faults.{grammar_fault_of}
use Rattle.payloads.specs.RoaValues.{entries_of, all_entries}
use Rattle.payloads.specs.Roa.{Family, too_many_rules, order_rules}
use Rattle.payloads.specs.RoaReading.{address_at, maximum_at, entry_of, entry_at, entry_behind_at, ip_family_at, blocks_at}
use Rattle.payloads.specs.Gives.{Progress, Grows, ListsEntries}

-- of none there is none in front
take_none : {A : Type 0} (n : ℕ) → take {A = A} n [] ≡ []
take_none zero = refl
take_none (suc n) = refl

-- those in front of two lists
take_append : {A : Type 0} (n : ℕ) (xs ys : List A) → take n (xs ++ ys) ≡ take n xs ++ take (n - length xs) ys
take_append {A} n [] ys =
    let whole : n ≡ n - 0 = omega arith in
    ap (λ (k : ℕ). take k ys) whole ∙ sym (ap (λ (l : List A). l ++ take (n - 0) ys) (take_none n))
take_append {A} zero (x ∷ xs) ys =
    let none : 0 ≡ 0 - suc (length xs) = omega arith in
    ap (λ (k : ℕ). take k ys) none
take_append {A} (suc n) (x ∷ xs) ys =
    let less : n - length xs ≡ suc n - suc (length xs) = omega arith in
    ap (λ (l : List A). x ∷ l) (take_append n xs ys) ∙ ap (λ (k : ℕ). x ∷ (take n xs ++ take k ys)) less

-- nothing more came
pub grows_not : (p : Progress) → Grows p p []
grows_not p = record { counted = omega arith; room = refl; kept = sym (ap (λ (l : List RoaEntry). p.listed ++ l) (take_none (p.room - length p.listed)) ∙ append-nil p.listed) }

-- more came, and then others
pub grows_on : (old mid new : Progress) (more others : List RoaEntry) → Grows old mid more → Grows mid new others → Grows old new (more ++ others)
grows_on old mid new more others g h =
    let k = old.room - length old.listed in
    let left : mid.room - length mid.listed ≡ k - length more =
    omega (arith, g.room, ap (λ (l : List RoaEntry). length l) g.kept, length-append old.listed (take k more), length-take k more) in
    record {
      counted = omega (arith, g.counted, h.counted, length-append more others);
      room = h.room ∙ g.room;
      kept = h.kept ∙ ap (λ (l : List RoaEntry). l ++ take (mid.room - length mid.listed) others) g.kept
          ∙ append_assoc old.listed (take k more) (take (mid.room - length mid.listed) others)
          ∙ ap (λ (n : ℕ). old.listed ++ (take k more ++ take n others)) left
          ∙ ap (λ (l : List RoaEntry). old.listed ++ l) (sym (take_append k more others));
    }

-- the last is the one that came last
pub last_is : (before : Option RoaEntry) (es : List RoaEntry) (e : RoaEntry) → last_or before (es ++ e ∷ []) ≡ Some e
last_is before [] e = refl
last_is before (x ∷ es) e = last_is (Some x) es e

-- Of the entries of a family these were read before here and came behind the others.
pub record Seen (family : AddressFamily) (start : Place) (old : Progress) (before : Option RoaEntry) (now : Progress) (here : Place) : Type 0 where
  pub seen : List RoaEntry
  pub goes : Goes (entry_behind_at family old.count) start seen here
  pub last : before ≡ last_or None seen
  pub grown : Grows old now seen

-- at first none was
pub seen_begin : (family : AddressFamily) (start : Place) (old : Progress) → Seen family start old None old start
seen_begin family start old = record { seen = []; goes = goes_begin (entry_behind_at family old.count) start; last = refl; grown = grows_not old }

-- behind an entry less remains
pub entry_shorter : (family : AddressFamily) (count : ℕ) (before : Option RoaEntry) (p : Place) (e : RoaEntry) (q : Place) → entry_at family count before p ≡ Ok (e, q) → length q.rest < length p.rest
unfolding entry_at
entry_shorter family count before p e q h = sequence_shorter (too_many_rules count) (valued_at entry_of (read_member (address_at family) maximum_at)) (order_rules before) p e q h

module _ (family : AddressFamily) (start : Place) (old : Progress) (before : Option RoaEntry) (now : Progress) (here : Place) (s : Seen family start old before now here) where
  -- the entry here is read behind those before it
  read_is : entry_behind_at family old.count s.seen here ≡ entry_at family now.count before here
  read_is = ap (λ (n : ℕ). entry_at family n (last_or None s.seen) here) (sym s.grown.counted) ∙ ap (λ (b : Option RoaEntry). entry_at family now.count b here) (sym s.last)

  -- one entry more
  pub seen_on : (e : RoaEntry) (next : Place) (later : Progress) → here.rest ≢ [] → entry_at family now.count before here ≡ Ok (e, next) → Grows now later (e ∷ []) → Seen family start old (Some e) later next
  seen_on e next later more read g = record {
    seen = s.seen ++ e ∷ [];
    goes = goes_on (entry_behind_at family old.count) start s.seen here s.goes e next more (read_is ∙ read) (entry_shorter family now.count before here e next read);
    last = sym (last_is None s.seen e);
    grown = grows_on old now later s.seen (e ∷ []) s.grown g;
  }

  -- a fault
  pub seen_wrong : (f : Fault) → here.rest ≢ [] → entry_at family now.count before here ≡ Err f → read_each (entry_behind_at family old.count) start ≡ Err f
  seen_wrong f more read = goes_wrong (entry_behind_at family old.count) start s.seen here s.goes f more (read_is ∙ read)

  -- the end
  pub seen_out : here.rest ≡ [] → read_each (entry_behind_at family old.count) start ≡ Ok s.seen
  seen_out e = goes_out (entry_behind_at family old.count) start s.seen here s.goes e

module _ (p inner next : Place) (first : Family × Place) (family : AddressFamily) (q : Place) (old mid new : Progress) where
  -- the second family is read behind the first
  second_is : (r : Result (Option Family) Fault) → old.count ≡ 0 → Grows old mid first.0.1 → (first.0.0 ≡ family) × (first.1 ≡ q)
      → optional_at (ip_family_at (Some family) mid.count) q ≡ r → optional_at (ip_family_at (Some first.0.0) (length first.0.1)) first.1 ≡ r
  second_is r none g same h =
      let count : length first.0.1 ≡ mid.count = omega (arith, g.counted, none) in
      ap (λ (n : ℕ). optional_at (ip_family_at (Some first.0.0) n) first.1) count
      ∙ ap (λ (f : AddressFamily). optional_at (ip_family_at (Some f) mid.count) first.1) same.0
      ∙ ap (optional_at (ip_family_at (Some family) mid.count)) same.1 ∙ h

  -- The families: the first one came, and then those behind it.
  pub blocks_are : (result : Result (Unit {0}) GrammarFault) → element_at 48 p ≡ Ok (inner, next) → inner.rest ≢ [] → old.count ≡ 0
      → ip_family_at None old.count inner ≡ Ok first → (first.0.0 ≡ family) × (first.1 ≡ q) → Grows old mid first.0.1
      → ListsEntries (λ _ _. ⊤) entries_of result mid new (optional_at (ip_family_at (Some family) mid.count) q)
      → ListsEntries (λ _ read. read.1 ≡ next) (λ read. all_entries read.0) result old new (blocks_at p)
  unfolding blocks_at
  blocks_are (Ok _) opened more none read same g h =
      let first_is : ip_family_at None 0 inner ≡ Ok first = ap (λ (n : ℕ). ip_family_at None n inner) (sym none) ∙ read in
      (((first.0, h.0), next), rw (opened, ne_eqb (length inner.rest) 0 (λ n. more (nil_from_length inner.rest n)), first_is, second_is (Ok h.0) none g same h.1) refl, refl, grows_on old mid new first.0.1 (entries_of h.0) g h.3)
  blocks_are (Err e) opened more none read same g h =
      let first_is : ip_family_at None 0 inner ≡ Ok first = ap (λ (n : ℕ). ip_family_at None n inner) (sym none) ∙ read in
      rw (opened, ne_eqb (length inner.rest) 0 (λ n. more (nil_from_length inner.rest n)), first_is, second_is (Err (grammar_fault_of e)) none g same h) refl
