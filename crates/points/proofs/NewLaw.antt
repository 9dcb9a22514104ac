-- An offer is judged New exactly if it is acceptable.
use Rattle.std.proofs.Common.{◌≡◌, ◌≢◌, ℕ, suc, Bool, true, false, leb, get_or, bytes_eq, List, [], ◌∷◌, ◌++◌, Option, Some, None, refl, sym, ap, subst, ◌∙◌, inl, inr, arith}
use Rattle.std.specs.List.{All, Contains}
use Rattle.std.proofs.lemmas.Bool.{not-false, not_from_true, or_parts, or_from, leb-false, leb-true, false_from_ne_true}
use Rattle.std.proofs.lemmas.Slice.Eq.{bytes_eq-Decides}
use Rattle.std.proofs.lemmas.List.Elements.{All-nil, All-cons, All-head, All-tail, All-weaker, All-contains}
use Rattle.std.proofs.lemmas.List.Kept.{AllPairs-cons}
use Rattle.sha2.specs.Sha256.{sha256}
use Rattle.der_lite.specs.Der.{number}
use Rattle.der_lite.specs.Moments.{CivilMoment, moment_before}
use Rattle.payloads.specs.Manifest.{ListedFile, ManifestValue, ManifestSpells}
use Rattle.payloads.specs.RoaValues.{RoaValue, RoaSpells}
use Rattle.payloads.proofs.ManifestLaws.{manifest_spellings}
use Rattle.points.specs.declared.file.FileIn.{FileIn}
use Rattle.points.specs.Files.{is_roa_name, is_named, file_named, has_hash}
use Rattle.points.specs.Accepted.{Accepted, IsPoint}
use Rattle.points.specs.Offers.{IsAbove, ShareNoName, Serves, Acceptable, OfferJudgement, New, Same, NotYet, Stale, OldNumber, OldTime, FileTwice, first_that_holds, is_same_manifest, is_old_number, is_old_time, twice_tests, tests}
use Rattle.points.specs.OfferSteps.{Decided, AtContent, AtHash, AtFile, FromFile, JudgedInSteps}
use Rattle.points.proofs.InSteps.{judged_in_steps, judged_so}
use Rattle.points.specs.PointLaws.{NewWhereAcceptable}
use Rattle.points.proofs.Named.{differs, not_equal, contains_cases, named_more, found}

-- ---- the tests

-- none of the tests answers New
abbrev NeverNew : List (OfferJudgement × Bool) → Type 0
NeverNew [] = Unit {0}
NeverNew ((j, holds) ∷ ts) = (New ≢ j) × NeverNew ts

new_is_last : (ts : List (OfferJudgement × Bool)) (Later : Type 0) → NeverNew ts → Decided (first_that_holds ts) New Later → (first_that_holds ts ≡ None) × Later
new_is_last [] Later n d = (refl, d)
new_is_last ((j, true) ∷ ts) Later n d = absurd (n.0 d)
new_is_last ((j, false) ∷ ts) Later n d = new_is_last ts Later n.1 d

pub first_none : (j : OfferJudgement) (b : Bool) (ts : List (OfferJudgement × Bool)) → first_that_holds ((j, b) ∷ ts) ≡ None → (b ≡ false) × (first_that_holds ts ≡ None)
first_none j true ts h = absurd cc
first_none j false ts h = (refl, h)

pub none_first : (j : OfferJudgement) (b : Bool) (ts : List (OfferJudgement × Bool)) → b ≡ false → first_that_holds ts ≡ None → first_that_holds ((j, b) ∷ ts) ≡ None
none_first j true ts e h = absurd cc
none_first j false ts e h = h

twice_never : (i : ℕ) (earlier files : List FileIn) → NeverNew (twice_tests i earlier files)
twice_never i earlier [] = tt
twice_never i earlier (f ∷ files) = (not_twice i, twice_never (suc i) (earlier ++ f ∷ []) files)
  where
    not_twice : (i : ℕ) → New ≢ FileTwice i
    not_twice i e = cc

-- ---- names

-- the file's name is none of these
abbrev IsFresh : List FileIn → FileIn → Type 0
IsFresh earlier file = is_named file.name.now earlier ≡ false

-- the names differ
abbrev Differ : FileIn → FileIn → Type 0
Differ file other = file.name.now ≢ other.name.now

no_pairs : ShareNoName []
no_pairs i j d l h = absurd (omega (arith, h))

none_twice : (i : ℕ) (earlier files : List FileIn) → first_that_holds (twice_tests i earlier files) ≡ None → All (IsFresh earlier) files × ShareNoName files
none_twice i earlier [] h = (All-nil (IsFresh earlier), no_pairs)
none_twice i earlier (f ∷ files) h =
    let k = first_none (FileTwice i) (is_named f.name.now earlier) (twice_tests (suc i) (earlier ++ f ∷ []) files) h in
    let r = none_twice (suc i) (earlier ++ f ∷ []) files k.1 in
    let parts : (g : FileIn) → IsFresh (earlier ++ f ∷ []) g → IsFresh earlier g × (bytes_eq f.name.now g.name.now ≡ false) =
    λ g e. or_parts (is_named g.name.now earlier) (bytes_eq f.name.now g.name.now) (sym (named_more g.name.now earlier f) ∙ e) in (
      All-cons (IsFresh earlier) f files k.0 (All-weaker (IsFresh (earlier ++ f ∷ [])) (IsFresh earlier) (λ g e. (parts g e).0) files r.0),
      AllPairs-cons Differ f files (All-weaker (IsFresh (earlier ++ f ∷ [])) (Differ f) (λ g e. differs f.name.now g.name.now (parts g e).1) files r.0) r.1,
    )

apart_first : (f : FileIn) (files : List FileIn) → ShareNoName (f ∷ files) → All (Differ f) files
apart_first f files s k d l = s 0 (suc k) d (omega arith) (omega (arith, l))

apart_later : (f : FileIn) (files : List FileIn) → ShareNoName (f ∷ files) → ShareNoName files
apart_later f files s i j d l h = s (suc i) (suc j) d (omega (arith, l)) (omega (arith, h))

never_twice : (i : ℕ) (earlier files : List FileIn) → All (IsFresh earlier) files → ShareNoName files → first_that_holds (twice_tests i earlier files) ≡ None
never_twice i earlier [] e s = refl
never_twice i earlier (f ∷ files) e s =
    none_first (FileTwice i) (is_named f.name.now earlier) (twice_tests (suc i) (earlier ++ f ∷ []) files) (All-head (IsFresh earlier) f files e)
    (never_twice (suc i) (earlier ++ f ∷ []) files fresh (apart_later f files s))
  where
    fresh : All (IsFresh (earlier ++ f ∷ [])) files
    fresh k d l =
        let g = get_or files k d in
        named_more g.name.now earlier f ∙ or_from (is_named g.name.now earlier) (bytes_eq f.name.now g.name.now) (All-tail (IsFresh earlier) f files e k d l) (not_equal f.name.now g.name.now (apart_first f files s k d l))

-- if no two share a name, the name of a file finds it
finds : (name : List ℕ) (files : List FileIn) (f : FileIn) → Contains files f → f.name.now ≡ name → ShareNoName files → file_named name files ≡ Some f
finds name [] f c n s = absurd (omega (arith, c.1))
finds name (g ∷ files) f c n s =
    elim (contains_cases f g files c) [
      | inl here ↦
          let t : bytes_eq g.name.now name ≡ true = (bytes_eq-Decides g.name.now name).1 (ap (λ (x : FileIn). x.name.now) here ∙ n) in
          rw t (ap (λ (x : FileIn). Some x) here)
      | inr later ↦
          let other : g.name.now ≢ f.name.now = All-contains (Differ g) files f (apart_first g files s) later in
          let t : bytes_eq g.name.now name ≡ false = not_equal g.name.now name (λ e. other (e ∙ sym n)) in
          rw t (finds name files f later n (apart_later g files s))
    ]

-- ---- the listed files

at_hash : (i : ℕ) (b : Bool) (Later : Type 0) → AtHash i b New Later → (b ≡ true) × Later
at_hash i true Later j = (refl, j)
at_hash i false Later j = absurd cc

at_content : (i : ℕ) (b : Bool) (content : List ℕ) (Later : Type 0) → AtContent i b content New Later → (b ≡ true → (roa : RoaValue) × RoaSpells roa content) × Later
at_content i false content Later j = ((λ t. absurd cc), j)
at_content i true content Later j = elim j [ inl bad ↦ absurd (let h = bad.2 in cc) | inr good ↦ ((λ t. good.0), good.1) ]

at_file : (i : ℕ) (listed : ListedFile) (files : List FileIn) (r : Option FileIn) (Later : Type 0) → file_named listed.name files ≡ r → AtFile i listed r New Later → Serves files listed × Later
at_file i listed files None Later e j = absurd cc
at_file i listed files (Some f) Later e j =
    let w = found listed.name files f e in
    let h = at_hash i (has_hash listed f) (AtContent i (is_roa_name listed.name) f.content.now New Later) j in
    let c = at_content i (is_roa_name listed.name) f.content.now Later h.1 in
    (record { file = f; among = w.0; named = w.1; hashed = (bytes_eq-Decides (sha256 f.object.now) listed.hash).0 h.0; spelled = c.0 }, c.1)

files_serve : (i : ℕ) (listed : List ListedFile) (files : List FileIn) → FromFile i listed files New → All (Serves files) listed
files_serve i [] files j = All-nil (Serves files)
files_serve i (l ∷ others) files j =
    let a = at_file i l files (file_named l.name files) (FromFile (suc i) others files New) refl j in
    All-cons (Serves files) l others a.0 (files_serve (suc i) others files a.1)

content_serves : (i : ℕ) (b : Bool) (content : List ℕ) (Later : Type 0) → (b ≡ true → (roa : RoaValue) × RoaSpells roa content) → Later → AtContent i b content New Later
content_serves i false content Later s l = l
content_serves i true content Later s l = inr (s refl, l)

serve_files : (i : ℕ) (listed : List ListedFile) (files : List FileIn) → ShareNoName files → All (Serves files) listed → FromFile i listed files New
serve_files i [] files s e = refl
serve_files i (l ∷ others) files s e =
    let here : Serves files l = All-head (Serves files) l others e in
    let f = here.file in
    let Later : Type 0 = FromFile (suc i) others files New in
    let t : has_hash l f ≡ true = (bytes_eq-Decides (sha256 f.object.now) l.hash).1 here.hashed in
    subst (λ (r : Option FileIn). AtFile i l r New Later) (sym (finds l.name files f here.among here.named s))
    (subst (λ (b : Bool). AtHash i b New (AtContent i (is_roa_name l.name) f.content.now New Later)) (sym t)
    (content_serves i (is_roa_name l.name) f.content.now Later here.spelled (serve_files (suc i) others files s (All-tail (Serves files) l others e))))

-- ---- above what was accepted

above_from : (before : Option Accepted) (m : ManifestValue) → is_old_number before m ≡ false → is_old_time before m ≡ false → IsAbove before m
above_from None m n t = tt
above_from (Some last) m n t = (leb-false (number m.number) (number last.manifest.number) n, not-false (moment_before last.manifest.this_update m.this_update) t)

new_number : (before : Option Accepted) (m : ManifestValue) → IsAbove before m → is_old_number before m ≡ false
new_number None m a = refl
new_number (Some last) m a = false_from_ne_true (leb (number m.number) (number last.manifest.number)) (λ t. absurd (omega (arith, a.0, leb-true (number m.number) (number last.manifest.number) t)))

new_time : (before : Option Accepted) (m : ManifestValue) → IsAbove before m → is_old_time before m ≡ false
new_time None m a = refl
new_time (Some last) m a = not_from_true (moment_before last.manifest.this_update m.this_update) a.1

-- the bytes accepted last do not spell a higher number
not_same : (before : Option Accepted) (m : ManifestValue) (bytes : List ℕ) → IsPoint before → ManifestSpells m bytes → IsAbove before m → is_same_manifest before bytes ≡ false
not_same None m bytes p s a = refl
not_same (Some last) m bytes p s a =
    false_from_ne_true (bytes_eq last.bytes bytes) (λ t.
    let again : ManifestSpells last.manifest bytes = subst (λ (l : List ℕ). ManifestSpells last.manifest l) ((bytes_eq-Decides last.bytes bytes).0 t) p in
    let e = manifest_spellings.1 bytes last.manifest m again s in
    absurd (omega (arith, a.0, ap (λ (x : ManifestValue). number x.number) e)))

-- ---- both ways

module _ (before : Option Accepted) (m : ManifestValue) (bytes : List ℕ) (files : List FileIn) (now : CivilMoment) where
  abbrev from_time : List (OfferJudgement × Bool)
  from_time = (OldTime, is_old_time before m) ∷ twice_tests 0 [] files

  abbrev from_number : List (OfferJudgement × Bool)
  from_number = (OldNumber, is_old_number before m) ∷ from_time

  abbrev from_same : List (OfferJudgement × Bool)
  from_same = (Same, is_same_manifest before bytes) ∷ from_number

  abbrev from_stale : List (OfferJudgement × Bool)
  from_stale = (Stale, moment_before m.next_update now) ∷ from_same

never : (before : Option Accepted) (m : ManifestValue) (bytes : List ℕ) (files : List FileIn) (now : CivilMoment) → NeverNew (tests before m bytes files now)
unfolding tests
never before m bytes files now = (not_yet, (not_stale, (not_the_same, (not_number, (not_time, twice_never 0 [] files)))))
  where
    not_yet : New ≢ NotYet
    not_yet e = cc

    not_stale : New ≢ Stale
    not_stale e = cc

    not_the_same : New ≢ Same
    not_the_same e = cc

    not_number : New ≢ OldNumber
    not_number e = cc

    not_time : New ≢ OldTime
    not_time e = cc

accepts : (before : Option Accepted) (m : ManifestValue) (bytes : List ℕ) (files : List FileIn) (now : CivilMoment) → ManifestSpells m bytes → first_that_holds (tests before m bytes files now) ≡ None → FromFile 0 m.files files New → Acceptable before bytes files now
unfolding tests
accepts before m bytes files now s none names =
    let a = first_none NotYet (moment_before now m.this_update) (from_stale before m bytes files now) none in
    let b = first_none Stale (moment_before m.next_update now) (from_same before m bytes files now) a.1 in
    let c = first_none Same (is_same_manifest before bytes) (from_number before m bytes files now) b.1 in
    let d = first_none OldNumber (is_old_number before m) (from_time before m bytes files now) c.1 in
    let e = first_none OldTime (is_old_time before m) (twice_tests 0 [] files) d.1 in
    record {
      manifest = m;
      spelled = s;
      begun = a.0;
      current = b.0;
      above = above_from before m d.0 e.0;
      apart = (none_twice 0 [] files e.1).1;
      served = files_serve 0 m.files files names;
    }

none_hold : (before : Option Accepted) (bytes : List ℕ) (files : List FileIn) (now : CivilMoment) → IsPoint before → (a : Acceptable before bytes files now) → first_that_holds (tests before a.manifest bytes files now) ≡ None
unfolding tests
none_hold before bytes files now p a =
    let m = a.manifest in
    none_first NotYet (moment_before now m.this_update) (from_stale before m bytes files now) a.begun
    (none_first Stale (moment_before m.next_update now) (from_same before m bytes files now) a.current
    (none_first Same (is_same_manifest before bytes) (from_number before m bytes files now) (not_same before m bytes p a.spelled a.above)
    (none_first OldNumber (is_old_number before m) (from_time before m bytes files now) (new_number before m a.above)
    (none_first OldTime (is_old_time before m) (twice_tests 0 [] files) (new_time before m a.above)
    (never_twice 0 [] files (λ k d l. refl) a.apart)))))

pub new_law : NewWhereAcceptable
unfolding JudgedInSteps
new_law before bytes files now p = (
  (λ j. elim (judged_in_steps before bytes files now New j) [
    | inl b ↦ absurd (let h = b.2 in cc)
    | inr k ↦
        let n = new_is_last (tests before k.0 bytes files now) (FromFile 0 k.0.files files New) (never before k.0 bytes files now) k.2 in
        accepts before k.0 bytes files now k.1 n.0 n.1
  ]),
  (λ a. judged_so before bytes files now New (inr (
    a.manifest,
    a.spelled,
    subst (λ (r : Option OfferJudgement). Decided r New (FromFile 0 a.manifest.files files New)) (sym (none_hold before bytes files now p a)) (serve_files 0 a.manifest.files files a.apart a.served),
  ))),
)
