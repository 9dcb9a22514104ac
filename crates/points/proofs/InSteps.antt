-- How an offer is judged, and how it is judged step by step, are one.
use Rattle.std.proofs.Common.{◌≡◌, ◌⊎◌, ℕ, suc, ◌+◌, Bool, true, false, List, [], ◌∷◌, ◌++◌, length, Option, Some, None, refl, sym, ap, subst, ◌∙◌, inl, inr, arith}
use Rattle.std.specs.List.{All}
use Rattle.std.proofs.lemmas.List.Elements.{All-nil, All-cons, All-head, All-tail}
use Rattle.der_lite.specs.Place.{Fault}
use Rattle.der_lite.specs.Moments.{CivilMoment}
use Rattle.payloads.specs.Manifest.{ListedFile}
use Rattle.payloads.specs.RoaValues.{RoaValue, RoaSpells}
use Rattle.points.specs.declared.file.FileIn.{FileIn}
use Rattle.points.specs.Files.{is_roa_name, file_named, has_hash}
use Rattle.points.specs.Accepted.{Accepted}
use Rattle.points.specs.Offers.{OfferJudgement, New, Missing, HashDiffers, BadRoa, first_that_holds, tests, IsRight, HasOtherHash, HasBadRoa, IsWrong, FromFiles, Judged, unspelled, by_test, by_files}
use Rattle.points.specs.OfferSteps.{Decided, AtContent, AtHash, AtFile, FromFile, JudgedInSteps}

content_splits : (i : ℕ) (b : Bool) (listed : ListedFile) (files : List FileIn) (file : FileIn) (j : OfferJudgement) (Later : Type 0) → is_roa_name listed.name ≡ b → file_named listed.name files ≡ Some file → has_hash listed file ≡ true
    → AtContent i b file.content.now j Later → IsWrong files i listed j ⊎ (IsRight files listed × Later)
content_splits i false listed files file j Later r n h a = inr (record { file = file; named = n; hashed = h; spelled = λ t. absurd (let e : true ≡ false = sym t ∙ r in cc) }, a)
content_splits i true listed files file j Later r n h a = elim a [
  | inl bad ↦ inl (subst (λ (k : OfferJudgement). IsWrong files i listed k) (sym bad.2) (refl, record { file = file; named = n; hashed = h; is_roa = r; first = bad.1 }))
  | inr good ↦ inr (record { file = file; named = n; hashed = h; spelled = λ t. good.0 }, good.1)
]

hash_splits : (i : ℕ) (b : Bool) (listed : ListedFile) (files : List FileIn) (file : FileIn) (j : OfferJudgement) (Later : Type 0) → has_hash listed file ≡ b → file_named listed.name files ≡ Some file
    → AtHash i b j (AtContent i (is_roa_name listed.name) file.content.now j Later) → IsWrong files i listed j ⊎ (IsRight files listed × Later)
hash_splits i false listed files file j Later h n a = inl (subst (λ (k : OfferJudgement). IsWrong files i listed k) (sym a) (refl, record { file = file; named = n; differs = h }))
hash_splits i true listed files file j Later h n a = content_splits i (is_roa_name listed.name) listed files file j Later refl n h a

file_splits : (i : ℕ) (listed : ListedFile) (files : List FileIn) (r : Option FileIn) (j : OfferJudgement) (Later : Type 0) → file_named listed.name files ≡ r
    → AtFile i listed r j Later → IsWrong files i listed j ⊎ (IsRight files listed × Later)
file_splits i listed files None j Later n a = inl (subst (λ (k : OfferJudgement). IsWrong files i listed k) (sym a) (refl, n))
file_splits i listed files (Some file) j Later n a = hash_splits i (has_hash listed file) listed files file j Later refl n a

later : (i : ℕ) (l : ListedFile) (others : List ListedFile) (files : List FileIn) (j : OfferJudgement) → IsRight files l → FromFiles (suc i) others files j → FromFiles i (l ∷ others) files j
later i l others files j r f = elim f [
  | inl w ↦ inl (record {
    right = l ∷ w.right;
    wrong = w.wrong;
    others = w.others;
    parts = ap (λ (x : List ListedFile). l ∷ x) w.parts;
    before = All-cons (IsRight files) l w.right r w.before;
    is = subst (λ (k : ℕ). IsWrong files k w.wrong j) (let e : suc i + length w.right ≡ i + length (l ∷ w.right) = omega arith in e) w.is;
  })
  | inr n ↦ inr (All-cons (IsRight files) l others r n.0, n.1)
]

pub to_first : (i : ℕ) (listed : List ListedFile) (files : List FileIn) (j : OfferJudgement) → FromFile i listed files j → FromFiles i listed files j
to_first i [] files j a = inr (All-nil (IsRight files), a)
to_first i (l ∷ others) files j a = elim (file_splits i l files (file_named l.name files) j (FromFile (suc i) others files j) refl a) [
  | inl w ↦ inl (record { right = []; wrong = l; others = others; parts = refl; before = All-nil (IsRight files); is = subst (λ (k : ℕ). IsWrong files k l j) (let e : i ≡ i + length {A = ListedFile} [] = omega arith in e) w })
  | inr r ↦ later i l others files j r.0 (to_first (suc i) others files j r.1)
]

bad_at : (i n : ℕ) (fault : Fault) (listed : ListedFile) (files : List FileIn) (Later : Type 0) → n ≡ i → HasBadRoa files listed fault → AtFile i listed (file_named listed.name files) (BadRoa n fault) Later
bad_at i n fault listed files Later e w =
    let content : AtContent i true w.file.content.now (BadRoa n fault) Later = inl (fault, w.first, ap (λ (k : ℕ). BadRoa k fault) e) in
    subst (λ (r : Option FileIn). AtFile i listed r (BadRoa n fault) Later) (sym w.named)
    (subst (λ (b : Bool). AtHash i b (BadRoa n fault) (AtContent i (is_roa_name listed.name) w.file.content.now (BadRoa n fault) Later)) (sym w.hashed)
    (subst (λ (b : Bool). AtContent i b w.file.content.now (BadRoa n fault) Later) (sym w.is_roa) content))

other_at : (i n : ℕ) (listed : ListedFile) (files : List FileIn) (Later : Type 0) → n ≡ i → HasOtherHash files listed → AtFile i listed (file_named listed.name files) (HashDiffers n) Later
other_at i n listed files Later e w =
    subst (λ (r : Option FileIn). AtFile i listed r (HashDiffers n) Later) (sym w.named)
    (subst (λ (b : Bool). AtHash i b (HashDiffers n) (AtContent i (is_roa_name listed.name) w.file.content.now (HashDiffers n) Later)) (sym w.differs) (ap (λ (k : ℕ). HashDiffers k) e))

missing_at : (i n : ℕ) (listed : ListedFile) (files : List FileIn) (Later : Type 0) → n ≡ i → file_named listed.name files ≡ None → AtFile i listed (file_named listed.name files) (Missing n) Later
missing_at i n listed files Later e w = subst (λ (r : Option FileIn). AtFile i listed r (Missing n) Later) (sym w) (ap (λ (k : ℕ). Missing k) e)

wrong_at : (i : ℕ) (listed : ListedFile) (files : List FileIn) (j : OfferJudgement) (Later : Type 0) → IsWrong files i listed j → AtFile i listed (file_named listed.name files) j Later
wrong_at i listed files (Missing n) Later w = missing_at i n listed files Later w.0 w.1
wrong_at i listed files (HashDiffers n) Later w = other_at i n listed files Later w.0 w.1
wrong_at i listed files (BadRoa n fault) Later w = bad_at i n fault listed files Later w.0 w.1
wrong_at i listed files j Later w = absurd w

right_content : (i : ℕ) (b : Bool) (content : List ℕ) (j : OfferJudgement) (Later : Type 0) → (b ≡ true → (roa : RoaValue) × RoaSpells roa content) → Later → AtContent i b content j Later
right_content i false content j Later s l = l
right_content i true content j Later s l = inr (s refl, l)

right_at : (i : ℕ) (listed : ListedFile) (files : List FileIn) (j : OfferJudgement) (Later : Type 0) → IsRight files listed → Later → AtFile i listed (file_named listed.name files) j Later
right_at i listed files j Later r l =
    subst (λ (o : Option FileIn). AtFile i listed o j Later) (sym r.named)
    (subst (λ (b : Bool). AtHash i b j (AtContent i (is_roa_name listed.name) r.file.content.now j Later)) (sym r.hashed)
    (right_content i (is_roa_name listed.name) r.file.content.now j Later r.spelled l))

from_wrong : (i : ℕ) (right : List ListedFile) (wrong : ListedFile) (others : List ListedFile) (files : List FileIn) (j : OfferJudgement)
    → All (IsRight files) right → IsWrong files (i + length right) wrong j → FromFile i (right ++ wrong ∷ others) files j
from_wrong i [] wrong others files j a w =
    wrong_at i wrong files j (FromFile (suc i) others files j) (subst (λ (k : ℕ). IsWrong files k wrong j) (let e : i + length {A = ListedFile} [] ≡ i = omega arith in e) w)
from_wrong i (l ∷ right) wrong others files j a w =
    right_at i l files j (FromFile (suc i) (right ++ wrong ∷ others) files j) (All-head (IsRight files) l right a)
    (from_wrong (suc i) right wrong others files j (All-tail (IsRight files) l right a) (subst (λ (k : ℕ). IsWrong files k wrong j) (let e : i + length (l ∷ right) ≡ suc i + length right = omega arith in e) w))

from_right : (i : ℕ) (listed : List ListedFile) (files : List FileIn) (j : OfferJudgement) → All (IsRight files) listed → j ≡ New → FromFile i listed files j
from_right i [] files j a e = e
from_right i (l ∷ others) files j a e =
    right_at i l files j (FromFile (suc i) others files j) (All-head (IsRight files) l others a) (from_right (suc i) others files j (All-tail (IsRight files) l others a) e)

pub from_first : (i : ℕ) (listed : List ListedFile) (files : List FileIn) (j : OfferJudgement) → FromFiles i listed files j → FromFile i listed files j
from_first i listed files j f = elim f [
  | inl w ↦ subst (λ (l : List ListedFile). FromFile i l files j) (sym w.parts) (from_wrong i w.right w.wrong w.others files j w.before w.is)
  | inr n ↦ from_right i listed files j n.0 n.1
]

split_decided : (o : Option OfferJudgement) (j : OfferJudgement) (Later : Type 0) → Decided o j Later → (o ≡ Some j) ⊎ ((o ≡ None) × Later)
split_decided (Some k) j Later d = inl (ap (λ (x : OfferJudgement). Some x) (sym d))
split_decided None j Later d = inr (refl, d)

pub judged_so : (before : Option Accepted) (bytes : List ℕ) (files : List FileIn) (now : CivilMoment) (j : OfferJudgement) → JudgedInSteps before bytes files now j → Judged before bytes files now j
unfolding JudgedInSteps
judged_so before bytes files now j d = elim d [
  | inl u ↦ unspelled u.0 u.1 u.2
  | inr s ↦ elim (split_decided (first_that_holds (tests before s.0 bytes files now)) j (FromFile 0 s.0.files files j) s.2) [
    | inl t ↦ by_test s.0 s.1 t
    | inr f ↦ by_files s.0 s.1 f.0 (to_first 0 s.0.files files j f.1)
  ]
]

test_decided : (o : Option OfferJudgement) (j : OfferJudgement) (Later : Type 0) → o ≡ Some j → Decided o j Later
test_decided o j Later e = subst (λ (r : Option OfferJudgement). Decided r j Later) (sym e) refl

none_decided : (o : Option OfferJudgement) (j : OfferJudgement) (Later : Type 0) → o ≡ None → Later → Decided o j Later
none_decided o j Later e l = subst (λ (r : Option OfferJudgement). Decided r j Later) (sym e) l

pub judged_in_steps : (before : Option Accepted) (bytes : List ℕ) (files : List FileIn) (now : CivilMoment) (j : OfferJudgement) → Judged before bytes files now j → JudgedInSteps before bytes files now j
unfolding JudgedInSteps
judged_in_steps before bytes files now j (unspelled fault at is) = inl (fault, at, is)
judged_in_steps before bytes files now j (by_test m s t) = inr (m, s, test_decided (first_that_holds (tests before m bytes files now)) j (FromFile 0 m.files files j) t)
judged_in_steps before bytes files now j (by_files m s n f) = inr (m, s, none_decided (first_that_holds (tests before m bytes files now)) j (FromFile 0 m.files files j) n (from_first 0 m.files files j f))
