-- The listed files, one after the other.
use Rattle.std.proofs.Common.{◌≡◌, ℕ, suc, ◌+◌, ◌<◌, Bool, true, false, cond, get_or, take, drop, List, [], ◌∷◌, ◌++◌, length, Option, Some, None, IfSome, MatchOption, append-nil, sym, ap, subst, ◌∙◌, inl, inr, arith}
use Rattle.std.specs.List.{AllZip}
use Rattle.std.specs.Option.{option_to_list}
use Rattle.std.proofs.lemmas.List.{drop_more}
use Rattle.std.proofs.lemmas.List.Elements.{filter_more}
use Rattle.der_lite.specs.Place.{Fault}
use Rattle.payloads.specs.Manifest.{ListedFile}
use Rattle.payloads.specs.RoaValues.{RoaValue, RoaSpells, RoaFaultAt}
use Rattle.points.specs.declared.file.FileIn.{FileIn}
use Rattle.points.specs.declared.fault.PointFault.{PointFault}
use Rattle.points.specs.Files.{is_roa_name, file_named, has_hash}
use Rattle.points.specs.Accepted.{IsRoaOf, listed_roas}
use Rattle.points.specs.Answers.{told_by_fault}
use Rattle.points.specs.Offers.{OfferJudgement, BadRoa}
use Rattle.points.specs.OfferSteps.{AtContent, AtFile, AtHash, FromFile, Tells}
use Rattle.points.proofs.Named.{found}

weaker : (o : Option OfferJudgement) (P Q : OfferJudgement → Type 0) → ((j : OfferJudgement) → P j → Q j) → IfSome o P → IfSome o Q
weaker None P Q f h = h
weaker (Some j) P Q f h = f j h

-- what a fault reports, from what it reports
pub tells : (fault : PointFault) (P Q : OfferJudgement → Type 0) → ((j : OfferJudgement) → P j → Q j) → Tells fault P → Tells fault Q
tells fault P Q f h = weaker (told_by_fault fault) P Q f h

module _ (i : ℕ) (listed : ListedFile) (files : List FileIn) (file : FileIn) (named : file_named listed.name files ≡ Some file) (hashed : has_hash listed file ≡ true) (ends : is_roa_name listed.name ≡ true) where
  at_roa : (j : OfferJudgement) (Later : Type 0) → AtContent i true file.content.now j Later → AtFile i listed (file_named listed.name files) j Later
  at_roa j Later a =
      subst (λ (r : Option FileIn). AtFile i listed r j Later) (sym named)
      (subst (λ (b : Bool). AtHash i b j (AtContent i (is_roa_name listed.name) file.content.now j Later)) (sym hashed)
      (subst (λ (b : Bool). AtContent i b file.content.now j Later) (sym ends) a))

  pub goes_on : (roa : RoaValue) → RoaSpells roa file.content.now → (others : List ListedFile) (j : OfferJudgement) → FromFile (suc i) others files j → FromFile i (listed ∷ others) files j
  goes_on roa spelled others j later = at_roa j (FromFile (suc i) others files j) (inr ((roa, spelled), later))

  pub stops : (fault : PointFault) → Tells fault (λ j. (first : Fault) × RoaFaultAt file.content.now first.offset first.number × (j ≡ BadRoa i first))
      → Tells fault (λ j. (others : List ListedFile) → FromFile i (listed ∷ others) files j)
  stops fault h = tells fault (λ j. (first : Fault) × RoaFaultAt file.content.now first.offset first.number × (j ≡ BadRoa i first)) (λ j. (others : List ListedFile) → FromFile i (listed ∷ others) files j)
      (λ j bad others. at_roa j (FromFile (suc i) others files j) (inl bad)) h

  pub is_roa : (roa : RoaValue) → RoaSpells roa file.content.now → IsRoaOf files listed roa
  is_roa roa spelled = let f = found listed.name files file named in record { file = file; among = f.0; named = f.1; spelled = spelled }

-- ---- one file more

zip_push : {A B : Type 0} (R : A → B → Type 0) (xs : List A) (ys : List B) (x : A) (y : B) → AllZip R xs ys → R x y → AllZip R (xs ++ x ∷ []) (ys ++ y ∷ [])
zip_push R [] [] x y h r = (r, tt)
zip_push R [] (b ∷ ys) x y h r = absurd h
zip_push R (a ∷ xs) [] x y h r = absurd h
zip_push R (a ∷ xs) (b ∷ ys) x y h r = (h.0, zip_push R xs ys x y h.1 r)

module _ (listed : List ListedFile) (i : ℕ) (item : ListedFile) (is : item ≡ get_or listed i item) (within : i < length listed) (files : List FileIn) where
  split : drop i listed ≡ item ∷ drop (i + 1) listed
  split = drop_more listed i item within ∙ ap (λ (l : ListedFile). l ∷ drop (i + 1) listed) (sym is)

  pub from_here : (j : OfferJudgement) → FromFile i (item ∷ drop (i + 1) listed) files j → FromFile i (drop i listed) files j
  from_here j h = subst (λ (l : List ListedFile). FromFile i l files j) (sym split) h

  next : i + 1 ≡ suc i
  next = omega arith

  pub from_next : (j : OfferJudgement) → ((others : List ListedFile) (j : OfferJudgement) → FromFile (suc i) others files j → FromFile i (item ∷ others) files j)
      → FromFile (i + 1) (drop (i + 1) listed) files j → FromFile i (drop i listed) files j
  from_next j on h = from_here j (on (drop (i + 1) listed) j (subst (λ (n : ℕ). FromFile n (drop (i + 1) listed) files j) next h))

  roas_more : (b : Bool) → is_roa_name item.name ≡ b → listed_roas (take (i + 1) listed) ≡ listed_roas (take i listed) ++ cond b (item ∷ []) []
  roas_more b e =
      filter_more (λ file. is_roa_name file.name) listed i item within
      ∙ ap (λ (l : ListedFile). listed_roas (take i listed) ++ cond (is_roa_name l.name) (l ∷ []) []) (sym is)
      ∙ ap (λ (t : Bool). listed_roas (take i listed) ++ cond t (item ∷ []) []) e

  -- the ROA of this file, if it is one
  abbrev pub IsNext : Option RoaValue → Type 0
  IsNext roa = MatchOption roa (is_roa_name item.name ≡ false) (λ r. (is_roa_name item.name ≡ true) × IsRoaOf files item r)

  pub one_more : (roas : List RoaValue) (roa : Option RoaValue) → IsNext roa → AllZip (IsRoaOf files) (listed_roas (take i listed)) roas → AllZip (IsRoaOf files) (listed_roas (take (i + 1) listed)) (roas ++ option_to_list roa)
  one_more roas None e h = subst (λ (l : List ListedFile). AllZip (IsRoaOf files) l (roas ++ [])) (sym (roas_more false e ∙ append-nil (listed_roas (take i listed)))) (subst (λ (rs : List RoaValue). AllZip (IsRoaOf files) (listed_roas (take i listed)) rs) (sym (append-nil roas)) h)
  one_more roas (Some roa) e h = subst (λ (l : List ListedFile). AllZip (IsRoaOf files) l (roas ++ roa ∷ [])) (sym (roas_more true e.0)) (zip_push (IsRoaOf files) (listed_roas (take i listed)) roas item roa h e.1)
