-- No offer has two judgements.
use Rattle.std.proofs.Common.{◌≡◌, ℕ, suc, Bool, true, false, List, [], ◌∷◌, Option, Some, None, sym, ap, subst, ◌∙◌, inl, inr}
use Rattle.der_lite.specs.Place.{Fault}
use Rattle.payloads.specs.Manifest.{ListedFile, ManifestValue}
use Rattle.payloads.proofs.RoaLaws.{roa_faults}
use Rattle.payloads.proofs.ManifestLaws.{manifest_faults, manifest_spellings}
use Rattle.points.specs.declared.file.FileIn.{FileIn}
use Rattle.points.specs.Files.{is_roa_name, file_named, has_hash}
use Rattle.points.specs.Offers.{OfferJudgement, BadManifest, BadRoa, first_that_holds, tests}
use Rattle.points.specs.OfferSteps.{Decided, AtContent, AtHash, AtFile, FromFile, JudgedInSteps}
use Rattle.points.proofs.InSteps.{judged_in_steps}
use Rattle.points.specs.PointLaws.{OneJudgement}

fault_is : (f g : Fault) → f.offset ≡ g.offset → f.number ≡ g.number → f ≡ g
fault_is f g o n = ap (λ (k : ℕ). record { number = k; offset = f.offset }) n ∙ ap (λ (k : ℕ). record { number = g.number; offset = k }) o

decided_one : (r : Option OfferJudgement) (j k : OfferJudgement) (A B : Type 0) → (A → B → j ≡ k) → Decided r j A → Decided r k B → j ≡ k
decided_one (Some x) j k A B f a b = a ∙ sym b
decided_one None j k A B f a b = f a b

content_one : (i : ℕ) (b : Bool) (content : List ℕ) (j k : OfferJudgement) (A B : Type 0) → (A → B → j ≡ k) → AtContent i b content j A → AtContent i b content k B → j ≡ k
content_one i false content j k A B f a b = f a b
content_one i true content j k A B f a b =
    elim a [
      | inl x ↦ elim b [
        | inl y ↦
            let e = roa_faults.0 content x.0.offset y.0.offset x.0.number y.0.number x.1 y.1 in
            x.2 ∙ ap (λ (t : Fault). BadRoa i t) (fault_is x.0 y.0 e.0 e.1) ∙ sym y.2
        | inr y ↦ absurd (roa_faults.1 content x.0.offset x.0.number y.0.0 x.1 y.0.1)
      ]
      | inr x ↦ elim b [
        | inl y ↦ absurd (roa_faults.1 content y.0.offset y.0.number x.0.0 y.1 x.0.1)
        | inr y ↦ f x.1 y.1
      ]
    ]

hash_one : (i : ℕ) (b : Bool) (j k : OfferJudgement) (A B : Type 0) → (A → B → j ≡ k) → AtHash i b j A → AtHash i b k B → j ≡ k
hash_one i true j k A B f a b = f a b
hash_one i false j k A B f a b = a ∙ sym b

file_one : (i : ℕ) (l : ListedFile) (r : Option FileIn) (j k : OfferJudgement) (A B : Type 0) → (A → B → j ≡ k) → AtFile i l r j A → AtFile i l r k B → j ≡ k
file_one i l None j k A B f a b = a ∙ sym b
file_one i l (Some g) j k A B f a b =
    hash_one i (has_hash l g) j k (AtContent i (is_roa_name l.name) g.content.now j A) (AtContent i (is_roa_name l.name) g.content.now k B)
    (content_one i (is_roa_name l.name) g.content.now j k A B f) a b

files_one : (i : ℕ) (listed : List ListedFile) (files : List FileIn) (j k : OfferJudgement) → FromFile i listed files j → FromFile i listed files k → j ≡ k
files_one i [] files j k a b = a ∙ sym b
files_one i (l ∷ others) files j k a b =
    file_one i l (file_named l.name files) j k (FromFile (suc i) others files j) (FromFile (suc i) others files k) (files_one (suc i) others files j k) a b

pub one_judged : OneJudgement
unfolding JudgedInSteps
one_judged before bytes files now j k a b =
    elim (judged_in_steps before bytes files now j a) [
      | inl x ↦ elim (judged_in_steps before bytes files now k b) [
        | inl y ↦
            let e = manifest_faults.0 bytes x.0.offset y.0.offset x.0.number y.0.number x.1 y.1 in
            x.2 ∙ ap (λ (t : Fault). BadManifest t) (fault_is x.0 y.0 e.0 e.1) ∙ sym y.2
        | inr y ↦ absurd (manifest_faults.1 bytes x.0.offset x.0.number y.0 x.1 y.1)
      ]
      | inr x ↦ elim (judged_in_steps before bytes files now k b) [
        | inl y ↦ absurd (manifest_faults.1 bytes y.0.offset y.0.number x.0 y.1 x.1)
        | inr y ↦
            let same : x.0 ≡ y.0 = manifest_spellings.1 bytes x.0 y.0 x.1 y.1 in
            let c : Decided (first_that_holds (tests before y.0 bytes files now)) j (FromFile 0 y.0.files files j) =
            subst (λ (m : ManifestValue). Decided (first_that_holds (tests before m bytes files now)) j (FromFile 0 m.files files j)) same x.2 in
            decided_one (first_that_holds (tests before y.0 bytes files now)) j k (FromFile 0 y.0.files files j) (FromFile 0 y.0.files files k) (files_one 0 y.0.files files j k) c y.2
      ]
    ]
