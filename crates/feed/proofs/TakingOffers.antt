-- Offers that are accepted one after the other.
use Rattle.std.specs.Prelude.{◌≡◌, ℕ, ◌+◌, ◌<◌, List, [], ◌∷◌, ◌++◌, length, take, drop, Some, Ok, IfSome, refl}
use Rattle.std.proofs.Common.{sym, subst, ap, ◌∙◌, get_or, inl, inr, arith}
use Rattle.std.proofs.lemmas.List.{drop_more, length-take-le, take-append-drop, take_more}
use Rattle.der_lite.specs.Moments.{CivilMoment}
use Rattle.points.specs.Answers.{BecomesAt, told_by, told_by_fault}
use Rattle.points.specs.InUse.{Points, no_points}
use Rattle.points.specs.Offers.{OfferJudgement}
use Rattle.points.specs.declared.fault.Offered.{Offered}
use Rattle.points.specs.declared.fault.Offered.TheVariants as offered
use Rattle.points.specs.declared.fault.PointFault.{PointFault}
use Rattle.points.specs.declared.fault.PointFault.TheVariants as faults
use Rattle.feed.specs.Feed.{AreTaken, IsOfferJudged, IsRefused, IsRefusedAt, IsOfferTaken}
use Rattle.feed.specs.Loopback.{told_at}
use Rattle.feed.specs.declared.offers.Offer.{Offer}

taken_more : (now : CivilMoment) (before between after : Points) (offers : List Offer) (offer : Offer) → AreTaken now before offers between → IsOfferTaken now between offer after → AreTaken now before (offers ++ offer ∷ []) after
taken_more now before between after [] offer are one = (after, subst (λ p. IsOfferTaken now p offer after) are one, refl)
taken_more now before between after (first ∷ offers) offer are one = (are.0, are.1, taken_more now are.0 between after offers offer are.2 one)

-- an offer of nothing
abbrev pub nothing : Offer
nothing = record { name = record { ref_ptr = (0, 0); now = [] }; manifest = record { ref_ptr = (0, 0); now = [] }; files = record { ref_ptr = (0, 0); now = [] } }

module _ (now : CivilMoment) (offers : List Offer) (i : ℕ) (within : i < length offers) where
  abbrev offer : Offer
  offer = get_or offers i nothing

  -- What is offered next is accepted.
  pub one_more : (between after : Points) → AreTaken now no_points (take i offers) between → IsOfferTaken now between offer after → AreTaken now no_points (take (i + 1) offers) after
  one_more between after are one = subst (λ l. AreTaken now no_points l after) (sym (take_more offers i nothing within)) (taken_more now no_points between after (take i offers) offer are one)

  -- Or it is refused.
  pub refused_here : (points : Points) (fault : PointFault) (judgement : OfferJudgement) → AreTaken now no_points (take i offers) points → told_by_fault fault ≡ Some judgement → IsOfferJudged now points offer judgement → IsRefusedAt now offers i fault
  refused_here points fault judgement are told judged = record {
    before = take i offers;
    offer = offer;
    later = drop (i + 1) offers;
    are = sym (take-append-drop i offers) ∙ ap (λ l. take i offers ++ l) (drop_more offers i nothing within);
    place = sym (length-take-le i offers (omega (arith, within)));
    points = points;
    taken = are;
    judgement = judgement;
    told = told;
    judged = judged;
  }

  pub is_refused : (points : Points) (fault : PointFault) → AreTaken now no_points (take i offers) points → IfSome (told_by_fault fault) (IsOfferJudged now points offer) → IsRefused now offers (told_at i fault)
  is_refused points (faults.Manifest fault) are judged = refused_here points (faults.Manifest fault) _ are refl judged
  is_refused points faults.NotYet are judged = refused_here points faults.NotYet _ are refl judged
  is_refused points faults.Stale are judged = refused_here points faults.Stale _ are refl judged
  is_refused points faults.OldNumber are judged = refused_here points faults.OldNumber _ are refl judged
  is_refused points faults.OldTime are judged = refused_here points faults.OldTime _ are refl judged
  is_refused points (faults.FileTwice k) are judged = refused_here points (faults.FileTwice k) _ are refl judged
  is_refused points (faults.Missing k) are judged = refused_here points (faults.Missing k) _ are refl judged
  is_refused points (faults.HashDiffers k) are judged = refused_here points (faults.HashDiffers k) _ are refl judged
  is_refused points (faults.Roa k fault) are judged = refused_here points (faults.Roa k fault) _ are refl judged
  is_refused points faults.Memory are judged = tt

  pub is_taken : (before after : Points) (answer : Offered) → IfSome (told_by (Ok answer)) (IsOfferJudged now before offer) → BecomesAt (Ok answer) offer.name.now before after offer.manifest.now offer.files.now → IsOfferTaken now before offer after
  is_taken before after offered.New judged becomes = inl (judged, becomes)
  is_taken before after offered.Same judged becomes = inr (judged, becomes)
