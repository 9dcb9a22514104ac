-- From offers to publication points to the state of a route, by way of a cache and a router (RFC 9286, RFC 8210, RFC 6811).
use Rattle.std.specs.Prelude.{◌≡◌, ◌↔◌, ◌⊎◌, ℕ, ◌<◌, ◌≤◌, List, [], ◌∷◌, ◌++◌, length, Some, Ok, IsTrue, ⊤}
use Rattle.der_lite.specs.Moments.{CivilMoment}
use Rattle.prefixes.specs.Payload.{Payload}
use Rattle.prefixes.specs.declared.route.Route.{Route}
use Rattle.points.specs.Answers.{BecomesAt, told_by_fault}
use Rattle.points.specs.InUse.{Points, Payloads, accepted_at, no_points}
use Rattle.points.specs.Offers.{Judged, OfferJudgement, New, Same}
use Rattle.points.specs.declared.fault.Offered.TheVariants as offered
use Rattle.points.specs.declared.fault.PointFault.{PointFault}
use Rattle.vrps.specs.Instance.{Instance}
use Rattle.vrps.specs.Origin.{state}
use Rattle.vrps.specs.VrpSet.{VrpSet, has, size}
use Rattle.rtr_pdu.specs.declared.unit.Unit.TheVariants.{ResetQuery}
use Rattle.rtr_pdu.specs.declared.version.Version.TheVariants.{V1}
use Rattle.rtr_ends.specs.Answer.{sent}
use Rattle.rtr_ends.specs.Connection.{Read, replies}
use Rattle.rtr_ends.specs.Timing.{default_intervals}
use Rattle.feed.specs.declared.fault.FeedFault.{FeedFault}
use Rattle.feed.specs.declared.fault.FeedFault.TheVariants as faults
use Rattle.feed.specs.declared.offers.Offer.{Offer}
use Rattle.feed.specs.declared.route.Fed.{Fed}

-- ---- from offers to the payloads in use

-- An offer is judged so, if the points hold this.
abbrev pub IsOfferJudged : CivilMoment → Points → Offer → OfferJudgement → Type 0
IsOfferJudged now points offer judgement = Judged (accepted_at points offer.name.now) offer.manifest.now offer.files.now now judgement

-- It is judged New, and its point holds it afterwards; or it is judged Same, and nothing changes.
abbrev pub IsOfferTaken : CivilMoment → Points → Offer → Points → Type 0
IsOfferTaken now before offer after =
    (IsOfferJudged now before offer New × BecomesAt (Ok offered.New) offer.name.now before after offer.manifest.now offer.files.now)
    ⊎ (IsOfferJudged now before offer Same × (after ≡ before))

-- All are accepted, one after the other.
abbrev pub AreTaken : CivilMoment → Points → List Offer → Points → Type 0
AreTaken now before [] after = after ≡ before
AreTaken now before (offer ∷ later) after = (between : Points) × IsOfferTaken now before offer between × AreTaken now between later after

-- The set of the payloads in use after all offers, to points that had accepted nothing
pub record IsUsed (now : CivilMoment) (offers : List Offer) (set : VrpSet) : Type 0 where
  pub points : Points
  pub taken : AreTaken now no_points offers points
  pub members : (vrp : Payload) → IsTrue (has set vrp) ↔ Payloads points now vrp

-- ---- from these to the state of a route

-- the cache whose one version is this set, as serial 0 of session 1
abbrev pub cache_publishing : VrpSet → Instance
cache_publishing set = record { session = 1; session0 = 1; start = 0; sets = set ∷ [] }

-- its replies to one Reset Query
unfoldable pub answer_bytes : VrpSet → List ℕ
answer_bytes set = replies 1 default_intervals (Read V1 (cache_publishing set) ResetQuery (sent V1 ResetQuery) ∷ [])

-- The state of the route is that over the payloads in use, which a set can hold, and what the cache sent is its answer with them.
pub record IsFed (now : CivilMoment) (offers : List Offer) (route : Route) (fed : Fed) : Type 0 where
  pub set : VrpSet
  pub used : IsUsed now offers set
  pub within_limit : size set ≤ 16777215
  pub wire : fed.wire.items ≡ answer_bytes set
  pub state_is : fed.state ≡ state set route

-- ---- refusals

-- Offer i is judged so that it is refused with this fault; those before it were accepted.
pub record IsRefusedAt (now : CivilMoment) (offers : List Offer) (i : ℕ) (fault : PointFault) : Type 0 where
  pub before : List Offer
  pub offer : Offer
  pub later : List Offer
  pub are : offers ≡ before ++ offer ∷ later
  pub place : i ≡ length before
  pub points : Points
  pub taken : AreTaken now no_points before points
  pub judgement : OfferJudgement
  pub told : told_by_fault fault ≡ Some judgement
  pub judged : IsOfferJudged now points offer judgement

-- An offer is refused; or all were accepted, and the set of the payloads in use passes the limit of a set; or memory ran out.
abbrev pub IsRefused : CivilMoment → List Offer → FeedFault → Type 0
IsRefused now offers (faults.Point i fault) = IsRefusedAt now offers i fault
IsRefused now offers faults.TooMany = (set : VrpSet) × IsUsed now offers set × (16777215 < size set)
IsRefused now offers faults.Memory = ⊤

abbrev pub feed_fault_number : FeedFault → ℕ
feed_fault_number (faults.Point i fault) = 1
feed_fault_number faults.TooMany = 2
feed_fault_number faults.Memory = 3
