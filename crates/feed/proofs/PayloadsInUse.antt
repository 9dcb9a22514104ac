-- The payloads in use after all offers.
use Rattle.std.specs.Prelude.{◌≡◌, ◌<◌, List, refl}
use Rattle.std.proofs.Common.{sym, subst, ◌∙◌, ap}
use Rattle.der_lite.specs.Moments.{CivilMoment}
use Rattle.prefixes.specs.Payload.{Payload}
use Rattle.prefixes.specs.declared.route.Route.{Route}
use Rattle.points.specs.InUse.{Lists, Points, no_points}
use Rattle.vrps.specs.Origin.{state}
use Rattle.vrps.specs.VrpSet.{VrpSet, set_of, size}
use Rattle.vrps.specs.declared.set.SetFault.{SetFault}
use Rattle.vrps.specs.declared.set.SetFault.TheVariants as sets
use Rattle.rtr_ends.specs.LinkRules as rules
use Rattle.rtr_ends.specs.RouterShown.{IsShown}
use Rattle.rtr_ends.specs.declared.router.Router as code
use Rattle.vrps.specs.declared.origin.OriginState.{OriginState}
use Rattle.feed.specs.Feed.{AreTaken, IsRefused, IsUsed}
use Rattle.feed.specs.Loopback.{HasTable, told_of_set}
use Rattle.feed.specs.declared.offers.Offer.{Offer}
use Rattle.feed.proofs.Sets.{used_members}

-- They are listed, and this is the set of the list.
pub is_used : (now : CivilMoment) (offers : List Offer) (points : Points) (vs : List Payload) (set : VrpSet) → AreTaken now no_points offers points → Lists vs points now → set ≡ set_of vs → IsUsed now offers set
is_used now offers points vs set taken lists is = subst (IsUsed now offers) (sym is) (record { points = points; taken = taken; members = used_members vs points now lists })

-- They are too many, or memory ran out.
pub set_refused : (now : CivilMoment) (offers : List Offer) (points : Points) (vs : List Payload) (fault : SetFault) → AreTaken now no_points offers points → Lists vs points now
    → (fault ≡ sets.TooMany → 16777215 < size (set_of vs)) → IsRefused now offers (told_of_set fault)
set_refused now offers points vs sets.TooMany taken lists many = (set_of vs, is_used now offers points vs (set_of vs) taken lists refl, many refl)
set_refused now offers points vs sets.Memory taken lists many = tt

-- The state of a route at a router that holds a set
pub state_over : (set : VrpSet) (router : code.Router) (route : Route) (told : OriginState) → HasTable set router → ((r : rules.Router) → IsShown r router → told ≡ state r.table route) → told ≡ state set route
state_over set router route told h is = is h.machine h.shown ∙ ap (λ s. state s route) h.table
