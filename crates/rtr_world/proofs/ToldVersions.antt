-- A router of a world speaks the version that was set.
use Rattle.rtr_world.proofs.Words.{◌≡◌, ℕ, Bool, true, false, ◌==◌, List, [], ◌∷◌, take, Option, Some, None, if◌then◌else◌, ⊤, refl, option_map, sym, ap, ◌∙◌, subst, Instance, Version, V1, Router, Receiving, asks, asks_if, clocked, close, closed_at, connects_at, receives, router_byte, router_pulled, router_stops, ticks_at, is_due, is_idle, At, feed_keeps, clocked_keeps, either}
use Rattle.rtr_world.specs.Claims.{EachSpeaks, told_since, told_by}
use Rattle.rtr_world.specs.History.{Outcome, Done, Memory, Entry, LeadsFrom, after, side_at}
use Rattle.rtr_world.specs.World.{Side, World, instances, SideEvent, RouterRestart, Speak, Connect, RouterGets, Ask, Tick, Event, Publish, Restart, On, cache_gone, cut, new_sides, router_restarts, settle, side_refused, side_step}
use Rattle.rtr_world.proofs.RouterCases.{asks_by, close_by}
use Rattle.rtr_world.proofs.CatchUpSides.{byte_speaks}
use Rattle.rtr_world.proofs.SideLaws.{after_at, all_new, inside, side_after}
use Rattle.rtr_world.proofs.Routers.{each_at}
use Rattle.rtr_world.proofs.WorldSteps.{first}
use Rattle.rtr_world.proofs.EventCalls.{IsNoRestart, call_of, lesser, step_by, part_by, IsMoving, after_call, closed_by, settle_keeps}

-- A close leaves it.
close_speaks : (r : Router) → (close r).speaks ≡ r.speaks
close_speaks r = close_by (λ k. k.speaks ≡ r.speaks) r (λ e. refl) (λ e. refl)

asks_speak : (b : Bool) (r : Router) → (asks_if b r).router.speaks ≡ r.speaks
asks_speak b r = asks_by (λ n. n.router.speaks ≡ r.speaks) b r refl refl

receives_speaks : (now : ℕ) (wanting : Option ℕ) (piece : List ℕ) (r : Router) → (receives now wanting piece r).machine.router.speaks ≡ r.speaks
unfolding receives
receives_speaks now wanting piece r =
    feed_keeps (λ (m : Receiving). router_stops m.router) router_byte (λ rest m. m.router.speaks ≡ r.speaks) (λ b rest m on h. byte_speaks m b ∙ h)
    (record { router = clocked now r; items = At now ∷ []; wanting = wanting }) piece (clocked_keeps now r).speaks

-- One router: what an event sets for it
abbrev Says : Version → Side → Type 0
Says version s = s.router.speaks ≡ version

abbrev says_after : SideEvent → Version → Version
says_after (Speak new) version = new
says_after RouterRestart version = V1
says_after event version = version

call_says : (all : List Instance) (event : SideEvent) (wanting : Option ℕ) (s : Side) → IsNoRestart event → Says (says_after event s.router.speaks) (after_call all s (call_of event wanting s))
unfolding connects_at ticks_at asks router_pulled
call_says all RouterRestart wanting s on = absurd on
call_says all Connect wanting s on = close_speaks (clocked s.router.now s.router) ∙ (clocked_keeps s.router.now s.router).speaks
call_says all (RouterGets most) wanting s on = receives_speaks s.router.now wanting (take most s.down) s.router
call_says all Ask wanting s on = asks_speak (is_idle s.router.link) s.router
call_says all (Tick now) wanting s on = let k : Router = clocked now s.router in asks_speak (is_due k.link k.due k.now) k ∙ (clocked_keeps now s.router).speaks
call_says all _ wanting s on = refl

step_says : (w : World) (event : SideEvent) (wanting : Option ℕ) (s : Side) → Says (says_after event s.router.speaks) (side_step w event wanting s)
unfolding router_restarts
step_says w event wanting s =
    step_by (Says (says_after event s.router.speaks)) w wanting s event (λ on conn up down home read. call_says (instances w) event wanting s on) (λ e. ap (λ x. says_after x s.router.speaks) (sym e))

lesser_says : (event : SideEvent) (bytes : ℕ) (version : Version) → IsMoving event → says_after (lesser event bytes) version ≡ version
lesser_says RouterRestart bytes version is = absurd is
lesser_says (Speak new) bytes version is = absurd is
lesser_says _ bytes version is = refl

refused_says : (w : World) (event : SideEvent) (bytes : ℕ) (wanting : Option ℕ) (s : Side) → Says s.router.speaks (side_refused w event bytes wanting s)
unfolding side_refused cut
refused_says w event bytes wanting s =
    part_by (Says s.router.speaks) w event bytes wanting s refl (λ is. step_says w (lesser event bytes) wanting s ∙ lesser_says event bytes s.router.speaks is)

settle_says : (all : List Instance) (s : Side) → Says s.router.speaks (settle all s)
unfolding closed_at
settle_says all s =
    settle_keeps (Says s.router.speaks) (λ t c u d h. h) all
    (λ t h. closed_by (Says s.router.speaks) all t (λ e. h) (λ e. close_speaks (clocked t.router.now t.router) ∙ (clocked_keeps t.router.now t.router).speaks ∙ h)) s refl

-- what an event at a router sets for another, in the words of the law
told_on : (r d : ℕ) (event : SideEvent) (wanting : Option ℕ) (v : Version) → (if d == r then says_after event v else v) ≡ told_by r (On d event) (Done wanting) v
told_on r d RouterRestart wanting v = refl
told_on r d (Speak version) wanting v = refl
told_on r d _ wanting v = either (λ x. x ≡ v) (d == r) v v (λ here. refl) (λ there. refl)

-- What is refused sets nothing.
abbrev IsRefused : Outcome → Type 0
IsRefused (Done wanting) = ⊥
IsRefused outcome = ⊤

only_through : (r : ℕ) (event : Event) (outcome : Outcome) → IsRefused outcome → (v : Version) → told_by r event outcome v ≡ v
only_through r (On d (Speak new)) (Done wanting) h v = absurd h
only_through r (On d RouterRestart) (Done wanting) h v = absurd h
only_through r event outcome h v = refl

-- One event: the router's side after it speaks the version that the event sets.
side_says : (r : ℕ) (event : Event) (outcome : Outcome) (w : World) (s : Side) → Says (told_by r event outcome s.router.speaks) (side_after r event outcome w s)
side_says r (On d event) (Done wanting) w s = settle_says (instances w) (if d == r then side_step w event wanting s else s) ∙ by_number (d == r) ∙ told_on r d event wanting s.router.speaks
  where
    by_number : (b : Bool) → (if b then side_step w event wanting s else s).router.speaks ≡ (if b then says_after event s.router.speaks else s.router.speaks)
    by_number true = step_says w event wanting s
    by_number false = refl
side_says r (On d event) (Memory bytes wanting) w s =
    settle_says (instances w) (if d == r then side_refused w event bytes wanting s else s) ∙ either (Says s.router.speaks) (d == r) _ _ (λ e. refused_says w event bytes wanting s) (λ e. refl)
    ∙ sym (only_through r (On d event) (Memory bytes wanting) tt s.router.speaks)
side_says r (Publish set) (Done wanting) w s = settle_says _ s
side_says r (Restart session session0 start) (Done wanting) w s = settle_says _ (cache_gone s)
side_says r event outcome w s = sym (only_through r event outcome tt s.router.speaks)

-- The router with this number speaks this version, if there is one.
abbrev SpeaksAt : ℕ → Version → World → Type 0
SpeaksAt r v w = (s : Side) → side_at r w.sides ≡ Some s → Says v s

after_says : (r : ℕ) (v : Version) (event : Event) (outcome : Outcome) (w : World) → SpeaksAt r v w → SpeaksAt r (told_by r event outcome v) (after event outcome w)
after_says r v event outcome w h n found = by_side (side_at r w.sides) h (sym (after_at r event outcome w) ∙ found)
  where
    by_side : (o : Option Side) → ((s : Side) → o ≡ Some s → Says v s) → option_map (side_after r event outcome w) o ≡ Some n → Says (told_by r event outcome v) n
    by_side None h e = absurd (let k : ◌≡◌ {A = Option Side} None (Some n) = e in cc)
    by_side (Some s) h e = ap (λ (x : Side). x.router.speaks) (sym (inside e)) ∙ side_says r event outcome w s ∙ ap (told_by r event outcome) (h s refl)

-- A history
from_says : (r : ℕ) (v : Version) (old : World) (history : List Entry) (w : World) → LeadsFrom old history w → SpeaksAt r v old → SpeaksAt r (told_since r v history) w
from_says r v old [] w leads h = subst (SpeaksAt r v) (sym leads) h
from_says r v old (entry ∷ history) w leads h =
    from_says r (told_by r entry.event entry.outcome v) leads.0 history w leads.2 (subst (SpeaksAt r (told_by r entry.event entry.outcome v)) (sym leads.1.2) (after_says r v entry.event entry.outcome old h))

pub each_speaks : EachSpeaks
each_speaks made history w leads r =
    from_says r V1 (first made) history w leads.1 (λ s found. each_at (Says V1) r (new_sides made.routers) s (all_new (Says V1) refl made.routers) found)
