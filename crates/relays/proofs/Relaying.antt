-- What was held stays so, and a relay keeps its promise from event to event.
use Rattle.std.specs.Prelude.{◌≡◌, ◌⊎◌, ℕ, Bool, true, false, List, [], ◌∷◌, ◌++◌, if◌then◌else◌}
use Rattle.std.proofs.Common.{◌∙◌, subst, inl, inr}
use Rattle.vrps.specs.Store.{is_current}
use Rattle.vrps.specs.VrpSet.{VrpSet}
use Rattle.rtr_world.specs.History.{Outcome, Done, Memory, Entry, LeadsFrom, after}
use Rattle.rtr_world.specs.World.{World, instances, Event, Publish, Restart, On, goes_through, is_refused, settled}
use Rattle.relays.specs.Chains.{EachKeepsRelaying, IsRelayed, WasHeld, WasPublished}

-- a history, and another after it
pub leads_both : (old : World) (history : List Entry) (w : World) (since : List Entry) (later : World) → LeadsFrom old history w → LeadsFrom w since later → LeadsFrom old (history ++ since) later
leads_both old [] w since later leads more = subst (λ x. LeadsFrom x since later) leads more
leads_both old (entry ∷ history) w since later leads more = (leads.0, leads.1, leads_both leads.0 history w since later leads.2 more)

-- what was held at some moment of a history was held at one of a longer history
abbrev pub still_held : (w : World) (since : List Entry) (later : World) → LeadsFrom w since later → (r : ℕ) (set : VrpSet) → WasHeld w r set → WasHeld later r set
still_held w since later leads r set h = record {
  moment = h.moment;
  reached = h.reached;
  since = h.since ++ since;
  leads = leads_both h.moment h.since w since later h.leads leads;
  side = h.side;
  found = h.found;
  version = h.version;
  table = h.table;
}

-- The event published this set.
abbrev IsPublishOf : VrpSet → Event → Type 0
IsPublishOf set (Publish next) = set ≡ next
IsPublishOf set event = ⊥

-- What was published was published before, or by the event.
pub published_by : (set : VrpSet) (event : Event) (outcome : Outcome) (w : World) → WasPublished (instances (after event outcome w)) set → WasPublished (instances w) set ⊎ IsPublishOf set event
unfolding settled goes_through is_refused
published_by set (Publish next) (Done wanting) w h = by_test (is_current w.present.sets next) h
  where
    by_test : (b : Bool) → WasPublished ((if b then w.present else record w.present { sets = next ∷ w.present.sets }) ∷ w.past) set → WasPublished (instances w) set ⊎ (set ≡ next)
    by_test true h = inl h
    by_test false (inl (inl e)) = inr e
    by_test false (inl (inr now)) = inl (inl now)
    by_test false (inr before) = inl (inr before)
published_by set (Restart session session0 start) (Done wanting) w (inl h) = absurd h
published_by set (Restart session session0 start) (Done wanting) w (inr h) = inl h
published_by set (On r event) (Done wanting) w h = inl h
published_by set (Publish next) (Memory bytes wanting) w h = inl h
published_by set (Restart session session0 start) (Memory bytes wanting) w h = inl h
published_by set (On r event) (Memory bytes wanting) w h = inl h
published_by set event _ w h = inl h

pub each_keeps_relaying : EachKeepsRelaying
each_keeps_relaying before later since relay event outcome reached relays leads relayed set h = by_origin (published_by set event outcome relay.world h)
  where
    by_event : (event : Event) → IsRelayed later relay event → IsPublishOf set event → (held : VrpSet) × WasHeld later relay.router held × (set ≡ relay.make held)
    by_event (Publish next) k e = (k.0, k.1, e ∙ k.2)
    by_event event k e = absurd e

    by_origin : WasPublished (instances relay.world) set ⊎ IsPublishOf set event → (held : VrpSet) × WasHeld later relay.router held × (set ≡ relay.make held)
    by_origin (inl old) = let k = relays set old in (k.0, still_held before since later leads relay.router k.0 k.1, k.2)
    by_origin (inr new) = by_event event relayed new
