-- The place of what is held, and no way back along a chain.
use Rattle.std.specs.Prelude.{◌≡◌, ◌⊎◌, ℕ, ◌==◌, Bool, true, false, find, List, [], ◌∷◌, length, Option, Some, None, IsSome, option_and_then, if◌then◌else◌, refl}
use Rattle.std.specs.Option.{option_map}
use Rattle.std.proofs.Common.{sym, ap, ◌∙◌, subst, inl, inr, suc}
use Rattle.vrps.specs.Instance.{Instance, named, versions, versions_from, with_serial}
use Rattle.vrps.specs.Serial.{serial_at}
use Rattle.vrps.specs.Store.{is_current}
use Rattle.vrps.specs.VrpSet.{VrpSet}
use Rattle.rtr_ends.specs.Answer.{session_in}
use Rattle.rtr_ends.specs.Transcript.{Committed, kept}
use Rattle.rtr_world.specs.Claims.{IsNamed}
use Rattle.rtr_world.specs.History.{Outcome, Done, Memory, Entry, LeadsFrom, after}
use Rattle.rtr_world.specs.VersionPlaces.{IsNotAfter, VersionPlace, place_named, position_of, version_place_of}
use Rattle.rtr_world.specs.World.{Side, World, instances, Event, Publish, Restart, On, goes_through, is_refused, settled}
use Rattle.rtr_world.proofs.Versions.{some_is}
use Rattle.rtr_world.proofs.WorldSteps.{headline}
use Rattle.relays.specs.Chains.{ChainInOrder, HeldInTurn, IsAt, IsNth, PublishedInTurn, WasHeld, held_place, made_by}
use Rattle.relays.proofs.Growing.{in_order}
use Rattle.relays.proofs.Published.{at_number}
use Rattle.relays.proofs.Relaying.{still_held}

versions_length : (start : ℕ) (sets : List VrpSet) → length (versions_from start sets) ≡ length sets
versions_length start [] = refl
versions_length start (one ∷ sets) = ap suc (versions_length start sets)

-- What has a serial among versions is the set at its position.
nth_named : (serial start : ℕ) (sets : List VrpSet) (set : VrpSet) → option_map (λ v. v.set) (with_serial serial (versions_from start sets)) ≡ Some set → (n : ℕ) × (position_of serial (versions_from start sets) ≡ Some n) × IsNth n set sets
nth_named serial start [] set h = absurd (let e : ◌≡◌ {A = Option VrpSet} None (Some set) = h in cc)
nth_named serial start (one ∷ sets) set h = by_test (nth_named serial start sets set) (serial_at start (length sets) == serial) h
  where
    by_test : (option_map (λ v. v.set) (with_serial serial (versions_from start sets)) ≡ Some set → (n : ℕ) × (position_of serial (versions_from start sets) ≡ Some n) × IsNth n set sets) → (b : Bool)
        → option_map (λ v. v.set) (if b then Some (record { serial = serial_at start (length sets); set = one }) else with_serial serial (versions_from start sets)) ≡ Some set
        → (n : ℕ) × ((if b then Some (length (versions_from start sets)) else position_of serial (versions_from start sets)) ≡ Some n) × (((n ≡ length sets) × (set ≡ one)) ⊎ IsNth n set sets)
    by_test older true e = (length (versions_from start sets), refl, inl (versions_length start sets, sym (some_is one set e)))
    by_test older false e = let k = older e in (k.0, k.1, inr k.2)

at_named : (session_of : Instance → ℕ) (all : List Instance) (session serial : ℕ) (set : VrpSet) → named session_of all session serial ≡ Some set → (place : VersionPlace) × (place_named session_of all session serial ≡ Some place) × IsAt place set all
at_named session_of [] session serial set h = absurd (let e : ◌≡◌ {A = Option VrpSet} None (Some set) = h in cc)
at_named session_of (i ∷ all) session serial set h = by_test (at_named session_of all session serial set) (session_of i == session) h
  where
    by_test : (named session_of all session serial ≡ Some set → (place : VersionPlace) × (place_named session_of all session serial ≡ Some place) × IsAt place set all) → (b : Bool)
        → option_and_then (λ i. option_map (λ v. v.set) (with_serial serial (versions i))) (if b then Some i else find (λ i. session_of i == session) all) ≡ Some set
        → (place : VersionPlace) × ((if b then option_map (λ position. record { instance = length all; position = position }) (position_of serial (versions i)) else place_named session_of all session serial) ≡ Some place) × IsAt place set (i ∷ all)
    by_test older true e =
        let n = nth_named serial i.start i.sets set e in
        (record { instance = length all; position = n.0 }, ap (option_map (λ position. record { instance = length all; position = position })) n.1, inl (refl, n.2))
    by_test older false e = let k = older e in (k.0, k.1, inr k.2)

at_version : (all : List Instance) (version : Option Committed) (table : VrpSet) → IsSome version → IsNamed all version table → (place : VersionPlace) × (version_place_of all version ≡ Some place) × IsAt place table all
at_version all None table some h = absurd (let e : false ≡ true = some in cc)
at_version all (Some held) table some h = at_named (session_in held.version) all held.session held.serial table h

-- An event takes no place back.
at_after : (place : VersionPlace) (set : VrpSet) (event : Event) (outcome : Outcome) (w : World) → IsAt place set (instances w) → IsAt place set (instances (after event outcome w))
unfolding settled goes_through is_refused
at_after place set (Publish next) (Done wanting) w h = by_test (is_current w.present.sets next) h
  where
    by_test : (b : Bool) → IsAt place set (instances w) → IsAt place set ((if b then w.present else record w.present { sets = next ∷ w.present.sets }) ∷ w.past)
    by_test true h = h
    by_test false (inl now) = inl (now.0, inr now.1)
    by_test false (inr before) = inr before
at_after place set (Restart session session0 start) (Done wanting) w h = inr h
at_after place set (On r event) (Done wanting) w h = h
at_after place set (Publish next) (Memory bytes wanting) w h = h
at_after place set (Restart session session0 start) (Memory bytes wanting) w h = h
at_after place set (On r event) (Memory bytes wanting) w h = h
at_after place set event _ w h = h

still_at : (place : VersionPlace) (set : VrpSet) (old : World) (history : List Entry) (w : World) → LeadsFrom old history w → IsAt place set (instances old) → IsAt place set (instances w)
still_at place set old [] w leads h = subst (λ x. IsAt place set (instances x)) (sym leads) h
still_at place set old (entry ∷ history) w leads h =
    still_at place set leads.0 history w leads.2 (subst (λ x. IsAt place set (instances x)) (sym leads.1.2) (at_after place set entry.event entry.outcome old h))

-- What was held is at the place of its version.
place_at : (w : World) (r : ℕ) (set : VrpSet) (h : WasHeld w r set) → (place : VersionPlace) × (held_place h ≡ Some place) × IsAt place set (instances w)
place_at w r set h =
    let named_so = at_number (λ (s : Side). IsNamed (instances h.moment) (kept s.items).version s.router.table) h.moment.sides r h.side (headline h.reached.made h.reached.history h.moment h.reached.leads) h.found in
    let k = at_version (instances h.moment) (kept h.side.items).version h.side.router.table h.version named_so in
    (k.0, k.1, still_at k.0 set h.moment h.since w h.leads (subst (λ x. IsAt k.0 x (instances h.moment)) h.table k.2))

published_in_turn : (w : World) (r : ℕ) (old new : VrpSet) → HeldInTurn w r old new → PublishedInTurn w old new
published_in_turn w r old new h =
    let first = place_at w r old h.first in
    let second = place_at w r new h.second in
    record {
      earlier = first.0;
      later = second.0;
      old_at = first.2;
      new_at = second.2;
      in_turn = subst (λ p. IsNotAfter p (Some second.0)) first.1 (subst (IsNotAfter (held_place h.first)) second.1 h.in_turn);
    }

held_in_turn : (w : World) (r : ℕ) (old new : VrpSet) (now : WasHeld w r new) → WasHeld now.moment r old → HeldInTurn w r old new
held_in_turn w r old new now before = record { first = still_held now.moment now.since w now.leads r old before; second = now; in_turn = in_order w r new old now before }

pub chain_in_order : ChainInOrder
chain_in_order first [] r old new chain now before = (old, new, published_in_turn first r old new (held_in_turn first r old new now before), refl, refl)
chain_in_order first (relay ∷ relays) r old new chain now before =
    let there = chain_in_order relay.world relays r old new chain.1 now before in
    let here = chain.0 there.0 there.1 there.2 in
    (here.0, here.1, published_in_turn first relay.router here.0 here.1 here.2, there.3 ∙ ap (made_by relays) here.3, there.4 ∙ ap (made_by relays) here.4)
