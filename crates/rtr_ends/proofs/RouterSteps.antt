-- What a router's value does at what its reader answers.
use Rattle.rtr_ends.proofs.Words.{list_any, ◌≡◌, ℕ, zero, ◌-◌, drop, Bool, true, false, not, ◌&&◌, List, [], ◌∷◌, ◌++◌, length, Option, Some, None, IfSome, if◌then◌else◌, refl, sym, ap, ◌∙◌, subst, inl, inr, rules, and-false, Version, Whole, Faulty, Reader, IsReader, after_agreed, fresh, version_with, IsPartial, as_read, Next, Unit, UnitFault, false_if_never}
use Rattle.rtr_pdu.specs.Reader as reader
use Rattle.rtr_pdu.specs.declared.unit.Next.TheVariants as next
use Rattle.rtr_ends.specs.declared.link.End.TheVariants as ends
use Rattle.rtr_ends.specs.Cache.{finds_memory, is_none}
use Rattle.rtr_ends.specs.Feeding.{FedPiece, feed}
use Rattle.rtr_ends.specs.LinkRules.{Router, ask, may_lack, on_unit}
use Rattle.rtr_ends.specs.Router.{RouterCall, Noted, Receiving, asks, asks_if, breaks, called, clocked, close, closed_at, connects_at, lacks, played, reads, receives, router_byte, router_pulled, router_stops, ticks_at, with_bytes, router_judged}
use Rattle.rtr_ends.specs.RouterLink.{Ended, is_closed, is_due, is_idle, is_reading}
use Rattle.rtr_ends.specs.Seen.{Does, ReadsOrLacks, ShowsRouter, seen_link}
use Rattle.rtr_ends.specs.RouterShown.{Arrives, Calls, GoesOn, IsShown, CallsLead, LeadsOn, Led, IsLacking, ReceivesSo, TakesOn, fed, is_lacking, is_wanted_by_router, reading, taking}
use Rattle.rtr_ends.specs.Transcript.{Item, At}
use Rattle.rtr_ends.specs.declared.configuration.RouterConfig.{RouterConfig}
use Rattle.rtr_ends.specs.declared.machine.Machine.{Machine}
use Rattle.rtr_ends.specs.declared.router.Router as code
use Rattle.rtr_ends.proofs.ConsumedLaws.{router_splits}
use Rattle.rtr_ends.proofs.CallSteps.{due_idle, idle_reads}
use Rattle.rtr_ends.proofs.Effects.{Clocks, Keeps, by_close, clocked_keeps, goes_so, reading_open_so, unit_keeps}
use Rattle.rtr_ends.proofs.KeptLaws.{router_keeps}
use Rattle.rtr_ends.proofs.MachineCells.{seen_so}
use Rattle.rtr_ends.proofs.QuestionLaws.{router_asks}
use Rattle.rtr_ends.proofs.RouterBytes.{counts_back, has_memory, more_taken, shifted, shown_taken, stopped, stops}
use Rattle.rtr_ends.proofs.UnitByUnit.{but_last, fault_judged, unit_judged}
use Rattle.rtr_ends.proofs.TableLaws.{false_true}
use Rattle.rtr_ends.proofs.ConsumedUnits.{reading_open}

-- What is held is not looked at.
pub rehold : (r : Router) (m : Machine) (held : List ℕ) → ShowsRouter r m → ShowsRouter (record r { held = held }) m
rehold r m held s = record { withdrawn = s.withdrawn; announced = s.announced; staged = s.staged; is = ap (λ (x : Router). record x { held = held }) s.is }

-- whether it reads
pub stops_of : (m : Machine) (r : Router) → ShowsRouter r m → router_stops r ≡ not (is_reading (seen_link m.state [] []) && is_none m.out)
stops_of m r s = ap (λ (x : Router). router_stops x) s.is ∙ ap (λ b. not (b && is_none m.out)) (seen_so is_reading (λ a b. refl) m.state s.withdrawn s.announced)

reads_of : (r : Router) → router_stops r ≡ false → is_reading r.link ≡ true
reads_of r h = (goes_so r h).0

-- the agreement that a machine has
agreed_is : (m : Machine) (r : Router) → ShowsRouter r m → r.agreed ≡ m.agreed
agreed_is m r s = ap (λ (x : Router). x.agreed) s.is

wanted_shifted : (w : Option ℕ) (f : FedPiece Receiving) → IsLacking w f → IsLacking (shifted w) f
wanted_shifted None f h = tt
wanted_shifted (Some unit) f h = h

module _ (old : code.Router) (piece rest : List ℕ) (takes : (is_reading (seen_link old.machine.state [] []) && is_none old.machine.out) ≡ true) (is_reader : IsReader (version_with old.reader piece) old.reader) where
  on : (r : Router) → IsShown r old → router_stops r ≡ false
  on r s = stops_of old.machine r s.machine ∙ ap not takes

  reads_so : (r : Router) (s : IsShown r old) → old.reader ≡ reading r.spoken r.agreed r.held
  reads_so r s = s.reader (reads_of r (on r s))

  part_so : (r : Router) (s : IsShown r old) → IsPartial r.spoken (as_read r.spoken (not r.agreed) r.held)
  part_so r s = let h : IsReader r.spoken (reading r.spoken r.agreed r.held) = subst (λ x. IsReader (version_with x piece) x) (reads_so r s) is_reader in h

  takes_so : (answer : Next) (new : Reader) (r : Router) (s : IsShown r old) → reader.ReaderTakes (version_with old.reader piece) old.reader piece answer rest new
      → reader.ReaderTakes r.spoken (reading r.spoken r.agreed r.held) piece answer rest new
  takes_so answer new r s t = subst (λ x. reader.ReaderTakes (version_with x piece) x piece answer rest new) (reads_so r s) t

  -- a PDU
  module _ (u : Unit) (new : Reader) (t : reader.ReaderTakes (version_with old.reader piece) old.reader piece (next.Unit u) rest new) (mid m : Machine)
      (follows : (spoken : Version) → new.version ≡ Some spoken → mid ≡ record old.machine { spoken = spoken }) where
    made_so : (r : Router) → IsShown r old → new ≡ fresh (Some r.spoken) (not r.agreed)
    made_so r s = (takes_so (next.Unit u) new r s t).gives.2

    -- It is of the version of the connection.
    same_machine : (r : Router) → IsShown r old → mid ≡ old.machine
    same_machine r s = search rules

    followed : (r : Router) → IsShown r old → (n : Router) → ShowsRouter n old.machine → ShowsRouter n mid
    followed r s n shows = subst (λ x. ShowsRouter n x) (sym (same_machine r s)) shows

    abbrev agreed_reader : Reader
    agreed_reader = if m.agreed then after_agreed new else new

    abbrev after_unit : code.Router
    after_unit = record { machine = m; reader = agreed_reader }

    abbrev cleared : Router → Router
    cleared r = record r { held = [] }

    told_reader : (b : Bool) (n r : Router) → Keeps r n → n.agreed ≡ b → new ≡ fresh (Some r.spoken) (not r.agreed) → (if b then after_agreed new else new) ≡ reading r.spoken b []
    told_reader true n r k is e = ap (λ x. after_agreed x) e
    told_reader false n r k is e =
        let fell : r.agreed ≡ false = false_if_never r.agreed (λ h. false_true (sym is ∙ k.agreed h)) in
        e ∙ ap (λ b. fresh (Some r.spoken) (not b)) fell

    read_shown : (r : Router) → IsShown r old → Does (λ x. on_unit x.link u x) mid m → IsShown (on_unit r.link u (cleared r)) after_unit
    read_shown r s does =
        let n : Router = on_unit r.link u (cleared r) in
        let k : Keeps (cleared r) n = unit_keeps r.link u (cleared r) in
        let machine : ShowsRouter n m = does (cleared r) (followed r s (cleared r) (rehold r old.machine [] s.machine)) in
        record {
          machine = machine;
          reader = λ h. told_reader m.agreed n (cleared r) k (agreed_is m n machine) (made_so r s) ∙ (λ i. reading (sym k.spoken i) (sym (agreed_is m n machine) i) (sym k.held i));
          closed = λ c. false_true (sym (k.connected (reading_open_so r.link (reads_of r (on r s)))) ∙ c);
        }

    pub unit_goes : (lacking : Bool) → ReadsOrLacks lacking u mid m → TakesOn true old piece after_unit rest
    unit_goes false does = (shifted, λ r s. (on_unit r.link u (cleared r), read_shown r s does, goes r s))
      where
        goes : (r : Router) → IsShown r old → GoesOn shifted r piece (on_unit r.link u (cleared r)) rest
        goes r s items w =
            let x = takes_so (next.Unit u) new r s t in
            let front : List ℕ = r.held ++ but_last x.taken in
            let bytes : List ℕ = r.held ++ x.taken in
            let had : Noted = with_bytes (finds_memory (shifted w)) bytes (record r { held = front }) (Whole u) in
            let same : had ≡ reads u (cleared r) =
            ap (λ b. if b then lacks u (cleared r) else reads u (cleared r)) (ap (λ b. may_lack r.link u (record r { held = front }) && not b) (has_memory w) ∙ and-false (may_lack r.link u (record r { held = front }))) in
            let whole : fed r items (shifted w) piece ≡ fed (on_unit r.link u (cleared r)) ((reads u (cleared r)).items ++ items) w rest =
            ap (λ y. fed r items (shifted w) y) x.piece_is ∙ shown_taken r x.taken rest (on r s) items (shifted w) (part_so r s) (Whole u) (unit_judged r.spoken (not r.agreed) (r.held ++ x.taken) u x.gives.1)
            ∙ (λ i. feed stops router_byte (record { router = (same i).router; items = (same i).items ++ items; wanting = counts_back u w i }) rest) in
            ((reads u (cleared r)).items ++ items, record { router_is = ap (λ f. f.machine.router) whole; rest_is = ap (λ f. f.rest) whole; wanted = λ h. wanted_shifted w (fed r items (shifted w) piece) (subst (λ f. IsLacking w f) (sym whole) h) })
    unit_goes true lacking = ((λ w. Some zero), λ r s. (ended r, shown_ended r s, goes r s))
      where
        ended : Router → Router
        ended r = record r { held = []; link = Ended ends.Memory }

        shown_ended : (r : Router) → IsShown r old → IsShown (ended r) after_unit
        shown_ended r s = record { machine = lacking.1 (cleared r) (followed r s (cleared r) (rehold r old.machine [] s.machine)); reader = λ h. false_true h; closed = λ c. false_true c }

        goes : (r : Router) → IsShown r old → GoesOn (λ w. Some zero) r piece (ended r) rest
        goes r s items w =
            let x = takes_so (next.Unit u) new r s t in
            let front : List ℕ = r.held ++ but_last x.taken in
            let bytes : List ℕ = r.held ++ x.taken in
            let lack : may_lack r.link u (record r { held = front }) ≡ true = lacking.0 (record r { held = front }) (followed r s (record r { held = front }) (rehold r old.machine front s.machine)) in
            let had : Noted = with_bytes false bytes (record r { held = front }) (Whole u) in
            let same : had ≡ lacks u (cleared r) = ap (λ b. if b && true then lacks u (cleared r) else reads u (cleared r)) lack in
            let whole : fed r items (Some zero) piece ≡ fed (ended r) ((lacks u (cleared r)).items ++ items) None rest =
            ap (λ y. fed r items (Some zero) y) x.piece_is ∙ shown_taken r x.taken rest (on r s) items (Some zero) (part_so r s) (Whole u) (unit_judged r.spoken (not r.agreed) (r.held ++ x.taken) u x.gives.1)
            ∙ (λ i. feed stops router_byte (record { router = (same i).router; items = (same i).items ++ items; wanting = None }) rest) in
            let left = whole ∙ stopped (ended r) ((lacks u (cleared r)).items ++ items) None rest refl in
            let right = stopped (ended r) items w rest refl in (
              items,
              record {
                router_is = ap (λ f. f.machine.router) left ∙ sym (ap (λ f. f.machine.router) right);
                rest_is = ap (λ f. f.rest) left ∙ sym (ap (λ f. f.rest) right);
                wanted = λ h. ap (λ f. list_any is_lacking f.machine.items) left;
              },
            )

  -- more is asked for
  pub more_goes : (new : Reader) → reader.ReaderTakes (version_with old.reader piece) old.reader piece next.NeedMore rest new → TakesOn false old piece (record old { reader = new }) rest
  more_goes new t = (None, λ r s. (held_so r s, shown_held r s, ends r s))
    where
      held_so : (r : Router) → IsShown r old → Router
      held_so r s = record r { held = r.held ++ (takes_so next.NeedMore new r s t).taken }

      shown_held : (r : Router) (s : IsShown r old) → IsShown (held_so r s) (record old { reader = new })
      shown_held r s = record {
        machine = rehold r old.machine (r.held ++ (takes_so next.NeedMore new r s t).taken) s.machine;
        reader = λ h. (takes_so next.NeedMore new r s t).gives.3;
        closed = λ c. absurd (reading_open r.link (reads_of r (on r s)) c);
      }

      ends : (r : Router) (s : IsShown r old) (items : List Item) → Arrives (fed r items None piece) None (held_so r s) rest
      ends r s items =
          let x = takes_so next.NeedMore new r s t in
          let whole : fed r items None piece ≡ record { machine = taking (held_so r s) items None; rest = [] } =
          ap (λ y. fed r items None y) (x.piece_is ∙ ap (λ y. x.taken ++ y) x.gives.2) ∙ more_taken r x.taken [] (on r s) items None x.gives.1 in
          record { router_is = ap (λ f. f.machine.router) whole; rest_is = ap (λ f. f.rest) whole ∙ sym x.gives.2; wanted = tt }

  -- a fault
  pub fault_goes : (fault : UnitFault) (new : Reader) (bytes : List ℕ) (m : Machine) → reader.ReaderTakes (version_with old.reader piece) old.reader piece (next.Fault fault) rest new → bytes ≡ new.held → Does (λ r. (breaks fault bytes r).router) old.machine m
      → TakesOn false old piece (record { machine = m; reader = new }) rest
  fault_goes fault new bytes m t is does = (None, λ r s. ((breaks fault bytes r).router, shown_broken r s, ends r s))
    where
      shown_broken : (r : Router) → IsShown r old → IsShown (breaks fault bytes r).router (record { machine = m; reader = new })
      shown_broken r s = record { machine = does r s.machine; reader = λ h. false_true h; closed = λ c. false_true c }

      ends : (r : Router) (s : IsShown r old) (items : List Item) → Arrives (fed r items None piece) None ((breaks fault bytes r).router) rest
      ends r s items =
          let x = takes_so (next.Fault fault) new r s t in
          elim x.gives [
            | inr again ↦ absurd (let e : ◌≡◌ {A = Option UnitFault} None (Some fault) = again.0 in cc)
            | inl first ↦
                (let held : r.held ++ x.taken ≡ bytes = sym (is ∙ ap (λ (y : Reader). y.held) first.2) in
                let b : Router = (breaks fault bytes r).router in
                let whole : fed r items None piece ≡ fed b ((breaks fault bytes r).items ++ items) None rest =
                ap (λ y. fed r items None y) x.piece_is ∙ shown_taken r x.taken rest (on r s) items None (part_so r s) (Faulty fault) (fault_judged r.spoken (not r.agreed) (r.held ++ x.taken) fault first.1)
                ∙ ap (λ y. feed stops router_byte (router_judged (taking r items None) y (Faulty fault)) rest) held in
                let left = whole ∙ stopped b ((breaks fault bytes r).items ++ items) None rest refl in
                record { router_is = ap (λ f. f.machine.router) left; rest_is = ap (λ f. f.rest) left; wanted = tt })
          ]

-- One after the other
pub goes_none : (v : code.Router) (piece : List ℕ) → TakesOn true v piece v piece
goes_none v piece = ((λ w. w), λ r s. (r, s, λ items w. (items, record { router_is = refl; rest_is = refl; wanted = λ h. h })))

pub goes_then : (old mid new : code.Router) (piece left rest : List ℕ) → TakesOn true old piece mid left → TakesOn true mid left new rest → TakesOn true old piece new rest
goes_then old mid new piece left rest first then_ = (
  (λ w. first.0 (then_.0 w)),
  λ r s.
      let a = first.1 r s in
      let b = then_.1 a.0 a.1 in (
        b.0,
        b.1,
        λ items w.
            let x = a.2 items (then_.0 w) in
            let y = b.2 x.0 w in
            (y.0, record { router_is = x.1.router_is ∙ y.1.router_is; rest_is = x.1.rest_is ∙ y.1.rest_is; wanted = λ h. x.1.wanted (y.1.wanted h) }),
      ),
)

pub goes_last : (old mid new : code.Router) (piece left rest : List ℕ) → TakesOn true old piece mid left → TakesOn false mid left new rest → TakesOn false old piece new rest
goes_last old mid new piece left rest first last = (
  first.0 last.0,
  λ r s.
      let a = first.1 r s in
      let b = last.1 a.0 a.1 in (
        b.0,
        b.1,
        λ items.
            let x = a.2 items last.0 in
            let y = b.2 x.0 in
            record { router_is = x.1.router_is ∙ y.router_is; rest_is = x.1.rest_is ∙ y.rest_is; wanted = x.1.wanted y.wanted },
      ),
)

-- A router that has stopped leaves what there is.
pub goes_stop : (v : code.Router) (piece : List ℕ) → (is_reading (seen_link v.machine.state [] []) && is_none v.machine.out) ≡ false → TakesOn false v piece v piece
goes_stop v piece h = (
  None,
  λ r s. (
    r,
    s,
    λ items.
        let e = stopped r items None piece (stops_of v.machine r s.machine ∙ ap not h) in
        record { router_is = ap (λ f. f.machine.router) e; rest_is = ap (λ f. f.rest) e; wanted = tt },
  ),
)

-- A step that leaves what is held and agreed on and the version, and opens and closes nothing
pub keeps_shown : (old new : code.Router) (r n : Router) → ShowsRouter n new.machine → new.reader ≡ old.reader → IsShown r old → n.held ≡ r.held → n.agreed ≡ r.agreed → n.spoken ≡ r.spoken → (is_reading n.link ≡ true → is_reading r.link ≡ true)
    → (is_closed n.link ≡ true → is_closed r.link ≡ true) → IsShown n new
keeps_shown old new r n machine same s held agreed spoken reads_on closed_on = search rules

-- The clock
pub told_shown : (old new : code.Router) (now : ℕ) (r : Router) → ShowsRouter (clocked now r) new.machine → new.reader ≡ old.reader → IsShown r old → IsShown (clocked now r) new
told_shown old new now r machine same s =
    let k = clocked_keeps now r in keeps_shown old new r (clocked now r) machine same s k.held k.agreed k.spoken k.reads_on (λ h. sym k.closed_on ∙ h)

-- What is closed holds nothing, and no version is agreed on.
closes_so : (r : Router) → (is_closed r.link ≡ true → (r.held ≡ []) × (r.agreed ≡ false)) → ((close r).held ≡ []) × ((close r).agreed ≡ false) × (is_closed (close r).link ≡ true)
closes_so r h = by_close (λ n. (n.held ≡ []) × (n.agreed ≡ false) × (is_closed n.link ≡ true)) r (λ is. let was = h is in (was.0, was.1, is)) (λ is. (refl, refl, refl))

closed_clock : (old : code.Router) (now : ℕ) (r : Router) → IsShown r old → is_closed (clocked now r).link ≡ true → ((clocked now r).held ≡ []) × ((clocked now r).agreed ≡ false)
closed_clock old now r s h = let k = clocked_keeps now r in let was = s.closed (sym k.closed_on ∙ h) in (k.held ∙ was.0, k.agreed ∙ was.1)

pub connects_shown : (old new : code.Router) (now : ℕ) (r : Router) → IsShown r old → ShowsRouter (connects_at now r).router new.machine → new.reader ≡ fresh (Some new.machine.spoken) true → IsShown (connects_at now r).router new
unfolding connects_at
connects_shown old new now r s machine made =
    let c = closes_so (clocked now r) (closed_clock old now r s) in
    record { machine = machine; reader = λ h. made ∙ (λ i. reading (sym (ap (λ (x : Router). x.spoken) machine.is) i) (sym c.1 i) (sym c.0 i)); closed = λ h. false_true h }

pub closes_shown : (old new : code.Router) (now : ℕ) (r : Router) → IsShown r old → ShowsRouter (closed_at now r).router new.machine → IsShown (closed_at now r).router new
unfolding closed_at
closes_shown old new now r s machine =
    let c = closes_so (clocked now r) (closed_clock old now r s) in
    record { machine = machine; reader = λ h. absurd (reading_open (close (clocked now r)).link h c.2); closed = λ h. (c.0, c.1) }

-- An idle link may ask, also behind the clock.
asks_shown : (old new : code.Router) (r n : Router) (b : Bool) → Clocks r n → (b ≡ true → is_reading n.link ≡ true) → IsShown r old → ShowsRouter (asks_if b n).router new.machine → new.reader ≡ old.reader → IsShown (asks_if b n).router new
asks_shown old new r n true k idle s machine same = keeps_shown old new r (ask n) machine same s k.held k.agreed k.spoken (λ h. k.reads_on (idle refl)) (λ h. false_true h)
asks_shown old new r n false k idle s machine same = keeps_shown old new r n machine same s k.held k.agreed k.spoken k.reads_on (λ h. sym k.closed_on ∙ h)

pub idle_shown : (old new : code.Router) (r : Router) → IsShown r old → ShowsRouter (asks r).router new.machine → new.reader ≡ old.reader → IsShown (asks r).router new
unfolding asks
idle_shown old new r s machine same =
    asks_shown old new r r (is_idle r.link) (record { held = refl; agreed = refl; spoken = refl; speaks = refl; config = refl; out = λ none. none; reads_on = λ h. h; closed_on = refl }) (idle_reads r.link) s machine same

-- Bytes are pulled.
pub pulls_shown : (old new : code.Router) (r : Router) (most : ℕ) → new ≡ record old { machine = record old.machine { out = drop most old.machine.out } } → IsShown r old → IsShown (router_pulled most r) new
unfolding router_pulled
pulls_shown old new r most e s = search rules

-- The version of the next connection is set.
pub speaks_shown : (old : code.Router) (r : Router) (version : Version) → IsShown r old → IsShown (record r { speaks = version }) (record old { machine = record old.machine { speaks = version } })
speaks_shown old r version s = search rules

-- A configuration is set.
pub configures_shown : (old : code.Router) (r : Router) (config : RouterConfig) → IsShown r old → IsShown (record r { config = config }) (record old { machine = record old.machine { config = config } })
configures_shown old r config s = search rules

-- The clock advances to a moment, and an idle link asks if that is due.
pub ticks_shown : (old new : code.Router) (now : ℕ) (r : Router) → IsShown r old → ShowsRouter (ticks_at now r).router new.machine → new.reader ≡ old.reader → IsShown (ticks_at now r).router new
unfolding ticks_at
ticks_shown old new now r s machine same =
    let n : Router = clocked now r in
    asks_shown old new r (clocked now r) (is_due n.link n.due n.now) (clocked_keeps now r) (λ h. idle_reads n.link (due_idle n.link n.due n.now h)) s machine same

-- The PDU at which memory ran out allocates memory.
wanted_so : (now : ℕ) (piece : List ℕ) (r : Router) (wanting : Option ℕ) → IsLacking wanting (fed (clocked now r) (At now ∷ []) wanting piece) → IfSome wanting (λ unit. is_wanted_by_router now piece r unit ≡ true)
unfolding receives
wanted_so now piece r None h = tt
wanted_so now piece r (Some unit) h = h

-- A piece is received.
pub receives_so : (old mid new : code.Router) (now : ℕ) (piece rest : List ℕ) (count : ℕ) → Does (clocked now) old.machine mid.machine → mid.reader ≡ old.reader → TakesOn false mid piece new rest → count ≡ length piece - length rest
    → ReceivesSo now piece count old new
unfolding receives
receives_so old mid new now piece rest count does same takes e = (
  takes.0,
  λ r s.
      let t = takes.1 (clocked now r) (told_shown old mid now r (does r s.machine) same s) in
      let ends = t.2 (At now ∷ []) in
      record { shown = subst (λ x. IsShown x new) (sym ends.router_is) t.1; count_is = e ∙ ap (λ x. length piece - length x) (sym ends.rest_is); wanted = wanted_so now piece r takes.0 ends.wanted },
)

-- A router is determined by its transcript.
pub led : (calls : List RouterCall) (v : code.Router) → CallsLead calls v → Led calls v
led calls v leads = record { leads = leads; kept = router_keeps calls; asking = router_asks calls; split = router_splits calls }

-- A call on a router leads on.
pub leads_on : (call : RouterCall) (old new : code.Router) → Calls (λ r. (called call r).router) old new → LeadsOn call old new
leads_on call old new does calls leads = led (call ∷ calls) new (does (played calls).router leads)
