-- An upstream, from call to call.
use Rattle.std.specs.Prelude.{◌≡◌, ℕ, Bool, true, false, List, [], ◌∷◌, ◌++◌, length, Option, Some, None, is_some, if◌then◌else◌, refl}
use Rattle.std.proofs.Common.{sym, ap, ◌∙◌, subst}
use Rattle.std.proofs.lemmas.List.{append-nil}
use Rattle.std.specs.Io.KnownBytes.{Consumes}
use Rattle.std.proofs.KnownBytes.{Appends-nil, Consumes-nil}
use Rattle.rtr_pdu.specs.declared.version.Version.{Version}
use Rattle.rtr_pdu.specs.Unit.{MAX_UNIT_LEN}
use Rattle.rtr_pdu.specs.Stream.{Splits}
use Rattle.rtr_ends.specs.Consumed.{came, units_read_in}
use Rattle.rtr_ends.specs.LinkRules as rules
use Rattle.rtr_ends.specs.Router as routers
use Rattle.rtr_ends.specs.Router.{RouterCall, AsksNow, Closes, Configures, Connects, Receives, Speaks, Ticks, asks, asks_if, called, played}
use Rattle.rtr_ends.specs.RouterLaws.{pulled_by}
use Rattle.rtr_ends.specs.RouterLink.{Link, Answering, Asked, Closed, Ended, Idle, is_closed, is_idle}
use Rattle.rtr_ends.specs.RouterShown.{Calls, CallsLead, IsShown}
use Rattle.rtr_ends.specs.Transcript.{spoken}
use Rattle.rtr_ends.proofs.ConsumedLaws.{router_splits}
use Rattle.rtr_ends.specs.declared.configuration.RouterConfig.{RouterConfig}
use Rattle.rtr_ends.specs.declared.router.Router.{Router}
use Rattle.rtr_ends.proofs.TableLaws.{false_true}
use Rattle.rtr_server.specs.Clients.{Begun}
use Rattle.rtr_server.specs.Counting.{Counted, CountsSplits, capped, count_of, counted}
use Rattle.rtr_server.specs.declared.stream.Call.{Call}
use Rattle.rtr_server.specs.Turns.{no_traffic}
use Rattle.rtr_server.specs.declared.turn.Traffic.{Traffic}
use Rattle.upstreams.specs.Notes.{asked_again, noted, noted_at_connection, ticked_notes}
use Rattle.upstreams.specs.Polls.{Carries, CarriesIf, ConnectionState, Flow, PollsIf, Runs, Step, HandsIn, Pulls, Reads, Writes, notes_of, state_of, steps_after, with_ask, with_tick}
use Rattle.upstreams.specs.Upstreams.{CountsReceived, GoesOn, Leaves, Polls, ShowsUpstream, Stays, asks_early, carried_by, is_past, lost_at, received_by, refresh_due, sent_by, soonest, ticked}
use Rattle.upstreams.specs.declared.connection.Connection.{Connection}
use Rattle.upstreams.specs.declared.connection.DisconnectReason.{DisconnectReason}
use Rattle.upstreams.specs.declared.connection.PollOutcome.{PollOutcome}
use Rattle.upstreams.specs.declared.connection.PollOutcome.TheVariants.{Busy, Disconnected, NotConnected, WaitsToRead, WaitsToWrite}
use Rattle.upstreams.specs.declared.notes.Notes.{Notes}
use Rattle.upstreams.specs.declared.upstream.Upstream.{Upstream}
use Rattle.upstreams.proofs.ConnectionLaws.{closed_is, connected_is, ticked_closed}

-- Steps call the router, and take no call back.
calls_more : (now : ℕ) (steps : List Step) (s : ConnectionState) → (more : List RouterCall) × ((steps_after now steps s).calls ≡ more ++ s.calls)
calls_more now [] s = ([], refl)
calls_more now (HandsIn wanting ∷ steps) s = let h = calls_more now steps s in let call : RouterCall = Receives now wanting (steps_after now steps s).unread in (call ∷ h.0, ap (λ x. call ∷ x) h.1)
calls_more now (Pulls ∷ steps) s = let h = calls_more now steps s in let call : RouterCall = routers.Pulls MAX_UNIT_LEN in (call ∷ h.0, ap (λ x. call ∷ x) h.1)
calls_more now (Reads bytes ∷ steps) s = calls_more now steps s
calls_more now (Writes count ∷ steps) s = calls_more now steps s

-- A closed link is not idle.
closed_idle : (link : Link) → is_closed link ≡ true → is_idle link ≡ false
closed_idle Closed h = refl
closed_idle Idle h = false_true h
closed_idle (Asked question) h = refl
closed_idle (Answering answer) h = refl
closed_idle (Ended end) h = refl

idle_open : (link : Link) → is_idle link ≡ true → is_closed link ≡ false
idle_open Idle h = refl
idle_open Closed h = false_true h
idle_open (Asked question) h = refl
idle_open (Answering answer) h = refl
idle_open (Ended end) h = refl

-- A query opens and closes no link.
asked_closed : (r : rules.Router) (idle : Bool) → is_idle r.link ≡ idle → is_closed (asks_if idle r).router.link ≡ is_closed r.link
asked_closed r true h = sym (idle_open r.link h)
asked_closed r false h = refl

-- the first of equal times
pub soonest_both : (a x b y : Option ℕ) → a ≡ x → b ≡ y → soonest a b ≡ soonest x y
soonest_both a x b y one other = ap (λ z. soonest z b) one ∙ ap (soonest x) other

pub none_is : {A : Type 0} (x : Option A) → is_some x ≡ false → None ≡ x
none_is None h = refl
none_is (Some a) h = false_true (sym h)

-- What a tick calls: a connection that is lost is closed; a query that is due is put.
pub ticked_lost : (stall limit now : ℕ) (calls : List RouterCall) (P : List RouterCall → Type 0) → is_some (lost_at stall limit now calls) ≡ true → P (Closes now ∷ calls) → P (ticked stall limit now calls)
ticked_lost stall limit now calls P lost p = subst (λ x. P (if x then Closes now ∷ calls else if asks_early now (Ticks now ∷ calls) then AsksNow ∷ Ticks now ∷ calls else Ticks now ∷ calls)) (sym lost) p

pub ticked_asks : (stall limit now : ℕ) (calls : List RouterCall) (P : List RouterCall → Type 0) → is_some (lost_at stall limit now calls) ≡ false → asks_early now (Ticks now ∷ calls) ≡ true → P (AsksNow ∷ Ticks now ∷ calls) → P (ticked stall limit now calls)
ticked_asks stall limit now calls P lost early p =
    subst (λ x. P (if x then Closes now ∷ calls else if asks_early now (Ticks now ∷ calls) then AsksNow ∷ Ticks now ∷ calls else Ticks now ∷ calls)) (sym lost)
    (subst (λ x. P (if x then AsksNow ∷ Ticks now ∷ calls else Ticks now ∷ calls)) (sym early) p)

pub ticked_on : (stall limit now : ℕ) (calls : List RouterCall) (P : List RouterCall → Type 0) → is_some (lost_at stall limit now calls) ≡ false → asks_early now (Ticks now ∷ calls) ≡ false → P (Ticks now ∷ calls) → P (ticked stall limit now calls)
ticked_on stall limit now calls P lost early p =
    subst (λ x. P (if x then Closes now ∷ calls else if asks_early now (Ticks now ∷ calls) then AsksNow ∷ Ticks now ∷ calls else Ticks now ∷ calls)) (sym lost)
    (subst (λ x. P (if x then AsksNow ∷ Ticks now ∷ calls else Ticks now ∷ calls)) (sym early) p)

module _ {T : Type 0} (remaining contents : T → Option (List ℕ)) where
  -- A call over which no bytes go leaves what went over the connection.
  flow_same : (more calls : List RouterCall) (b : Begun) (left has : Option (List ℕ)) (unread unwritten : List ℕ) (traffic : Traffic) → came more ≡ came calls → pulled_by more ≡ pulled_by calls
      → Flow b left has (record { calls = calls; unread = unread; unwritten = unwritten; traffic = traffic }) → Flow b left has (record { calls = more; unread = unread; unwritten = unwritten; traffic = traffic })
  flow_same more calls b left has unread unwritten traffic same given flow = record {
    read = subst (λ x. Consumes b.before left (x ++ unread)) (sym same) flow.read;
    written = flow.written;
    given = given ∙ flow.given;
    out = flow.out;
    all_read = flow.all_read ∙ ap (λ x. capped (length (x ++ unread))) (sym same);
    all_written = flow.all_written;
    all_received = flow.all_received ∙ ap counted (sym same);
    all_sent = flow.all_sent;
  }

  -- A version is set.
  pub speaks : (old new : Router) (c : Option (Connection T)) (version : Version) → Calls (λ r. (called (Speaks version) r).router) old new → (calls : List RouterCall) (b : Begun) → Runs remaining contents calls b old c → Runs remaining contents (Speaks version ∷ calls) b new c
  speaks old new c version does calls b runs = record { leads = does (played calls).router runs.leads; can_be = (tt, runs.can_be); carries = by_connection c runs.carries }
    where
      by_connection : (c : Option (Connection T)) → CarriesIf remaining contents calls b c → CarriesIf remaining contents (Speaks version ∷ calls) b c
      by_connection None h = h
      by_connection (Some c) h = record { is_open = h.is_open; noted = h.noted; flow = flow_same (Speaks version ∷ calls) calls b (remaining c.stream) (contents c.stream) c.unread c.unwritten c.traffic (append-nil (came calls)) refl h.flow }

  -- What leads to a router and its connection leads to the upstream.
  pub runs_of : (calls : List RouterCall) (b : Begun) (u : Upstream T) → ShowsUpstream remaining contents calls b u → Runs remaining contents calls b u.router u.connection
  runs_of calls b u h = record { leads = h.leads; can_be = h.can_be; carries = h.carries }

  pub shows : (calls : List RouterCall) (b : Begun) (u : Upstream T) → Runs remaining contents calls b u.router u.connection → notes_of u.connection u.notes ≡ noted calls → ShowsUpstream remaining contents calls b u
  shows calls b u runs is = record { leads = runs.leads; can_be = runs.can_be; carries = runs.carries; noted = is }

  -- A configuration is set.
  pub configures : (old new : Router) (c : Option (Connection T)) (config : RouterConfig) → Calls (λ r. (called (Configures config) r).router) old new → (calls : List RouterCall) (b : Begun) → Runs remaining contents calls b old c → Runs remaining contents (Configures config ∷ calls) b new c
  configures old new c config does calls b runs = record { leads = does (played calls).router runs.leads; can_be = (tt, runs.can_be); carries = by_connection c runs.carries }
    where
      by_connection : (c : Option (Connection T)) → CarriesIf remaining contents calls b c → CarriesIf remaining contents (Configures config ∷ calls) b c
      by_connection None h = h
      by_connection (Some c) h = record { is_open = h.is_open; noted = h.noted; flow = flow_same (Configures config ∷ calls) calls b (remaining c.stream) (contents c.stream) c.unread c.unwritten c.traffic (append-nil (came calls)) refl h.flow }

  -- The clock is advanced.
  pub ticks : (old new : Router) (before after : Option (Connection T)) (last : Notes) (idle : Bool) (now : ℕ) → ((r : rules.Router) → IsShown r old → idle ≡ is_idle r.link) → ((r : rules.Router) → IsShown r new → after ≡ with_tick now idle r before)
      → Calls (λ r. (called (Ticks now) r).router) old new → (calls : List RouterCall) (b : Begun) → Runs remaining contents calls b old before → notes_of before last ≡ noted calls
      → Runs remaining contents (Ticks now ∷ calls) b new after × (notes_of after last ≡ noted (Ticks now ∷ calls))
  ticks old new before after last idle now idle_is ticked does calls b runs is =
      let r : rules.Router = (played calls).router in
      let n : rules.Router = (played (Ticks now ∷ calls)).router in
      let leads : IsShown n new = does r runs.leads in
      let after_is : after ≡ with_tick now (is_idle r.link) n before = ticked n leads ∙ ap (λ x. with_tick now x n before) (idle_is r runs.leads) in
      subst (λ x. Runs remaining contents (Ticks now ∷ calls) b new x × (notes_of x last ≡ noted (Ticks now ∷ calls))) (sym after_is) (by_connection leads before runs.carries is)
    where
      by_connection : IsShown (played (Ticks now ∷ calls)).router new → (c : Option (Connection T)) → CarriesIf remaining contents calls b c → notes_of c last ≡ noted calls
          → Runs remaining contents (Ticks now ∷ calls) b new (with_tick now (is_idle (played calls).router.link) (played (Ticks now ∷ calls)).router c) × (notes_of (with_tick now (is_idle (played calls).router.link) (played (Ticks now ∷ calls)).router c) last ≡ noted (Ticks now ∷ calls))
      by_connection leads None h is = (
        record { leads = leads; can_be = (tt, runs.can_be); carries = ticked_closed now (played calls).router ∙ h },
        is ∙ ap (λ x. ticked_notes now x (played (Ticks now ∷ calls)).router (noted calls)) (sym (closed_idle (played calls).router.link h)),
      )
      by_connection leads (Some c) h is = (
        record {
          leads = leads;
          can_be = (tt, runs.can_be);
          carries = record {
            is_open = ticked_closed now (played calls).router ∙ h.is_open;
            noted = ap (ticked_notes now (is_idle (played calls).router.link) (played (Ticks now ∷ calls)).router) h.noted;
            flow = flow_same (Ticks now ∷ calls) calls b (remaining c.stream) (contents c.stream) c.unread c.unwritten c.traffic (append-nil (came calls)) refl h.flow;
          };
        },
        ap (ticked_notes now (is_idle (played calls).router.link) (played (Ticks now ∷ calls)).router) h.noted,
      )

  -- An idle link is asked earlier than by its timer.
  pub asks_now : (old new : Router) (before : Option (Connection T)) (last : Notes) (now : ℕ) → Calls (λ r. (called AsksNow r).router) old new → (calls : List RouterCall) (b : Begun) → asks_early now (Ticks now ∷ calls) ≡ true
      → Runs remaining contents (Ticks now ∷ calls) b old before → notes_of before last ≡ noted (Ticks now ∷ calls)
      → Runs remaining contents (AsksNow ∷ Ticks now ∷ calls) b new (with_ask now before) × (notes_of (with_ask now before) last ≡ noted (AsksNow ∷ Ticks now ∷ calls))
  unfolding asks
  asks_now old new before last now does calls b early runs is = by_connection before runs.carries is
    where
      more : List RouterCall
      more = Ticks now ∷ calls

      by_connection : (c : Option (Connection T)) → CarriesIf remaining contents more b c → notes_of c last ≡ noted more
          → Runs remaining contents (AsksNow ∷ more) b new (with_ask now c) × (notes_of (with_ask now c) last ≡ noted (AsksNow ∷ more))
      by_connection None h is = false_true (sym (ap (λ x. is_past (if x then refresh_due more else None) now) (closed_idle (played more).router.link h)) ∙ early)
      by_connection (Some c) h is = (
        record {
          leads = does (played more).router runs.leads;
          can_be = (tt, runs.can_be);
          carries = record {
            is_open = asked_closed (played more).router (is_idle (played more).router.link) refl ∙ h.is_open;
            noted = ap (asked_again now) h.noted;
            flow = flow_same (AsksNow ∷ more) more b (remaining c.stream) (contents c.stream) c.unread c.unwritten c.traffic (append-nil (came more)) refl h.flow;
          };
        },
        ap (asked_again now) h.noted,
      )

  -- The connection is dropped.
  pub closes : (old new : Upstream T) (now : ℕ) → Calls (λ r. (called (Closes now) r).router) old.router new.router → new.connection ≡ None → new.notes ≡ notes_of old.connection old.notes
      → (calls : List RouterCall) (b : Begun) → ShowsUpstream remaining contents calls b old → ShowsUpstream remaining contents (Closes now ∷ calls) b new
  closes old new now does gone is calls b h = record {
    leads = does (played calls).router h.leads;
    can_be = (tt, h.can_be);
    carries = subst (CarriesIf remaining contents (Closes now ∷ calls) b) (sym gone) (closed_is now (played calls).router);
    noted = ap (λ x. notes_of x new.notes) gone ∙ is ∙ h.noted;
  }

  -- None can be made.
  pub fails : (old new : Upstream T) (between : Router) (now : ℕ) (version : Version) → Calls (λ r. (called (Connects now) (called (Speaks version) r).router).router) old.router between → Calls (λ r. (called (Closes now) r).router) between new.router
      → new.connection ≡ None → new.notes ≡ noted_at_connection now version
      → (calls : List RouterCall) (b : Begun) → ShowsUpstream remaining contents calls b old → ShowsUpstream remaining contents (Closes now ∷ Connects now ∷ Speaks version ∷ calls) b new
  fails old new between now version one two gone is calls b h = record {
    leads = two (played (Connects now ∷ Speaks version ∷ calls)).router (one (played calls).router h.leads);
    can_be = (tt, (tt, (tt, h.can_be)));
    carries = subst (CarriesIf remaining contents (Closes now ∷ Connects now ∷ Speaks version ∷ calls) b) (sym gone) (closed_is now (played (Connects now ∷ Speaks version ∷ calls)).router);
    noted = ap (λ x. notes_of x new.notes) gone ∙ is;
  }

  -- One is made.
  pub connects : (old new : Upstream T) (stream : T) (now : ℕ) (version : Version) → Calls (λ r. (called (Connects now) (called (Speaks version) r).router).router) old.router new.router
      → new.connection ≡ Some (record { stream = stream; unread = []; unwritten = []; traffic = no_traffic; notes = noted_at_connection now version })
      → (calls : List RouterCall) (b : Begun) → ShowsUpstream remaining contents calls b old
      → ShowsUpstream remaining contents (Connects now ∷ Speaks version ∷ calls) (record { before = remaining stream; had = contents stream }) new
  connects old new stream now version does made calls b h = record {
    leads = does (played calls).router h.leads;
    can_be = (tt, (tt, h.can_be));
    carries = subst (CarriesIf remaining contents (Connects now ∷ Speaks version ∷ calls) (record { before = remaining stream; had = contents stream })) (sym made) (record {
      is_open = connected_is now (played (Speaks version ∷ calls)).router;
      noted = refl;
      flow = record { read = Consumes-nil (remaining stream); written = []; given = refl; out = Appends-nil (contents stream); all_read = refl; all_written = refl; all_received = refl; all_sent = refl };
    });
    noted = ap (λ x. notes_of x new.notes) made;
  }

  -- What is counted are the PDUs of the split.
  pub counts_received : (u : Upstream T) → CountsSplits → CountsReceived remaining contents u
  counts_received u law calls b c shown is sound kind =
      let split = router_splits calls shown.can_be in
      let carries : Carries remaining contents calls b c = subst (CarriesIf remaining contents calls b) is shown.carries in
      ap (λ (x : Counted). count_of x.pdus kind) carries.flow.all_received
      ∙ law (spoken (played calls).items) true (came calls) (units_read_in (played calls).items) split.rest (subst (Splits (spoken (played calls).items) true (came calls) (units_read_in (played calls).items) split.rest) sound split.split) kind

  module _ (answers : T → Option (List Call)) where
    polled_on : (now budget : ℕ) (before : Router) (old : Option (Connection T)) (outcome : PollOutcome) (router : Router) (new : Option (Connection T)) (last : Notes) → PollsIf remaining contents answers now budget before old outcome router new
        → (calls : List RouterCall) (b : Begun) → Runs remaining contents calls b before old → notes_of old last ≡ noted calls
        → (more : List RouterCall) × Runs remaining contents (more ++ calls) b router new × (notes_of new last ≡ noted (more ++ calls))
    polled_on now budget before (Some old) outcome router (Some new) last h calls b runs is =
        let g = h.goes calls b runs tt in
        let m = calls_more now g.steps (state_of calls old) in
        let e : g.calls ≡ m.0 ++ calls = sym (ap (λ (s : ConnectionState). s.calls) g.leads) ∙ m.1 in
        let on : Runs remaining contents (m.0 ++ calls) b router (Some new) = subst (λ x. Runs remaining contents x b router (Some new)) e g.runs in
        (m.0, on, on.carries.noted)
    polled_on now budget before None NotConnected router None last h calls b runs is = ([], subst (λ x. Runs remaining contents calls b x None) (sym h) runs, is)
    polled_on now budget before old outcome router new last h calls b runs is = absurd h

    stayed_on : (now budget : ℕ) (old new : Upstream T) (outcome : PollOutcome) → Stays remaining contents answers now budget old outcome new → GoesOn remaining contents old new
    stayed_on now budget old new outcome h calls b shown =
        let on = polled_on now budget old.router old.connection outcome new.router new.connection old.notes h.polled calls b (runs_of calls b old shown) shown.noted in
        (on.0, shows (on.0 ++ calls) b new on.1 (ap (notes_of new.connection) h.noted ∙ on.2))

    left_on : (now budget : ℕ) (old new : Upstream T) (reason : DisconnectReason) → Leaves remaining contents answers now budget old reason new → GoesOn remaining contents old new
    left_on now budget old new reason h calls b shown =
        let on = polled_on now budget old.router old.connection (Disconnected reason) h.between (Some h.last) old.notes h.polled calls b (runs_of calls b old shown) shown.noted in (
          Closes now ∷ on.0,
          record {
            leads = h.closed (on.0 ++ calls) on.1.leads;
            can_be = (tt, on.1.can_be);
            carries = subst (CarriesIf remaining contents (Closes now ∷ (on.0 ++ calls)) b) (sym h.gone) (closed_is now (played (on.0 ++ calls)).router);
            noted = ap (λ x. notes_of x new.notes) h.gone ∙ h.noted ∙ on.2;
          },
        )

    -- A connection was polled to its end and dropped.
    pub leaves : (now budget : ℕ) (old : Upstream T) (reason : DisconnectReason) (between : Router) (after : Option (Connection T)) (new : Upstream T) → PollsIf remaining contents answers now budget old.router old.connection (Disconnected reason) between after
        → new.connection ≡ None → ((calls : List RouterCall) → CallsLead calls between → CallsLead (Closes now ∷ calls) new.router) → new.notes ≡ notes_of after old.notes → new.carried ≡ carried_by after old.carried
        → new.received ≡ received_by after old.received → new.sent ≡ sent_by after old.sent → new.stall ≡ old.stall → new.answer_limit ≡ old.answer_limit → new.fallback ≡ old.fallback
        → Leaves remaining contents answers now budget old reason new
    leaves now budget old reason between after new h gone closed is counted received sent stall limit fallback = by_after after h is counted received sent
      where
        none : (c : Option (Connection T)) → PollsIf remaining contents answers now budget old.router c (Disconnected reason) between None → ⊥
        none None h = h
        none (Some c) h = h

        by_after : (after : Option (Connection T)) → PollsIf remaining contents answers now budget old.router old.connection (Disconnected reason) between after → new.notes ≡ notes_of after old.notes → new.carried ≡ carried_by after old.carried → new.received ≡ received_by after old.received → new.sent ≡ sent_by after old.sent → Leaves remaining contents answers now budget old reason new
        by_after None h is counted received sent = absurd (none old.connection h)
        by_after (Some last) h is counted received sent = record { last = last; between = between; polled = h; gone = gone; closed = closed; noted = is; counted = counted; received = received; sent = sent; stall = stall; limit = limit; fallback = fallback }

    -- A connection was polled and stays, or there is none.
    pub stays_so : (now budget : ℕ) (old : Upstream T) (outcome : PollOutcome) (new : Upstream T) → ((reason : DisconnectReason) → ¬ (outcome ≡ Disconnected reason)) → PollsIf remaining contents answers now budget old.router old.connection outcome new.router new.connection
        → new.notes ≡ old.notes → new.carried ≡ old.carried → new.received ≡ old.received → new.sent ≡ old.sent → new.stall ≡ old.stall → new.answer_limit ≡ old.answer_limit → new.fallback ≡ old.fallback → Polls remaining contents answers now budget old outcome new
    stays_so now budget old (Disconnected reason) new other h is counted received sent stall limit fallback = absurd (other reason refl)
    stays_so now budget old NotConnected new other h is counted received sent stall limit fallback = record { polled = h; noted = is; counted = counted; received = received; sent = sent; stall = stall; limit = limit; fallback = fallback }
    stays_so now budget old WaitsToRead new other h is counted received sent stall limit fallback = record { polled = h; noted = is; counted = counted; received = received; sent = sent; stall = stall; limit = limit; fallback = fallback }
    stays_so now budget old WaitsToWrite new other h is counted received sent stall limit fallback = record { polled = h; noted = is; counted = counted; received = received; sent = sent; stall = stall; limit = limit; fallback = fallback }
    stays_so now budget old Busy new other h is counted received sent stall limit fallback = record { polled = h; noted = is; counted = counted; received = received; sent = sent; stall = stall; limit = limit; fallback = fallback }

    -- A poll leads on.
    pub goes_on : (now budget : ℕ) (old new : Upstream T) (outcome : PollOutcome) → Polls remaining contents answers now budget old outcome new → GoesOn remaining contents old new
    goes_on now budget old new (Disconnected reason) h = left_on now budget old new reason h
    goes_on now budget old new NotConnected h = stayed_on now budget old new NotConnected h
    goes_on now budget old new WaitsToRead h = stayed_on now budget old new WaitsToRead h
    goes_on now budget old new WaitsToWrite h = stayed_on now budget old new WaitsToWrite h
    goes_on now budget old new Busy h = stayed_on now budget old new Busy h
