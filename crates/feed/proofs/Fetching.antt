-- A new router that is handed the answer of a cache with one version.
use Rattle.std.specs.Prelude.{◌≡◌, ℕ, Bool, true, false, not, ◌&&◌, List, [], ◌∷◌, ◌++◌, map, Some, if◌then◌else◌, refl, ⊤}
use Rattle.std.proofs.Common.{sym, ap, ◌∙◌, subst, append-nil, arith}
use Rattle.std.specs.List.{AllByRecursion, All}
use Rattle.std.proofs.lemmas.List.Elements.{All-head, All-tail}
use Rattle.prefixes.specs.Payload.{IsPayload, Payload}
use Rattle.vrps.specs.VrpSet.{SameMembers, VrpSet, listing}
use Rattle.rtr_pdu.specs.Judging.{Judgement, Begins, Whole, Faulty, judge}
use Rattle.rtr_pdu.specs.Stream.{AreRead, NoBeginning, WrittenIsRead}
use Rattle.rtr_pdu.specs.Unit.{IsUnitOf}
use Rattle.rtr_pdu.specs.declared.unit.Unit.TheVariants.{Prefix}
use Rattle.rtr_pdu.specs.declared.version.Version.{Version}
use Rattle.rtr_pdu.specs.declared.version.Version.TheVariants.{V1}
use Rattle.rtr_ends.specs.Answer.{sent_all}
use Rattle.rtr_ends.specs.Cache.{finds_memory}
use Rattle.rtr_ends.specs.Consumed.{IsRouterCall, came, units_read_in}
use Rattle.rtr_ends.specs.FetchStream.{IsFetchCall, calls_since}
use Rattle.rtr_ends.specs.RouterLink.{name_of}
use Rattle.rtr_ends.specs.Router as model
use Rattle.rtr_ends.specs.LinkRules.{Router, may_lack, on_unit}
use Rattle.rtr_ends.specs.Router.{RouterCall, Closes, Connects, AsksNow, Ticks, Pulls, Speaks, Configures, Receives, Receiving, asked_by, called, closed_at, connects_at, played, receives, router_byte, router_pulled, router_stops, with_bytes}
use Rattle.rtr_ends.specs.RouterLink.{Answering, Asked, Closed, Ended, Idle, Link}
use Rattle.rtr_ends.specs.RouterLaws.{RouterSpeaks, connected_version}
use Rattle.rtr_ends.specs.RouterShown.{CallsLead, LeadsOn}
use Rattle.rtr_ends.specs.Transcript.{Asks, At, Breaks, Configured, Item, Lacks, Opened, Reads, Refused, Restarts, Shut, kept, spoken}
use Rattle.rtr_ends.specs.declared.router.Router as code
use Rattle.feed.specs.Feed.{answer_bytes}
use Rattle.feed.specs.Loopback.{HasTable, Took}
use Rattle.feed.proofs.Serving.{feed_keeps, sent_in}
use Rattle.rtr_ends.specs.Connection.{bytes_sent, in_version}
use Rattle.feed.proofs.FrontUnits.{read_are_first}
use Rattle.feed.proofs.Transcripts.{OneConnection, answer_units, holds, last}

-- ---- one connection

-- It makes no connection, and no new router.
abbrev IsPlain : Item → Type 0
IsPlain (Opened version) = ⊥
IsPlain Restarts = ⊥
IsPlain item = ⊤

both_plain : (xs ys : List Item) → AllByRecursion IsPlain xs → AllByRecursion IsPlain ys → AllByRecursion IsPlain (xs ++ ys)
both_plain [] ys h k = k
both_plain (x ∷ xs) ys h k = (h.0, both_plain xs ys h.1 k)

goes_on : (xs items : List Item) → AllByRecursion IsPlain xs → OneConnection items → OneConnection (xs ++ items)
goes_on [] items h one = one
goes_on (At now ∷ xs) items h one = goes_on xs items h.1 one
goes_on (Opened version ∷ xs) items h one = absurd h.0
goes_on (Asks question ∷ xs) items h one = goes_on xs items h.1 one
goes_on (Reads u ∷ xs) items h one = goes_on xs items h.1 one
goes_on (Lacks u ∷ xs) items h one = goes_on xs items h.1 one
goes_on (Breaks fault ∷ xs) items h one = goes_on xs items h.1 one
goes_on (Refused ∷ xs) items h one = goes_on xs items h.1 one
goes_on (Shut ∷ xs) items h one = goes_on xs items h.1 one
goes_on (Restarts ∷ xs) items h one = absurd h.0
goes_on (Configured config ∷ xs) items h one = goes_on xs items h.1 one

plain_asked : (link : Link) (out : List ℕ) → AllByRecursion IsPlain (asked_by link out)
plain_asked (Asked question) [] = tt
plain_asked (Asked question) (b ∷ out) = (tt, tt)
plain_asked Closed out = tt
plain_asked Idle out = tt
plain_asked (Answering a) out = tt
plain_asked (Ended end) out = tt

plain_judged : (memory : Bool) (bytes : List ℕ) (r : Router) (j : Judgement) → AllByRecursion IsPlain (with_bytes memory bytes r j).items
plain_judged memory bytes r Begins = tt
plain_judged memory bytes r (Whole u) = by_test (may_lack r.link u r && not memory)
  where
    held : Router
    held = record r { held = [] }

    by : Bool → model.Noted
    by b = if b then model.lacks u held else model.reads u held

    by_test : (b : Bool) → AllByRecursion IsPlain (by b).items
    by_test true = (tt, tt)
    by_test false = both_plain (asked_by (on_unit held.link u held).link (on_unit held.link u held).out) (Reads u ∷ []) (plain_asked (on_unit held.link u held).link (on_unit held.link u held).out) (tt, tt)
plain_judged memory bytes r (Faulty fault) = (tt, tt)

plain_byte : (m : Receiving) (b : ℕ) → AllByRecursion IsPlain m.items → AllByRecursion IsPlain (router_byte m b).items
unfolding router_byte
plain_byte m b h =
    let j = judge m.router.spoken (not m.router.agreed) (m.router.held ++ b ∷ []) in
    both_plain (with_bytes (finds_memory m.wanting) (m.router.held ++ b ∷ []) m.router j).items m.items (plain_judged (finds_memory m.wanting) (m.router.held ++ b ∷ []) m.router j) h

plain_call : (now : ℕ) (call : RouterCall) (r : Router) → IsFetchCall now call → AllByRecursion IsPlain (called call r).items
unfolding receives
plain_call now (Receives at wanting piece) r h = feed_keeps (λ (m : Receiving). router_stops m.router) router_byte (λ m. AllByRecursion IsPlain m.items) plain_byte _ piece (tt, tt)
plain_call now (Pulls most) r h = tt
plain_call now (Connects at) r h = absurd h
plain_call now (Closes at) r h = absurd h
plain_call now AsksNow r h = absurd h
plain_call now (Ticks at) r h = absurd h
plain_call now (Speaks version) r h = absurd h
plain_call now (Configures config) r h = absurd h

connected : OneConnection (played (Connects 0 ∷ [])).items
unfolding connects_at
connected = refl

one_connection : (turns : List RouterCall) → AllByRecursion (IsFetchCall 0) turns → OneConnection (played (calls_since turns 0 [])).items
one_connection [] h = connected
one_connection (call ∷ turns) h = goes_on (called call (played (calls_since turns 0 [])).router).items (played (calls_since turns 0 [])).items (plain_call 0 call (played (calls_since turns 0 [])).router h.0) (one_connection turns h.1)

closed : (turns : List RouterCall) → AllByRecursion (IsFetchCall 0) turns → OneConnection (played (Closes 0 ∷ calls_since turns 0 [])).items
unfolding closed_at
closed turns h = one_connection turns h

is_call : (call : RouterCall) → IsFetchCall 0 call → IsRouterCall call
is_call (Receives at wanting piece) h = h.1
is_call (Pulls most) h = tt
is_call (Connects at) h = tt
is_call (Closes at) h = tt
is_call AsksNow h = tt
is_call (Ticks at) h = tt
is_call (Speaks version) h = tt
is_call (Configures config) h = tt

are_calls : (turns : List RouterCall) → AllByRecursion (IsFetchCall 0) turns → AllByRecursion IsRouterCall (calls_since turns 0 [])
are_calls [] h = (tt, tt)
are_calls (call ∷ turns) h = (is_call call h.0, are_calls turns h.1)

-- No version was set for the router.
connected_1 : (turns : List RouterCall) → AllByRecursion (IsFetchCall 0) turns → connected_version (calls_since turns 0 []) ≡ V1
connected_1 [] h = refl
connected_1 (Receives at wanting piece ∷ turns) h = connected_1 turns h.1
connected_1 (Pulls most ∷ turns) h = connected_1 turns h.1
connected_1 (call ∷ turns) h = absurd h.0

-- ---- the answer

are_units : (vs : List Payload) → All IsPayload vs → AllByRecursion (IsUnitOf V1) (map (λ v. Prefix true v) vs ++ last ∷ [])
are_units [] h = (((omega arith, omega arith, omega arith, omega arith, omega arith), refl), tt)
are_units (v ∷ vs) h = ((All-head IsPayload v vs h, refl), are_units vs (All-tail IsPayload v vs h))

all_units : (vs : List Payload) → All IsPayload vs → AllByRecursion (IsUnitOf V1) (answer_units vs)
all_units vs h = ((omega arith, refl), are_units vs h)

answer_is : (set : VrpSet) → answer_bytes set ≡ sent_all V1 (answer_units (listing set))
unfolding answer_bytes
answer_is set = ap bytes_sent (append-nil (in_version V1 (answer_units (listing set)))) ∙ sent_in V1 (answer_units (listing set))

module _ (apart : NoBeginning) (written : WrittenIsRead) (same : SameMembers) (speaks : RouterSpeaks) where
  -- What such a router has committed is the set.
  pub fetched : (set : VrpSet) (wire : List ℕ) (old new : code.Router) (name : Version × ℕ × ℕ) → All IsPayload (listing set) → wire ≡ answer_bytes set → (t : Took wire old) → LeadsOn (Closes 0) old new
      → ((calls : List RouterCall) → CallsLead calls new → Some name ≡ name_of (kept (played calls).items).version) → HasTable set new
  fetched set wire old new name payloads wire_is t closes named =
      let calls : List RouterCall = Closes 0 ∷ calls_since t.turns 0 [] in
      let led = closes (calls_since t.turns 0 []) t.leads in
      let s = led.split (tt, are_calls t.turns t.each) in
      let version : spoken (played calls).items ≡ V1 = (speaks calls).1 ∙ connected_1 t.turns t.each in
      let stream : s.split.front ++ s.rest ≡ sent_all V1 (answer_units (listing set)) = sym s.split.whole ∙ append-nil (came (calls_since t.turns 0 [])) ∙ t.came_is ∙ wire_is ∙ answer_is set in
      let first = read_are_first apart written true (answer_units (listing set)) (units_read_in (played calls).items) s.split.front s.rest (all_units (listing set) payloads) (subst (λ v. AreRead v true (units_read_in (played calls).items) s.split.front) version s.split.read) stream in
      record {
        machine = (played calls).router;
        shown = led.leads;
        table = led.kept.table ∙ holds same set (played calls).items first.0 (closed t.turns t.each) first.1 name (sym (named calls led.leads));
      }
