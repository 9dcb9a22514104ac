-- A router as a machine, byte by byte (RFC 8210 sections 5 to 8 and 12).
use Rattle.std.specs.Prelude.{ℕ, Bool, true, false, not, ◌&&◌, List, [], ◌∷◌, ◌++◌, drop, Option, Some, None, if◌then◌else◌}
use Rattle.rtr_pdu.specs.declared.version.Version.{Version}
use Rattle.rtr_pdu.specs.declared.kind.Kind.TheVariants as kinds
use Rattle.rtr_pdu.specs.Judging.{Judgement, Begins, Whole, Faulty, judge}
use Rattle.rtr_pdu.specs.Stream.{is_kind}
use Rattle.rtr_pdu.specs.declared.unit.Unit.{Unit}
use Rattle.rtr_pdu.specs.declared.unit.UnitFault.{UnitFault}
use Rattle.rtr_ends.specs.declared.configuration.RouterConfig.{RouterConfig}
use Rattle.rtr_ends.specs.declared.link.End.{End}
use Rattle.rtr_ends.specs.declared.link.End.TheVariants as ends
use Rattle.rtr_ends.specs.Answer.{sent_all}
use Rattle.rtr_ends.specs.Cache.{is_none, finds_memory, counted}
use Rattle.rtr_ends.specs.Connection.{agreed_version, fault_code, fault_report}
use Rattle.rtr_ends.specs.Feeding.{FedPiece, feed}
use Rattle.rtr_ends.specs.Transcript.{AskSerial, Item, At, Opened, Asks, Reads, Lacks, Breaks, Shut, Configured, choose, of_version, is_serial, is_over, later, sum_of, retry_of}
use Rattle.rtr_ends.specs.LinkRules.{Router, new_router, ask, emptied, on_unit, may_lack}
use Rattle.rtr_ends.specs.RouterLink.{Link, Closed, Asked, Answering, Ended, is_reading, is_closed, is_due, is_idle}

-- a router after a call or a part of it, and what that adds to its transcript, the last first
pub record Noted : Type 0 where
  pub router : Router
  pub items : List Item

abbrev pub silent : Router → Noted
silent r = record { router = r; items = [] }

-- A PDU made the router ask.
abbrev pub asked_by : Link → List ℕ → List Item
asked_by (Asked question) (b ∷ out) = Asks question ∷ []
asked_by link out = []

abbrev pub reads : Unit → Router → Noted
reads u r = let n : Router = on_unit r.link u r in record { router = n; items = asked_by n.link n.out ++ Reads u ∷ [] }

-- Out of memory ends the link; nothing is sent.
abbrev pub lacks : Unit → Router → Noted
lacks u r = record { router = record r { link = Ended ends.Memory }; items = Lacks u ∷ [] }

abbrev pub fault_end : Option Version → UnitFault → List ℕ → End
fault_end agreed fault bytes = if is_kind kinds.ErrorReport bytes then ends.Malformed else ends.Reported (fault_code agreed fault)

abbrev pub breaks : UnitFault → List ℕ → Router → Noted
breaks fault bytes r = record {
  router = record r { held = []; link = Ended (fault_end (agreed_version r.agreed r.spoken) fault bytes); out = sent_all r.spoken (fault_report (agreed_version r.agreed r.spoken) fault bytes) };
  items = Breaks fault ∷ [];
}

abbrev pub with_bytes : Bool → List ℕ → Router → Judgement → Noted
with_bytes memory bytes r Begins = silent (record r { held = bytes })
with_bytes memory bytes r (Whole u) =
    if may_lack r.link u r && not memory then lacks u (record r { held = [] }) else reads u (record r { held = [] })
with_bytes memory bytes r (Faulty fault) = breaks fault bytes r

-- Nothing is consumed if bytes are pending, or the link is closed or has ended.
abbrev pub router_stops : Router → Bool
router_stops r = not (is_reading r.link && is_none r.out)

-- a router that consumes a piece, with what that adds to its transcript, and the PDU at which memory runs out
pub record Receiving : Type 0 where
  pub router : Router
  pub items : List Item
  pub wanting : Option ℕ

abbrev pub with_read : Receiving → Judgement → Noted → Receiving
with_read m judgement n = record { router = n.router; items = n.items ++ m.items; wanting = counted judgement m.wanting }

abbrev pub router_judged : Receiving → List ℕ → Judgement → Receiving
router_judged m bytes judgement = with_read m judgement (with_bytes (finds_memory m.wanting) bytes m.router judgement)

-- The next byte. Until a version is agreed on, a notify of any version is read (RFC 8210 section 7).
unfoldable pub router_byte : Receiving → ℕ → Receiving
router_byte m b = router_judged m (m.router.held ++ b ∷ []) (judge m.router.spoken (not m.router.agreed) (m.router.held ++ b ∷ []))

-- The clock, judged first wherever a moment is given: what has expired is emptied. A Serial Query that is outstanding then ends the
-- link (RFC 8210 section 6).
abbrev pub expired : Link → Router → Router
expired (Asked (AskSerial session serial)) r = record (emptied r) { link = Ended ends.Expired; out = [] }
expired (Answering a) r = if is_serial (Some a.question) then record (emptied r) { link = Ended ends.Expired; out = [] } else emptied r
expired link r = emptied r

abbrev pub judged_by_clock : Router → Router
judged_by_clock r = if is_over r.version r.now then expired r.link r else r

unfoldable pub clocked : ℕ → Router → Router
clocked now r = judged_by_clock (record r { now = later r.now now })

-- A link that is not closed is closed. What was not pulled is dropped, and the beginning of a PDU.
abbrev pub close : Router → Router
close r = if is_closed r.link then r else record r {
  link = Closed;
  agreed = false;
  session = None;
  held = [];
  out = [];
  due = Some (sum_of r.now (retry_of r.config r.version));
}

abbrev pub asks_if : Bool → Router → Noted
asks_if true r = record { router = ask r; items = Asks (choose (of_version r.spoken r.version) r.mark) ∷ [] }
asks_if false r = silent r

abbrev pub and_then : List Item → Noted → Noted
and_then items n = record { router = n.router; items = n.items ++ items }

-- The calls. `connect` closes an older connection, and makes one of the version that was set last; `ask` asks if the link is idle.
unfoldable pub connects_at : ℕ → Router → Noted
connects_at now r =
    let closed : Router = close (clocked now r) in
    record { router = ask (record closed { spoken = closed.speaks }); items = Asks (choose (of_version closed.speaks closed.version) closed.mark) ∷ Opened closed.speaks ∷ At now ∷ [] }

unfoldable pub closed_at : ℕ → Router → Noted
closed_at now r = record { router = close (clocked now r); items = Shut ∷ At now ∷ [] }

unfoldable pub ticks_at : ℕ → Router → Noted
ticks_at now r = let ended_by : Router = clocked now r in and_then (At now ∷ []) (asks_if (is_due ended_by.link ended_by.due ended_by.now) ended_by)

unfoldable pub asks : Router → Noted
asks r = asks_if (is_idle r.link) r

unfoldable pub receives : ℕ → Option ℕ → List ℕ → Router → FedPiece Receiving
receives now wanting piece r =
    feed (λ m. router_stops m.router) router_byte (record { router = clocked now r; items = At now ∷ []; wanting = wanting }) piece

unfoldable pub router_pulled : ℕ → Router → Router
router_pulled most r = record r { out = drop most r.out }

-- What is called on a router. At `receive` memory may run out at a PDU of the piece, counted from 0. `speak` sets the version of
-- the next connection, `configure` the configuration from now on.
pub data RouterCall : Type 0 where
  Connects : (now : ℕ) → RouterCall
  Receives : (now : ℕ) → (wanting : Option ℕ) → (piece : List ℕ) → RouterCall
  Pulls : (most : ℕ) → RouterCall
  Closes : (now : ℕ) → RouterCall
  AsksNow : RouterCall
  Ticks : (now : ℕ) → RouterCall
  Speaks : (version : Version) → RouterCall
  Configures : (config : RouterConfig) → RouterCall

abbrev pub of_received : FedPiece Receiving → Noted
of_received f = record { router = f.machine.router; items = f.machine.items }

abbrev pub called : RouterCall → Router → Noted
called (Connects now) r = connects_at now r
called (Receives now wanting piece) r = of_received (receives now wanting piece r)
called (Pulls most) r = silent (router_pulled most r)
called (Closes now) r = closed_at now r
called AsksNow r = asks r
called (Ticks now) r = ticks_at now r
called (Speaks version) r = silent (record r { speaks = version })
called (Configures config) r = record { router = record r { config = config }; items = Configured config ∷ [] }

-- a new router and its transcript after these calls, the last first
abbrev pub played : List RouterCall → Noted
played [] = silent new_router
played (call ∷ calls) = let n : Noted = played calls in and_then n.items (called call n.router)
