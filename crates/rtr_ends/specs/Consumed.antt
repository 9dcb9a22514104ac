-- What a router consumed on its latest connection, and the split of it in its transcript (RFC 8210 sections 5, 7 and 12).
use Rattle.std.specs.Prelude.{◌≡◌, ℕ, ◌-◌, true, List, [], ◌∷◌, ◌++◌, length, take, Option, Some, None, ⊤}
use Rattle.std.specs.List.{AllByRecursion}
use Rattle.rtr_pdu.specs.Payloads.{AreBytes}
use Rattle.rtr_pdu.specs.Stream.{Splits}
use Rattle.rtr_pdu.specs.declared.unit.Unit.{Unit}
use Rattle.rtr_pdu.specs.declared.unit.UnitFault.{UnitFault}
use Rattle.rtr_ends.specs.LinkRules.{Router}
use Rattle.rtr_ends.specs.Router.{RouterCall, Connects, Receives, played, receives}
use Rattle.rtr_ends.specs.RouterLink.{is_closed, is_reading}
use Rattle.rtr_ends.specs.Transcript.{Item, Opened, Reads, Lacks, Breaks, Restarts, spoken}

-- the PDUs that came on the latest connection, in their order, those included at which memory ran out
abbrev pub units_read_in : List Item → List Unit
units_read_in [] = []
units_read_in (Opened version ∷ items) = []
units_read_in (Restarts ∷ items) = []
units_read_in (Reads unit ∷ items) = units_read_in items ++ unit ∷ []
units_read_in (Lacks unit ∷ items) = units_read_in items ++ unit ∷ []
units_read_in (item ∷ items) = units_read_in items

-- the fault that its bytes showed
abbrev pub fault_in : List Item → Option UnitFault
fault_in [] = None
fault_in (Opened version ∷ items) = None
fault_in (Restarts ∷ items) = None
fault_in (Breaks fault ∷ items) = Some fault
fault_in (item ∷ items) = fault_in items

-- What a call consumes of the piece that it passes in
abbrev pub consumed : RouterCall → Router → List ℕ
consumed (Receives now wanting piece) r = take (length piece - length (receives now wanting piece r).rest) piece
consumed call r = []

-- The bytes consumed on the latest connection by these calls, the last first
abbrev pub came : List RouterCall → List ℕ
came [] = []
came (Connects now ∷ calls) = []
came (call ∷ calls) = came calls ++ consumed call (played calls).router

-- what is received are bytes
abbrev pub IsRouterCall : RouterCall → Type 0
IsRouterCall (Receives now wanting piece) = AreBytes piece
IsRouterCall call = ⊤

-- The transcript has the split of these bytes: all PDUs, in their order, and the fault that shows. As long as the router reads none shows,
-- and what follows the PDUs is held. A closed link holds nothing, and nothing is pending on it.
pub record IsSplit (r : Router) (items : List Item) (bytes : List ℕ) : Type 0 where
  pub rest : List ℕ
  pub split : Splits (spoken items) true bytes (units_read_in items) rest (fault_in items)
  pub held : is_reading r.link ≡ true → rest ≡ r.held
  pub sound : is_reading r.link ≡ true → fault_in items ≡ None
  pub none_held : is_closed r.link ≡ true → r.held ≡ []
  pub none_out : is_closed r.link ≡ true → r.out ≡ []

abbrev pub RouterSplits : Type 0
RouterSplits = (calls : List RouterCall) → AllByRecursion IsRouterCall calls → IsSplit (played calls).router (played calls).items (came calls)
