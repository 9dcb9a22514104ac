-- A router's value, as the machine has it.
use Rattle.std.specs.Prelude.{◌≡◌, ℕ, ◌-◌, Bool, true, false, not, List, [], ◌∷◌, length, Option, Some, None, IfSome}
use Rattle.std.specs.List.{AllByRecursion, list_any}
use Rattle.rtr_pdu.specs.Reader.{Reader}
use Rattle.rtr_pdu.specs.declared.version.Version.{Version}
use Rattle.rtr_ends.specs.Consumed.{IsRouterCall, IsSplit, came}
use Rattle.rtr_ends.specs.Feeding.{FedPiece, feed}
use Rattle.rtr_ends.specs.Peer.{Held}
use Rattle.rtr_ends.specs.LinkRules.{Router}
use Rattle.rtr_ends.specs.Router.{Receiving, router_byte, router_stops, RouterCall, called, Receives, played, receives}
use Rattle.rtr_ends.specs.RouterLaws.{IsAsking, IsKept}
use Rattle.rtr_ends.specs.RouterLink.{is_closed, is_reading}
use Rattle.rtr_ends.specs.Seen.{ShowsRouter}
use Rattle.rtr_ends.specs.Transcript.{Item, Lacks}
use Rattle.rtr_ends.specs.declared.router.Router as code

-- a reader of this version that has so much of a PDU
abbrev pub reading : Version → Bool → List ℕ → Reader
reading version agreed held = record { version = Some version; held = held; any = not agreed; later = not agreed; fault = None }

-- The value is this router of the machine. A link that is closed or has ended reads nothing.
pub record IsShown (r : Router) (v : code.Router) : Type 0 where
  pub machine : ShowsRouter r v.machine
  pub reader : is_reading r.link ≡ true → v.reader ≡ reading r.spoken r.agreed r.held
  pub closed : is_closed r.link ≡ true → (r.held ≡ []) × (r.agreed ≡ false)

-- the bytes that a router holds
abbrev pub held_by_router : code.Router → Held
held_by_router v = record { received = length v.reader.held; ready = length v.machine.out }

-- A call: each router of the machine that the value was is stepped to one that it is.
abbrev pub Calls : (Router → Router) → code.Router → code.Router → Type 0
Calls step old new = (r : Router) → IsShown r old → IsShown (step r) new

-- memory ran out
abbrev pub is_lacking : Item → Bool
is_lacking (Lacks u) = true
is_lacking item = false

-- Memory runs out at this PDU of a piece: it allocates memory.
abbrev pub is_wanted_by_router : ℕ → List ℕ → Router → ℕ → Bool
is_wanted_by_router now piece r unit = list_any is_lacking (receives now (Some unit) piece r).machine.items

-- A piece is received, and this many bytes of it are consumed.
pub record Received (now : ℕ) (wanting : Option ℕ) (piece : List ℕ) (count : ℕ) (r : Router) (new : code.Router) : Type 0 where
  pub shown : IsShown (called (Receives now wanting piece) r).router new
  pub count_is : count ≡ length piece - length (receives now wanting piece r).rest
  pub wanted : IfSome wanting (λ unit. is_wanted_by_router now piece r unit ≡ true)

-- At one PDU of it, if at any, memory ran out.
abbrev pub ReceivesSo : ℕ → List ℕ → ℕ → code.Router → code.Router → Type 0
ReceivesSo now piece count old new = (wanting : Option ℕ) × ((r : Router) → IsShown r old → Received now wanting piece count r new)

-- a router that consumes a piece
abbrev pub taking : Router → List Item → Option ℕ → Receiving
taking r items wanting = record { router = r; items = items; wanting = wanting }

abbrev pub fed : Router → List Item → Option ℕ → List ℕ → FedPiece Receiving
fed r items wanting piece = feed (λ m. router_stops m.router) router_byte (taking r items wanting) piece

abbrev pub IsLacking : Option ℕ → FedPiece Receiving → Type 0
IsLacking wanting f = IfSome wanting (λ unit. list_any is_lacking f.machine.items ≡ true)

-- It comes to this router, with this left.
pub record Arrives (f : FedPiece Receiving) (wanting : Option ℕ) (r : Router) (rest : List ℕ) : Type 0 where
  pub router_is : f.machine.router ≡ r
  pub rest_is : f.rest ≡ rest
  pub wanted : IsLacking wanting f

-- It continues as another with another piece. If memory runs out later, it counts from here.
pub record Follows (f : FedPiece Receiving) (wanting : Option ℕ) (g : FedPiece Receiving) (later : Option ℕ) : Type 0 where
  pub router_is : f.machine.router ≡ g.machine.router
  pub rest_is : f.rest ≡ g.rest
  pub wanted : IsLacking later g → IsLacking wanting f

abbrev pub GoesOn : (Option ℕ → Option ℕ) → Router → List ℕ → Router → List ℕ → Type 0
GoesOn from before piece now rest = (items : List Item) (wanting : Option ℕ) → (later : List Item) × Follows (fed before items (from wanting) piece) (from wanting) (fed now later wanting rest) wanting

-- What was consumed leads to this router, with this left; or it is all that is consumed.
abbrev pub TakesOn : Bool → code.Router → List ℕ → code.Router → List ℕ → Type 0
TakesOn true old piece new rest = (from : Option ℕ → Option ℕ) × ((r : Router) → IsShown r old → (n : Router) × IsShown n new × GoesOn from r piece n rest)
TakesOn false old piece new rest = (wanting : Option ℕ) × ((r : Router) → IsShown r old → (n : Router) × IsShown n new × ((items : List Item) → Arrives (fed r items wanting piece) wanting n rest))

-- These calls, the last first, lead from a new router to the value.
abbrev pub CallsLead : List RouterCall → code.Router → Type 0
CallsLead calls v = IsShown (played calls).router v

-- They lead to it, and it holds what its transcript keeps, asks what that calls for, and consumed its PDUs.
pub record Led (calls : List RouterCall) (v : code.Router) : Type 0 where
  pub leads : CallsLead calls v
  pub kept : IsKept (played calls).router (played calls).items
  pub asking : IsAsking (played calls).router (played calls).items
  pub split : AllByRecursion IsRouterCall calls → IsSplit (played calls).router (played calls).items (came calls)

-- With this call they lead on.
abbrev pub LeadsOn : RouterCall → code.Router → code.Router → Type 0
LeadsOn call old new = (calls : List RouterCall) → CallsLead calls old → Led (call ∷ calls) new
