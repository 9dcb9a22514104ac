-- What a router consumes byte by byte is what its reader consumes PDU by PDU.
use Rattle.rtr_ends.proofs.Words.{◌≡◌, ℕ, suc, Bool, true, false, not, List, [], ◌++◌, Option, Some, None, refl, Judgement, Whole, IsPartial, as_read, Unit}
use Rattle.rtr_ends.specs.Cache.{counted, finds_memory}
use Rattle.rtr_ends.specs.Feeding.{feed}
use Rattle.rtr_ends.specs.LinkRules.{Router}
use Rattle.rtr_ends.specs.Router.{Receiving, router_byte, router_stops, router_judged}
use Rattle.rtr_ends.specs.RouterShown.{fed, taking}
use Rattle.rtr_ends.specs.Transcript.{Item}
use Rattle.rtr_ends.proofs.UnitByUnit as units
use Rattle.rtr_ends.proofs.UnitByUnit.{ByteMachine, IsJudged, but_last}

router_machine : ByteMachine Receiving
unfolding router_byte
router_machine = record {
  stops = λ m. router_stops m.router;
  step = router_byte;
  held = λ m. m.router.held;
  any = λ m. not m.router.agreed;
  start = λ m. Some m.router.spoken;
  holding = λ m bytes. record m { router = record m.router { held = bytes } };
  judged = λ m version. router_judged m;
  own = λ m. refl;
  same_stop = λ m bytes. refl;
  begun = λ m version bytes more. refl;
  byte = λ m bytes b. refl;
}

abbrev pub stops : Receiving → Bool
stops m = router_stops m.router

-- A router that has stopped consumes nothing.
pub stopped : (r : Router) (items : List Item) (wanting : Option ℕ) (piece : List ℕ) → router_stops r ≡ true → fed r items wanting piece ≡ record { machine = taking r items wanting; rest = piece }
unfolding router_machine
stopped r items wanting piece stop = units.none_taken router_machine (taking r items wanting) piece stop

module _ (r : Router) (taken rest : List ℕ) (on : router_stops r ≡ false) (items : List Item) (wanting : Option ℕ) where
  -- A reader asks for more.
  pub more_taken : IsPartial r.spoken (as_read r.spoken (not r.agreed) (r.held ++ taken)) → fed r items wanting (taken ++ []) ≡ fed (record r { held = r.held ++ taken }) items wanting []
  unfolding router_machine
  more_taken part = units.more_taken router_machine (taking r items wanting) on r.spoken taken [] refl part

  -- It gives a PDU or shows a fault.
  pub shown_taken : IsPartial r.spoken (as_read r.spoken (not r.agreed) r.held) → (j : Judgement) → IsJudged r.spoken (not r.agreed) (r.held ++ taken) j
      → fed r items wanting (taken ++ rest) ≡ feed stops router_byte (router_judged (taking (record r { held = r.held ++ but_last taken }) items wanting) (r.held ++ taken) j) rest
  unfolding router_machine
  shown_taken part j judged = units.shown_taken router_machine (taking r items wanting) on r.spoken taken rest j refl part judged

-- The result of a PDU: it is read, or memory for it runs out.
abbrev pub shifted : Option ℕ → Option ℕ
shifted None = None
shifted (Some n) = Some (suc n)

pub has_memory : (w : Option ℕ) → finds_memory (shifted w) ≡ true
has_memory None = refl
has_memory (Some n) = refl

pub counts_back : (u : Unit) (w : Option ℕ) → counted (Whole u) (shifted w) ≡ w
counts_back u None = refl
counts_back u (Some n) = refl
