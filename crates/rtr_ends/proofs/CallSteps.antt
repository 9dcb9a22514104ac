-- What bytes that are judged, the clock, a close and a question keep of a router and its transcript, calls keep.
use Rattle.rtr_ends.proofs.Words.{◌≡◌, ℕ, Bool, true, false, not, List, [], ◌∷◌, ◌++◌, Option, refl, Judgement, Faulty, judge}
use Rattle.rtr_pdu.specs.declared.unit.UnitFault.TheVariants as faults
use Rattle.rtr_pdu.proofs.JudgingLaws as judging
use Rattle.rtr_ends.specs.Cache.{finds_memory}
use Rattle.rtr_ends.specs.LinkRules.{Router, ask}
use Rattle.rtr_ends.specs.Router.{Noted, Receiving, RouterCall, Receives, Closes, AsksNow, Ticks, asks, asks_if, called, clocked, close, closed_at, receives, router_byte, router_stops, ticks_at, with_bytes}
use Rattle.rtr_ends.specs.RouterLink.{Link, Idle, is_due, is_idle, is_reading}
use Rattle.rtr_ends.specs.Transcript.{Item, Asks, At, Shut, choose, of_version}
use Rattle.rtr_ends.proofs.Effects.{by_byte, goes_so}
use Rattle.rtr_ends.proofs.FeedingLaws.{feed_keeps}
use Rattle.rtr_ends.proofs.TableLaws.{false_true}

pub idle_reads : (l : Link) → is_idle l ≡ true → is_reading l ≡ true
idle_reads Idle h = refl
idle_reads _ h = false_true h

pub due_idle : (l : Link) (when : Option ℕ) (now : ℕ) → is_due l when now ≡ true → is_idle l ≡ true
due_idle Idle when now h = refl
due_idle _ when now h = false_true h

-- A law of a router and its transcript
module _ (P : Router → List Item → Type 0) where
  abbrev pub Kept : Noted → List Item → Type 0
  Kept n items = P n.router (n.items ++ items)

  -- Bytes are judged by a router that reads and has nothing to be pulled.
  abbrev pub BytesKeep : Type 0
  BytesKeep =
      (memory : Bool) (bytes : List ℕ) (r : Router) (j : Judgement) (items : List Item) → (j ≡ Faulty faults.Truncated → ⊥) → is_reading r.link ≡ true → r.out ≡ [] → P r items →
      Kept (with_bytes memory bytes r j) items

  -- A byte and what is held are judged.
  pub by_next : BytesKeep → (items : List Item) (m : Receiving) (b : ℕ) → router_stops m.router ≡ false → P m.router (m.items ++ items) → P (router_byte m b).router ((router_byte m b).items ++ items)
  by_next keeps items m b goes_on p =
      let live = goes_so m.router goes_on in
      let bytes : List ℕ = m.router.held ++ b ∷ [] in
      let j : Judgement = judge m.router.spoken (not m.router.agreed) bytes in
      by_byte P items m b (keeps (finds_memory m.wanting) bytes m.router j (m.items ++ items) (λ e. (judging.faulty_exactly m.router.spoken (not m.router.agreed) bytes faults.Truncated).0 e) live.0 live.1 p)

  -- The clock, a close, and a question of an idle link
  pub record StepsKeep : Type 0 where
    pub clock : (now : ℕ) (r : Router) (items : List Item) → P r items → P (clocked now r) (At now ∷ items)
    pub closes : (r : Router) (items : List Item) → P r items → P (close r) (Shut ∷ items)
    pub asks_it : (r : Router) (items : List Item) → is_idle r.link ≡ true → P r items → P (ask r) (Asks (choose (of_version r.spoken r.version) r.mark) ∷ items)

  -- A piece is received.
  pub by_piece : ((now : ℕ) (r : Router) (items : List Item) → P r items → P (clocked now r) (At now ∷ items)) → BytesKeep → (now : ℕ) (wanting : Option ℕ) (piece : List ℕ) (r : Router) (items : List Item) → P r items
      → Kept (called (Receives now wanting piece) r) items
  unfolding receives
  by_piece clock keeps now wanting piece r items p =
      feed_keeps (λ (m : Receiving). router_stops m.router) router_byte (λ rest m. P m.router (m.items ++ items)) (λ b rest m goes_on h. by_next keeps items m b goes_on h)
      (record { router = clocked now r; items = At now ∷ []; wanting = wanting }) piece (clock now r items p)

  module _ (s : StepsKeep) where
    -- calls that do not look into it
    abbrev pub is_plain : RouterCall → Bool
    is_plain (Closes now) = true
    is_plain AsksNow = true
    is_plain (Ticks now) = true
    is_plain call = false

    pub by_call : (call : RouterCall) → is_plain call ≡ true → (r : Router) (items : List Item) → P r items → Kept (called call r) items
    unfolding closed_at ticks_at asks
    by_call (Closes now) plain r items p = s.closes (clocked now r) (At now ∷ items) (s.clock now r items p)
    by_call AsksNow plain r items p = asked (is_idle r.link) (λ h. h)
      where
        asked : (b : Bool) → (b ≡ true → is_idle r.link ≡ true) → Kept (asks_if b r) items
        asked true idle = s.asks_it r items (idle refl) p
        asked false idle = p
    by_call (Ticks now) plain r items p = asked (is_due n.link n.due n.now) (due_idle n.link n.due n.now)
      where
        n : Router
        n = clocked now r

        asked : (b : Bool) → (b ≡ true → is_idle n.link ≡ true) → P (asks_if b n).router (((asks_if b n).items ++ At now ∷ []) ++ items)
        asked true idle = s.asks_it n (At now ∷ items) (idle refl) (s.clock now r items p)
        asked false idle = s.clock now r items p
    by_call _ plain r items p = false_true plain
