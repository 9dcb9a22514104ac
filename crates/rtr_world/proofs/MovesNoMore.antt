-- An event moves at most as many bytes as it says, and not more if memory runs out at a PDU of it.
use Rattle.rtr_world.proofs.Words.{◌≡◌, ℕ, ◌-◌, ◌≤◌, Bool, true, false, nat_lt, List, ◌++◌, drop, length, take, Option, Some, None, if◌then◌else◌, arith, min-le_left, length-append, length-drop, length-take, Conn, conn_takes, receives}
use Rattle.rtr_world.specs.Claims.{MovesNoMore}
use Rattle.rtr_world.specs.History.{Memory, NoSuchRouter, MayEnd, moved, moved_at, most_of, refusal, side_at}
use Rattle.rtr_world.specs.World.{Side, World, SideEvent, RouterRestart, RouterSends, CacheGets, CacheSends, RouterGets, On, cache_gets, gets_at, router_gets, timing}
use Rattle.rtr_world.proofs.Readings.{conn_leaves, router_leaves}

-- What is left of this many bytes, with what is behind them
left_most : (most : ℕ) (bytes rest : List ℕ) → length bytes - length (rest ++ drop most bytes) ≤ most
left_most most bytes rest =
    let size = length-append rest (drop most bytes) in
    let behind_it = length-drop most bytes in omega (arith, size, behind_it)

left_fewer : (most : ℕ) (bytes rest more : List ℕ) → length rest ≤ length more → length bytes - length (more ++ drop most bytes) ≤ length bytes - length (rest ++ drop most bytes)
left_fewer most bytes rest more h =
    let a = length-append rest (drop most bytes) in
    let b = length-append more (drop most bytes) in omega (arith, a, b, h)

taken_most : (most : ℕ) (bytes : List ℕ) → length (take most bytes) ≤ most
taken_most most bytes =
    let size = length-take most bytes in
    let low = min-le_left most (length bytes) in omega (arith, size, low)

-- one event
abbrev Fewer : World → SideEvent → Option ℕ → Option Side → Type 0
Fewer w event wanting s = (moved_at w event wanting s ≤ most_of event) × (moved_at w event wanting s ≤ moved_at w event None s)

gets_fewer : (w : World) (most : ℕ) (wanting : Option ℕ) (s : Side) (o : Option Conn)
    → (length s.up - length (gets_at w most wanting s o).up ≤ most) × (length s.up - length (gets_at w most wanting s o).up ≤ length s.up - length (gets_at w most None s o).up)
gets_fewer w most wanting s None = (omega arith, omega arith)
gets_fewer w most wanting s (Some o) = (
  left_most most s.up (conn_takes w.keep timing w.present wanting (take most s.up) o).rest,
  left_fewer most s.up (conn_takes w.keep timing w.present None (take most s.up) o).rest (conn_takes w.keep timing w.present wanting (take most s.up) o).rest (conn_leaves w.keep w.present wanting (take most s.up) o),
)

fewer : (w : World) (event : SideEvent) (wanting : Option ℕ) (s : Option Side) → Fewer w event wanting s
unfolding cache_gets router_gets
fewer w event wanting None = (omega arith, omega arith)
fewer w (RouterSends most) wanting (Some s) = (taken_most most s.router.out, omega arith)
fewer w (CacheGets most) wanting (Some s) = gets_fewer w most wanting s s.conn
fewer w (CacheSends most) wanting (Some s) = (taken_most most _, omega arith)
fewer w (RouterGets most) wanting (Some s) = (
  left_most most s.down (receives s.router.now wanting (take most s.down) s.router).rest,
  left_fewer most s.down (receives s.router.now None (take most s.down) s.router).rest (receives s.router.now wanting (take most s.down) s.router).rest (router_leaves s.router.now wanting (take most s.down) s.router),
)
fewer w RouterRestart wanting (Some s) = (omega arith, omega arith)
fewer w _ wanting (Some s) = (omega arith, omega arith)

-- A refusal reports this many bytes.
told_fewer : (w : World) (r : ℕ) (event : SideEvent) (wanting : Option ℕ) (bytes : ℕ) → MayEnd (refusal w (On r event)) w (On r event) (Memory bytes wanting) → (bytes ≤ most_of event) × (bytes ≤ moved w (On r event) None)
unfolding refusal
told_fewer w r event wanting bytes = by_there (nat_lt r (length w.sides))
  where
    by_there : (b : Bool) → MayEnd (if b then None else Some NoSuchRouter) w (On r event) (Memory bytes wanting) → (bytes ≤ most_of event) × (bytes ≤ moved w (On r event) None)
    by_there true h =
        let few = h.2 in
        let most = fewer w event wanting (side_at r w.sides) in
        let said = most.0 in
        let less = most.1 in (omega (arith, few, said), omega (arith, few, less))
    by_there false h = absurd (let e : Memory bytes wanting ≡ NoSuchRouter = h in cc)

pub moves_no_more : MovesNoMore
moves_no_more w r event wanting = let f = fewer w event wanting (side_at r w.sides) in record { said = f.0; fewer = f.1; told = told_fewer w r event wanting }
