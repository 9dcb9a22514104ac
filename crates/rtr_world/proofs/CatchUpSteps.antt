-- A round is four events of the world.
use Rattle.std.specs.Prelude.{◌≡◌, ℕ, List, Option, Some, None, refl}
use Rattle.rtr_world.specs.CatchUp.{RoundsAreSteps, read_up, round, rounded, sent_down, sent_up, stepped}
use Rattle.rtr_world.specs.History.{side_at}
use Rattle.rtr_world.specs.World.{Side, World, SideEvent, Connect, CacheGets, CacheSends, RouterGets, RouterSends, cache_gets, cache_sends, goes_through, instances, router_gets, settle, settled, side_step}
use Rattle.rtr_world.proofs.SideLaws.{found_on}

-- one event
pub stepped_at : (r : ℕ) (event : SideEvent) (wanting : Option ℕ) (w : World) (s : Side) → side_at r w.sides ≡ Some s → side_at r (stepped r event wanting w).sides ≡ Some (settle (instances w) (side_step w event wanting s))
unfolding settled goes_through
stepped_at r event wanting w s e = found_on r (settle (instances w)) (side_step w event wanting) w.sides s e

-- The cache and its instances are those of the world before, so each move is the same.
round_is : (r most : ℕ) (at_cache at_router : Option ℕ) (w : World) (s : Side) → side_at r w.sides ≡ Some s → side_at r (rounded r most at_cache at_router w).sides ≡ Some (round w most at_cache at_router s)
unfolding settled goes_through side_step cache_gets cache_sends router_gets
round_is r most at_cache at_router w s e =
    let w1 : World = stepped r (RouterSends most) None w in
    let w2 : World = stepped r (CacheGets most) at_cache (stepped r (RouterSends most) None w) in
    let w3 : World = stepped r (CacheSends most) None (stepped r (CacheGets most) at_cache (stepped r (RouterSends most) None w)) in
    stepped_at r (RouterGets most) at_router w3 (sent_down w most at_cache s)
    (stepped_at r (CacheSends most) None w2 (read_up w most at_cache s) (stepped_at r (CacheGets most) at_cache w1 (sent_up w most s) (stepped_at r (RouterSends most) None w s e)))

pub rounds_are_steps : RoundsAreSteps
unfolding side_step
rounds_are_steps r w s e = record { connected = λ wanting. stepped_at r Connect wanting w s e; round_is = λ most at_cache at_router. round_is r most at_cache at_router w s e }

-- A round looks at no other side,
pub round_same : (w : World) (sides : List Side) (most : ℕ) (at_cache at_router : Option ℕ) (s : Side) → round (record w { sides = sides }) most at_cache at_router s ≡ round w most at_cache at_router s
unfolding cache_gets cache_sends router_gets
round_same w sides most at_cache at_router s = refl

-- and changes nothing but sides; nor does an event.
abbrev pub OnlySides : World → World → Type 0
OnlySides old new = new ≡ record old { sides = new.sides }

pub stepped_sides : (r : ℕ) (event : SideEvent) (wanting : Option ℕ) (w : World) → OnlySides w (stepped r event wanting w)
unfolding settled goes_through
stepped_sides r event wanting w = refl

pub rounded_sides : (r most : ℕ) (at_cache at_router : Option ℕ) (w : World) → OnlySides w (rounded r most at_cache at_router w)
unfolding settled goes_through
rounded_sides r most at_cache at_router w = refl

-- At what is sent memory does not run out.
pub sends_none : (r most : ℕ) (wanting : Option ℕ) (w : World) → stepped r (RouterSends most) wanting w ≡ stepped r (RouterSends most) None w
unfolding goes_through side_step
sends_none r most wanting w = refl

pub gives_none : (r most : ℕ) (wanting : Option ℕ) (w : World) → stepped r (CacheSends most) wanting w ≡ stepped r (CacheSends most) None w
unfolding goes_through side_step
gives_none r most wanting w = refl
