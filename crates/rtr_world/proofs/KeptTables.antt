-- Each router of a world holds what its transcript keeps.
use Rattle.rtr_world.proofs.Words.{take, refl, ⊤, AllByRecursion, Receives, Tells, called_tells, new_tells, refused_closed, refused_closes}
use Rattle.rtr_world.specs.World.{Side, World, instances, Event, router_restarts, new_side}
use Rattle.rtr_world.specs.History.{Outcome, after}
use Rattle.rtr_world.proofs.EventCalls.{each_after, if_comes, closed_link, KeptByCalls, refused_at, closed_by}

pub record SideTells (s : Side) : Type 0 where
  pub tells : Tells s.router s.items

kept_tells : (w : World) → KeptByCalls w (λ s wanting. ⊤) SideTells
unfolding router_restarts
kept_tells w = record {
  wires = λ s h conn up down home read. record { tells = h.tells };
  own = λ s call is h. record { tells = called_tells call s.router s.items h.tells };
  gets = λ s most wanting comes h. record { tells = called_tells (Receives s.router.now wanting (take most s.down)) s.router s.items h.tells };
  restart = λ s h. record { tells = record { kept_is = refl; due_is = refl; now_is = refl; spoken_is = refl; config_is = refl; link = (refl, refl, refl) } };
  refused = λ s h. closed_by SideTells (instances w) (refused_at s) (λ e. record { tells = refused_closed s.router s.items (closed_link s.router.link e) h.tells }) (λ e. record { tells = refused_closes s.router.now s.router s.items h.tells });
}

-- every event
abbrev pub AllTell : World → Type 0
AllTell w = AllByRecursion SideTells w.sides

pub after_tells : (event : Event) (outcome : Outcome) (w : World) → AllTell w → AllTell (after event outcome w)
after_tells event outcome w h = each_after (λ w s wanting. ⊤) SideTells kept_tells event outcome w SideTells (λ s x. x) (λ s x. if_comes (λ s wanting. ⊤) event outcome s (λ wanting. tt)) h

pub new_side_tells : SideTells new_side
new_side_tells = record { tells = new_tells }
