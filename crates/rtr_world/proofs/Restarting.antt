-- The cache restarts.
use Rattle.rtr_world.proofs.Words.{◌≡◌, ℕ, ◌<◌, ◌^◌, ◌==◌, ◌||◌, Bool, true, false, List, [], ◌∷◌, ◌++◌, map, Option, Some, None, is_some, Result, Ok, Err, is_err, is_ok, slice_get, if◌then◌else◌, refl, option_map, list_any, sym, ap, ◌∙◌, subst, arith, Instance, HoldsSteps, V0, V1, Conn, ShowsCache, IsShown, Cache, Sessions, or_parts, eq_of, false_if_never, IfSome_then, either}
use Rattle.vrps.specs.Steps.{Steps as Log}
use Rattle.rtr_world.specs.History.{Outcome, Done, Memory, SessionUsed, MayEnd, is_used, refusal, side_at}
use Rattle.rtr_world.specs.Reached.{HasAt, Lost, LostAt, LoseAll, SettledAll, ShowsAt, ShowsParts, ShowsWorld, StepsOnce}
use Rattle.rtr_world.specs.SideShown.{ConnIs, Has, MadeAt, MadeTo, MadeWhere, ShowsSide, state_of}
use Rattle.rtr_world.specs.World.{World, Side, Restart, cache_gone, goes_through, instances, is_refused, settled}
use Rattle.rtr_world.specs.declared.event.WorldFault.TheVariants as faults
use Rattle.rtr_world.specs.declared.side.Side as values
use Rattle.rtr_world.specs.declared.world.World as code
use Rattle.rtr_world.proofs.SideLaws.{map_there}
use Rattle.rtr_world.proofs.Showing.{used_more}
use Rattle.rtr_world.proofs.WorldSteps.{begun}

-- What a restart may end in goes by whether a session is used.
may_restart : (w : World) (session session0 start : ℕ) (b : Bool) → (is_used V1 (instances w) session || is_used V0 (instances w) session0) ≡ b → (outcome : Outcome)
    → MayEnd (if b then Some SessionUsed else None) w (Restart session session0 start) outcome → MayEnd (refusal w (Restart session session0 start)) w (Restart session session0 start) outcome
unfolding refusal
may_restart w session session0 start b e outcome may = subst (λ b. MayEnd (if b then Some SessionUsed else None) w (Restart session session0 start) outcome) (sym e) may

pub session_used : (w : World) (v : code.World) (session session0 start : ℕ) → ShowsWorld w v → session < 2 ^ 16 → session0 < 2 ^ 16 → start < 2 ^ 32 → (is_used V1 (instances w) session || is_used V0 (instances w) session0) ≡ true
    → StepsOnce w (Restart session session0 start) (Err faults.SessionUsed) v
session_used w v session session0 start h low low0 fits used = record {
  outcome = SessionUsed;
  fits = (low, low0, fits);
  may = may_restart w session session0 start true used SessionUsed refl;
  answers = refl;
  shows = h;
}

pub restart_fails : (w : World) (v n : code.World) (session session0 start : ℕ) → ShowsWorld w v → session < 2 ^ 16 → session0 < 2 ^ 16 → start < 2 ^ 32 → (is_used V1 (instances w) session || is_used V0 (instances w) session0) ≡ false
    → n ≡ record v { sessions = n.sessions } → n.sessions.items ≡ v.sessions.items → StepsOnce w (Restart session session0 start) (Err faults.Memory) n
unfolding is_refused
restart_fails w v n session session0 start h low low0 fits free same sessions = record {
  outcome = Memory 0 None;
  fits = (low, low0, fits);
  may = may_restart w session session0 start false free (Memory 0 None) (refl, tt, omega arith);
  answers = refl;
  shows = subst (ShowsWorld w) (sym same) (record {
    rest = record {
      keep = h.rest.keep;
      used = λ one other. ap (list_any (λ y. y.v1 == one || y.v0 == other)) sessions ∙ h.rest.used one other;
      sessions = h.rest.sessions;
      start = h.rest.start;
    };
    at = h.at;
    parts = h.parts;
  });
}

-- the world in which a new instance begins
abbrev pub restarted : World → ℕ → ℕ → ℕ → World
restarted w session session0 start = record w { past = w.present ∷ w.past; present = begun session session0 start; sides = map cache_gone w.sides }

gone_made : (all : List Instance) (session session0 start : ℕ) (home : Option Instance) → is_used V1 all session ≡ false → MadeTo all home → MadeAt (begun session session0 start) home None
gone_made all session session0 start None free h = refl
gone_made all session session0 start (Some i) free h =
    let other = false_if_never (session == i.session) (λ e. let k : true ≡ false = sym h ∙ ap (is_used V1 all) (sym (eq_of session i.session e)) ∙ free in cc) in
    subst (λ b. MadeWhere b (begun session session0 start) i None) (sym other) refl

gone_shown : (w : World) (session session0 start : ℕ) (at : ℕ → Option Conn) (s : Side) (v n : values.Side) → is_used V1 (instances w) session ≡ false → ShowsSide w at s v → Lost v n → ShowsSide (restarted w session session0 start) (λ d. None) (cache_gone s) n
gone_shown w session session0 start at s v n free h lost = record {
  router = subst (λ r. IsShown s.router r) (sym lost.router) h.router;
  conn = subst (λ c. ConnIs (λ d. None) c None) (sym lost.conn) tt;
  up = lost.up;
  down = lost.down ∙ h.down;
  made = subst (λ m. MadeAt (begun session session0 start) s.home m) (sym lost.made) (gone_made (instances w) session session0 start s.home free h.made_to);
  made_to = IfSome_then s.home h.made_to (λ i k. either (λ (o : Option Instance). is_some o ≡ true) (session == i.session) _ _ (λ own. refl) (λ other. k));
}

gone_at : (w : World) (session session0 start : ℕ) (at : ℕ → Option Conn) (a : Option Side) (q n : Option values.Side) → is_used V1 (instances w) session ≡ false → ShowsAt w at a q → LostAt q n → ShowsAt (restarted w session session0 start) (λ d. None) (option_map cache_gone a) n
gone_at w session session0 start at None None None free h lost = tt
gone_at w session session0 start at (Some s) (Some v) (Some n) free h lost = gone_shown w session session0 start at s v n free h lost
gone_at w session session0 start at None (Some v) n free h lost = absurd h
gone_at w session session0 start at (Some s) None n free h lost = absurd h
gone_at w session session0 start at _ _ _ free h lost = absurd lost

lost_number : (q n : Option values.Side) (k : ℕ) → LostAt q n → HasAt n k → ⊥
lost_number (Some v) (Some n) k lost has = subst (λ c. Has c k) lost.conn has
lost_number None None k lost has = has
lost_number _ _ k lost has = lost

pub gone_parts : (w : World) (session session0 start : ℕ) (at : ℕ → Option Conn) (cache later : Cache Log) (olds news : List values.Side) → (is_used V1 (instances w) session || is_used V0 (instances w) session0) ≡ false → ShowsParts w at cache olds → LoseAll olds news
    → ShowsCache HoldsSteps (state_of (restarted w session session0 start) (λ d. None)) later → ShowsParts (restarted w session session0 start) (λ d. None) later news
gone_parts w session session0 start at cache later olds news free parts lost served = record {
  serves = served;
  each = λ r. subst (λ a. ShowsAt (restarted w session session0 start) (λ d. None) a (slice_get news r)) (sym (map_there r cache_gone w.sides)) (gone_at w session session0 start at (side_at r w.sides) (slice_get olds r) (slice_get news r) (or_parts (is_used V1 (instances w) session) (is_used V0 (instances w) session0) free).0 (parts.each r) (lost r));
  own = λ r d k has also. absurd (lost_number (slice_get olds r) (slice_get news r) k (lost r) has);
  all = λ n some. absurd (let k : false ≡ true = some in cc);
}

pub restarts : (w : World) (v n : code.World) (session session0 start : ℕ) → ShowsWorld w v → session < 2 ^ 16 → session0 < 2 ^ 16 → start < 2 ^ 32 → (is_used V1 (instances w) session || is_used V0 (instances w) session0) ≡ false
    → n.keep ≡ v.keep → n.sessions.items ≡ v.sessions.items ++ record { v0 = session0; v1 = session } ∷ [] → n.present ≡ record { v0 = session0; v1 = session } → n.start ≡ start
    → SettledAll (restarted w session session0 start) n.cache n.sides.items → StepsOnce w (Restart session session0 start) (Ok tt) n
unfolding settled goes_through
restarts w v n session session0 start h low low0 fits free keep sessions present_is start_is settled_so = record {
  outcome = Done None;
  fits = (low, low0, fits);
  may = may_restart w session session0 start false free (Done None) tt;
  answers = refl;
  shows = record {
    rest = record {
      keep = keep ∙ h.rest.keep;
      used = λ one other. ap (list_any (λ y. y.v1 == one || y.v0 == other)) sessions ∙ used_more v.sessions.items (instances w) (begun session session0 start) (record { v0 = session0; v1 = session }) one other (record { v1 = refl; v0 = refl }) (h.rest.used one other);
      sessions = record { v1 = ap (λ (s : Sessions). s.v1) present_is; v0 = ap (λ (s : Sessions). s.v0) present_is };
      start = sym start_is;
    };
    at = settled_so.at;
    parts = settled_so.parts;
  };
}

-- what a push leaves
pub pushed : {A E : Type 0} {X : Type 0} (r : Result A E) (failed : Bool) (now more same : X) → is_err r ≡ failed → now ≡ (if is_ok r then more else same) → now ≡ (if failed then same else more)
pushed (Ok x) failed now more same h e = e ∙ ap (λ b. if b then same else more) h
pushed (Err x) failed now more same h e = e ∙ ap (λ b. if b then same else more) h
