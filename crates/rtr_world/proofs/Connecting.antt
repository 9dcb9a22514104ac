-- A connection is made.
use Rattle.rtr_world.proofs.Words.{◌≡◌, ℕ, ◌-◌, ◌<◌, ◌^◌, ◌==◌, true, List, [], ◌∷◌, length, find, Option, Some, None, is_some, Result, Ok, Err, if◌then◌else◌, refl, ⊤, AllocError, sym, ap, ◌∙◌, subst, arith, inr, inl, Instance, NumberedSet, versions_from, serial_at, HoldsSteps, Steps, VrpSet, Serial, V1, Conn, new_conn, Opens, ShowsCache, Router, ask, Connects, called, close, connects_at, IsShown, Cache, eq_self}
use Rattle.vrps.specs.Stores.{newest}
use Rattle.rtr_ends.specs.declared.cache.Conn.{Conn as Number}
use Rattle.rtr_world.specs.History.{is_used}
use Rattle.rtr_world.specs.SideShown.{BeginsEvent, ConnIs, Has, IsSince, MadeAt, MadeWhere, Moves, ShowsSide, state_of}
use Rattle.rtr_world.specs.World.{World, Side, Connect, connects, cut, instances, side_step}
use Rattle.rtr_world.specs.declared.side.Side as values
use Rattle.rtr_world.proofs.SideLaws.{inside}
use Rattle.rtr_world.proofs.Moving.{and_then, clocked_same, has_or_not, none_conn, none_some, put, put_here, put_there}

-- the serial that was current
pub current_none : (start : ℕ) (sets : List VrpSet) (serial : ℕ) → start ≡ serial → serial < 2 ^ 32 → None ≡ newest (versions_from start sets) → serial ≡ serial_at start (length sets - 1)
current_none start [] serial is fits h = grind (arith, is, fits)
current_none start (set ∷ older) serial is fits h = absurd (let k : ◌≡◌ {A = Option NumberedSet} None (newest (versions_from start (set ∷ older))) = h in cc)

pub current_some : (start : ℕ) (sets : List VrpSet) (v : NumberedSet) → Some v ≡ newest (versions_from start sets) → v.serial ≡ serial_at start (length sets - 1)
current_some start [] v h = absurd (let k : ◌≡◌ {A = Option NumberedSet} (Some v) None = h in cc)
current_some start (now ∷ older) v h = ap (λ (x : NumberedSet). x.serial) (inside h) ∙ ap (serial_at start) (let n : length older ≡ length (now ∷ older) - 1 = omega arith in n)

-- a connection that is made now
since_now : (i : Instance) (serial : Serial) → serial.0 ≡ serial_at i.start (length i.sets - 1) → IsSince i i (Some serial)
since_now i serial is = record {
  serial = ap (λ n. Some (record { 0 = n })) is;
  behind = omega arith;
  near = omega arith;
}

made_now : (w : World) (serial : Serial) → serial.0 ≡ serial_at w.present.start (length w.present.sets - 1) → MadeAt w.present (Some w.present) (Some serial)
made_now w serial is = subst (λ b. MadeWhere b w.present w.present (Some serial)) (sym (eq_self w.present.session)) (since_now w.present serial is)

used_now : (w : World) → is_used V1 (instances w) w.present.session ≡ true
used_now w = ap (λ b. is_some (if b then Some w.present else find (λ i. i.session == w.present.session) w.past)) (eq_self w.present.session)

pub served : (w : World) (at : ℕ → Option Conn) (conn : Number) (opened : Result Number AllocError) (later : Cache Steps) → opened ≡ Ok conn → Opens HoldsSteps (state_of w at) opened later
    → ShowsCache HoldsSteps (state_of w (put conn.0 (Some (new_conn w.present)) at)) later
served w at conn opened later was opens = (subst (λ r. Opens HoldsSteps (state_of w at) r later) was opens).1

module _ (w : World) (at : ℕ → Option Conn) (s : Side) (between later : Cache Steps) (old mid new : values.Side) (m : Moves w at old.conn (record s { conn = None }) between mid) where
  abbrev Now : Side → Type 0
  Now t = Moves w at old.conn t later new

  pub connect_fails : (result : Result ⊤ AllocError) (opened : Result Number AllocError) (error refused : AllocError) → result ≡ Err error → opened ≡ Err refused → Opens HoldsSteps (state_of w m.now) opened later → new ≡ mid → BeginsEvent w at Connect s Now result
  unfolding cut
  connect_fails result opened error refused is was opens same =
      let served : ShowsCache HoldsSteps (state_of w m.now) later = subst (λ r. Opens HoldsSteps (state_of w m.now) r later) was opens in
      subst (λ r. BeginsEvent w at Connect s Now r) (sym is) (record {
        bytes = 0;
        fewer = omega arith;
        may = tt;
        part = record s { conn = None };
        cut_is = refl;
        now = record {
          now = m.now;
          shows = record { serves = served; side = subst (λ v. ShowsSide w m.now (record s { conn = None }) v) (sym same) m.shows.side };
          others = m.others;
          own = λ n has. m.own n (subst (λ v. Has v.conn n) same has);
          only = λ n some. elim (m.only n some) [ inl mine ↦ inl (subst (λ v. Has v.conn n) (sym same) mine) | inr other ↦ inr other ];
        };
      })

  pub connected : (conn : Number) (serial : Serial) (opened : Result Number AllocError) → opened ≡ Ok conn → Opens HoldsSteps (state_of w m.now) opened later → IsShown (called (Connects 0) s.router).router new.router
      → new.conn ≡ Some conn → new.up ≡ [] → new.down ≡ [] → new.made ≡ Some serial → serial.0 ≡ serial_at w.present.start (length w.present.sets - 1) → BeginsEvent w at Connect s Now (Ok tt)
  unfolding side_step connects connects_at
  connected conn serial opened was opens router conn_is up down made serial_is =
      let opens_so : Opens HoldsSteps (state_of w m.now) (Ok conn) later = subst (λ r. Opens HoldsSteps (state_of w m.now) r later) was opens in
      let now : ℕ → Option Conn = put conn.0 (Some (new_conn w.present)) m.now in
      record {
        wanting = None;
        wanted = tt;
        now = and_then w at old.conn (record s { conn = None }) (connects w s) between later mid new m (record {
          now = now;
          shows = record {
            serves = opens_so.1;
            side = record {
              router = subst (λ r. IsShown (let closed : Router = close r in ask (record closed { spoken = closed.speaks })) new.router) (clocked_same s.router) router;
              conn = subst (λ c. ConnIs now c (Some (new_conn w.present))) (sym conn_is) (put_here conn.0 (Some (new_conn w.present)) m.now);
              up = up;
              down = down;
              made = subst (λ o. MadeAt w.present (Some w.present) o) (sym made) (made_now w serial serial_is);
              made_to = used_now w;
            };
          };
          others = λ n some other. put_there conn.0 (Some (new_conn w.present)) m.now n (λ e. none_some (m.now n) (ap m.now e ∙ opens_so.0.free) some);
          own = λ n has. inr (ap m.now (sym (subst (λ c. Has c n) conn_is has)) ∙ opens_so.0.free);
          only = λ n some. elim (has_or_not (Some conn) n) [
            | inl here ↦ inl (subst (λ c. Has c n) (sym conn_is) here)
            | inr there ↦ inr (λ has. subst (λ c. Has c n) (none_conn m.now mid.conn m.shows.side.conn) has, put_there conn.0 (Some (new_conn w.present)) m.now n (λ e. there (sym e)))
          ];
        });
      }
