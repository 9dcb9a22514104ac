-- What the calls on one side show.
use Rattle.rtr_world.proofs.Words.{◌≡◌, ◌⊎◌, ℕ, ◌==◌, Bool, true, false, not, List, [], ◌∷◌, take, Option, Some, None, is_some, IsSome, if◌then◌else◌, refl, sym, ap, ◌∙◌, subst, arith, inl, inr, option_map, cases_Bool, nat_tests, Instance, HoldsSteps, Steps, Conn, conn_notified, is_none, ShowsCache, has_bytes_at, is_open_at, notified, Router, Closes, called, clocked, close, closed_at, judged_by_clock, Link, Closed, Ended, is_closed, IsShown, later, Cache, eq_self, eq_of, true_of_not, false_of_not}
use Rattle.rtr_ends.specs.declared.cache.Conn.{Conn as Number}
use Rattle.rtr_ends.specs.declared.router.Router as routers
use Rattle.rtr_world.specs.SideShown.{AloneAt, ConnIs, Has, IsNewSide, Moves, ShowsBoth, ShowsSide, state_of}
use Rattle.rtr_world.specs.World.{World, Side, close_ended, cut, instances, is_ended, noted, notifies_at, router_restarts, settle_conn, settle_link, settle_rest, settle_wire, tell_closed, timing}
use Rattle.rtr_world.specs.declared.side.Side as values
use Rattle.rtr_world.proofs.Versions.{some_is}

not_equal : (a b : ℕ) → ¬ (a ≡ b) → (a == b) ≡ false
not_equal a b h = grind (arith, nat_tests)

pub none_some : {A : Type 0} (o : Option A) → o ≡ None → IsSome o → ⊥
none_some None e h = absurd (let k : false ≡ true = h in cc)
none_some (Some x) e h = absurd (let k : Some x ≡ None = e in cc)

-- another connection under a number
abbrev pub put : ℕ → Option Conn → (ℕ → Option Conn) → ℕ → Option Conn
put c o at d = if d == c then o else at d

pub put_here : (c : ℕ) (o : Option Conn) (at : ℕ → Option Conn) → put c o at c ≡ o
put_here c o at = ap (λ b. if b then o else at c) (eq_self c)

pub put_there : (c : ℕ) (o : Option Conn) (at : ℕ → Option Conn) (d : ℕ) → ¬ (d ≡ c) → put c o at d ≡ at d
put_there c o at d h = ap (λ b. if b then o else at d) (not_equal d c h)

-- whether this is its number
pub has_or_not : (c : Option Number) (n : ℕ) → Has c n ⊎ (Has c n → ⊥)
has_or_not None n = inr (λ h. h)
has_or_not (Some number) n = elim (cases_Bool (number.0 == n)) [
  | inl same ↦ inl (eq_of number.0 n same)
  | inr other ↦ inr (λ e. let k : false ≡ true = sym other ∙ ap (λ x. x == n) e ∙ eq_self n in cc)
]

-- the cache is left alone
pub alone : (w : World) (at : ℕ → Option Conn) (s t : Side) (cache : Cache Steps) (old new : values.Side) → ShowsBoth w at s cache old → AloneAt w at t old new → Moves w at old.conn t cache new
alone w at s t cache old new h a = record {
  now = at;
  shows = record { serves = h.serves; side = a.shows };
  others = λ n some other. refl;
  own = λ n has. inl (subst (λ c. Has c n) a.conn has);
  only = λ n some. elim (has_or_not old.conn n) [ inl mine ↦ inl (subst (λ c. Has c n) (sym a.conn) mine) | inr other ↦ inr (other, refl) ];
}

-- only the connection under this number is another
pub at_number : (w : World) (at : ℕ → Option Conn) (t : Side) (cache : Cache Steps) (number : Number) (o : Option Conn) (new : values.Side)
    → ShowsBoth w (put number.0 o at) t cache new → ((n : ℕ) → Has new.conn n → number.0 ≡ n) → (IsSome o → Has new.conn number.0) → Moves w at (Some number) t cache new
at_number w at t cache number o new h same keeps = record {
  now = put number.0 o at;
  shows = h;
  others = λ n some other. put_there number.0 o at n (λ e. other (sym e));
  own = λ n has. inl (same n has);
  only = λ n some. elim (has_or_not (Some number) n) [
    | inl here ↦ inl (subst (Has new.conn) here (keeps (subst IsSome (ap (put number.0 o at) (sym here) ∙ put_here number.0 o at) some)))
    | inr there ↦ inr (there, put_there number.0 o at n (λ e. there (sym e)))
  ];
}

-- one after the other
pub and_then : (w : World) (at : ℕ → Option Conn) (old : Option Number) (s t : Side) (between later : Cache Steps) (v n : values.Side) (m : Moves w at old s between v) → Moves w m.now v.conn t later n → Moves w at old t later n
and_then w at old s t between later v n m k = record {
  now = k.now;
  shows = k.shows;
  others = λ c some other. k.others c (subst IsSome (sym (m.others c some other)) some) (λ has. not_own c some other (m.own c has)) ∙ m.others c some other;
  own = λ c has. first c (k.own c has);
  only = λ c some. elim (k.only c some) [ inl mine ↦ inl mine | inr left ↦ before c left (subst IsSome left.1 some) ];
}
  where
    not_own : (c : ℕ) → IsSome (at c) → ¬ (Has old c) → Has old c ⊎ (at c ≡ None) → ⊥
    not_own c some other (inl has) = other has
    not_own c some other (inr none) = none_some (at c) none some

    was : (c : ℕ) (o : Option Conn) → at c ≡ o → m.now c ≡ None → Has old c ⊎ (at c ≡ None)
    was c None is none = inr is
    was c (Some x) is none = elim (has_or_not old c) [ inl has ↦ inl has | inr other ↦ absurd (none_some (at c) (sym (m.others c (subst IsSome (sym is) refl) other) ∙ none) (subst IsSome (sym is) refl)) ]

    before : (c : ℕ) → (Has v.conn c → ⊥) × (k.now c ≡ m.now c) → IsSome (m.now c) → Has n.conn c ⊎ ((Has old c → ⊥) × (k.now c ≡ at c))
    before c left some = elim (m.only c some) [ inl mine ↦ absurd (left.0 mine) | inr was_so ↦ inr (was_so.0, left.1 ∙ was_so.1) ]

    first : (c : ℕ) → Has v.conn c ⊎ (m.now c ≡ None) → Has old c ⊎ (at c ≡ None)
    first c (inl has) = m.own c has
    first c (inr none) = was c (at c) refl none

-- The connection of a side is closed.
pub closes : (w : World) (at : ℕ → Option Conn) (s : Side) (cache later : Cache Steps) (old new : values.Side) (number : Number) → ShowsBoth w at s cache old → old.conn ≡ Some number
    → ShowsCache HoldsSteps (state_of w (put number.0 None at)) later → new ≡ record old { conn = None } → Moves w at old.conn (record s { conn = None }) later new
closes w at s cache later old new number h is served now =
    subst (λ c. Moves w at c (record s { conn = None }) later new) (sym is)
    (at_number w at (record s { conn = None }) later number None new (record { serves = served; side = subst (λ v. ShowsSide w (put number.0 None at) (record s { conn = None }) v) (sym now) closed }) none (λ some. absurd (let k : false ≡ true = some in cc)))
  where
    closed : ShowsSide w (put number.0 None at) (record s { conn = None }) (record old { conn = None })
    closed = record { router = h.side.router; conn = tt; up = h.side.up; down = h.side.down; made = h.side.made; made_to = h.side.made_to }

    none : (n : ℕ) → Has new.conn n → number.0 ≡ n
    none n has = absurd (subst (λ v. Has v.conn n) now has)

-- the connection of a side at the cache
pub record OnConn (at : ℕ → Option Conn) (number : Number) (o : Option Conn) : Type 0 where
  pub conn : Conn
  pub is : o ≡ Some conn
  pub at_is : at number.0 ≡ Some conn

pub on_conn : (at : ℕ → Option Conn) (n : Option Number) (o : Option Conn) (number : Number) → n ≡ Some number → ConnIs at n o → OnConn at number o
on_conn at (Some n) (Some o) number e is = record { conn = o; is = refl; at_is = ap (λ (x : Number). at x.0) (sym (some_is n number e)) ∙ is }
on_conn at (Some n) None number e is = absurd is
on_conn at None o number e is = absurd (let k : ◌≡◌ {A = Option Number} None (Some number) = e in cc)

pub none_conn : (at : ℕ → Option Conn) (n : Option Number) → ConnIs at n None → n ≡ None
none_conn at None is = refl
none_conn at (Some n) is = absurd is

pub no_conn : (at : ℕ → Option Conn) (n : Option Number) (o : Option Conn) → n ≡ None → ConnIs at n o → o ≡ None
no_conn at None None e is = refl
no_conn at None (Some o) e is = absurd is
no_conn at (Some n) o e is = absurd (let k : ◌≡◌ {A = Option Number} (Some n) None = e in cc)

-- What the cache does on the connection of a side goes over into a side with this connection.
pub on_cache : (w : World) (at : ℕ → Option Conn) (s t : Side) (cache later : Cache Steps) (old new : values.Side) (number : Number) (y : Conn) → ShowsBoth w at s cache old → old.conn ≡ Some number
    → ShowsCache HoldsSteps (state_of w (put number.0 (Some y) at)) later → ShowsSide w (put number.0 (Some y) at) t new → new.conn ≡ old.conn → Moves w at old.conn t later new
on_cache w at s t cache later old new number y h is served shown same =
    subst (λ c. Moves w at c t later new) (sym is)
    (at_number w at t later number (Some y) new (record { serves = served; side = shown }) (λ n has. subst (λ c. Has c n) (same ∙ is) has) (λ some. subst (λ c. Has c number.0) (sym (same ∙ is)) refl))

-- under the number of the connection
pub conn_here : (at : ℕ → Option Conn) (n : Option Number) (number : Number) (y : Conn) → n ≡ Some number → ConnIs (put number.0 (Some y) at) n (Some y)
conn_here at n number y e = subst (λ c. ConnIs (put number.0 (Some y) at) c (Some y)) (sym e) (put_here number.0 (Some y) at)

-- what is done to a connection that is there
pub served_as : (w : World) (at : ℕ → Option Conn) (later : Cache Steps) (c : ℕ) (f : Conn → Conn) (x : Conn) → at c ≡ Some x
    → ShowsCache HoldsSteps (state_of w (put c (option_map f (at c)) at)) later → ShowsCache HoldsSteps (state_of w (put c (Some (f x)) at)) later
served_as w at later c f x is h = subst (λ o. ShowsCache HoldsSteps (state_of w (put c (option_map f o) at)) later) is h

pub notifies : (w : World) (at : ℕ → Option Conn) (s : Side) (cache later : Cache Steps) (v : values.Side) (number : Number) → ShowsBoth w at s cache v → v.conn ≡ Some number
    → ShowsCache HoldsSteps (notified number.0 (state_of w at)) later → Moves w at v.conn (notifies_at w s s.conn) later v
notifies w at s cache later v number h is served =
    let there : OnConn at number s.conn = on_conn at v.conn s.conn number is h.side.conn in
    subst (λ o. Moves w at v.conn (notifies_at w s o) later v) (sym there.is)
    (on_cache w at s (notifies_at w s (Some there.conn)) cache later v v number (conn_notified w.keep timing w.present there.conn) h is
    (served_as w at later number.0 (conn_notified w.keep timing w.present) there.conn there.at_is served)
    (record { router = h.side.router; conn = conn_here at v.conn number (conn_notified w.keep timing w.present there.conn) is; up = h.side.up; down = h.side.down; made = h.side.made; made_to = h.side.made_to })
    refl)

pub cuts : (w : World) (at : ℕ → Option Conn) (left : ℕ) (s : Side) (v : values.Side) (up down : List ℕ) → ShowsSide w at (record s { conn = None }) v → up ≡ [] → down ≡ take left v.down → AloneAt w at (cut left s) v (record v { up = up; down = down })
unfolding cut
cuts w at left s v up down h none kept = record {
  shows = record { router = h.router; conn = h.conn; up = none; down = kept ∙ ap (take left) h.down; made = h.made; made_to = h.made_to };
  conn = refl;
}

pub restarts : (w : World) (at : ℕ → Option Conn) (s : Side) (v n : values.Side) → ShowsSide w at (record s { conn = None }) v → IsNewSide n → AloneAt w at (router_restarts s) v n
unfolding router_restarts
restarts w at s v n h new = record {
  shows = record { router = new.router; conn = subst (λ c. ConnIs at c None) (sym new.conn) tt; up = new.up; down = new.down; made = new.made; made_to = tt };
  conn = new.conn ∙ sym (none_conn at v.conn h.conn);
}

-- The clean-up

-- A moment that is not later changes nothing more.
later_same : (n : ℕ) → later n 0 ≡ later n n
later_same n = grind (arith, nat_tests)

pub clocked_same : (r : Router) → clocked 0 r ≡ clocked r.now r
unfolding clocked
clocked_same r = ap (λ n. judged_by_clock (record r { now = n })) (later_same r.now)

abbrev told_where : List Instance → Side → Bool → Side
told_where all s b = if b then record s { home = None; read_at = None } else record (noted all (closed_at s.router.now s.router) s) { home = None; read_at = None }

pub tells_closed : (w : World) (at : ℕ → Option Conn) (s : Side) (v : values.Side) → is_closed s.router.link ≡ true → ShowsSide w at s v → ShowsSide w at (tell_closed (instances w) s) (record v { made = None })
tells_closed w at s v closed h = subst (λ b. ShowsSide w at (told_where (instances w) s b) (record v { made = None })) (sym closed)
    (record { router = h.router; conn = h.conn; up = h.up; down = h.down; made = refl; made_to = tt })

pub tells_open : (w : World) (at : ℕ → Option Conn) (s : Side) (v : values.Side) (router : routers.Router) → is_closed s.router.link ≡ false → ShowsSide w at s v → IsShown (called (Closes 0) s.router).router router
    → ShowsSide w at (tell_closed (instances w) s) (record v { router = router; made = None })
unfolding closed_at
tells_open w at s v router on h told = subst (λ b. ShowsSide w at (told_where (instances w) s b) (record v { router = router; made = None })) (sym on)
    (record { router = subst (λ r. IsShown (close r) router) (clocked_same s.router) told; conn = h.conn; up = h.up; down = h.down; made = refl; made_to = tt })

pub ended_told : (all : List Instance) (s : Side) (l : Link) (out : List ℕ) → is_ended l ≡ true → is_none out ≡ true → settle_link all s l out ≡ tell_closed all s
ended_told all s (Ended end) [] e n = refl
ended_told all s (Ended end) (b ∷ out) e n = absurd (let k : false ≡ true = n in cc)
ended_told all s _ out e n = absurd (let k : false ≡ true = e in cc)

pub rest_closed : (s : Side) (l : Link) (up : List ℕ) → is_closed l ≡ true → is_none up ≡ true → settle_rest s l up ≡ record s { conn = None; down = [] }
rest_closed s Closed [] c n = refl
rest_closed s Closed (b ∷ up) c n = absurd (let k : false ≡ true = n in cc)
rest_closed s _ up c n = absurd (let k : false ≡ true = c in cc)

pub wire_cut : (all : List Instance) (s : Side) (o : Option Conn) (down : List ℕ) → o ≡ None → is_none down ≡ true → settle_wire all s o down ≡ record (tell_closed all s) { up = [] }
wire_cut all s None [] c n = refl
wire_cut all s None (b ∷ down) c n = absurd (let k : false ≡ true = n in cc)
wire_cut all s (Some o) down c n = absurd (let k : ◌≡◌ {A = Option Conn} (Some o) None = c in cc)

pub conn_ended : (s : Side) (o : Option Conn) (x : Conn) → o ≡ Some x → x.state.ended ≡ true → is_none x.state.due ≡ true → settle_conn s o ≡ record s { conn = None }
conn_ended s o x e c n = subst (λ o. settle_conn s o ≡ record s { conn = None }) (sym e) (by_due x.state.ended x.state.due c n)
  where
    by_due : (ended : Bool) (due : List ℕ) → ended ≡ true → is_none due ≡ true → close_ended s ended due ≡ record s { conn = None }
    by_due true [] c n = refl
    by_due true (b ∷ due) c n = absurd (let k : false ≡ true = n in cc)
    by_due false due c n = absurd (let k : false ≡ true = c in cc)

pub conn_goes_on : (s : Side) (o : Option Conn) (x : Conn) → o ≡ Some x → (x.state.ended ≡ false) ⊎ (is_none x.state.due ≡ false) → settle_conn s o ≡ s
conn_goes_on s o x e h = subst (λ o. settle_conn s o ≡ s) (sym e) (by_due x.state.ended x.state.due h)
  where
    by_due : (ended : Bool) (due : List ℕ) → (ended ≡ false) ⊎ (is_none due ≡ false) → close_ended s ended due ≡ s
    by_due true [] (inl h) = absurd (let k : true ≡ false = h in cc)
    by_due true [] (inr h) = absurd (let k : true ≡ false = h in cc)
    by_due true (b ∷ due) h = refl
    by_due false due h = refl

pub ended_at : (o : Option Conn) (x : Conn) → o ≡ Some x → is_open_at o ≡ false → x.state.ended ≡ true
ended_at o x is h = true_of_not x.state.ended (sym (ap is_open_at is) ∙ h)

pub open_at : (o : Option Conn) (x : Conn) → o ≡ Some x → is_open_at o ≡ true → x.state.ended ≡ false
open_at o x is h = false_of_not x.state.ended (sym (ap is_open_at is) ∙ h)

pub none_due : (o : Option Conn) (x : Conn) → o ≡ Some x → has_bytes_at o ≡ false → is_none x.state.due ≡ true
none_due o x is h = true_of_not (is_none x.state.due) (sym (ap has_bytes_at is) ∙ h)

pub some_due : (o : Option Conn) (x : Conn) → o ≡ Some x → has_bytes_at o ≡ true → is_none x.state.due ≡ false
some_due o x is h = false_of_not (is_none x.state.due) (sym (ap has_bytes_at is) ∙ h)

pub is_no_conn : (n : Option Number) (b : Bool) → is_some n ≡ not b → b ≡ true → n ≡ None
is_no_conn None b h e = refl
is_no_conn (Some n) b h e = absurd (let k : true ≡ false = h ∙ ap not e in cc)

pub tells_cut : (w : World) (at : ℕ → Option Conn) (s : Side) (v n : values.Side) (up : List ℕ) → AloneAt w at (tell_closed (instances w) s) v n → s.conn ≡ None → is_none s.down ≡ true → up ≡ []
    → AloneAt w at (settle_wire (instances w) s s.conn s.down) v (record n { up = up })
tells_cut w at s v n up told cut none empty =
    subst (λ t. AloneAt w at t v (record n { up = up })) (sym (wire_cut (instances w) s s.conn s.down cut none)) (record {
      shows = record { router = told.shows.router; conn = told.shows.conn; up = empty; down = told.shows.down; made = told.shows.made; made_to = told.shows.made_to };
      conn = told.conn;
    })
