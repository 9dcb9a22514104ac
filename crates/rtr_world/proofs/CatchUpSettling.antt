-- What the clean-up after an event does to a side on which bytes continue, and to one whose link has ended.
use Rattle.rtr_world.proofs.Words.{◌≡◌, ◌⊎◌, ℕ, true, false, List, [], Some, None, refl, sym, ap, ◌∙◌, subst, inl, inr, Instance, empty, End, Conn, Router, clocked, close, closed_at, Closed, Ended, is_closed, is_reading, false_true, open_link, by_clock, by_close, cases_Bool, default_config}
use Rattle.rtr_world.specs.World.{Side, close_ended, settle, settle_conn, settle_link, settle_rest, settle_wire, tell_closed}
use Rattle.rtr_world.specs.CaughtUp.{IsOff}
use Rattle.rtr_world.proofs.EventCalls.{still_by, told_closes, closed_by, closed_link, behind_link, Lessens, reading_on}
use Rattle.rtr_world.proofs.Rests.{GoesOn, Rests, not_closed, stays, conn_router}

-- A side with a live link rests if its connection continues, or bytes are still on the way.
live_rests : (s : Side) → GoesOn s.conn → (s.conn ≡ None → s.down ≡ [] → ⊥) → is_reading s.router.link ≡ true → Rests s
live_rests s on some live = record { cleared = not_closed s s.router.link refl (open_link s.router.link live) on (reading_on s.router.link live); told = λ none empty. absurd (some none empty) }

-- So a live link whose connection continues is left as it is.
pub settle_open : (all : List Instance) (s : Side) (o : Conn) → s.conn ≡ Some o → (o.state.ended ≡ true → o.state.due ≡ [] → ⊥) → is_reading s.router.link ≡ true → settle all s ≡ s
settle_open all s o e goes live = stays all s (live_rests s (subst GoesOn (sym e) goes) (λ none empty. let k : Some o ≡ None = sym e ∙ none in cc) live)

abbrev after_conn : List Instance → Side → Side
after_conn all a =
    let b : Side = settle_link all a a.router.link a.router.out in
    let c : Side = settle_rest b b.router.link b.up in
    settle_wire all c c.conn c.down

-- With bytes on the way to a live link, only a connection that ended with nothing to pull is closed.
pub settle_full : (all : List Instance) (s : Side) (o : Conn) → s.conn ≡ Some o → o.state.due ≡ [] → (s.down ≡ [] → ⊥) → is_reading s.router.link ≡ true
    → ((o.state.ended ≡ true) × (settle all s ≡ record s { conn = None })) ⊎ ((o.state.ended ≡ false) × (settle all s ≡ s))
unfolding settle
settle_full all s o c none some live = elim (cases_Bool o.state.ended) [
  | inl is ↦ inl (
    is,
    ap (after_conn all) (ap (settle_conn s) c ∙ (λ i. close_ended s (is i) (none i)))
        ∙ stays all (record s { conn = None }) (live_rests (record s { conn = None }) tt (λ n empty. some empty) live),
  )
  | inr is ↦ inr (is, settle_open all s o c (λ ended. absurd (let k : true ≡ false = sym ended ∙ is in cc)) live)
]

-- A connection that is cut with nothing to arrive is gone after the clean-up.
pub settle_off : (all : List Instance) (s : Side) → s.conn ≡ None → s.down ≡ [] → IsOff (settle all s)
settle_off all s none down =
    still_by IsOff all s none down (record {
      link = closed_link (tell_closed all s).router.link (told_closes all s);
      conn = closed_by (λ t. t.conn ≡ None) all s (λ e. none) (λ e. none);
      up = refl;
      down = closed_by (λ t. t.down ≡ []) all s (λ e. down) (λ e. down);
    })

-- What a router that is notified of a close holds, and continues to hold, it holds if its link has ended, with nothing to pull.
module _ (all : List Instance) (P : Side → Type 0) (less : Lessens P) (told : (s : Side) → P s → P (tell_closed all s)) where
  pub settle_ended : (s : Side) (end : End) → s.router.link ≡ Ended end → s.router.out ≡ [] → ((a : Side) → a.router ≡ s.router → P (tell_closed all a)) → P (settle all s)
  unfolding settle
  settle_ended s end is none first =
      let same = conn_router s s.conn in
      let rests : P (settle_link all (settle_conn s s.conn) (settle_conn s s.conn).router.link (settle_conn s s.conn).router.out) =
      subst P (sym (λ i. settle_link all (settle_conn s s.conn) ((ap (λ r. r.link) same ∙ is) i) ((ap (λ r. r.out) same ∙ none) i))) (first (settle_conn s s.conn) same) in
      behind_link P less all told (settle_link all (settle_conn s s.conn) (settle_conn s s.conn).router.link (settle_conn s s.conn).router.out) rests

-- it is closed,
pub settle_closes : (all : List Instance) (s : Side) (end : End) → s.router.link ≡ Ended end → s.router.out ≡ [] → (settle all s).router.link ≡ Closed
settle_closes all s end is none =
    closed_link (settle all s).router.link (settle_ended all (λ x. is_closed x.router.link ≡ true) (λ x c u d k. k) (λ x k. told_closes all x) s end is none (λ a e. told_closes all a))

-- and if it was emptied, it stays so.
pub record Emptied (r : Router) : Type 0 where
  pub closed : is_closed r.link ≡ true
  pub held : r.held ≡ []
  pub version : r.version ≡ None
  pub table : r.table ≡ empty
  pub config : r.config ≡ default_config

record EndedEmpty (end : End) (r : Router) : Type 0 where
  link : r.link ≡ Ended end
  version : r.version ≡ None
  table : r.table ≡ empty
  config : r.config ≡ default_config

clocked_ended : (end : End) (now : ℕ) (r : Router) → EndedEmpty end r → EndedEmpty end (clocked now r)
clocked_ended end now r e = by_clock (EndedEmpty end) now r (λ holds. record { link = e.link; version = e.version; table = e.table; config = e.config }) (λ over on. record { link = e.link; version = refl; table = refl; config = e.config })
    (λ over live open_so. false_true (sym (ap is_reading e.link) ∙ live))

-- A router that is notified of a close is closed, and what was emptied stays so.
told_ended : (all : List Instance) (end : End) (s : Side) → EndedEmpty end s.router → Emptied (tell_closed all s).router
unfolding closed_at
told_ended all end s e =
    closed_by (λ t. Emptied t.router) all s (λ shut. false_true (sym (ap is_closed e.link) ∙ shut)) (λ on.
    let k = clocked_ended end s.router.now s.router e in
    by_close Emptied (clocked s.router.now s.router) (λ shut. false_true (sym (ap is_closed k.link) ∙ shut)) (λ still. record { closed = refl; held = refl; version = k.version; table = k.table; config = k.config }))

pub settle_empties : (all : List Instance) (s : Side) (end : End) → s.router.link ≡ Ended end → s.router.out ≡ [] → s.router.version ≡ None → s.router.table ≡ empty → s.router.config ≡ default_config → Emptied (settle all s).router
settle_empties all s end is none version table config =
    settle_ended all (λ x. Emptied x.router) (λ x c u d k. k) (λ x k. closed_by (λ t. Emptied t.router) all x (λ shut. k) (λ on. false_true (sym on ∙ k.closed))) s end is none
    (λ a e. told_ended all end a (subst (λ r. EndedEmpty end r) (sym e) (record { link = is; version = version; table = table; config = config })))

-- A router that holds no session holds none when it connects.
pub clocked_none : (now : ℕ) (r : Router) → r.version ≡ None → (close (clocked now r)).version ≡ None
clocked_none now r none =
    let k : (clocked now r).version ≡ None = by_clock (λ x. x.version ≡ None) now r (λ holds. none) (λ over on. refl) (λ over live open_so. refl) in
    by_close (λ x. x.version ≡ None) (clocked now r) (λ shut. k) (λ on. k)

-- When it connects again, it holds nothing.
pub clocked_emptied : (now : ℕ) (r : Router) → Emptied r → Emptied (close (clocked now r))
clocked_emptied now r e =
    let k : Emptied (clocked now r) = by_clock Emptied now r (λ holds. record { closed = e.closed; held = e.held; version = e.version; table = e.table; config = e.config })
    (λ over on. record { closed = e.closed; held = e.held; version = refl; table = refl; config = e.config }) (λ over live open_so. false_true (sym open_so ∙ e.closed)) in
    by_close Emptied (clocked now r) (λ shut. k) (λ on. false_true (sym on ∙ k.closed))
