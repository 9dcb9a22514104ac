-- What happens at one router, its connection and its wires keeps the invariant.
use Rattle.rtr_world.proofs.Words.{◌≡◌, ℕ, Bool, true, false, not, List, [], ◌∷◌, ◌++◌, Option, Some, None, refl, sym, ap, ◌∙◌, subst, Instance, VrpSet, empty, header_version, Version, judge, Unit, Sent, in_version, Conn, finds_memory, Router, emptied, on_unit, Noted, Receiving, lacks, reads, silent, with_bytes, router_stops, router_byte, clocked, close, asks_if, Link, Closed, Idle, Asked, Answering, Ended, is_reading, is_closed, is_idle, choose, Committed, Question, AskReset, AskSerial, is_serial, later, of_version, same_base, false_true, is_notify, by_clock, by_close, goes_on, goes_so, false_of_not, default_config}
use Rattle.rtr_world.specs.History.{conn_due}
use Rattle.rtr_world.specs.OneAnswer.{OwnNotifies, units_in, without_notifies}
use Rattle.rtr_world.proofs.Invariant.{OfAnswer, Shape, QuestionFits, Open, Unheard, Flow, Live, GoodLink, GoodRouter, if_open}
use Rattle.rtr_world.proofs.UnitsAtRouters.{Reads, asking_good, first_fits, live_link, unit_good}
use Rattle.rtr_world.proofs.UnitEffects.{Belongs, not_strange}
use Rattle.rtr_world.proofs.SentLaws.{own_rest}
use Rattle.rtr_world.proofs.UnitStreams.{Stream, byte_case, case_by}
use Rattle.rtr_world.proofs.Versions.{TableAt, Seen}

-- A link keeps its state; what lives continues to live.
pub live_map : (l : Link) (all all' : List Instance) (i i' : Instance) (home home' : Option Seen) (r r' : Router) (conn conn' : Option Conn) (up up' down down' : List ℕ)
    → (r.held ≡ [] → r'.held ≡ []) → (r.out ≡ [] → r'.out ≡ []) → r'.agreed ≡ r.agreed → r'.session ≡ r.session → GoodLink all i home l r conn up down → (Live all i home r conn up down → Live all' i' home' r' conn' up' down') → GoodLink all' i' home' l r' conn' up' down'
live_map Closed all all' i i' home home' r r' conn conn' up up' down down' held out agreed session g f = (held g.0, agreed ∙ g.1, session ∙ g.2, out g.3)
live_map (Ended end) all all' i i' home home' r r' conn conn' up up' down down' held out agreed session g f = out g
live_map _ all all' i i' home home' r r' conn conn' up up' down down' held out agreed session g f = f g

pub live_of : (l : Link) (all : List Instance) (i : Instance) (home : Option Seen) (r : Router) (conn : Option Conn) (up down : List ℕ) → GoodLink all i home l r conn up down → is_reading l ≡ true → Live all i home r conn up down
live_of Closed all i home r conn up down g live = false_true live
live_of (Ended end) all i home r conn up down g live = false_true live
live_of _ all i home r conn up down g live = g

-- a Reset Query fits if nothing is committed
fits_nothing : (session : ℕ) (q : Question) → is_serial (Some q) ≡ false → QuestionFits session q None
fits_nothing session AskReset h = tt
fits_nothing session (AskSerial one serial) h = false_true (sym h)

module _ (all : List Instance) (i : Instance) (home : Option Seen) (conn : Option Conn) (up : List ℕ) where
  -- A byte that comes on a link that lives is kept, or a PDU is whole with it that belongs there: that is read, or memory runs out at it.
  pub router_by : (P : Noted → Type 0) (down : List ℕ) (r : Router) (b : ℕ) (memory : Bool) → router_stops r ≡ false → GoodRouter all i home conn up (b ∷ down) r
      → ((h : Seen) (f : Flow all i h r conn up (b ∷ down)) → home ≡ Some h → Stream (r.held ++ b ∷ []) (down ++ (conn_due conn ++ f.lost)) f.coming → P (silent (record r { held = r.held ++ b ∷ [] })))
      → ((h : Seen) (u : Unit) → home ≡ Some h → P (lacks u (record r { held = [] })))
      → ((h : Seen) (f : Flow all i h r conn up (b ∷ down)) → home ≡ Some h → (u : Sent) (more : List Sent) → f.coming ≡ u ∷ more → Stream [] (down ++ (conn_due conn ++ f.lost)) more → Belongs all h (record r { held = [] }) u.unit (units_in more) f.wanted → P (reads u.unit (record r { held = [] })))
      → P (with_bytes memory (r.held ++ b ∷ []) r (judge r.spoken (not r.agreed) (r.held ++ b ∷ [])))
  router_by P down r b memory on g part lack read =
      let live = (goes_so r on).0 in
      let l = live_of r.link all i home r conn up (b ∷ down) g.link live in
      let h : Seen = l.0 in
      let f : Flow all i h r conn up (b ∷ down) = l.2 in
      case_by P r b memory (down ++ (conn_due conn ++ f.lost)) f.coming (byte_case r.agreed r.spoken h.made r.held b (down ++ (conn_due conn ++ f.lost)) f.coming f.notifies f.downward) (part h f l.1) (λ u w. lack h u l.1)
      (λ u more is s. read h f l.1 u more is s (record {
        live = live;
        config = g.config;
        quiet = λ one serial e. not_strange h r u more one serial f.session (subst (OwnNotifies r.agreed r.spoken h.made) is f.notifies) e f.own f.mine;
        shape = subst (λ x. Shape all r.spoken h r.link r.agreed r.version r.table f.wanted (without_notifies (units_in x))) is f.shape;
      }))

  pub byte_good : (down : List ℕ) (m : Receiving) (b : ℕ) → router_stops m.router ≡ false → GoodRouter all i home conn up (b ∷ down) m.router → GoodRouter all i home conn up down (router_byte m b).router
  unfolding router_byte
  byte_good down m b on g =
      router_by (λ n. GoodRouter all i home conn up down n.router) down r b (finds_memory m.wanting) on g (λ h f e s. record {
        table = g.table;
        unmarked = g.unmarked;
        config = g.config;
        link = live_link all i home conn up down (record r { held = r.held ++ b ∷ [] }) r.link refl (goes_so r on).0 (h, e, record { said = f.said; lost = f.lost; downward = s; open_at = f.open_at });
      }) (λ h u e. record { table = g.table; unmarked = g.unmarked; config = g.config; link = none }) read
    where
      r : Router
      r = m.router

      none : r.out ≡ []
      none = (goes_so r on).1

      read : (h : Seen) (f : Flow all i h r conn up (b ∷ down)) → home ≡ Some h → (u : Sent) (more : List Sent) → f.coming ≡ u ∷ more → Stream [] (down ++ (conn_due conn ++ f.lost)) more → Belongs all h (record r { held = [] }) u.unit (units_in more) f.wanted
          → GoodRouter all i home conn up down (on_unit r.link u.unit (record r { held = [] }))
      read h f eh u more is s belongs = unit_good all i home conn up down (λ now. is_notify u.unit ≡ true → now ≡ r.agreed) (record r { held = [] }) more u.unit d (λ none e. false_true (sym none ∙ e)) belongs
        where
          -- What was to come is more than notifies before agreement: the cache has read a header.
          heard : (known : Option Version) (now : Bool) → (is_notify u.unit ≡ true → now ≡ r.agreed) → Unheard known h.made (u ∷ more) r.agreed → Unheard known h.made more now
          heard None now same n = (n.0.1, same (ap (λ (x : Sent). is_notify x.unit) n.0.0.1) ∙ n.1)
          heard (Some version) now same n = tt

          d : Reads all i home conn up down (λ now. is_notify u.unit ≡ true → now ≡ r.agreed) (record r { held = [] }) more
          d = record {
            comes = record {
              h = h;
              is_home = eh;
              lost = f.lost;
              wanted = f.wanted;
              version = f.version;
              session = f.session;
              downward = s;
              open_at = λ now same. if_open (Open i r.spoken h r.out up f.wanted f.coming r.agreed f.lost) (Open i r.spoken h [] up f.wanted more now f.lost) conn
                  (λ o op. record { linked = op.linked; upward = subst (λ x. Stream o.held (up ++ x) (in_version r.spoken f.wanted)) none op.upward; spoken = op.spoken; unheard = heard (header_version o.state.version o.held) now same (subst (λ x. Unheard (header_version o.state.version o.held) h.made x r.agreed) is op.unheard) })
                  f.open_at;
              notifies = λ now same. own_rest r.agreed now r.spoken h.made u more same (subst (OwnNotifies r.agreed r.spoken h.made) is f.notifies);
            };
            kept = record { held = refl; none = none; table = g.table; unmarked = g.unmarked; config = g.config };
            may = λ e. refl;
            own = f.own;
            mine = f.mine;
          }

  module _ (down : List ℕ) where
    abbrev GoodR : Router → Type 0
    GoodR r = GoodRouter all i home conn up down r

    -- the clock
    shape_emptied : (pv : Version) (h : Seen) (l : Link) (agreed : Bool) (version : Option Committed) (table : VrpSet) (wanted rest : List Unit) → goes_on l ≡ true → Shape all pv h l agreed version table wanted rest → Shape all pv h l agreed None empty wanted rest
    shape_emptied pv h Idle agreed version table wanted rest on s = s
    shape_emptied pv h (Asked AskReset) agreed version table wanted rest on s = (tt, s.1)
    shape_emptied pv h (Asked (AskSerial one serial)) agreed version table wanted rest on s = false_true on
    shape_emptied pv h (Answering a) agreed version table wanted rest on s =
        let whole = false_of_not (is_serial (Some a.question)) on in
        (s.0, s.1, s.2, fits_nothing h.session a.question whole, subst (λ base. OfAnswer all pv h base a rest) (sym (same_base a.question table whole)) s.4)
    shape_emptied pv h _ agreed version table wanted rest on s = tt

    pub clocked_good : (now : ℕ) (r : Router) → GoodR r → GoodR (clocked now r)
    clocked_good now r g = by_clock GoodR now r (λ lasts. record { table = g.table; unmarked = g.unmarked; config = g.config; link = g.link }) (λ over on. record {
      table = refl;
      unmarked = refl;
      config = g.config;
      link = live_map r.link all all i i home home r (record (emptied r) { now = later r.now now }) conn conn up up down down (λ e. e) (λ e. e) refl refl g.link (λ l. (
        l.0,
        l.1,
        record {
          said = record { wanted = l.2.wanted; coming = l.2.coming; version = l.2.version; session = l.2.session; notifies = l.2.notifies; own = l.2.own; mine = λ e. tt; shape = shape_emptied r.spoken l.0 r.link r.agreed r.version r.table l.2.wanted (without_notifies (units_in l.2.coming)) on l.2.shape };
          lost = l.2.lost;
          downward = l.2.downward;
          open_at = l.2.open_at;
        },
      ));
    }) (λ over live opened. record { table = refl; unmarked = refl; config = g.config; link = refl })

    -- a link that is closed
    pub record Shut (r : Router) : Type 0 where
      pub table : TableAt all r.version r.table
      pub unmarked : r.mark ≡ false
      pub config : r.config ≡ default_config
      pub closed : r.link ≡ Closed
      pub held : r.held ≡ []
      pub agreed : r.agreed ≡ false
      pub session : r.session ≡ None
      pub out : r.out ≡ []

    pub closed_shut : (l : Link) (r : Router) → r.link ≡ l → is_closed l ≡ true → GoodR r → GoodLink all i home l r conn up down → Shut r
    closed_shut Closed r is e g h = record { table = g.table; unmarked = g.unmarked; config = g.config; closed = is; held = h.0; agreed = h.1; session = h.2; out = h.3 }
    closed_shut _ r is e g h = false_true e

    pub close_shut : (r : Router) → GoodR r → Shut (close r)
    close_shut r g = by_close Shut r (λ e. closed_shut r.link r refl e g g.link) (λ e. record { table = g.table; unmarked = g.unmarked; config = g.config; closed = refl; held = refl; agreed = refl; session = refl; out = refl })

    -- an idle link asks
    pub asks_good : (l : Link) (r : Router) (b : Bool) → r.link ≡ l → (is_idle l ≡ false → b ≡ false) → GoodR r → GoodR (asks_if b r).router
    asks_good l r false is idle g = g
    asks_good Idle r true is idle g =
        asking_good all i home conn up down r (choose (of_version r.spoken r.version) r.mark) is (λ session mine. first_fits session (of_version r.spoken r.version) r.mark g.unmarked) g
    asks_good _ r true is idle g = false_true (sym (idle refl))
