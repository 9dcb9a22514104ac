-- A connection at the cache makes the history of what is called on it.
use Rattle.rtr_ends.proofs.Words.{◌≡◌, ◌⊎◌, ℕ, ◌-◌, ◌<◌, Bool, true, false, not, ◌&&◌, List, [], ◌∷◌, ◌++◌, length, take, drop, Option, Some, None, if◌then◌else◌, MatchBool, refl, sym, ap, ◌∙◌, subst, append_assoc, inl, inr, rules, AllByRecursion, and_parts, or_parts, min-le_right, append-nil, take_min, Instance, IsInstance, is_current, published, VrpSet, published_is_instance, Version, version_in, Judgement, Begins, Whole, Faulty, judge, unit_in, AreBytes, as_read, IsPartial, IsShortest, Shows, Reads, Unit, UnitFault, judge_case, whole_exactly, next_shortest, next_size, reader_with, false_of_not}
use Rattle.rtr_pdu.proofs.JudgingLaws as judging
use Rattle.rtr_ends.specs.Cache.{Conn, Taking, is_none, conn_stops, conn_moment_of, with_moment, finds_memory, and_moment, conn_judged, conn_byte, conn_takes, can_notify, conn_notified, pulled_count, conn_pulled, ConnCall, Publishes, Takes, Gives, Notifies, Serving, serve, serving, IsConnCall, IsServed, ServesHistory, new_conn, speaks_in, version_at}
use Rattle.rtr_ends.specs.Connection.{Connection, ConnMoment, Read, Wanting, Fault, Notify, Pull, bytes_of, IsLater, IsHistory, HadCome, MayCome, MayHold, conn_after, after_all, opened, pulled, is_published, takes_memory}
use Rattle.rtr_ends.specs.Timing.{Intervals}
use Rattle.rtr_ends.proofs.ByteLists.{drop_none, more_bytes, none_bytes}
use Rattle.rtr_ends.proofs.FeedingLaws.{fed_keeps}
use Rattle.rtr_ends.proofs.Effects.{either}
use Rattle.rtr_ends.proofs.HistoryLaws.{pulled_are_replies, read_plainly}
use Rattle.rtr_ends.proofs.TableLaws.{false_true}

nothing_due : (due : List ℕ) → not (is_none due) ≡ false → due ≡ []
nothing_due [] h = refl
nothing_due (x ∷ due) h = false_true (sym h)

-- From one connection to another by moments, in which these bytes came: those of the moments, and then the last ones
abbrev Runs : ℕ → Intervals → Connection → List ConnMoment → List ℕ → Connection → List ℕ → Type 0
Runs keep t c [] came new held = (came ≡ held) × (new ≡ c)
Runs keep t c (m ∷ later) came new held = MayCome c came m × ((rest : List ℕ) × (came ≡ bytes_of m ++ rest) × Runs keep t (conn_after keep t c m) later rest new held)

-- What may come may come if more bytes follow.
come_longer : (c : Connection) (coming more : List ℕ) (m : ConnMoment) → MayCome c coming m → MayCome c (coming ++ more) m
come_longer c coming more (Notify version cache held) h = (h.0, h.1, h.2, h.3, (h.4.0, longer h.4.1, h.4.2))
  where
    longer : HadCome c coming held → HadCome c (coming ++ more) held
    longer k = record { begins = k.begins; more = k.more; since = k.since; rest = k.rest ++ more; front = ap (λ x. x ++ more) k.front ∙ append_assoc held k.rest more }
come_longer c coming more _ h = h

module _ (keep : ℕ) (t : Intervals) where
  -- one moment more
  runs_more : (c : Connection) (moments : List ConnMoment) (came : List ℕ) (new : Connection) (held rest : List ℕ) (m : ConnMoment) → Runs keep t c moments came new held → MayCome new held m → held ≡ bytes_of m ++ rest
      → Runs keep t c (moments ++ m ∷ []) came (conn_after keep t new m) rest
  runs_more c [] came new held rest m r h e =
      let may : MayCome c came m = subst (λ x. MayCome x came m) r.1 (subst (λ x. MayCome new x m) (sym r.0) h) in
      (may, (rest, r.0 ∙ e, (refl, ap (λ x. conn_after keep t x m) r.1)))
  runs_more c (k ∷ later) came new held rest m r h e =
      (r.0, (r.1.0, r.1.1, runs_more (conn_after keep t c k) later r.1.0 new held rest m r.1.2 h e))

  -- more bytes
  runs_longer : (c : Connection) (moments : List ConnMoment) (came : List ℕ) (new : Connection) (held more : List ℕ) → Runs keep t c moments came new held → Runs keep t c moments (came ++ more) new (held ++ more)
  runs_longer c [] came new held more r = (ap (λ x. x ++ more) r.0, r.1)
  runs_longer c (m ∷ later) came new held more r =
      (come_longer c came more m r.0, (r.1.0 ++ more, ap (λ x. x ++ more) r.1.1 ∙ append_assoc (bytes_of m) r.1.0 more, runs_longer (conn_after keep t c m) later r.1.0 new held more r.1.2))

  -- with what is held, it is a history
  runs_history : (c : Connection) (moments : List ConnMoment) (came held : List ℕ) (new : Connection) → Runs keep t c moments came new held → MayHold new held → IsHistory keep t c moments came × (new ≡ after_all keep t c moments)
  runs_history c [] came held new r h = (subst (λ x. MayHold c x) (sym r.0) (subst (λ x. MayHold x held) r.1 h), r.1)
  runs_history c (m ∷ later) came held new r h = let more = runs_history (conn_after keep t c m) later r.1.0 held new r.1.2 h in ((r.0, (r.1.0, r.1.1, more.0)), more.1)

  -- what a moment pulls
  abbrev pulled_by : Connection → ConnMoment → List ℕ
  pulled_by c (Pull count) = take count c.due
  pulled_by c m = []

  pulled_first : (c : Connection) (m : ConnMoment) (later : List ConnMoment) → pulled keep t c (m ∷ later) ≡ pulled_by c m ++ pulled keep t (conn_after keep t c m) later
  pulled_first c (Pull count) later = refl
  pulled_first c _ later = refl

  pulled_more : (c : Connection) (moments : List ConnMoment) (came : List ℕ) (new : Connection) (held : List ℕ) (m : ConnMoment) → Runs keep t c moments came new held → pulled keep t c (moments ++ m ∷ []) ≡ pulled keep t c moments ++ pulled_by new m
  pulled_more c [] came new held m r = pulled_first c m [] ∙ append-nil (pulled_by c m) ∙ ap (λ x. pulled_by x m) (sym r.1)
  pulled_more c (k ∷ later) came new held m r =
      pulled_first c k (later ++ m ∷ []) ∙ ap (λ x. pulled_by c k ++ x) (pulled_more (conn_after keep t c k) later r.1.0 new held m r.1.2)
      ∙ sym (append_assoc (pulled_by c k) (pulled keep t (conn_after keep t c k) later) (pulled_by new m))
      ∙ ap (λ x. x ++ pulled_by new m) (sym (pulled_first c k later))

  -- A connection that was opened at an instance, after these moments, in which these bytes came and were given
  pub record Goes (i : Instance) (o : Conn) (moments : List ConnMoment) (came given : List ℕ) : Type 0 where
    pub runs : Runs keep t (opened i) moments came o.state o.held
    pub more : List ℕ
    pub since : o.held ≡ o.state.seen ++ more
    pub given_is : given ≡ pulled keep t (opened i) moments
    pub holds : MayHold o.state o.held
    pub bytes : AreBytes o.held
    pub cache : IsInstance o.state.cache

  served : (i : Instance) (s : Serving) → Goes i s.conn s.moments s.came s.given → IsServed keep t i s
  served i s g =
      let all = runs_history (opened i) s.moments s.came s.conn.held s.conn.state g.runs g.holds in
      record {
        history = all.0;
        state = all.1;
        given = g.given_is;
        replies = (λ j. g.given_is j ++ (all.1 j).due) ∙ pulled_are_replies keep t i s.moments s.came all.0;
      }

  -- nothing is held behind a moment
  holds_none : (c : Connection) → MayHold c []
  holds_none c = search rules

  -- what is held on a connection that continues is the beginning of a PDU
  holds_part : (c : Connection) (held : List ℕ) → c.ended ≡ false → MayHold c held → IsPartial (version_in c.version held) held
  holds_part c held is h = (subst (λ b. MatchBool b (held ≡ []) (IsPartial (version_in c.version held) held × ((held ≡ []) ⊎ ((c.due ≡ []) ⊎ (c.notified ≡ true))))) is h).0

  holds_open : (c : Connection) (held : List ℕ) → c.ended ≡ false → IsPartial (version_in c.version held) held → (held ≡ []) ⊎ ((c.due ≡ []) ⊎ (c.notified ≡ true)) → MayHold c held
  holds_open c held is part h = subst (λ b. MatchBool b (held ≡ []) (IsPartial (version_in c.version held) held × ((held ≡ []) ⊎ ((c.due ≡ []) ⊎ (c.notified ≡ true))))) (sym is) (part, h)

  module _ (opened_at : Instance) where
    -- a moment that the last of these bytes brings
    goes_moment : (o : Conn) (moments : List ConnMoment) (came given : List ℕ) (b : ℕ) (m : ConnMoment) → MayCome o.state (o.held ++ b ∷ []) m → bytes_of m ≡ o.held ++ b ∷ [] → pulled_by o.state m ≡ [] → (conn_after keep t o.state m).seen ≡ [] → IsInstance (conn_after keep t o.state m).cache
        → Goes opened_at o moments came given → Goes opened_at (record { state = conn_after keep t o.state m; held = [] }) (moments ++ m ∷ []) (came ++ b ∷ []) given
    goes_moment o moments came given b m may bytes none unseen cache g = record {
      runs = runs_more (opened opened_at) moments (came ++ b ∷ []) o.state (o.held ++ b ∷ []) [] m (runs_longer (opened opened_at) moments came o.state o.held (b ∷ []) g.runs) may (sym bytes ∙ sym (append-nil (bytes_of m)));
      more = [];
      since = sym unseen ∙ sym (append-nil (conn_after keep t o.state m).seen);
      given_is = g.given_is ∙ sym (append-nil (pulled keep t (opened opened_at) moments)) ∙ ap (λ x. pulled keep t (opened opened_at) moments ++ x) (sym none)
          ∙ sym (pulled_more (opened opened_at) moments came o.state o.held m g.runs);
      holds = holds_none (conn_after keep t o.state m);
      bytes = none_bytes;
      cache = cache;
    }

    same_later : (i : Instance) → IsLater i i
    same_later i = record { session = refl; session0 = refl; start = refl; more = []; sets = refl }

    -- A connection with the cache as it is now
    pub record Stands (i : Instance) (before : List ConnMoment) (m : Taking) (came given : List ℕ) : Type 0 where
      pub goes : Goes opened_at m.conn (before ++ m.moments) came given
      pub later : IsLater m.conn.state.cache i

    module _ (i : Instance) (is : IsInstance i) (before : List ConnMoment) (given : List ℕ) where
      -- what is judged of the next byte
      abbrev next : Taking → ℕ → Judgement → Taking
      next m b j = conn_judged keep t i m (version_at m.conn (b ∷ [])) (m.conn.held ++ b ∷ []) j

      stands_moment : (m : Taking) (b : ℕ) (came : List ℕ) (j : Judgement) (k : ConnMoment) → conn_moment_of i (finds_memory m.wanting) (version_at m.conn (b ∷ [])) (m.conn.held ++ b ∷ []) j ≡ Some k → MayCome m.conn.state (m.conn.held ++ b ∷ []) k → bytes_of k ≡ m.conn.held ++ b ∷ [] → pulled_by m.conn.state k ≡ [] → (conn_after keep t m.conn.state k).seen ≡ []
          → IsInstance (conn_after keep t m.conn.state k).cache → IsLater (conn_after keep t m.conn.state k).cache i → Stands i before m came given → Stands i before (next m b j) (came ++ b ∷ []) given
      stands_moment m b came j k brings may bytes none unseen cache later s =
          subst (λ o. Stands i before (record { conn = with_moment keep t (m.conn.held ++ b ∷ []) m.conn o; moments = and_moment m.moments o; wanting = (next m b j).wanting }) (came ++ b ∷ []) given) (sym brings)
          (record {
            goes = subst (λ x. Goes opened_at (record { state = conn_after keep t m.conn.state k; held = [] }) x (came ++ b ∷ []) given) (append_assoc before m.moments (k ∷ []))
                (goes_moment m.conn (before ++ m.moments) came given b k may bytes none unseen cache s.goes);
            later = later;
          })

      stands_byte : (m : Taking) (b : ℕ) (came : List ℕ) → b < 256 → conn_stops m.conn ≡ false → Stands i before m came given → Stands i before (conn_byte keep t i m b) (came ++ b ∷ []) given
      unfolding conn_byte
      stands_byte m b came byte runs s = by_case (judge_case version false bytes)
        where
          bytes : List ℕ
          bytes = m.conn.held ++ b ∷ []

          version : Version
          version = version_at m.conn (b ∷ [])

          tests : (m.conn.state.ended ≡ false) × (not (is_none m.conn.state.due) ≡ false)
          tests = or_parts m.conn.state.ended (not (is_none m.conn.state.due)) runs

          at_rest : m.conn.state.due ≡ []
          at_rest = nothing_due m.conn.state.due tests.1

          own : Version
          own = version_in m.conn.state.version m.conn.held

          part : IsPartial version (as_read version false m.conn.held)
          part = reader_with m.conn.state.version None false m.conn.held (b ∷ []) (subst (λ x. IsPartial own x) (sym (read_plainly own m.conn.held)) (holds_part m.conn.state m.conn.held tests.0 s.goes.holds))

          each : AreBytes bytes
          each = more_bytes m.conn.held b s.goes.bytes byte

          shortest : IsShortest version false bytes
          shortest = next_shortest version false m.conn.held b part

          begins : judge version false bytes ≡ Begins → IsPartial version bytes → Stands i before (next m b Begins) (came ++ b ∷ []) given
          begins j partial = record {
            goes = record {
              runs = runs_longer (opened opened_at) (before ++ m.moments) came m.conn.state m.conn.held (b ∷ []) s.goes.runs;
              more = s.goes.more ++ b ∷ [];
              since = ap (λ x. x ++ b ∷ []) s.goes.since ∙ append_assoc m.conn.state.seen s.goes.more (b ∷ []);
              given_is = s.goes.given_is;
              holds = holds_open m.conn.state bytes tests.0 partial (inr (inl at_rest));
              bytes = each;
              cache = s.goes.cache;
            };
            later = s.later;
          }

          shows : (fault : UnitFault) → Shows version bytes fault → Stands i before (next m b (Faulty fault)) (came ++ b ∷ []) given
          shows fault h =
              stands_moment m b came (Faulty fault) (Fault version fault bytes) refl
              (tests.0, at_rest, s.goes.cache, same_later m.conn.state.cache, (refl, h, shortest)) refl refl refl s.goes.cache s.later s

          reads : (u : Unit) → Reads version u bytes → Stands i before (next m b (Whole u)) (came ++ b ∷ []) given
          reads u h = by_memory (takes_memory version i u && not (finds_memory m.wanting)) refl
            where
              by_memory : (w : Bool) → (takes_memory version i u && not (finds_memory m.wanting)) ≡ w → Stands i before (next m b (Whole u)) (came ++ b ∷ []) given
              by_memory true e =
                  stands_moment m b came (Whole u) (Wanting version i u bytes) (ap (λ x. Some (if x then Wanting version i u bytes else Read version i u bytes)) e)
                  (tests.0, at_rest, is, s.later, (refl, h, (and_parts (takes_memory version i u) (not (finds_memory m.wanting)) e).0)) refl refl refl is (same_later i) s
              by_memory false e =
                  stands_moment m b came (Whole u) (Read version i u bytes) (ap (λ x. Some (if x then Wanting version i u bytes else Read version i u bytes)) e)
                  (tests.0, at_rest, is, s.later, (refl, h)) refl refl refl is (same_later i) s

          by_case : judging.Case version (as_read version false bytes) (judge version false bytes) → Stands i before (next m b (judge version false bytes)) (came ++ b ∷ []) given
          by_case (judging.begins e partial) = rw e (begins e (subst (λ x. IsPartial version x) (read_plainly version bytes) partial))
          by_case (judging.shows fault e h) = rw e (shows fault (subst (λ x. Shows version x fault) (read_plainly version bytes) h))
          by_case (judging.whole e w sound) =
              rw e
              (reads (unit_in version (as_read version false bytes)) (subst (λ x. Reads version (unit_in version (as_read version false bytes)) x) (read_plainly version bytes)
              ((whole_exactly version false bytes (unit_in version (as_read version false bytes)) each (next_size version false m.conn.held b part w)).0 e)))

    -- a piece is received
    takes_goes : (i : Instance) (is : IsInstance i) (wanting : Option ℕ) (piece : List ℕ) (s : Serving) → AreBytes piece → IsLater s.conn.state.cache i → s.cache ≡ i → Goes opened_at s.conn s.moments s.came s.given
        → Stands i s.moments (conn_takes keep t i wanting piece s.conn).machine (s.came ++ take (length piece - length (conn_takes keep t i wanting piece s.conn).rest) piece) s.given
    unfolding conn_takes
    takes_goes i is wanting piece s each later same g =
        fed_keeps (λ m. conn_stops m.conn) (conn_byte keep t i) (λ came m. Stands i s.moments m came s.given) (λ came b m byte runs h. stands_byte i is s.moments s.given m b came byte runs h)
        (record { conn = s.conn; moments = []; wanting = wanting }) piece s.came each
        (record { goes = subst (λ x. Goes opened_at s.conn x s.came s.given) (sym (append-nil s.moments)) g; later = later })

    -- bytes are pulled
    pulled_goes : (most : ℕ) (s : Serving) → Goes opened_at s.conn s.moments s.came s.given
        → Goes opened_at (conn_pulled keep t most s.conn) (s.moments ++ Pull (pulled_count most s.conn) ∷ []) s.came (s.given ++ take most s.conn.state.due)
    unfolding conn_pulled
    pulled_goes most s g =
        let m : ConnMoment = Pull (pulled_count most s.conn) in
        let may : MayCome s.conn.state s.conn.held (Pull (pulled_count most s.conn)) = min-le_right most (length s.conn.state.due) in
        record {
          runs = runs_more (opened opened_at) s.moments s.came s.conn.state s.conn.held s.conn.held (Pull (pulled_count most s.conn)) g.runs may refl;
          more = g.more;
          since = g.since;
          given_is = (λ j. g.given_is j ++ sym (take_min most s.conn.state.due) j) ∙ sym (pulled_more (opened opened_at) s.moments s.came s.conn.state s.conn.held (Pull (pulled_count most s.conn)) g.runs);
          holds = still (pulled_count most s.conn) s.conn.state s.conn.held g.holds;
          bytes = g.bytes;
          cache = g.cache;
        }
      where
        rests : (count : ℕ) (c : Connection) (held : List ℕ) → (held ≡ []) ⊎ ((c.due ≡ []) ⊎ (c.notified ≡ true)) → (held ≡ []) ⊎ ((drop count c.due ≡ []) ⊎ (c.notified ≡ true))
        rests count c held (inl e) = inl e
        rests count c held (inr (inl e)) = inr (inl (drop_none count c.due e))
        rests count c held (inr (inr e)) = inr (inr e)

        still : (count : ℕ) (c : Connection) (held : List ℕ) → MayHold c held → MayHold (record c { due = drop count c.due }) held
        still count c held h = by_end c.ended h
          where
            by_end : (b : Bool) → MatchBool b (held ≡ []) (IsPartial (version_in c.version held) held × ((held ≡ []) ⊎ ((c.due ≡ []) ⊎ (c.notified ≡ true)))) → MatchBool b (held ≡ []) (IsPartial (version_in c.version held) held × ((held ≡ []) ⊎ ((drop count c.due ≡ []) ⊎ (c.notified ≡ true))))
            by_end true h = h
            by_end false h = (h.0, rests count c held h.1)

    -- the router is notified, or cannot be
    notified_goes : (i : Instance) → IsInstance i → (s : Serving) → IsLater s.conn.state.cache i → Goes opened_at s.conn s.moments s.came s.given → (b : Bool) → can_notify i s.conn ≡ b
        → Goes opened_at (if b then record s.conn { state = conn_after keep t s.conn.state (Notify (speaks_in s.conn) i s.conn.held) } else s.conn) (if b then s.moments ++ Notify (speaks_in s.conn) i s.conn.held ∷ [] else s.moments) s.came s.given
    notified_goes i is s later g false e = g
    notified_goes i is s later g true e = record {
      runs = runs_more (opened opened_at) s.moments s.came s.conn.state s.conn.held s.conn.held (Notify (speaks_in s.conn) i s.conn.held) g.runs (ended, due, is, later, (refl, had, parts.0)) refl;
      more = [];
      since = sym (append-nil s.conn.held);
      given_is = g.given_is ∙ sym (append-nil (pulled keep t (opened opened_at) s.moments)) ∙ sym (pulled_more (opened opened_at) s.moments s.came s.conn.state s.conn.held (Notify (speaks_in s.conn) i s.conn.held) g.runs);
      holds = (holds_part s.conn.state s.conn.held ended g.holds, inr (inr refl));
      bytes = g.bytes;
      cache = is;
    }
      where
        parts : (is_published i ≡ true) × (not (conn_stops s.conn) ≡ true)
        parts = and_parts (is_published i) (not (conn_stops s.conn)) e

        tests : (s.conn.state.ended ≡ false) × (not (is_none s.conn.state.due) ≡ false)
        tests = or_parts s.conn.state.ended (not (is_none s.conn.state.due)) (false_of_not (conn_stops s.conn) parts.1)

        ended : s.conn.state.ended ≡ false
        ended = tests.0

        had : HadCome s.conn.state s.conn.held s.conn.held
        had = record { begins = holds_part s.conn.state s.conn.held ended g.holds; more = g.more; since = g.since; rest = []; front = sym (append-nil s.conn.held) }

        due : s.conn.state.due ≡ []
        due = nothing_due s.conn.state.due tests.1

    -- what is published is later
    published_later : (c i : Instance) (set : VrpSet) → IsLater c i → IsLater c (published set i)
    published_later c i set l = either (IsLater c) (is_current i.sets set) i (record i { sets = set ∷ i.sets }) (λ known. l)
        (λ new. record { session = l.session; session0 = l.session0; start = l.start; more = set ∷ l.more; sets = ap (λ x. set ∷ x) l.sets })

    pub record Served (s : Serving) : Type 0 where
      pub goes : Goes opened_at s.conn s.moments s.came s.given
      pub later : IsLater s.conn.state.cache s.cache
      pub cache : IsInstance s.cache

    serve_served : (call : ConnCall) (s : Serving) → IsConnCall call → Served s → Served (serve keep t call s)
    unfolding conn_pulled conn_notified
    serve_served (Publishes set) s fits h = record { goes = h.goes; later = published_later s.conn.state.cache s.cache set h.later; cache = published_is_instance set s.cache fits h.cache }
    serve_served (Takes wanting piece) s fits h =
        let k = takes_goes s.cache h.cache wanting piece s fits h.later refl h.goes in record { goes = k.goes; later = k.later; cache = h.cache }
    serve_served (Gives most) s fits h = record { goes = pulled_goes most s h.goes; later = h.later; cache = h.cache }
    serve_served Notifies s fits h = record {
      goes = notified_goes s.cache h.cache s h.later h.goes (can_notify s.cache s.conn) refl;
      later = either (λ (o : Conn). IsLater o.state.cache s.cache) (can_notify s.cache s.conn) _ _ (λ may. same_later s.cache) (λ not_so. h.later);
      cache = h.cache;
    }

    new_served : IsInstance opened_at → Served (record { cache = opened_at; conn = new_conn opened_at; moments = []; came = []; given = [] })
    new_served is = search rules

    all_served : (calls : List ConnCall) → IsInstance opened_at → AllByRecursion IsConnCall calls → Served (serving keep t opened_at calls)
    all_served [] is all = new_served is
    all_served (call ∷ calls) is all = serve_served call (serving keep t opened_at calls) all.0 (all_served calls is all.1)

-- What is called on a connection makes its history.
pub serves_history : ServesHistory
serves_history keep t i calls is all = served keep t i (serving keep t i calls) (all_served keep t i calls is all).goes
