-- Memory runs out at just those PDUs of an event that allocate memory, of all that it reads, and then no further bytes are consumed.
use Rattle.rtr_world.proofs.Words.{◌≡◌, ◌≤◌, ℕ, zero, suc, length, Bool, true, false, not, ◌&&◌, ◌||◌, ◌==◌, List, [], ◌∷◌, ◌++◌, Option, Some, None, slice_get, if◌then◌else◌, refl, sym, ap, ◌∙◌, subst, subst₂, flat_map-append, append-nil, list_any-append, flat_map, list_any, Instance, Unit, SerialNotify, CacheResponse, Prefix, EndOfData, EndOfData0, CacheReset, ErrorReport, Version, Judgement, Begins, Whole, Faulty, judge, Conn, Taking, conn_byte, conn_judged, conn_stops, conn_takes, counted, finds_memory, version_at, with_moment, ConnMoment, Fault, Read, Wanting, is_wanting, takes_memory, Router, Staged, Stays, ask, commit, emptied, ended_by, fails, is_news, is_strange, may_lack, on_unit, stage, staged, told_off, Receiving, asked_by, breaks, clocked, lacks, reads, receives, router_byte, router_judged, router_stops, with_read, Link, Closed, Idle, Asked, Answering, Ended, is_lacking, taking, Item, At, AskReset, AskSerial, Question, Reads, base_of, bounded, is_serial, is_wrong, of_version, retry_of, sum_of, false_true, chosen, limit_of}
use Rattle.rtr_world.proofs.Beside.{After, Beside, Takes, beside, has, told}
use Rattle.rtr_world.specs.History.{conn_reading, router_readings, units_read}
use Rattle.rtr_world.specs.World.{timing}

with_memory : {X : Type 0} (b : Bool) (m n : X) → (if b && not true then m else n) ≡ n
with_memory true m n = refl
with_memory false m n = refl

pub has_so : (o : Option Bool) → has o ≡ true → o ≡ Some true
has_so None e = false_true e
has_so (Some b) e = ap Some e

-- A router: what the next byte brings
abbrev pub came : Router → ℕ → Judgement
came r b = judge r.spoken (not r.agreed) (r.held ++ b ∷ [])

asked_units : (l : Link) (out : List ℕ) (u : Unit) (xs : List Item) → units_read ((asked_by l out ++ Reads u ∷ []) ++ xs) ≡ units_read xs ++ u ∷ []
asked_units (Asked q) (b ∷ out) u xs = refl
asked_units _ out u xs = refl

asked_lacks : (l : Link) (out : List ℕ) (u : Unit) (xs : List Item) → list_any is_lacking ((asked_by l out ++ Reads u ∷ []) ++ xs) ≡ list_any is_lacking xs
asked_lacks (Asked q) (b ∷ out) u xs = refl
asked_lacks _ out u xs = refl

-- What is held of the next PDU does not matter to what is done with one.
either : (b : Bool) (f g : Router → Router) (r : Router) (held : List ℕ) → f (record r { held = held }) ≡ record (f r) { held = held } → g (record r { held = held }) ≡ record (g r) { held = held }
    → (if b then f (record r { held = held }) else g (record r { held = held })) ≡ record (if b then f r else g r) { held = held }
either true f g r held first second = first
either false f g r held first second = second

staged_aside : (u : Unit) (st : Staged) (r : Router) (held : List ℕ) → staged u st (record r { held = held }) ≡ record (staged u st r) { held = held }
staged_aside u (Stays a) r held = refl
staged_aside u _ r held = refl

told_aside : (q : Question) (code : ℕ) (r : Router) (held : List ℕ) → told_off q code (record r { held = held }) ≡ record (told_off q code r) { held = held }
told_aside q code r held =
    either (code == 2) (λ x. record x { link = Idle; due = Some (sum_of x.now (retry_of x.config x.version)); no_data = true }) (λ x. if code == 0 && is_serial (Some q) then ended_by code (emptied x) else ended_by code x) r held refl
    (either (code == 0 && is_serial (Some q)) (λ x. ended_by code (emptied x)) (ended_by code) r held refl refl)

unit_aside : (l : Link) (u : Unit) (r : Router) (held : List ℕ) → on_unit l u (record r { held = held }) ≡ record (on_unit l u r) { held = held }
unfolding on_unit
unit_aside Closed u r held = refl
unit_aside (Ended end) u r held = refl
unit_aside Idle (SerialNotify session serial) r held =
    either (is_strange r session) (fails (SerialNotify session serial)) (λ x. if is_news (of_version x.spoken x.version) serial then ask x else x) r held refl
    (either (is_news (of_version r.spoken r.version) serial) ask (λ x. x) r held refl refl)
unit_aside Idle (ErrorReport e) r held = either (e.code == 2) (λ x. x) (ended_by e.code) r held refl refl
unit_aside (Asked q) (SerialNotify session serial) r held = either (is_strange r session) (fails (SerialNotify session serial)) (λ x. x) r held refl refl
unit_aside (Asked q) (CacheResponse session) r held =
    either (is_wrong (Some q) (of_version r.spoken r.version) session) (fails (CacheResponse session)) (λ x. record x { agreed = true; session = Some session; link = Answering (record { question = q; session = session; withdrawn = []; announced = [] }) }) r held refl refl
unit_aside (Asked AskReset) CacheReset r held = refl
unit_aside (Asked (AskSerial session serial)) CacheReset r held = refl
unit_aside (Asked q) (ErrorReport e) r held = told_aside q e.code (record r { agreed = true }) held
unit_aside (Answering a) (SerialNotify session serial) r held = either (is_strange r session) (fails (SerialNotify session serial)) (λ x. x) r held refl refl
unit_aside (Answering a) (Prefix announce v) r held = staged_aside (Prefix announce v) (stage (limit_of r.config) (base_of a.question r.table) a announce v) r held
unit_aside (Answering a) (EndOfData session serial refresh retry expire) r held =
    either (session == a.session) (λ x. commit a (record { version = x.spoken; session = session; serial = serial; moment = x.now; intervals = chosen x.config (bounded refresh retry expire) }) x) (fails (EndOfData session serial refresh retry expire)) r held refl refl
unit_aside (Answering a) (EndOfData0 session serial) r held =
    either (session == a.session) (λ x. commit a (record { version = x.spoken; session = session; serial = serial; moment = x.now; intervals = x.config.intervals }) x) (fails (EndOfData0 session serial)) r held refl refl
unit_aside (Answering a) (ErrorReport e) r held = told_aside a.question e.code r held
unit_aside _ _ r held = refl

lack_aside : (l : Link) (u : Unit) (r : Router) (held : List ℕ) → may_lack l u (record r { held = held }) ≡ may_lack l u r
lack_aside (Answering a) (Prefix announce v) r held = refl
lack_aside _ _ r held = refl

held_aside : (r : Router) (held : List ℕ) (units : List Unit) → router_readings (record r { held = held }) units ≡ router_readings r units
held_aside r held [] = refl
held_aside r held (u ∷ units) =
    λ i. lack_aside r.link u r held i ∷ (ap (λ x. router_readings x units) (unit_aside r.link u r held) ∙ held_aside (on_unit r.link u r) held units) i

-- whether the PDU that is whole allocates memory
abbrev took : Router → Judgement → Option Bool
took r (Whole u) = Some (may_lack r.link u r)
took r j = None

-- It is the same router, at which memory is to run out at this PDU, and did not yet.
abbrev RoutersAlike : Option ℕ → Receiving → Receiving → Type 0
RoutersAlike wanting m n = (n.router ≡ m.router) × (m.wanting ≡ None) × (n.wanting ≡ wanting) × (list_any is_lacking n.items ≡ false)

abbrev Behind : Option Bool → Option ℕ → Receiving → Receiving → Type 0
Behind t wanting m n = After (λ (x : Receiving). router_stops x.router) (λ (x : Receiving). list_any is_lacking x.items) RoutersAlike t wanting m n

judged_alike : (r : Router) (xs ys : List Item) (bytes : List ℕ) → list_any is_lacking ys ≡ false → (wanting : Option ℕ) (j : Judgement) → Behind (took r j) wanting (router_judged (taking r xs None) bytes j) (router_judged (taking r ys wanting) bytes j)
judged_alike r xs ys bytes none wanting (Whole u) = by_lack (may_lack r.link u r) wanting
  where
    q : Router
    q = record r { held = [] }

    still : list_any is_lacking ((reads u q).items ++ ys) ≡ false
    still = asked_lacks (reads u q).router.link (reads u q).router.out u ys ∙ none

    by_lack : (t : Bool) (wanting : Option ℕ) → Behind (Some t) wanting (with_read (taking r xs None) (Whole u) (if t && not true then lacks u q else reads u q)) (with_read (taking r ys wanting) (Whole u) (if t && not (finds_memory wanting) then lacks u q else reads u q))
    by_lack true (Some zero) = (refl, refl)
    by_lack true _ = (refl, refl, refl, still)
    by_lack false None = (refl, refl, refl, still)
    by_lack false (Some zero) = (refl, refl, refl, still)
    by_lack false (Some (suc unit)) = (refl, refl, refl, still)
judged_alike r xs ys bytes none wanting j = (refl, refl, refl, none)

-- the PDUs that are read at a byte, and whether those behind them allocate memory
abbrev Logs : Router → List Item → Option Bool → Receiving → Type 0
Logs r xs t m = (more : List Unit) × (units_read m.items ≡ units_read xs ++ more) × ((us : List Unit) → (router_stops m.router ≡ true → us ≡ []) → told t (router_readings m.router us) ≡ router_readings r (more ++ us))

judged_logs : (r : Router) (xs : List Item) (bytes : List ℕ) (j : Judgement) → Logs r xs (took r j) (router_judged (taking r xs None) bytes j)
judged_logs r xs bytes Begins = ([], sym (append-nil (units_read xs)), λ us h. held_aside r bytes us)
judged_logs r xs bytes (Faulty fault) = ([], sym (append-nil (units_read xs)), λ us h. ap (router_readings (breaks fault bytes r).router) (h refl) ∙ sym (ap (router_readings r) (h refl)))
judged_logs r xs bytes (Whole u) =
    let q : Router = record r { held = [] } in
    subst (λ n. Logs r xs (Some (may_lack r.link u r)) (with_read (taking r xs None) (Whole u) n)) (sym (with_memory (may_lack r.link u r) (lacks u q) (reads u q))) (
      u ∷ [],
      asked_units (reads u q).router.link (reads u q).router.out u xs,
      λ us h. ap (λ x. may_lack r.link u r ∷ x) (ap (λ x. router_readings x us) (unit_aside r.link u r []) ∙ held_aside (on_unit r.link u r) [] us),
    )

routers : Beside Receiving Unit
unfolding router_byte
routers = record {
  stops = λ m. router_stops m.router;
  step = router_byte;
  took = λ m b. took m.router (came m.router b);
  lacks = λ m. list_any is_lacking m.items;
  Alike = RoutersAlike;
  same = λ wanting m n a. ap router_stops a.0;
  none = λ wanting m n a. a.3;
  goes = λ wanting m n b a.
      subst₂ (λ x y. Behind (took m.router (came m.router b)) wanting (router_byte x b) (router_byte y b)) (λ k. taking m.router m.items (sym a.1 k)) (λ k. taking (sym a.0 k) n.items (sym a.2 k))
      (judged_alike m.router m.items n.items (m.router.held ++ b ∷ []) a.3 wanting (came m.router b));
  log = λ m. units_read m.items;
  later = λ m us. router_readings m.router us;
  nothing = λ m. refl;
  logs = λ m b a. subst (λ x. Logs m.router m.items (took m.router (came m.router b)) (router_byte x b)) (λ k. taking m.router m.items (sym a.1 k)) (judged_logs m.router m.items (m.router.held ++ b ∷ []) (came m.router b));
}

router_beside : (now : ℕ) (wanting : Option ℕ) (piece : List ℕ) (r : Router) → Takes routers None piece wanting (taking (clocked now r) (At now ∷ []) None) (taking (clocked now r) (At now ∷ []) wanting)
unfolding routers
router_beside now wanting piece r = beside routers piece wanting (taking (clocked now r) (At now ∷ []) None) (taking (clocked now r) (At now ∷ []) wanting) (refl, refl, refl, refl) (refl, refl, refl, refl)

pub router_leaves : (now : ℕ) (wanting : Option ℕ) (piece : List ℕ) (r : Router) → length (receives now None piece r).rest ≤ length (receives now wanting piece r).rest
unfolding receives routers
router_leaves now wanting piece r = (router_beside now wanting piece r).leaves

pub router_lacks : (now : ℕ) (piece : List ℕ) (r : Router) (unit : ℕ) →
    list_any is_lacking (receives now (Some unit) piece r).machine.items ≡ has (slice_get (router_readings (clocked now r) (units_read (receives now None piece r).machine.items)) unit)
unfolding receives routers
router_lacks now piece r unit = let k = router_beside now (Some unit) piece r in k.lacks ∙ ap (λ x. has (slice_get (router_readings (clocked now r) x) unit)) (sym k.log)

-- A connection at the cache
module _ (keep : ℕ) (i : Instance) where
  abbrev takes : Version → Judgement → Option Bool
  takes version (Whole u) = Some (takes_memory version i u)
  takes version j = None

  abbrev brought : Taking → ℕ → Judgement
  brought m b = judge (version_at m.conn (b ∷ [])) false (m.conn.held ++ b ∷ [])

  abbrev conn_of : Conn → List ConnMoment → Option ℕ → Taking
  conn_of o moments wanting = record { conn = o; moments = moments; wanting = wanting }

  -- It is the same connection, at which memory is to run out at this PDU, and did not yet.
  abbrev ConnsAlike : Option ℕ → Taking → Taking → Type 0
  ConnsAlike wanting m n = (n.conn ≡ m.conn) × (m.wanting ≡ None) × (n.wanting ≡ wanting) × (list_any is_wanting n.moments ≡ false)

  abbrev ConnsBehind : Option Bool → Option ℕ → Taking → Taking → Type 0
  ConnsBehind t wanting m n = After (λ (x : Taking). conn_stops x.conn) (λ (x : Taking). list_any is_wanting x.moments) ConnsAlike t wanting m n

  wants_one : (ms : List ConnMoment) (m : ConnMoment) → list_any is_wanting ms ≡ false → list_any is_wanting (ms ++ m ∷ []) ≡ (is_wanting m || false)
  wants_one ms m none = list_any-append is_wanting ms (m ∷ []) ∙ ap (λ b. b || (is_wanting m || false)) none

  conn_judged_alike : (o : Conn) (xs ys : List ConnMoment) (version : Version) (bytes : List ℕ) → list_any is_wanting ys ≡ false → (wanting : Option ℕ) (j : Judgement)
      → ConnsBehind (takes version j) wanting (conn_judged keep timing i (conn_of o xs None) version bytes j) (conn_judged keep timing i (conn_of o ys wanting) version bytes j)
  conn_judged_alike o xs ys version bytes none wanting Begins = (refl, refl, refl, none)
  conn_judged_alike o xs ys version bytes none wanting (Faulty fault) = (refl, refl, refl, wants_one ys (Fault version fault bytes) none)
  conn_judged_alike o xs ys version bytes none wanting (Whole u) = by_takes (takes_memory version i u) wanting
    where
      behind : Bool → List ConnMoment → Option ℕ → Taking
      behind t moments now =
          let m : ConnMoment = if t then Wanting version i u bytes else Read version i u bytes in conn_of (with_moment keep timing bytes o (Some m)) (moments ++ m ∷ []) (counted (Whole u) now)

      by_takes : (t : Bool) (wanting : Option ℕ) → ConnsBehind (Some t) wanting (behind (t && not true) xs None) (behind (t && not (finds_memory wanting)) ys wanting)
      by_takes true (Some zero) = (refl, wants_one ys (Wanting version i u bytes) none)
      by_takes true _ = (refl, refl, refl, wants_one ys (Read version i u bytes) none)
      by_takes false None = (refl, refl, refl, wants_one ys (Read version i u bytes) none)
      by_takes false (Some zero) = (refl, refl, refl, wants_one ys (Read version i u bytes) none)
      by_takes false (Some (suc unit)) = (refl, refl, refl, wants_one ys (Read version i u bytes) none)

  abbrev ConnLogs : List ConnMoment → Option Bool → Taking → Type 0
  ConnLogs xs t m = (more : List Bool) × (flat_map conn_reading m.moments ≡ flat_map conn_reading xs ++ more) × ((us : List Bool) → (conn_stops m.conn ≡ true → us ≡ []) → told t us ≡ more ++ us)

  one_more : (xs : List ConnMoment) (m : ConnMoment) → flat_map conn_reading (xs ++ m ∷ []) ≡ flat_map conn_reading xs ++ conn_reading m
  one_more xs m = flat_map-append conn_reading xs (m ∷ []) ∙ ap (λ x. flat_map conn_reading xs ++ x) (append-nil (conn_reading m))

  conn_logs : (o : Conn) (xs : List ConnMoment) (version : Version) (bytes : List ℕ) (j : Judgement) → ConnLogs xs (takes version j) (conn_judged keep timing i (conn_of o xs None) version bytes j)
  conn_logs o xs version bytes Begins = ([], sym (append-nil (flat_map conn_reading xs)), λ us h. refl)
  conn_logs o xs version bytes (Faulty fault) = ([], one_more xs (Fault version fault bytes), λ us h. refl)
  conn_logs o xs version bytes (Whole u) =
      subst (λ m. ConnLogs xs (Some (takes_memory version i u)) (conn_of (with_moment keep timing bytes o (Some m)) (xs ++ m ∷ []) None)) (sym (with_memory (takes_memory version i u) (Wanting version i u bytes) (Read version i u bytes)))
      (takes_memory version i u ∷ [], one_more xs (Read version i u bytes), λ us h. refl)

  conns : Beside Taking Bool
  unfolding conn_byte
  conns = record {
    stops = λ m. conn_stops m.conn;
    step = conn_byte keep timing i;
    took = λ m b. takes (version_at m.conn (b ∷ [])) (brought m b);
    lacks = λ m. list_any is_wanting m.moments;
    Alike = ConnsAlike;
    same = λ wanting m n a. ap conn_stops a.0;
    none = λ wanting m n a. a.3;
    goes = λ wanting m n b a.
        subst₂ (λ x y. ConnsBehind (takes (version_at m.conn (b ∷ [])) (brought m b)) wanting (conn_byte keep timing i x b) (conn_byte keep timing i y b)) (λ k. conn_of m.conn m.moments (sym a.1 k)) (λ k. conn_of (sym a.0 k) n.moments (sym a.2 k))
        (conn_judged_alike m.conn m.moments n.moments (version_at m.conn (b ∷ [])) (m.conn.held ++ b ∷ []) a.3 wanting (brought m b));
    log = λ m. flat_map conn_reading m.moments;
    later = λ m us. us;
    nothing = λ m. refl;
    logs = λ m b a.
        subst (λ x. ConnLogs m.moments (takes (version_at m.conn (b ∷ [])) (brought m b)) (conn_byte keep timing i x b)) (λ k. conn_of m.conn m.moments (sym a.1 k)) (conn_logs m.conn m.moments (version_at m.conn (b ∷ [])) (m.conn.held ++ b ∷ []) (brought m b));
  }

  conn_beside : (wanting : Option ℕ) (piece : List ℕ) (o : Conn) → Takes conns None piece wanting (conn_of o [] None) (conn_of o [] wanting)
  unfolding conns
  conn_beside wanting piece o = beside conns piece wanting (conn_of o [] None) (conn_of o [] wanting) (refl, refl, refl, refl) (refl, refl, refl, refl)

  pub conn_leaves : (wanting : Option ℕ) (piece : List ℕ) (o : Conn) → length (conn_takes keep timing i None piece o).rest ≤ length (conn_takes keep timing i wanting piece o).rest
  unfolding conn_takes conns
  conn_leaves wanting piece o = (conn_beside wanting piece o).leaves

  pub conn_wants : (piece : List ℕ) (o : Conn) (unit : ℕ) →
      list_any is_wanting (conn_takes keep timing i (Some unit) piece o).machine.moments ≡ has (slice_get (flat_map conn_reading (conn_takes keep timing i None piece o).machine.moments) unit)
  unfolding conn_takes conns
  conn_wants piece o unit = let k = conn_beside (Some unit) piece o in k.lacks ∙ ap (λ x. has (slice_get x unit)) (sym k.log)
