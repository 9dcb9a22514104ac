-- Queries that came, and routers that await a notify.
use Rattle.std.specs.Prelude.{◌≡◌, ℕ, zero, suc, ◌+◌, ◌-◌, ◌<◌, ◌==◌, Bool, true, false, not, ◌&&◌, ◌||◌, nat_lt, List, [], ◌∷◌, ◌++◌, length, take, slice_index, slice_set, Option, Some, None, option_map, if◌then◌else◌, refl}
use Rattle.std.proofs.Common.{sym, ap, ◌∙◌, arith}
use Rattle.std.proofs.lemmas.Bool.Decides.{nat_tests}
use Rattle.prefixes.specs.declared.prefix.IpPrefix.{IpPrefix}
use Rattle.prefixes.specs.declared.prefix.IpPrefix.TheVariants.{V4, V6}
use Rattle.vrps.specs.Store.{is_current}
use Rattle.rtr_pdu.specs.Kind.{type_number}
use Rattle.rtr_pdu.specs.Stream.{type_of}
use Rattle.rtr_pdu.specs.declared.kind.Kind.TheVariants as kinds
use Rattle.rtr_pdu.specs.declared.unit.Unit.{Unit}
use Rattle.rtr_pdu.specs.declared.unit.Unit.TheVariants.{SerialNotify, SerialQuery, ResetQuery, CacheResponse, Prefix, EndOfData, EndOfData0, CacheReset, RouterKey, ErrorReport}
use Rattle.rtr_ends.specs.Cache.{Gives, Notifies, Publishes, Takes, conn_takes, serving}
use Rattle.rtr_ends.specs.CacheState.{CacheCall, CacheState, Close, Life, Notify, Open, Publish, Pull, Receive, can_notify_at, life, ran, serves}
use Rattle.rtr_server.specs.Clients.{awaits, router_asked}
use Rattle.rtr_server.specs.Counting.{Counted, CountsQueries, and_byte, and_pdu, and_whole, asks, capped, count_of, counted, counted_on, grown, has_query, is_whole, kind_of_prefix, none_counted, units_of}
use Rattle.rtr_server.specs.declared.tally.PdusByKind.{PdusByKind}
use Rattle.rtr_server.proofs.CountingLaws.{counted_both}
use Rattle.rtr_server.proofs.UnitCounts.{counts_units}

positive : (n : ℕ) → 0 < n → nat_lt 0 n ≡ true
positive n h = grind (arith, nat_tests)

is_positive : (n : ℕ) → nat_lt 0 n ≡ true → 0 < n
is_positive n is = grind (arith, nat_tests)

or_right : (b : Bool) → (b || true) ≡ true
or_right true = refl
or_right false = refl

-- of two numbers one is positive, and stays so
one_stays : (a b c d : ℕ) → (0 < a → 0 < c) → (0 < b → 0 < d) → (nat_lt 0 a || nat_lt 0 b) ≡ true → (nat_lt 0 c || nat_lt 0 d) ≡ true
one_stays a b c d f g h = by_test (nat_lt 0 a) refl h
  where
    by_test : (t : Bool) → nat_lt 0 a ≡ t → (t || nat_lt 0 b) ≡ true → (nat_lt 0 c || nat_lt 0 d) ≡ true
    by_test true is h = ap (λ t. t || nat_lt 0 d) (positive c (f (is_positive a is)))
    by_test false is h = ap (λ t. nat_lt 0 c || t) (positive d (g (is_positive b h))) ∙ or_right (nat_lt 0 c)

-- a count that is positive stays so if another, or it, is set to a positive one
set_stays : (xs : List ℕ) (j k v : ℕ) → 0 < v → 0 < slice_index xs k → 0 < slice_index (slice_set xs j v) k
set_stays [] j k v more h = h
set_stays (x ∷ xs) zero zero v more h = more
set_stays (x ∷ xs) zero (suc k) v more h = h
set_stays (x ∷ xs) (suc j) zero v more h = h
set_stays (x ∷ xs) (suc j) (suc k) v more h = set_stays xs j k v more h

-- A query stays counted if a PDU more is,
query_and_pdu : (type : ℕ) (pdus : PdusByKind) → has_query pdus ≡ true → has_query (and_pdu type pdus) ≡ true
query_and_pdu type pdus h =
    let more : 0 < capped (slice_index pdus.counts type + 1) = omega arith in
    one_stays (count_of pdus kinds.SerialQuery) (count_of pdus kinds.ResetQuery) (count_of (and_pdu type pdus) kinds.SerialQuery) (count_of (and_pdu type pdus) kinds.ResetQuery)
    (set_stays pdus.counts type (type_number kinds.SerialQuery) (capped (slice_index pdus.counts type + 1)) more) (set_stays pdus.counts type (type_number kinds.ResetQuery) (capped (slice_index pdus.counts type + 1)) more) h

query_and_byte : (c : Counted) (b : ℕ) → has_query c.pdus ≡ true → has_query (and_byte c b).pdus ≡ true
query_and_byte c b h = by_test (is_whole now)
  where
    now : Counted
    now = grown c b

    by_test : (t : Bool) → has_query (if t then and_whole now.front now.tail now.came c else now).pdus ≡ true
    by_test true = query_and_pdu (type_of now.front) c.pdus h
    by_test false = h

-- and if bytes more are.
query_stays : (bytes : List ℕ) (c : Counted) → has_query c.pdus ≡ true → has_query (counted_on c bytes).pdus ≡ true
query_stays [] c h = h
query_stays (b ∷ bytes) c h = query_stays bytes (and_byte c b) (query_and_byte c b h)

query_in_more : (bytes more : List ℕ) → has_query (counted bytes).pdus ≡ true → has_query (counted (bytes ++ more)).pdus ≡ true
query_in_more bytes more h = ap (λ (c : Counted). has_query c.pdus) (counted_both none_counted bytes more) ∙ query_stays more (counted bytes) h

-- A router that awaits a notify has asked.
pub awaits_asked : (calls : List CacheCall) (m : CacheState) (c : ℕ) → awaits calls m c ≡ true → router_asked (life calls m c) ≡ true
awaits_asked [] m c h = absurd (let never : false ≡ true = h in cc)
awaits_asked (Publish set ∷ calls) m c h = published (life calls m c) (by_test (λ waits. awaits_asked calls m c waits) (is_current (ran calls m).cache.sets set) h)
  where
    published : (l : Option Life) → router_asked l ≡ true → router_asked (option_map (serves (ran calls m).keep (ran calls m).timing (Publishes set)) l) ≡ true
    published None h = h
    published (Some l) h = h

    by_test : (awaits calls m c ≡ true → router_asked (life calls m c) ≡ true) → (b : Bool) → (if b then awaits calls m c else router_asked (life calls m c)) ≡ true → router_asked (life calls m c) ≡ true
    by_test again true h = again h
    by_test again false h = h
awaits_asked (Open d ∷ calls) m c h = by_test (λ waits. awaits_asked calls m c waits) (c == d) h
  where
    by_test : (awaits calls m c ≡ true → router_asked (life calls m c) ≡ true) → (b : Bool) → (if b then false else awaits calls m c) ≡ true
        → router_asked (if b then Some (record { opened = (ran calls m).cache; serving = serving (ran calls m).keep (ran calls m).timing (ran calls m).cache [] }) else life calls m c) ≡ true
    by_test again true h = absurd (let never : false ≡ true = h in cc)
    by_test again false h = again h
awaits_asked (Close d ∷ calls) m c h = by_test (λ waits. awaits_asked calls m c waits) (c == d) h
  where
    by_test : (awaits calls m c ≡ true → router_asked (life calls m c) ≡ true) → (b : Bool) → (if b then false else awaits calls m c) ≡ true → router_asked (if b then None else life calls m c) ≡ true
    by_test again true h = absurd (let never : false ≡ true = h in cc)
    by_test again false h = again h
awaits_asked (Receive d wanting piece ∷ calls) m c h = by_test (c == d) (life calls m c) (awaits_asked calls m c h)
  where
    by_test : (b : Bool) (l : Option Life) → router_asked l ≡ true → router_asked (if b then option_map (serves (ran calls m).keep (ran calls m).timing (Takes wanting piece)) l else l) ≡ true
    by_test true None h = h
    by_test true (Some l) h = query_in_more l.serving.came (take (length piece - length (conn_takes (ran calls m).keep (ran calls m).timing l.serving.cache wanting piece l.serving.conn).rest) piece) h
    by_test false l h = h
awaits_asked (Pull d most ∷ calls) m c h = by_test (c == d) (life calls m c) (awaits_asked calls m c h)
  where
    by_test : (b : Bool) (l : Option Life) → router_asked l ≡ true → router_asked (if b then option_map (serves (ran calls m).keep (ran calls m).timing (Gives most)) l else l) ≡ true
    by_test true None h = h
    by_test true (Some l) h = h
    by_test false l h = h
awaits_asked (Notify d ∷ calls) m c h = by_test (c == d) (life calls m c) (awaits_asked calls m c (waits (c == d) h))
  where
    left : (a b : Bool) → (a && b) ≡ true → a ≡ true
    left true b h = refl
    left false b h = h

    waits : (b : Bool) → (if b then awaits calls m c && not (can_notify_at (ran calls m).cache ((ran calls m).at d)) else awaits calls m c) ≡ true → awaits calls m c ≡ true
    waits true h = left (awaits calls m c) (not (can_notify_at (ran calls m).cache ((ran calls m).at d))) h
    waits false h = h

    by_test : (b : Bool) (l : Option Life) → router_asked l ≡ true → router_asked (if b then option_map (serves (ran calls m).keep (ran calls m).timing Notifies) l else l) ≡ true
    by_test true None h = h
    by_test true (Some l) h = h
    by_test false l h = h

-- counts that are shown
shown : (n : ℕ) → nat_lt 0 (capped n) ≡ nat_lt 0 n
shown zero = refl
shown (suc n) = positive (capped (suc n)) (omega arith) ∙ sym (positive (suc n) (omega arith))

-- a record is no query
no_serial_query : (p : IpPrefix) → (type_number (kind_of_prefix p) == type_number kinds.SerialQuery) ≡ false
no_serial_query (V4 p) = refl
no_serial_query (V6 p) = refl

no_reset_query : (p : IpPrefix) → (type_number (kind_of_prefix p) == type_number kinds.ResetQuery) ≡ false
no_reset_query (V4 p) = refl
no_reset_query (V6 p) = refl

asks_is : (units : List Unit) → (nat_lt 0 (units_of kinds.SerialQuery units) || nat_lt 0 (units_of kinds.ResetQuery units)) ≡ asks units
asks_is [] = refl
asks_is (SerialNotify session serial ∷ units) = asks_is units
asks_is (SerialQuery session serial ∷ units) = ap (λ t. t || nat_lt 0 (units_of kinds.ResetQuery units)) (positive (suc (units_of kinds.SerialQuery units)) (omega arith))
asks_is (ResetQuery ∷ units) = ap (λ t. nat_lt 0 (units_of kinds.SerialQuery units) || t) (positive (suc (units_of kinds.ResetQuery units)) (omega arith)) ∙ or_right (nat_lt 0 (units_of kinds.SerialQuery units))
asks_is (CacheResponse session ∷ units) = asks_is units
asks_is (Prefix announce v ∷ units) =
    let counts : Bool → ℕ → ℕ = λ b n. if b then suc n else n in
    (λ i. nat_lt 0 (counts (no_serial_query v.prefix i) (units_of kinds.SerialQuery units)) || nat_lt 0 (counts (no_reset_query v.prefix i) (units_of kinds.ResetQuery units))) ∙ asks_is units
asks_is (EndOfData session serial refresh retry expire ∷ units) = asks_is units
asks_is (EndOfData0 session serial ∷ units) = asks_is units
asks_is (CacheReset ∷ units) = asks_is units
asks_is (RouterKey k ∷ units) = asks_is units
asks_is (ErrorReport r ∷ units) = asks_is units

pub counts_queries : CountsQueries
counts_queries version units front rest read partial =
    let counts = counts_units version units front rest read partial in
    let queries = units_of kinds.SerialQuery units in
    let resets = units_of kinds.ResetQuery units in
    let counted_so : has_query (counted (front ++ rest)).pdus ≡ (nat_lt 0 (capped queries) || nat_lt 0 (capped resets)) = λ i. nat_lt 0 (counts.0 kinds.SerialQuery i) || nat_lt 0 (counts.0 kinds.ResetQuery i) in
    let shown_so : (nat_lt 0 (capped queries) || nat_lt 0 (capped resets)) ≡ (nat_lt 0 queries || nat_lt 0 resets) = λ i. shown queries i || shown resets i in
    counted_so ∙ shown_so ∙ asks_is units
