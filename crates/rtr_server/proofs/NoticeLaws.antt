-- Clients that are notified, one after the other.
use Rattle.std.specs.Prelude.{◌≡◌, ◌⊎◌, ℕ, zero, suc, ◌<◌, ◌≤◌, ◌==◌, Bool, true, false, not, ◌&&◌, List, [], ◌∷◌, ◌++◌, Box, Option, Some, None, Ok, length, slice_get, option_map, if◌then◌else◌, refl}
use Rattle.std.proofs.Common.{sym, ap, ◌∙◌, subst, arith, inl, inr}
use Rattle.std.proofs.lemmas.Bool.{cases_eq, cases_lt}
use Rattle.std.specs.List.{AllByRecursion}
use Rattle.std.specs.Io.KnownBytes.{Consumes}
use Rattle.vrps.specs.Instance.{Instance}
use Rattle.vrps.specs.Store.{is_current, published}
use Rattle.vrps.specs.Stores as stores
use Rattle.vrps.specs.VrpSet.{VrpSet}
use Rattle.vrps.specs.declared.serial.Serial.{Serial}
use Rattle.vrps.specs.declared.store.Published.{Published as Outcome}
use Rattle.vrps.specs.declared.store.Published.TheVariants.{New}
use Rattle.rtr_ends.specs.Cache.{Notifies, Publishes, conn_notified}
use Rattle.rtr_ends.specs.CacheState.{CacheCall, CacheState, IsCacheCall, Life, Notify, Publish, ShowsCache, can_notify_at, life, notified, ran, serves}
use Rattle.rtr_ends.specs.declared.cache.Cache.{Cache}
use Rattle.prefixes.proofs.Basics.{eq_of, eq_true}
use Rattle.rtr_server.specs.Clients.{IsNotice, KeepsOthers, NoneBeforeQuery, NotifiesAt, NotifiesBelow, OwesSo, Past, PublishesSo, ShowsClient, asking, awaits, can_be_sent, can_be_told_of, has_asked, made, notified_below, notified_one, present, router_asked, slot_at}
use Rattle.rtr_server.specs.Counting.{Counted, capped, counted, has_query}
use Rattle.rtr_server.specs.declared.turn.Slot.{Slot}

module _ {S T A : Type 0} (holds : ℕ → Instance → S → Type 0) (start : List (Option (Box (Slot T) A))) (first : Cache S) where
  pub notified_none : NotifiesBelow holds start first 0 start first
  notified_none = record { shows = λ m h. h; owed = λ m h c low. absurd (omega (arith, low)); left = λ c high. refl }

  -- one client more
  next : (n : ℕ) (slots now : List (Option (Box (Slot T) A))) (cache after : Cache S) → NotifiesBelow holds start first n slots cache → KeepsOthers n slots now
      → ((m : CacheState) → ShowsCache holds m cache → NotifiesAt holds (slot_at slots n) m (slot_at now n) after) → NotifiesBelow holds start first (suc n) now after
  next n slots now cache after h others told = record {
    shows = λ m is. (here m is).1;
    owed = λ m is c low. by_place m is c low (cases_eq c n);
    left = λ c high. others c (λ e. high (omega (arith, e))) ∙ h.left c (λ low. high (omega (arith, low)));
  }
    where
      here : (m : CacheState) → ShowsCache holds m first → NotifiesAt holds (slot_at start n) (notified_below start n m) (slot_at now n) after
      here m is = subst (λ x. NotifiesAt holds x (notified_below start n m) (slot_at now n) after) (h.left n (λ low. omega (arith, low))) (told (notified_below start n m) (h.shows m is))

      by_place : (m : CacheState) → ShowsCache holds m first → (c : ℕ) → c < suc n → (c ≡ n) ⊎ (c ≡ n → ⊥) → OwesSo (slot_at start c) (can_be_sent (slot_at start c) (notified_below start c m)) (slot_at now c)
      by_place m is c low (inl same) = subst (λ k. OwesSo (slot_at start k) (can_be_sent (slot_at start k) (notified_below start k m)) (slot_at now k)) (sym same) (here m is).0
      by_place m is c low (inr other) = subst (OwesSo (slot_at start c) (can_be_sent (slot_at start c) (notified_below start c m))) (sym (others c other)) (h.owed m is c (omega (arith, low, other)))

  pub notified_more : (n k : ℕ) → k ≡ suc n → (slots now : List (Option (Box (Slot T) A))) (cache after : Cache S) → NotifiesBelow holds start first n slots cache → KeepsOthers n slots now
      → ((m : CacheState) → ShowsCache holds m cache → NotifiesAt holds (slot_at slots n) m (slot_at now n) after) → NotifiesBelow holds start first k now after
  notified_more n k e slots now cache after h others told = subst (λ j. NotifiesBelow holds start first j now after) (sym e) (next n slots now cache after h others told)

none_some : {X : Type 0} (x : X) → None ≡ Some x → ⊥
none_some x e = cc

-- a client has a place
below_end : {X B : Type 0} (xs : List (Option (Box (Slot X) B))) (c : ℕ) (x : Slot X) → slot_at xs c ≡ Some x → c < length xs
below_end [] zero x e = absurd (none_some x e)
below_end [] (suc c) x e = absurd (none_some x e)
below_end (y ∷ xs) zero x e = omega arith
below_end (y ∷ xs) (suc c) x e = let k = below_end xs c x e in omega (arith, k)

-- past the last place no client is
past_end : {T A : Type 0} (slots : List (Option (Box (Slot T) A))) (c : ℕ) → length slots ≤ c → slot_at slots c ≡ None
past_end [] zero low = refl
past_end [] (suc c) low = refl
past_end (x ∷ slots) zero low = absurd (omega (arith, low))
past_end (x ∷ slots) (suc c) low = past_end slots c (omega (arith, low))

-- A new version, and then the notices of it
pub publishes_so : {S T A : Type 0} (holds : ℕ → Instance → S → Type 0) (m : CacheState) (set : VrpSet) (old new : List (Option (Box (Slot T) A))) (result : Outcome) (serial : Serial) → result ≡ New serial → (mid after : Cache S)
    → stores.Publishes (λ i cache. ShowsCache holds (record m { cache = i }) cache) (Ok result) set m.cache mid → NotifiesBelow holds old mid (length old) new after → PublishesSo holds m set old (Ok result) new after
publishes_so {T = T} holds m set old new result serial is mid after h n =
    subst (λ r. PublishesSo holds m set old (Ok r) new after) (sym is) (told (subst (λ r. stores.Publishes (λ i cache. ShowsCache holds (record m { cache = i }) cache) (Ok r) set m.cache mid) is h))
  where
    now : CacheState
    now = record m { cache = published set m.cache }

    told : stores.Publishes (λ i cache. ShowsCache holds (record m { cache = i }) cache) (Ok (New serial)) set m.cache mid → PublishesSo holds m set old (Ok (New serial)) new after
    told h = (h.1, h.2, n.shows now h.0, λ c. by_place c (cases_lt c (length old)))
      where
        by_none : (x y : Option (Slot T)) (b : Bool) → x ≡ None → y ≡ x → OwesSo x b y
        by_none None None b e same = tt
        by_none None (Some y) b e same = absurd (none_some y (sym same))
        by_none (Some x) y b e same = absurd (none_some x (sym e))

        by_place : (c : ℕ) → (c < length old) ⊎ (length old ≤ c) → OwesSo (slot_at old c) (can_be_sent (slot_at old c) (notified_below old c now)) (slot_at new c)
        by_place c (inl low) = n.owed now h.0 c low
        by_place c (inr high) = by_none (slot_at old c) (slot_at new c) _ (past_end old c high) (n.left c (λ low. omega (arith, low, high)))

-- the router of a client is notified, as a call
abbrev and_notice : {T : Type 0} → Option (Slot T) → List CacheCall → List CacheCall
and_notice None calls = calls
and_notice (Some slot) calls = Notify slot.conn.0 ∷ calls

abbrev notices_below : {T A : Type 0} → List (Option (Box (Slot T) A)) → ℕ → List CacheCall
notices_below slots zero = []
notices_below slots (suc n) = and_notice (asking (slot_at slots n)) (notices_below slots n)

-- A client that asks is the one that is there, and has asked.
asking_is : {T : Type 0} (y : Option (Slot T)) (x : Slot T) → asking y ≡ Some x → y ≡ Some x
asking_is y x e = by_test (has_asked y) e
  where
    by_test : (b : Bool) → (if b then y else None) ≡ Some x → y ≡ Some x
    by_test true e = e
    by_test false e = absurd (none_some x e)

asks : {T : Type 0} (y : Option (Slot T)) (x : Slot T) → asking y ≡ Some x → has_asked y ≡ true
asks y x e = by_test (has_asked y) refl e
  where
    by_test : (b : Bool) → has_asked y ≡ b → (if b then y else None) ≡ Some x → has_asked y ≡ true
    by_test true is e = is
    by_test false is e = absurd (none_some x e)

module _ {T A : Type 0} (remaining contents : T → Option (List ℕ)) (p : Past) (set : VrpSet) (slots : List (Option (Box (Slot T) A))) (differs : is_current (present p).cache.sets set ≡ false)
    (each : (c : ℕ) → ShowsClient remaining contents (p.begun c) c (life p.calls (made p) c) (awaits p.calls (made p) c) (slot_at slots c)) where
  abbrev first : List CacheCall
  first = Publish set ∷ p.calls

  abbrev calls_at : ℕ → List CacheCall
  calls_at n = notices_below slots n ++ first

  abbrev now : CacheState
  now = ran first (made p)

  -- the notices are the calls
  one_ran : (x : Option (Slot T)) (notices : List CacheCall) (m : CacheState) → ran (notices ++ first) (made p) ≡ m → ran (and_notice x notices ++ first) (made p) ≡ notified_one x m
  one_ran None notices m e = e
  one_ran (Some slot) notices m e = ap (notified slot.conn.0) e

  pub ran_notices : (n : ℕ) → ran (calls_at n) (made p) ≡ notified_below slots n now
  ran_notices zero = refl
  ran_notices (suc n) = one_ran (asking (slot_at slots n)) (notices_below slots n) (notified_below slots n now) (ran_notices n)

  all_notices : (n : ℕ) → AllByRecursion IsNotice (notices_below slots n)
  all_notices zero = tt
  all_notices (suc n) = one (asking (slot_at slots n)) (notices_below slots n) (all_notices n)
    where
      one : (x : Option (Slot T)) (notices : List CacheCall) → AllByRecursion IsNotice notices → AllByRecursion IsNotice (and_notice x notices)
      one None notices h = h
      one (Some slot) notices h = (tt, h)

  all_lawful : (n : ℕ) → AllByRecursion IsCacheCall first → AllByRecursion IsCacheCall (calls_at n)
  all_lawful zero h = h
  all_lawful (suc n) h = one (asking (slot_at slots n)) (notices_below slots n) (all_lawful n h)
    where
      one : (x : Option (Slot T)) (notices : List CacheCall) → AllByRecursion IsCacheCall (notices ++ first) → AllByRecursion IsCacheCall (and_notice x notices ++ first)
      one None notices k = k
      one (Some slot) notices k = (tt, k)

  same_cache : (n : ℕ) → (ran (calls_at n) (made p)).cache ≡ published set (present p).cache
  same_cache zero = refl
  same_cache (suc n) = one (asking (slot_at slots n)) (notices_below slots n) (same_cache n)
    where
      one : (x : Option (Slot T)) (notices : List CacheCall) → (ran (notices ++ first) (made p)).cache ≡ published set (present p).cache → (ran (and_notice x notices ++ first) (made p)).cache ≡ published set (present p).cache
      one None notices k = k
      one (Some slot) notices k = k

  -- a client's number is that of its connection
  number_is : (n : ℕ) (x : Slot T) → slot_at slots n ≡ Some x → x.conn.0 ≡ n
  number_is n x e = by_life (life p.calls (made p) n) (awaits p.calls (made p) n) (subst (λ y. ShowsClient remaining contents (p.begun n) n (life p.calls (made p) n) (awaits p.calls (made p) n) y) e (each n))
    where
      by_life : (l : Option Life) (waits : Bool) → ShowsClient remaining contents (p.begun n) n l waits (Some x) → x.conn.0 ≡ n
      by_life None waits h = absurd h
      by_life (Some l) waits h = h.0

  -- A client has asked exactly if its router has.
  asked_same : (n : ℕ) (x : Slot T) → slot_at slots n ≡ Some x → has_asked (Some x) ≡ router_asked (life p.calls (made p) n)
  asked_same n x e = by_life (life p.calls (made p) n) (awaits p.calls (made p) n) (subst (λ y. ShowsClient remaining contents (p.begun n) n (life p.calls (made p) n) (awaits p.calls (made p) n) y) e (each n))
    where
      by_life : (l : Option Life) (waits : Bool) → ShowsClient remaining contents (p.begun n) n l waits (Some x) → has_asked (Some x) ≡ router_asked l
      by_life None waits h = absurd h
      by_life (Some l) waits h = ap (λ (k : Counted). has_query k.pdus) h.1.all_received

  module _ (c : ℕ) where
    abbrev asked : Bool
    asked = router_asked (life p.calls (made p) c)

    -- before its own notice
    record Before (calls : List CacheCall) : Type 0 where
      pub at : (ran calls (made p)).at c ≡ (present p).at c
      pub waits : awaits calls (made p) c ≡ asked

    before_notice : (n : ℕ) → n ≤ c → Before (calls_at n)
    before_notice zero low = record { at = refl; waits = ap (λ b. if b then awaits p.calls (made p) c else asked) differs }
    before_notice (suc n) low = by_slot (before_notice n (omega (arith, low))) (asking (slot_at slots n)) refl
      where
        by_slot : Before (calls_at n) → (x : Option (Slot T)) → asking (slot_at slots n) ≡ x → Before (and_notice x (notices_below slots n) ++ first)
        by_slot k None e = k
        by_slot k (Some x) e = by_test (c == x.conn.0) refl
          where
            by_test : (b : Bool) → (c == x.conn.0) ≡ b → Before (Notify x.conn.0 ∷ calls_at n)
            by_test true is = absurd (omega (arith, low, eq_of c x.conn.0 is, number_is n x (asking_is (slot_at slots n) x e)))
            by_test false is = record {
              at = ap (λ b. if b then option_map (conn_notified (ran (calls_at n) (made p)).keep (ran (calls_at n) (made p)).timing (ran (calls_at n) (made p)).cache) ((ran (calls_at n) (made p)).at x.conn.0) else (ran (calls_at n) (made p)).at c) is ∙ k.at;
              waits = ap (λ b. if b then awaits (calls_at n) (made p) c && not (can_notify_at (ran (calls_at n) (made p)).cache ((ran (calls_at n) (made p)).at x.conn.0)) else awaits (calls_at n) (made p) c) is ∙ k.waits;
            }

    -- after it
    after_notice : (n : ℕ) → c < n → (x : Slot T) → slot_at slots c ≡ Some x → awaits (calls_at n) (made p) c ≡ (asked && not (can_be_told_of set p c))
    after_notice zero low x e = absurd (omega (arith, low))
    after_notice (suc n) low x e = by_place (λ (less : c < n). after_notice n less x e) (cases_eq c n)
      where
        here : c ≡ n → awaits (calls_at (suc n)) (made p) c ≡ (asked && not (can_be_told_of set p c))
        here same = by_asked (has_asked (Some x)) refl
          where
            same_asking : asking (slot_at slots n) ≡ asking (Some x)
            same_asking = ap (λ k. asking (slot_at slots k)) (sym same) ∙ ap (λ y. asking y) e

            by_asked : (b : Bool) → has_asked (Some x) ≡ b → awaits (calls_at (suc n)) (made p) c ≡ (asked && not (can_be_told_of set p c))
            by_asked true is =
                let b = before_notice n (omega (arith, same)) in
                ap (λ y. awaits (and_notice y (notices_below slots n) ++ first) (made p) c) (same_asking ∙ ap (λ t. if t then Some x else None) is)
                ∙ ap (λ t. if t then awaits (calls_at n) (made p) c && not (can_notify_at (ran (calls_at n) (made p)).cache ((ran (calls_at n) (made p)).at x.conn.0)) else awaits (calls_at n) (made p) c) (eq_true c x.conn.0 (sym (number_is c x e)))
                ∙ ap (λ t. t && not (can_notify_at (ran (calls_at n) (made p)).cache ((ran (calls_at n) (made p)).at x.conn.0))) b.waits
                ∙ ap (λ i. asked && not (can_notify_at i ((ran (calls_at n) (made p)).at x.conn.0))) (same_cache n)
                ∙ ap (λ d. asked && not (can_notify_at (published set (present p).cache) ((ran (calls_at n) (made p)).at d))) (number_is c x e)
                ∙ ap (λ a. asked && not (can_notify_at (published set (present p).cache) a)) b.at
            by_asked false is =
                let b = before_notice n (omega (arith, same)) in
                let none : asked ≡ false = sym (asked_same c x e) ∙ is in
                ap (λ y. awaits (and_notice y (notices_below slots n) ++ first) (made p) c) (same_asking ∙ ap (λ t. if t then Some x else None) is) ∙ b.waits ∙ none ∙ ap (λ t. t && not (can_be_told_of set p c)) (sym none)

        there : (awaits (calls_at n) (made p) c ≡ (asked && not (can_be_told_of set p c))) → (c ≡ n → ⊥) → awaits (calls_at (suc n)) (made p) c ≡ (asked && not (can_be_told_of set p c))
        there k other = by_slot (asking (slot_at slots n)) refl
          where
            by_slot : (y : Option (Slot T)) → asking (slot_at slots n) ≡ y → awaits (and_notice y (notices_below slots n) ++ first) (made p) c ≡ (asked && not (can_be_told_of set p c))
            by_slot None is = k
            by_slot (Some y) is = by_test (c == y.conn.0) refl
              where
                by_test : (b : Bool) → (c == y.conn.0) ≡ b → awaits (Notify y.conn.0 ∷ calls_at n) (made p) c ≡ (asked && not (can_be_told_of set p c))
                by_test true same = absurd (other (eq_of c y.conn.0 same ∙ number_is n y (asking_is (slot_at slots n) y is)))
                by_test false same = ap (λ b. if b then awaits (calls_at n) (made p) c && not (can_notify_at (ran (calls_at n) (made p)).cache ((ran (calls_at n) (made p)).at y.conn.0)) else awaits (calls_at n) (made p) c) same ∙ k

        by_place : (c < n → awaits (calls_at n) (made p) c ≡ (asked && not (can_be_told_of set p c))) → (c ≡ n) ⊎ (c ≡ n → ⊥) → awaits (calls_at (suc n)) (made p) c ≡ (asked && not (can_be_told_of set p c))
        by_place before (inl same) = here same
        by_place before (inr other) = there (before (omega (arith, low, other))) other

    -- its history but for that
    record SameLife (l : Life) (calls : List CacheCall) : Type 0 where
      pub later : Life
      pub is : life calls (made p) c ≡ Some later
      pub came : later.serving.came ≡ l.serving.came
      pub given : later.serving.given ≡ l.serving.given

    same_life : (n : ℕ) (l : Life) → life p.calls (made p) c ≡ Some l → SameLife l (calls_at n)
    same_life zero l e = record { later = serves (present p).keep (present p).timing (Publishes set) l; is = ap (option_map (serves (present p).keep (present p).timing (Publishes set))) e; came = refl; given = refl }
    same_life (suc n) l e = by_slot (same_life n l e) (asking (slot_at slots n))
      where
        by_slot : SameLife l (calls_at n) → (y : Option (Slot T)) → SameLife l (and_notice y (notices_below slots n) ++ first)
        by_slot k None = k
        by_slot k (Some y) = by_test (c == y.conn.0) refl
          where
            m : CacheState
            m = ran (calls_at n) (made p)

            by_test : (b : Bool) → (c == y.conn.0) ≡ b → SameLife l (Notify y.conn.0 ∷ calls_at n)
            by_test true is = record {
              later = serves m.keep m.timing Notifies k.later;
              is = ap (λ b. if b then option_map (serves m.keep m.timing Notifies) (life (calls_at n) (made p) c) else life (calls_at n) (made p) c) is ∙ ap (option_map (serves m.keep m.timing Notifies)) k.is;
              came = k.came;
              given = k.given;
            }
            by_test false is = record {
              later = k.later;
              is = ap (λ b. if b then option_map (serves m.keep m.timing Notifies) (life (calls_at n) (made p) c) else life (calls_at n) (made p) c) is ∙ k.is;
              came = k.came;
              given = k.given;
            }

    no_life : (n : ℕ) → life p.calls (made p) c ≡ None → life (calls_at n) (made p) c ≡ None
    no_life zero e = ap (option_map (serves (present p).keep (present p).timing (Publishes set))) e
    no_life (suc n) e = by_slot (no_life n e) (asking (slot_at slots n))
      where
        by_slot : (life (calls_at n) (made p) c ≡ None) → (y : Option (Slot T)) → life (and_notice y (notices_below slots n) ++ first) (made p) c ≡ None
        by_slot k None = k
        by_slot k (Some y) = by_test (c == y.conn.0) refl
          where
            m : CacheState
            m = ran (calls_at n) (made p)

            by_test : (b : Bool) → (c == y.conn.0) ≡ b → life (Notify y.conn.0 ∷ calls_at n) (made p) c ≡ None
            by_test true is = ap (λ b. if b then option_map (serves m.keep m.timing Notifies) (life (calls_at n) (made p) c) else life (calls_at n) (made p) c) is ∙ ap (option_map (serves m.keep m.timing Notifies)) k
            by_test false is = ap (λ b. if b then option_map (serves m.keep m.timing Notifies) (life (calls_at n) (made p) c) else life (calls_at n) (made p) c) is ∙ k

    -- A notice changes nothing of what was asked.
    asked_kept : (n : ℕ) → router_asked (life (calls_at n) (made p) c) ≡ asked
    asked_kept n = by_life (life p.calls (made p) c) refl
      where
        by_life : (l : Option Life) → life p.calls (made p) c ≡ l → router_asked (life (calls_at n) (made p) c) ≡ asked
        by_life None is = ap (λ l. router_asked l) (no_life n is ∙ sym is)
        by_life (Some l) is = let k = same_life n l is in ap (λ l. router_asked l) k.is ∙ ap (λ came. has_query (counted came).pdus) k.came ∙ ap (λ l. router_asked l) (sym is)

  -- Only who asked is notified.
  all_asked : (n : ℕ) → NoneBeforeQuery p.calls (made p) → NoneBeforeQuery (calls_at n) (made p)
  all_asked zero h = h
  all_asked (suc n) h = one (asking (slot_at slots n)) refl (all_asked n h)
    where
      one : (y : Option (Slot T)) → asking (slot_at slots n) ≡ y → NoneBeforeQuery (calls_at n) (made p) → NoneBeforeQuery (and_notice y (notices_below slots n) ++ first) (made p)
      one None e k = k
      one (Some y) e k =
          let there = asking_is (slot_at slots n) y e in (
            ap (λ d. router_asked (life (calls_at n) (made p) d)) (number_is n y there) ∙ asked_kept n n ∙ sym (asked_same n y there) ∙ ap (λ z. has_asked z) (sym there) ∙ asks (slot_at slots n) y e,
            k,
          )

  -- As many notices as there are places
  pub record Told (n : ℕ) (new : List (Option (Box (Slot T) A))) : Type 0 where
    pub notices : List CacheCall
    pub are : AllByRecursion IsNotice notices
    pub lawful : AllByRecursion IsCacheCall first → AllByRecursion IsCacheCall (notices ++ first)
    pub only_asked : NoneBeforeQuery p.calls (made p) → NoneBeforeQuery (notices ++ first) (made p)
    pub ran_is : ran (notices ++ first) (made p) ≡ notified_below slots n now
    pub each_is : (c : ℕ) → ShowsClient remaining contents (p.begun c) c (life (notices ++ first) (made p) c) (awaits (notices ++ first) (made p) c) (slot_at new c)
    pub owes : (c : ℕ) → OwesSo (slot_at slots c) (can_be_told_of set p c) (slot_at new c)

  -- what could be sent then is what could be as soon as it was published
  sent_is : (c : ℕ) (x : Slot T) → slot_at slots c ≡ Some x → can_be_sent (Some x) (notified_below slots c now) ≡ can_be_told_of set p c
  sent_is c x e =
      ap (λ (m : CacheState). can_notify_at m.cache (m.at x.conn.0)) (sym (ran_notices c)) ∙ ap (λ d. can_notify_at (ran (calls_at c) (made p)).cache ((ran (calls_at c) (made p)).at d)) (number_is c x e)
      ∙ ap (λ i. can_notify_at i ((ran (calls_at c) (made p)).at c)) (same_cache c) ∙ ap (λ a. can_notify_at (published set (present p).cache) a) (before_notice c c (omega arith)).at

  pub told_all : (new : List (Option (Box (Slot T) A))) → ((c : ℕ) → OwesSo (slot_at slots c) (can_be_sent (slot_at slots c) (notified_below slots c now)) (slot_at new c)) → Told (length slots) new
  told_all new owed = record {
    notices = notices_below slots (length slots);
    are = all_notices (length slots);
    lawful = all_lawful (length slots);
    only_asked = all_asked (length slots);
    ran_is = ran_notices (length slots);
    each_is = λ c. by_slot c (slot_at slots c) refl (life p.calls (made p) c) refl (each c) (slot_at new c) (owes_so c);
    owes = owes_so;
  }
    where
      owes_so : (c : ℕ) → OwesSo (slot_at slots c) (can_be_told_of set p c) (slot_at new c)
      owes_so c = by_place (slot_at slots c) refl (slot_at new c) (owed c)
        where
          by_place : (x : Option (Slot T)) → slot_at slots c ≡ x → (y : Option (Slot T)) → OwesSo x (can_be_sent x (notified_below slots c now)) y → OwesSo x (can_be_told_of set p c) y
          by_place None e None h = tt
          by_place None e (Some y) h = absurd h
          by_place (Some x) e None h = absurd h
          by_place (Some x) e (Some y) h = subst (λ b. OwesSo (Some x) b (Some y)) (sent_is c x e) h

      by_slot : (c : ℕ) (x : Option (Slot T)) → slot_at slots c ≡ x → (l : Option Life) → life p.calls (made p) c ≡ l → ShowsClient remaining contents (p.begun c) c l (awaits p.calls (made p) c) x → (y : Option (Slot T)) → OwesSo x (can_be_told_of set p c) y
          → ShowsClient remaining contents (p.begun c) c (life (calls_at (length slots)) (made p) c) (awaits (calls_at (length slots)) (made p) c) y
      by_slot c None e None is h None o = subst (λ l. ShowsClient remaining contents (p.begun c) c l (awaits (calls_at (length slots)) (made p) c) None) (sym (no_life c (length slots) is)) tt
      by_slot c None e None is h (Some y) o = absurd o
      by_slot c None e (Some l) is h y o = absurd h
      by_slot c (Some x) e None is h y o = absurd h
      by_slot c (Some x) e (Some l) is h None o = absurd o
      by_slot c (Some x) e (Some l) is h (Some y) o =
          let k = same_life c (length slots) l is in
          let w = after_notice c (length slots) (below_end slots c x e) x e in
          subst (λ m. ShowsClient remaining contents (p.begun c) c m (awaits (calls_at (length slots)) (made p) c) (Some y)) (sym k.is)
          (subst (λ b. ShowsClient remaining contents (p.begun c) c (Some k.later) b (Some y)) (sym w)
          (subst (λ z. ShowsClient remaining contents (p.begun c) c (Some k.later) (asked c && not (can_be_told_of set p c)) (Some z)) (sym o) (
            h.0,
            record {
              read = subst (λ came. Consumes (p.begun c).before (remaining x.stream) (came ++ x.unread)) (sym k.came) h.1.read;
              written = h.1.written;
              given = k.given ∙ h.1.given;
              out = h.1.out;
              all_read = h.1.all_read ∙ ap (λ came. capped (length (came ++ x.unread))) (sym k.came);
              all_written = h.1.all_written;
              all_received = h.1.all_received ∙ ap (λ came. counted came) (sym k.came);
              all_sent = h.1.all_sent;
              all_asked = h.1.all_asked ∙ ap (λ came. slice_get came 0) (sym k.came);
            },
            ap (λ b. b && not (can_be_told_of set p c)) (asked_same c x e),
            record { unread = h.3.unread; unwritten = h.3.unwritten },
          )))
