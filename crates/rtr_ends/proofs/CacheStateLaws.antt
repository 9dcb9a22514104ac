-- One connection of many.
use Rattle.rtr_ends.proofs.Words.{◌≡◌, ℕ, ◌+◌, ◌<◌, ◌≤◌, ◌==◌, Bool, true, false, List, [], ◌∷◌, ◌++◌, length, map, Box, Option, Some, None, IsSome, IfSome, is_some, slice_get, slice_set, get_or, option_map, unwrap_or, Result, Ok, Err, IsErr, if◌then◌else◌, refl, Global, sym, ap, ◌∙◌, subst, arith, inl, inr, zero, suc, rules, cases_eq, cases_lt, slice_get_past, slice_get_read, length-append, length-map, length-set, map-append, set-get_or, AllByRecursion, Instance, NumberedSet, versions, serial_at, is_current, published, newest, VrpSet, AllocError, eq_self, set_same, set_other}
use Rattle.rtr_ends.specs.Cache.{Conn, can_notify, conn_notified}
use Rattle.rtr_ends.specs.CacheState.{Brings, CacheState, can_notify_at, GivesBytes, HandsOut, is_wanted_at, IsLeastFree, joined, notified, OffersAt, Opens, peer_at, ShowsCache, ShowsSlot, TakesPiece, unboxed, with_conn, taken_numbers}
use Rattle.rtr_ends.specs.Numbers.{AreFree, TakesNumber}
use Rattle.rtr_ends.specs.Peer.{Pulls, Receives, ShowsPeer}
use Rattle.rtr_ends.specs.Sender.{numbered_of}
use Rattle.rtr_ends.specs.Timing.{Intervals}
use Rattle.rtr_ends.specs.declared.cache.Cache.{Cache}
use Rattle.rtr_ends.specs.declared.cache.Conn.{Conn as Number}
use Rattle.rtr_ends.specs.declared.numbers.FreeNumbers.{FreeNumbers}
use Rattle.rtr_ends.proofs.NumberLaws.{takes_below, takes_next}
use Rattle.rtr_ends.specs.declared.peer.Peer.{Peer}
use Rattle.rtr_ends.specs.declared.sender.Share.{Share}
use Rattle.rtr_ends.proofs.TableLaws.{inside}

-- the connection under a number that is set
pub with_conn_at : (c : ℕ) (o : Option Conn) (m : CacheState) → (with_conn c o m).at c ≡ o
with_conn_at c o m = ap (λ b. if b then o else m.at c) (eq_self c)

-- A number that is set to what it has is as it was, and one that is set twice is what it was set to last.
pub same_conn : (c : ℕ) (o : Option Conn) (m : CacheState) → m.at c ≡ o → with_conn c o m ≡ m
same_conn c o m is = search rules

pub conn_twice : (c : ℕ) (x y : Option Conn) (m : CacheState) → with_conn c x (with_conn c y m) ≡ with_conn c x m
conn_twice c x y m = search rules

-- what is found
pub record Found (t : Intervals) (i : Instance) (a : Option Conn) (p : Peer) : Type 0 where
  pub conn : Conn
  pub is : a ≡ Some conn
  pub shows : ShowsPeer t i conn p

pub found : (t : Intervals) (i : Instance) (a : Option Conn) (q : Option Peer) (p : Peer) → q ≡ Some p → ShowsSlot t i a q → Found t i a p
found t i (Some o) (Some p) q e h = let same : p ≡ q = inside e in record { conn = o; is = refl; shows = subst (λ x. ShowsPeer t i o x) same h }
found t i None (Some p) q e h = absurd h
found t i (Some o) None q e h = absurd h
found t i None None q e h = absurd (let k : ◌≡◌ {A = Option Peer} None (Some q) = e in cc)

-- What is shown under a number that is set, and under another
slot_by : {A : Type 0} (t : Intervals) (i : Instance) (at : ℕ → Option Conn) (now : List (Option (Box Peer A))) (c d : ℕ) (o : Option Conn) (here there : Option Peer) → (d ≡ c → peer_at now d ≡ here) → (¬ (d ≡ c) → peer_at now d ≡ there)
    → ShowsSlot t i o here → ShowsSlot t i (at d) there → ShowsSlot t i (if d == c then o else at d) (peer_at now d)
slot_by t i at now c d o here there same other set left = search rules

slots_set : {A : Type 0} (t : Intervals) (i : Instance) (at : ℕ → Option Conn) (peers : List (Option (Box Peer A))) (c : ℕ) (o : Option Conn) (x : Option (Box Peer A)) → c < length peers
    → ((d : ℕ) → ShowsSlot t i (at d) (peer_at peers d)) → ShowsSlot t i o (unboxed x) → (d : ℕ) → ShowsSlot t i (if d == c then o else at d) (peer_at (slice_set peers c x) d)
slots_set t i at peers c o x low shows slot d = slot_by t i at (slice_set peers c x) c d o (unboxed x) (peer_at peers d)
    (λ is. ap (λ s. unboxed (joined s)) (ap (slice_get (slice_set peers c x)) is ∙ set_same peers c x low)) (λ other. ap (λ s. unboxed (joined s)) (set_other peers c d x other)) slot (shows d)

-- the content of a cell of the list
pub slot_of : {A : Type 0} (peers : List (Option (Box Peer A))) (c : ℕ) (cell : Option (Box Peer A)) (b : Box Peer A) → c < length peers → cell ≡ get_or peers c cell → cell ≡ Some b → peer_at peers c ≡ Some b.value
slot_of peers c cell b low at is = ap (λ s. unboxed (joined s)) (slice_get_read peers (length peers) c cell refl low at) ∙ ap unboxed is

-- what is so of what there is
by_wanting : {P Q : ℕ → Type 0} (w : Option ℕ) → ((n : ℕ) → P n → Q n) → IfSome w P → IfSome w Q
by_wanting None f h = h
by_wanting (Some n) f h = f n h

-- what is shown by nothing, and by something
none_shown : (t : Intervals) (i : Instance) (a : Option Conn) (q : Option Peer) → q ≡ None → ShowsSlot t i a q → a ≡ None
none_shown t i None q e h = refl
none_shown t i (Some o) None e h = absurd h
none_shown t i (Some o) (Some p) e h = absurd (let k : Some p ≡ None = e in cc)

some_shown : (t : Intervals) (i : Instance) (a : Option Conn) (q : Option Peer) → IsSome q → ShowsSlot t i a q → IsSome a
some_shown t i (Some o) q e h = refl
some_shown t i None (Some p) e h = absurd h
some_shown t i None None e h = e

-- which numbers are in use, if a slot is set
pub taken_set : {A : Type 0} (peers : List (Option (Box Peer A))) (c : ℕ) (x : Option (Box Peer A)) → taken_numbers (slice_set peers c x) ≡ slice_set (taken_numbers peers) c (is_some x)
taken_set [] c x = refl
taken_set (y ∷ peers) zero x = refl
taken_set (y ∷ peers) (suc c) x = ap (λ taken. is_some y ∷ taken) (taken_set peers c x)

-- and if one is set that had a connection
set_taken : {A : Type 0} (peers : List (Option (Box Peer A))) (c : ℕ) (p : Peer) → peer_at peers c ≡ Some p → slice_set (taken_numbers peers) c true ≡ taken_numbers peers
set_taken [] c p at = refl
set_taken (Some y ∷ peers) zero p at = refl
set_taken (None ∷ peers) zero p at = absurd (let k : ◌≡◌ {A = Option Peer} None (Some p) = at in cc)
set_taken (y ∷ peers) (suc c) p at = ap (λ taken. is_some y ∷ taken) (set_taken peers c p at)

-- a number is in use if and only if it has a connection
pub taken_at : {A : Type 0} (peers : List (Option (Box Peer A))) (c : ℕ) → IsSome (peer_at peers c) → slice_get (taken_numbers peers) c ≡ Some true
taken_at [] c h = absurd (let k : false ≡ true = h in cc)
taken_at (Some y ∷ peers) zero h = refl
taken_at (None ∷ peers) zero h = absurd (let k : false ≡ true = h in cc)
taken_at (y ∷ peers) (suc c) h = taken_at peers c h

pub some_at : {A : Type 0} (peers : List (Option (Box Peer A))) (c : ℕ) → slice_get (taken_numbers peers) c ≡ Some true → IsSome (peer_at peers c)
some_at [] c h = absurd (let k : ◌≡◌ {A = Option Bool} None (Some true) = h in cc)
some_at (Some y ∷ peers) zero h = refl
some_at (None ∷ peers) zero h = absurd (let k : Some false ≡ Some true = h in cc)
some_at (y ∷ peers) (suc c) h = some_at peers c h

pub none_at : {A : Type 0} (peers : List (Option (Box Peer A))) (c : ℕ) → slice_get (taken_numbers peers) c ≡ Some false → peer_at peers c ≡ None
none_at [] c h = refl
none_at (Some y ∷ peers) zero h = absurd (let k : Some true ≡ Some false = h in cc)
none_at (None ∷ peers) zero h = refl
none_at (y ∷ peers) (suc c) h = none_at peers c h

-- a lookup of a number shows whether it has a connection
pub is_there : {X : Type 0} (f : X → Peer) (r : Option X) (q : Option Peer) (b : Bool) → option_map f r ≡ q → b ≡ is_some r → is_some q ≡ b
is_there f None q b is told = sym (ap is_some is) ∙ sym told
is_there f (Some x) q b is told = sym (ap is_some is) ∙ sym told

pub none_there : (q : Option Peer) → is_some q ≡ false → q ≡ None
none_there None h = refl
none_there (Some p) h = absurd (let k : true ≡ false = h in cc)

pub below_end : {A : Type 0} (peers : List (Option (Box Peer A))) (c : ℕ) → IsSome (peer_at peers c) → c < length peers
below_end peers c h = elim (cases_lt c (length peers)) [
  | inl low ↦ low
  | inr high ↦ absurd (let k : false ≡ true = sym (ap (λ s. is_some (unboxed (joined s))) (slice_get_past peers c high)) ∙ h in cc)
]

-- a slot without a connection that is written back
pub slot_none : {A : Type 0} (peers : List (Option (Box Peer A))) (c : ℕ) (cell : Option (Box Peer A)) → c < length peers → cell ≡ get_or peers c cell → cell ≡ None → (peer_at peers c ≡ None) × (slice_set peers c cell ≡ peers)
slot_none peers c cell low at is =
    (ap (λ s. unboxed (joined s)) (slice_get_read peers (length peers) c cell refl low at) ∙ ap unboxed is, ap (slice_set peers c) at ∙ set-get_or peers c cell)

-- What leaves the connections of a cache leaves what it shows.
shows_same : {S : Type 0} (holds : ℕ → Instance → S → Type 0) (m : CacheState) (old new : Cache S) → ShowsCache holds m old → new.timing ≡ old.timing → new.session0 ≡ old.session0 → new.store ≡ old.store → new.peers.items ≡ old.peers.items
    → AreFree (taken_numbers old.peers.items) new.free → ShowsCache holds m new
shows_same holds m old new shows same_timing same_session0 same_store items numbers = search rules

-- If a number has no connection, nothing changes.
module _ {S : Type 0} (holds : ℕ → Instance → S → Type 0) (m : CacheState) (old new : Cache S) (c : ℕ) (shows : ShowsCache holds m old) (same_timing : new.timing ≡ old.timing) (same_session0 : new.session0 ≡ old.session0) (same_store : new.store ≡ old.store) (same_free : new.free ≡ old.free) (none : peer_at old.peers.items c ≡ None) (items : new.peers.items ≡ old.peers.items) where
  nobody : m.at c ≡ None
  nobody = none_shown m.timing m.cache (m.at c) (peer_at old.peers.items c) none (shows.slots c)

  pub keeps_none : (o : Option Conn) → o ≡ None → ShowsCache holds (with_conn c o m) new
  keeps_none o is = rw (same_conn c o m (nobody ∙ sym is)) (shows_same holds m old new shows same_timing same_session0 same_store items (rw same_free shows.numbers))

  pub takes_nothing : (piece : List ℕ) → TakesPiece holds m c piece 0 new
  takes_nothing piece = record { wanting = None; wanted = tt; shows = keeps_none _ (rw nobody); result_is = rw nobody }

  pub gives_nothing : (out : List ℕ) → GivesBytes holds m c out 0 out new
  gives_nothing out = record { gives = rw (with_conn_at c _ m, nobody) (record { count_is = omega arith; now_is = refl; rest_is = refl }); shows = keeps_none _ (rw nobody) }

  pub notifies_nobody : (false ≡ can_notify_at m.cache (m.at c)) × ShowsCache holds (notified c m) new
  notifies_nobody = (rw nobody, keeps_none _ (rw nobody))

module _ {S : Type 0} (holds : ℕ → Instance → S → Type 0) (m : CacheState) (old new : Cache S) (c : ℕ) (shows : ShowsCache holds m old) (low : c < length old.peers.items) (same_timing : new.timing ≡ old.timing) (same_session0 : new.session0 ≡ old.session0) (same_store : new.store ≡ old.store) where
  -- one connection is another now, or none
  pub sets : (o : Option Conn) (x : Option (Box Peer Global)) → new.peers.items ≡ slice_set old.peers.items c x → AreFree (slice_set (taken_numbers old.peers.items) c (is_some x)) new.free → ShowsSlot m.timing m.cache o (unboxed x)
      → ShowsCache holds (with_conn c o m) new
  sets o x items numbers slot = record {
    timing = same_timing ∙ shows.timing;
    session0 = same_session0 ∙ shows.session0;
    store = subst (λ s. holds m.keep m.cache s) (sym same_store) shows.store;
    slots = λ d. subst (λ peers. ShowsSlot m.timing m.cache ((with_conn c o m).at d) (peer_at peers d)) (sym items) (slots_set m.timing m.cache m.at old.peers.items c o x low shows.slots slot d);
    numbers = subst (λ taken. AreFree taken new.free) (sym (ap taken_numbers items ∙ taken_set old.peers.items c x)) numbers;
  }

  module _ (p : Peer) (b : Box Peer Global) (at : peer_at old.peers.items c ≡ Some p) (items : new.peers.items ≡ slice_set old.peers.items c (Some b)) (same_free : new.free ≡ old.free) where
    numbers : AreFree (slice_set (taken_numbers old.peers.items) c true) new.free
    numbers = subst (λ (taken : List Bool). AreFree taken new.free) (sym (set_taken old.peers.items c p at)) (subst (λ free. AreFree (taken_numbers old.peers.items) free) (sym same_free) shows.numbers)

    there : Found m.timing m.cache (m.at c) p
    there = found m.timing m.cache (m.at c) (peer_at old.peers.items c) p at (shows.slots c)

    pub takes_piece : (piece : List ℕ) (result : ℕ) → ((o : Conn) → ShowsPeer m.timing m.cache o p → Receives m.keep m.timing m.cache o piece result b.value) → TakesPiece holds m c piece result new
    takes_piece piece result receives =
        let r = receives there.conn there.shows in
        record {
          wanting = r.wanting;
          wanted = by_wanting r.wanting (λ unit. subst (λ a. is_wanted_at piece m a unit ≡ true) (sym there.is)) r.wanted;
          shows = sets _ (Some b) items numbers (rw there.is r.shows);
          result_is = rw there.is r.consumed_is;
        }

    pub gives_bytes : (out : List ℕ) (result : ℕ) (now : List ℕ) → ((o : Conn) → ShowsPeer m.timing m.cache o p → Pulls m.keep m.timing m.cache o out result now b.value) → GivesBytes holds m c out result now new
    gives_bytes out result now pulls =
        let r = pulls there.conn there.shows in
        record { gives = rw (with_conn_at c _ m, there.is) r.gives; shows = sets _ (Some b) items numbers (rw there.is r.shows) }

    pub notifies : (result : Bool) → ((o : Conn) → ShowsPeer m.timing m.cache o p → (result ≡ can_notify m.cache o) × ShowsPeer m.timing m.cache (conn_notified m.keep m.timing m.cache o) b.value)
        → (result ≡ can_notify_at m.cache (m.at c)) × ShowsCache holds (notified c m) new
    notifies result told = let r = told there.conn there.shows in (rw there.is r.0, sets _ (Some b) items numbers (rw there.is r.1))

-- the least number of the list is the least of the machine
pub least_shown : {A : Type 0} (t : Intervals) (i : Instance) (at : ℕ → Option Conn) (peers : List (Option (Box Peer A))) (n : ℕ) → ((c : ℕ) → ShowsSlot t i (at c) (peer_at peers c)) → peer_at peers n ≡ None
    → ((k : ℕ) → k < n → IsSome (peer_at peers k)) → IsLeastFree at n
least_shown t i at peers n shows free least =
    record { free = none_shown t i (at n) (peer_at peers n) free (shows n); least = λ k low. some_shown t i (at k) (peer_at peers k) (least k low) (shows k) }

-- a cell that is added
push_same : {X : Type 0} (xs : List X) (x : X) → slice_get (xs ++ x ∷ []) (length xs) ≡ Some x
push_same [] x = refl
push_same (y ∷ xs) x = push_same xs x

push_other : {X : Type 0} (xs : List X) (x : X) (d : ℕ) → ¬ (d ≡ length xs) → slice_get (xs ++ x ∷ []) d ≡ slice_get xs d
push_other [] x zero h = absurd (h refl)
push_other [] x (suc d) h = refl
push_other (y ∷ xs) x zero h = refl
push_other (y ∷ xs) x (suc d) h = push_other xs x d (λ e. h (omega (arith, e)))

pub pushes : {S : Type 0} (holds : ℕ → Instance → S → Type 0) (m : CacheState) (old new : Cache S) (c : ℕ) (o : Conn) (b : Box Peer Global) → ShowsCache holds m old → c ≡ length old.peers.items → new.timing ≡ old.timing → new.session0 ≡ old.session0 → new.store ≡ old.store
    → new.peers.items ≡ old.peers.items ++ Some b ∷ [] → AreFree (taken_numbers old.peers.items ++ true ∷ []) new.free → ShowsPeer m.timing m.cache o b.value → ShowsCache holds (with_conn c (Some o) m) new
pushes holds m old new c o b shows end same_timing same_session0 same_store items numbers slot = record {
  timing = same_timing ∙ shows.timing;
  session0 = same_session0 ∙ shows.session0;
  store = subst (λ s. holds m.keep m.cache s) (sym same_store) shows.store;
  slots = λ d. subst (λ peers. ShowsSlot m.timing m.cache ((with_conn c (Some o) m).at d) (peer_at peers d)) (sym items) (at d);
  numbers = subst (λ (taken : List Bool). AreFree taken new.free) (sym (ap taken_numbers items ∙ map-append is_some old.peers.items (Some b ∷ []))) numbers;
}
  where
    at : (d : ℕ) → ShowsSlot m.timing m.cache (if d == c then Some o else m.at d) (peer_at (old.peers.items ++ Some b ∷ []) d)
    at d = slot_by m.timing m.cache m.at (old.peers.items ++ Some b ∷ []) c d (Some o) (Some b.value) (peer_at old.peers.items d)
        (λ is. ap (λ s. unboxed (joined s)) (ap (slice_get (old.peers.items ++ Some b ∷ [])) (is ∙ end) ∙ push_same old.peers.items (Some b)))
        (λ other. ap (λ s. unboxed (joined s)) (push_other old.peers.items (Some b) d (λ e. other (e ∙ sym end)))) slot (shows.slots d)

-- Past the end there is none.
pub past_none : {A : Type 0} (peers : List (Option (Box Peer A))) (c : ℕ) → length peers ≤ c → peer_at peers c ≡ None
past_none peers c h = ap (λ s. unboxed (joined s)) (slice_get_past peers c h)

-- The number that the free ones give, if it is below the end of the list: the least without a connection.
pub opens_slot : {S : Type 0} (holds : ℕ → Instance → S → Type 0) (m : CacheState) (old new : Cache S) (n : ℕ) (o : Conn) (b : Box Peer Global) (free : FreeNumbers) (r : Option ℕ) → ShowsCache holds m old → n ≡ unwrap_or r (length old.peers.items) → n < length old.peers.items
    → TakesNumber (taken_numbers old.peers.items) r free → new.timing ≡ old.timing → new.session0 ≡ old.session0 → new.store ≡ old.store → new.peers.items ≡ slice_set old.peers.items n (Some b) → new.free ≡ free → ShowsPeer m.timing m.cache o b.value
    → IsLeastFree m.at n × ShowsCache holds (with_conn n (Some o) m) new
opens_slot holds m old new n o b free r shows is low takes same_timing same_session0 same_store items same_free slot =
    let long : length (taken_numbers old.peers.items) ≡ length old.peers.items = length-map old.peers.items is_some in
    let t = takes_below (taken_numbers old.peers.items) free r n (is ∙ ap (unwrap_or r) (sym long)) (omega (arith, low, long)) takes in (
      least_shown m.timing m.cache m.at old.peers.items n shows.slots (none_at old.peers.items n t.0) (λ k under. some_at old.peers.items k (t.1 k under)),
      sets holds m old new n shows low same_timing same_session0 same_store (Some o) (Some b) items (subst (λ f. AreFree (slice_set (taken_numbers old.peers.items) n true) f) (sym same_free) t.2) slot,
    )

-- And if it is not, all numbers of the list have one, and it is the next.
pub next_free : {S : Type 0} (holds : ℕ → Instance → S → Type 0) (m : CacheState) (old : Cache S) (n : ℕ) (free : FreeNumbers) (r : Option ℕ) → ShowsCache holds m old → n ≡ unwrap_or r (length old.peers.items) → length old.peers.items ≤ n
    → TakesNumber (taken_numbers old.peers.items) r free → (n ≡ length old.peers.items) × IsLeastFree m.at n × AreFree (taken_numbers old.peers.items) free
next_free holds m old n free r shows is high takes =
    let long : length (taken_numbers old.peers.items) ≡ length old.peers.items = length-map old.peers.items is_some in
    let t = takes_next (taken_numbers old.peers.items) free r n (is ∙ ap (unwrap_or r) (sym long)) (omega (arith, high, long)) takes in (
      t.0 ∙ long,
      least_shown m.timing m.cache m.at old.peers.items n shows.slots (past_none old.peers.items n high) (λ k under. some_at old.peers.items k (t.1.0 k (omega (arith, under, t.0)))),
      t.1.1,
    )

-- if memory runs out
pub opens_none : {S : Type 0} (holds : ℕ → Instance → S → Type 0) (m : CacheState) (old new : Cache S) (r : Result Number AllocError) → IsErr r → ShowsCache holds m old → new.timing ≡ old.timing → new.session0 ≡ old.session0 → new.store ≡ old.store → new.peers.items ≡ old.peers.items
    → AreFree (taken_numbers old.peers.items) new.free → Opens holds m r new
opens_none holds m old new (Ok conn) is shows same_timing same_session0 same_store items numbers = absurd (let k : false ≡ true = is in cc)
opens_none holds m old new (Err e) is shows same_timing same_session0 same_store items numbers = shows_same holds m old new shows same_timing same_session0 same_store items numbers

-- One connection has a share of a newer version.
pub offers_at : (old : List (Option (Box Peer Global))) (c : ℕ) (share : Share) (p : Peer) (b : Box Peer Global) → c < length old → peer_at old c ≡ Some p
    → ((t : Intervals) (i j : Instance) (o : Conn) → i.session ≡ j.session → i.session0 ≡ j.session0 → Some (numbered_of share) ≡ newest (versions j) → ShowsPeer t i o p → ShowsPeer t j o b.value) → OffersAt old c share (slice_set old c (Some b))
offers_at old c share p b low at offers = record {
  len = length-set old c (Some b);
  taken = taken_set old c (Some b) ∙ set_taken old c p at;
  here = λ t i j a same same0 is shows.
      let f = found t i a (peer_at old c) p at shows in
      let now : peer_at (slice_set old c (Some b)) c ≡ Some b.value = ap (λ s. unboxed (joined s)) (set_same old c (Some b) low) in
      subst (λ q. ShowsSlot t j a q) (sym now) (subst (λ x. ShowsSlot t j x (Some b.value)) (sym f.is) (offers t i j f.conn same same0 is f.shows));
  others = λ d h. ap (λ s. unboxed (joined s)) (set_other old c d (Some b) h);
}

-- the last of what is all one set
last_set : {X : Type 0} (f : X → VrpSet) (set : VrpSet) (xs : List X) (x : X) → AllByRecursion (λ s. s ≡ set) (map f (xs ++ x ∷ [])) → AllByRecursion (λ s. s ≡ set) (map f xs) × (f x ≡ set)
last_set f set [] x h = (tt, h.0)
last_set f set (y ∷ xs) x h = let more = last_set f set xs x h.1 in ((h.0, more.0), more.1)

-- nothing brings nothing
brings_none : (v : NumberedSet) (old new : Option Peer) → old ≡ None → new ≡ None → Brings v old new
brings_none v old new e f t i j a same same0 is shows =
    subst (λ q. ShowsSlot t j a q) (sym f) (subst (λ x. ShowsSlot t j x None) (sym (none_shown t i a old e shows)) tt)

-- A slot without a connection has no share of it.
pub offers_none : (old : List (Option (Box Peer Global))) (c : ℕ) (share : Share) (cell : Option (Box Peer Global)) → c < length old → cell ≡ get_or old c cell → cell ≡ None → OffersAt old c share (slice_set old c cell)
offers_none old c share cell low at is =
    let slot = slot_none old c cell low at is in
    subst (OffersAt old c share) (sym slot.1) (record { len = refl; taken = refl; here = brings_none (numbered_of share) (peer_at old c) (peer_at old c) slot.0 slot.0; others = λ d h. refl })

-- Shares of a set are handed out to the connections below a number.
pub record IsHandedOut {X : Type 0} (f : X → VrpSet) (serial : ℕ) (start : List (Option (Box Peer Global))) (given : List X) (n : ℕ) (peers : List (Option (Box Peer Global))) (shares : List X) : Type 0 where
  pub len : length peers ≡ length start
  pub taken : taken_numbers peers ≡ taken_numbers start
  pub count : length shares + n ≡ length start
  pub sets : (set : VrpSet) → AllByRecursion (λ s. s ≡ set) (map f given) → AllByRecursion (λ s. s ≡ set) (map f shares)
  pub done : (set : VrpSet) → AllByRecursion (λ s. s ≡ set) (map f given) → (c : ℕ) → c < n → Brings (record { serial = serial; set = set }) (peer_at start c) (peer_at peers c)
  pub left : (c : ℕ) → n ≤ c → peer_at peers c ≡ peer_at start c

module _ {X : Type 0} (f : X → VrpSet) (serial : ℕ) (start : List (Option (Box Peer Global))) (given : List X) where
  pub handed_none : length given ≡ length start → IsHandedOut f serial start given 0 start given
  handed_none same = record { len = refl; taken = refl; count = omega (arith, same); sets = λ set all. all; done = λ set all c low. absurd (omega (arith, low)); left = λ c low. refl }

  pub handed_more : (n : ℕ) (peers now : List (Option (Box Peer Global))) (shares rest : List X) (x : X) (share : Share) → shares ≡ rest ++ x ∷ [] → share.serial.0 ≡ serial → share.set.value ≡ f x
      → OffersAt peers n share now → IsHandedOut f serial start given n peers shares → IsHandedOut f serial start given (n + 1) now rest
  handed_more n peers now shares rest x share cut serial_is set_is o h = record {
    len = o.len ∙ h.len;
    taken = o.taken ∙ h.taken;
    count = omega (arith, h.count, ap length cut, length-append rest (x ∷ []));
    sets = λ set all. (last_set f set rest x (subst (λ l. AllByRecursion (λ s. s ≡ set) (map f l)) cut (h.sets set all))).0;
    done = λ set all c low. elim (cases_eq c n) [
      | inl same ↦ (let last : f x ≡ set = (last_set f set rest x (subst (λ l. AllByRecursion (λ s. s ≡ set) (map f l)) cut (h.sets set all))).1 in
          rw (same, ← h.left n (omega arith)) (rw (serial_is, set_is ∙ last) at o.here))
      | inr other ↦ rw (o.others c other) (h.done set all c (omega (arith, low, other)))
    ];
    left = λ c low. o.others c (λ e. absurd (omega (arith, e, low))) ∙ h.left c (omega (arith, low));
  }

  pub handed_all : (n : ℕ) (peers : List (Option (Box Peer Global))) (shares : List X) → length start ≤ n → IsHandedOut f serial start given n peers shares → HandsOut start serial (map f given) peers
  handed_all n peers shares end h = (
    h.taken,
    λ set all c. elim (cases_lt c n) [
      | inl low ↦ h.done set all c low
      | inr high ↦ brings_none (record { serial = serial; set = set }) (peer_at start c) (peer_at peers c) (past_none start c (omega (arith, end, high))) (past_none peers c (omega (arith, end, high, h.len)))
    ],
  )

-- a set that is published
pub publishes : {S : Type 0} (holds : ℕ → Instance → S → Type 0) (m : CacheState) (old new : Cache S) (set : VrpSet) (serial : ℕ) → ShowsCache holds m old → new.timing ≡ old.timing → new.session0 ≡ old.session0 → holds m.keep (published set m.cache) new.store
    → is_current m.cache.sets set ≡ false → serial ≡ serial_at m.cache.start (length m.cache.sets) → ((c : ℕ) → Brings (record { serial = serial; set = set }) (peer_at old.peers.items c) (peer_at new.peers.items c))
    → taken_numbers new.peers.items ≡ taken_numbers old.peers.items → new.free ≡ old.free → ShowsCache holds (record m { cache = published set m.cache }) new
publishes holds m old new set serial shows timing session0 store other serial_is brings same_taken same_free = search rules

-- what is all one set is all the same one
pub all_same : (sets : List VrpSet) (a b : VrpSet) → a ≡ b → AllByRecursion (λ s. s ≡ a) sets → AllByRecursion (λ s. s ≡ b) sets
all_same [] a b e h = tt
all_same (s ∷ sets) a b e h = (h.0 ∙ e, all_same sets a b e h.1)
