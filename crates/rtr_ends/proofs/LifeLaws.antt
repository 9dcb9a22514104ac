-- Each connection of a cache makes its history.
use Rattle.rtr_ends.proofs.Words.{◌≡◌, ℕ, ◌==◌, Bool, true, false, List, [], ◌∷◌, Option, Some, None, IfSome, option_map, if◌then◌else◌, refl, sym, ap, ◌∙◌, subst, AllByRecursion, Instance, IsInstance, published, published_is_instance, eq_of}
use Rattle.rtr_ends.specs.Cache.{ConnCall, Conn, Gives, IsConnCall, IsServed, Notifies, Publishes, Takes, conn_notified, conn_pulled, conn_takes, serve, serving}
use Rattle.rtr_ends.specs.declared.cache.Cache.{Cache}
use Rattle.rtr_ends.specs.CacheState.{CacheCall, CacheIsServed, CacheState, Close, EachIsServed, Pull, IsCacheCall, IsLife, Life, Open, Publish, Receive, Notify, cache_called, life, life_after, ran, serves, without_conns}
use Rattle.rtr_ends.specs.Timing.{Intervals}
use Rattle.rtr_ends.proofs.ServingLaws.{serves_history}

-- what a connection is, by its own calls
record Stands (keep : ℕ) (t : Intervals) (i : Instance) (x : Life) : Type 0 where
  pub calls : List ConnCall
  pub is : x.serving ≡ serving keep t x.opened calls
  pub opened : IsInstance x.opened
  pub each : AllByRecursion IsConnCall calls
  pub now : x.serving.cache ≡ i

abbrev AllStand : ℕ → Intervals → Instance → Option Life → Type 0
AllStand keep t i l = IfSome l (Stands keep t i)

-- the state and the life under a number
record Agrees (keep : ℕ) (t : Intervals) (i : Instance) (a : Option Conn) (l : Option Life) : Type 0 where
  pub same : a ≡ option_map (λ (x : Life). x.serving.conn) l
  pub stands : AllStand keep t i l

module _ (keep : ℕ) (t : Intervals) (i : Instance) where
  -- one call more of a connection's own
  more : (call : ConnCall) (j : Instance) (x : Life) → IsConnCall call → (serve keep t call x.serving).cache ≡ j → Stands keep t i x → Stands keep t j (serves keep t call x)
  more call j x fits now s = record { calls = call ∷ s.calls; is = ap (serve keep t call) s.is; opened = s.opened; each = (fits, s.each); now = now }

  -- one call on the connection
  own : (call : ConnCall) (F : Conn → Conn) (a : Option Conn) (l : Option Life) → IsConnCall call → ((x : Life) → x.serving.cache ≡ i → ((serve keep t call x.serving).conn ≡ F x.serving.conn) × ((serve keep t call x.serving).cache ≡ i))
      → a ≡ option_map (λ (x : Life). x.serving.conn) l → AllStand keep t i l → (option_map F a ≡ option_map (λ (x : Life). x.serving.conn) (option_map (serves keep t call) l)) × AllStand keep t i (option_map (serves keep t call) l)
  own call F a None fits acts same stands = (ap (option_map F) same, stands)
  own call F a (Some x) fits acts same stands = (ap (option_map F) same ∙ ap Some (sym (acts x stands.now).0), more call i x fits (acts x stands.now).1 stands)

-- Under the number that is called it is so, and under another it was
by_number : (keep : ℕ) (t : Intervals) (i : Instance) (b : Bool) (here there : Option Conn) (now before : Option Life) → (b ≡ true → Agrees keep t i here now) → Agrees keep t i there before → Agrees keep t i (if b then here else there) (if b then now else before)
by_number keep t i true here there now before own other = own refl
by_number keep t i false here there now before own other = other

-- A call on one connection, which is this one or another
keeps_one : (m : CacheState) (c d : ℕ) (l : Option Life) (call : ConnCall) (F : Conn → Conn) → IsConnCall call
    → ((x : Life) → x.serving.cache ≡ m.cache → ((serve m.keep m.timing call x.serving).conn ≡ F x.serving.conn) × ((serve m.keep m.timing call x.serving).cache ≡ m.cache)) → Agrees m.keep m.timing m.cache (m.at c) l
    → Agrees m.keep m.timing m.cache (if c == d then option_map F (m.at d) else m.at c) (if c == d then option_map (serves m.keep m.timing call) l else l)
keeps_one m c d l call F fits acts h = by_number m.keep m.timing m.cache (c == d) _ _ _ _ (λ e.
    let k = own m.keep m.timing m.cache call F (m.at d) l fits acts (ap m.at (sym (eq_of c d e)) ∙ h.same) h.stands in record { same = k.0; stands = k.1 }) h

-- A call keeps that.
keeps : (call : CacheCall) (m : CacheState) (c : ℕ) (l : Option Life) → IsInstance m.cache → IsCacheCall call → Agrees m.keep m.timing m.cache (m.at c) l → Agrees m.keep m.timing (cache_called call m).cache ((cache_called call m).at c) (life_after call m c l)
keeps (Publish set) m c None is fits h = record { same = h.same; stands = h.stands }
keeps (Publish set) m c (Some x) is fits h =
    record { same = h.same; stands = more m.keep m.timing m.cache (Publishes set) (published set m.cache) x fits (ap (published set) h.stands.now) h.stands }
keeps (Open d) m c l is fits h =
    by_number m.keep m.timing m.cache (c == d) _ _ _ _ (λ e. record { same = refl; stands = record { calls = []; is = refl; opened = is; each = tt; now = refl } }) h
keeps (Close d) m c l is fits h = by_number m.keep m.timing m.cache (c == d) _ _ _ _ (λ e. record { same = refl; stands = tt }) h
keeps (Receive d wanting piece) m c l is fits h =
    keeps_one m c d l (Takes wanting piece) (λ o. (conn_takes m.keep m.timing m.cache wanting piece o).machine.conn) fits (λ x now. (ap (λ j. (conn_takes m.keep m.timing j wanting piece x.serving.conn).machine.conn) now, now)) h
keeps (Pull d most) m c l is fits h = keeps_one m c d l (Gives most) (conn_pulled m.keep m.timing most) tt (λ x now. (refl, now)) h
keeps (Notify d) m c l is fits h =
    keeps_one m c d l Notifies (conn_notified m.keep m.timing m.cache) tt (λ x now. (ap (λ j. conn_notified m.keep m.timing j x.serving.conn) now, now)) h

instance_kept : (call : CacheCall) (m : CacheState) → IsInstance m.cache → IsCacheCall call → IsInstance (cache_called call m).cache
instance_kept (Publish set) m is fits = published_is_instance set m.cache fits is
instance_kept _ m is fits = is

-- no call changes how many versions are kept, and the intervals
same_rest : (call : CacheCall) (m : CacheState) → ((cache_called call m).keep ≡ m.keep) × ((cache_called call m).timing ≡ m.timing)
same_rest (Publish set) m = (refl, refl)
same_rest _ m = (refl, refl)

all_agree : (calls : List CacheCall) (m : CacheState) → IsInstance m.cache → ((c : ℕ) → m.at c ≡ None) → AllByRecursion IsCacheCall calls
    → IsInstance (ran calls m).cache × ((c : ℕ) → Agrees (ran calls m).keep (ran calls m).timing (ran calls m).cache ((ran calls m).at c) (life calls m c))
all_agree [] m is none all = (is, λ c. record { same = none c; stands = tt })
all_agree (call ∷ calls) m is none all =
    let before = all_agree calls m is none all.1 in
    let rest = same_rest call (ran calls m) in (
      instance_kept call (ran calls m) before.0 all.0,
      λ c. subst (λ k. Agrees k (cache_called call (ran calls m)).timing (cache_called call (ran calls m)).cache ((cache_called call (ran calls m)).at c) (life (call ∷ calls) m c)) (sym rest.0)
          (subst (λ t. Agrees (ran calls m).keep t (cache_called call (ran calls m)).cache ((cache_called call (ran calls m)).at c) (life (call ∷ calls) m c)) (sym rest.1) (keeps call (ran calls m) c (life calls m c) before.0 all.0 (before.1 c))),
    )

is_line : (keep : ℕ) (t : Intervals) (i : Instance) (a : Option Conn) (l : Option Life) → Agrees keep t i a l → IsLife keep t i a l
is_line keep t i a None h = record { same = h.same; now = tt; served = tt }
is_line keep t i a (Some x) h = record {
  same = h.same;
  now = h.stands.now;
  served = subst (λ s. IsServed keep t x.opened s) (sym h.stands.is) (serves_history keep t x.opened h.stands.calls h.stands.opened h.stands.each);
}

-- Each connection makes its history.
pub each_is_served : EachIsServed
each_is_served keep t i calls is all c =
    is_line _ _ _ _ _ ((all_agree calls (without_conns keep t i) is (λ d. refl) all).1 c)

-- So it is of a value that the calls lead to.
pub cache_is_served : {S : Type 0} (holds : ℕ → Instance → S → Type 0) (cache : Cache S) → CacheIsServed holds cache
cache_is_served holds cache keep t i calls leads is all c = record { shown = leads.slots c; served = each_is_served keep t i calls is all c }
