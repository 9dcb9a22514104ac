-- The table of a cache's connections.
use Rattle.std.proofs.Common.{◌≡◌, ℕ, ◌≤◌, ◌==◌, ◌^◌, false, true, List, length, Option, Some, None, IsSome, option_map, if◌then◌else◌, refl, sym, ap, subst, ◌∙◌, arith, inl, inr, rules}
use Rattle.std.proofs.lemmas.Bool.{cases_lt}
use Rattle.std.proofs.lemmas.Option.{slice_get_past}
use Rattle.rtr_ends.specs.Cache.{Conn, new_conn}
use Rattle.rtr_ends.specs.CacheState.{CacheState, ShowsCache, joined, with_conn}
use Rattle.rtr_ends.specs.declared.cache.Cache.{Cache}
use Rattle.rtr_ends.specs.declared.cache.Conn.{Conn as Number}
use Rattle.rtr_ends.proofs.CacheStateLaws.{conn_twice, same_conn}
use Rattle.vrps.specs.Steps.{HoldsSteps, Steps}
use Rattle.rpkirtr_c.specs.Answers.{number}
use Rattle.rpkirtr_c.specs.Caches.{IsOpening, Opens, number_at}
use Rattle.rpkirtr_c.specs.declared.conns.Conns.{Conns}
use Rattle.rpkirtr_c.specs.declared.served_cache.ServedCache.{ServedCache}
use Rattle.rpkirtr_c.specs.declared.call_status.CallStatus.TheVariants.{Done, OutOfRange}

-- past the end of a table is no connection
past_end : (slots : List (Option Number)) (c : ℕ) → length slots ≤ c → number_at slots c ≡ None
past_end slots c past = ap (λ slot. option_map (λ (n : Number). n.0) (joined slot)) (slice_get_past slots c past)

no_conn : (c : ℕ) (o : Option Conn) → None ≡ option_map (λ (_ : Conn). c) o → ¬ (IsSome o)
no_conn c None h some = absurd (let k : false ≡ true = some in cc)
no_conn c (Some o) h some = absurd (let k : ◌≡◌ {A = Option ℕ} None (Some c) = h in cc)

module _ (m : CacheState) (c : ℕ) (s : ServedCache) (opening : IsOpening m c s) where
  -- The least free number is at most the length of the table.
  within : c ≤ length s.conns.slots.items
  within = elim (cases_lt (length s.conns.slots.items) c) [
    | inl low ↦ absurd (no_conn _ (m.at (length s.conns.slots.items)) (sym (past_end s.conns.slots.items (length s.conns.slots.items) (omega arith)) ∙ opening.table (length s.conns.slots.items)) (opening.least.least (length s.conns.slots.items) low))
    | inr high ↦ high
  ]

  added : (d : ℕ) (now before : Option ℕ) → now ≡ (if d == c then Some c else before) → before ≡ option_map (λ (_ : Conn). d) (m.at d)
      → now ≡ option_map (λ (_ : Conn). d) (if d == c then Some (new_conn m.cache) else m.at d)
  added d now before is was = search rules

  -- The connection is kept.
  pub keeps : (new : Conns) → (c ≤ length s.conns.slots.items → (d : ℕ) → number_at new.slots.items d ≡ (if d == c then Some c else number_at s.conns.slots.items d)) → Opens m (number Done) c (record s { conns = new })
  keeps new inserted = inl (
    refl,
    opening.least,
    record {
      cache = opening.cache;
      table = λ d. added d (number_at new.slots.items d) (number_at s.conns.slots.items d) (inserted within d) (opening.table d);
    },
  )

  -- It is closed, since its number has more than 32 bits.
  pub closes : (new : Cache Steps) → 2 ^ 32 ≤ c → ((n : CacheState) → ShowsCache HoldsSteps n s.cache → ShowsCache HoldsSteps (with_conn c None n) new) → Opens m (number OutOfRange) 0 (record s { cache = new })
  closes new high closed =
      let back : with_conn c None (with_conn c (Some (new_conn m.cache)) m) ≡ m = conn_twice c None (Some (new_conn m.cache)) m ∙ same_conn c None m opening.least.free in
      inr (inr (refl, refl, record { cache = subst (λ n. ShowsCache HoldsSteps n new) back (closed _ opening.cache); table = opening.table }, c, opening.least, high))
