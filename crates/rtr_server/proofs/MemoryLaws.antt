-- If memory runs out, a client's connection ends.
use Rattle.std.specs.Prelude.{◌≡◌, ◌⊎◌, ℕ, Bool, true, false, not, ◌||◌, List, [], ◌∷◌, ◌++◌, Option, Some, None, refl}
use Rattle.std.proofs.Common.{sym, ap, ◌∙◌, inl, inr}
use Rattle.std.specs.List.{list_any}
use Rattle.vrps.specs.Instance.{Instance}
use Rattle.rtr_pdu.specs.Judging.{judge}
use Rattle.rtr_ends.specs.Cache.{Taking, and_moment, conn_byte, conn_moment_of, conn_stops, conn_takes, counted, finds_memory, is_none, version_at, with_moment}
use Rattle.rtr_ends.specs.Connection.{ConnMoment, Fault, Notify, Pull, Read, Wanting, is_wanting}
use Rattle.rtr_ends.specs.Timing.{Intervals}
use Rattle.rtr_ends.proofs.FeedingLaws.{feed_keeps}
use Rattle.rtr_ends.proofs.TableLaws.{false_true}
use Rattle.rtr_server.specs.Turns.{EndsByReport, MemoryEnds}

-- the last of a list, or one before it
any_last : (p : ConnMoment → Bool) (xs : List ConnMoment) (x : ConnMoment) → list_any p (xs ++ x ∷ []) ≡ true → (list_any p xs ≡ true) ⊎ (p x ≡ true)
any_last p [] x e = by_test (p x) refl e
  where
    by_test : (b : Bool) → p x ≡ b → (b || false) ≡ true → (list_any p [] ≡ true) ⊎ (p x ≡ true)
    by_test true is e = inr is
    by_test false is e = false_true e
any_last p (y ∷ xs) x e = by_test (p y) refl e (any_last p xs x)
  where
    by_test : (b : Bool) → p y ≡ b → (b || list_any p (xs ++ x ∷ [])) ≡ true → (list_any p (xs ++ x ∷ []) ≡ true → (list_any p xs ≡ true) ⊎ (p x ≡ true)) → (list_any p (y ∷ xs) ≡ true) ⊎ (p x ≡ true)
    by_test true is e more = inl (ap (λ b. b || list_any p xs) is)
    by_test false is e more = elim (more e) [ inl k ↦ inl (ap (λ b. b || list_any p xs) is ∙ k) | inr k ↦ inr k ]

-- if memory ran out, it has ended so
abbrev EndsWhereWanted : Taking → Type 0
EndsWhereWanted m = list_any is_wanting m.moments ≡ true → EndsByReport m.conn.state

module _ (keep : ℕ) (t : Intervals) (i : Instance) where
  by_moment : (m : Taking) (bytes : List ℕ) (wanting : Option ℕ) (came : Option ConnMoment) → conn_stops m.conn ≡ false → EndsWhereWanted m
      → EndsWhereWanted (record { conn = with_moment keep t bytes m.conn came; moments = and_moment m.moments came; wanting = wanting })
  by_moment m bytes wanting None goes h = h
  by_moment m bytes wanting (Some x) goes h = λ e. elim (any_last is_wanting m.moments x e) [ inl k ↦ absurd (not_ended (h k).ended) | inr k ↦ by_kind x k ]
    where
      not_ended : m.conn.state.ended ≡ true → ⊥
      not_ended ended = false_true (sym goes ∙ ap (λ b. b || not (is_none m.conn.state.due)) ended)

      by_kind : (x : ConnMoment) → is_wanting x ≡ true → EndsByReport (with_moment keep t bytes m.conn (Some x)).state
      by_kind (Read version cache unit came) e = false_true e
      by_kind (Wanting version cache unit came) e = record { ended = refl; version = version; due = refl }
      by_kind (Fault version fault came) e = false_true e
      by_kind (Notify version cache held) e = false_true e
      by_kind (Pull count) e = false_true e

  by_byte : (b : ℕ) (rest : List ℕ) (m : Taking) → conn_stops m.conn ≡ false → EndsWhereWanted m → EndsWhereWanted (conn_byte keep t i m b)
  unfolding conn_byte
  by_byte b rest m goes h =
      let version = version_at m.conn (b ∷ []) in
      let bytes = m.conn.held ++ b ∷ [] in
      by_moment m bytes (counted (judge version false bytes) m.wanting) (conn_moment_of i (finds_memory m.wanting) version bytes (judge version false bytes)) goes h

pub memory_ends : MemoryEnds
unfolding conn_takes
memory_ends keep t unit s may =
    feed_keeps (λ m. conn_stops m.conn) (conn_byte keep t s.serving.cache) (λ rest m. EndsWhereWanted m) (by_byte keep t s.serving.cache) (record { conn = s.serving.conn; moments = []; wanting = Some unit }) s.unread (λ e. false_true e) may.2
