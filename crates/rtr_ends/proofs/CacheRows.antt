-- The version of a connection in the definition of its history, worked out.
use Rattle.rtr_ends.proofs.Words.{List, [], arith, drop, inl, inr, refl, ℕ, ◌++◌, ◌∷◌, ◌≡◌, Instance, IsInstance, set_of, V0, V1}
use Rattle.rtr_ends.specs.Connection.{IsConnMoment, IsHistory, IsLater, Notify, Pull, opened}
use Rattle.rtr_ends.specs.Timing.{default_intervals}
use Rattle.rtr_ends.proofs.WholeAnswerRows.{v}

-- A cache of two sessions
abbrev both : Instance
both = record { session = 0x1234; session0 = 0x0777; start = 5; sets = set_of (v ∷ []) ∷ [] }

-- Before any header a notify of version 0 is no moment, and behind one of version 0 none of version 1 is. The bytes held of a PDU do not
-- become fewer.
not_yet_of_0 : (coming : List ℕ) → IsConnMoment (opened both) coming (Notify V0 both []) → ⊥
not_yet_of_0 coming h = let e : V0 ≡ V1 = h.0 in cc

abbrev header_of_0 : List ℕ
header_of_0 = 0 ∷ 0x01 ∷ 0x07 ∷ 0x77 ∷ 0 ∷ 0 ∷ 0 ∷ 0x0c ∷ []

not_still_of_1 : (coming : List ℕ) → IsConnMoment (opened both) coming (Notify V1 both header_of_0) → ⊥
not_still_of_1 coming h = let e : V1 ≡ V0 = h.0 in cc

not_again_of_1 : (coming : List ℕ) → IsConnMoment (record (opened both) { seen = header_of_0 }) coming (Notify V1 both []) → ⊥
not_again_of_1 coming h = let e : [] ≡ header_of_0 ++ h.1.more = h.1.since in cc

-- A history: notified before the header, behind it, and half a query is held.
of_both_versions : IsInstance both → IsHistory 2 default_intervals (opened both) (Notify V1 both (0 ∷ []) ∷ Pull 12 ∷ Notify V0 both header_of_0 ∷ []) (header_of_0 ++ 0 ∷ [])
of_both_versions is = (
  (refl, refl, is, stays, (refl, record { begins = (refl, inl (omega arith)); more = 0 ∷ []; since = refl; rest = drop 1 header_of_0 ++ 0 ∷ []; front = refl }, refl)),
  (
    header_of_0 ++ 0 ∷ [],
    refl,
    (
      omega arith,
      (
        header_of_0 ++ 0 ∷ [],
        refl,
        (
          (refl, refl, is, stays, (refl, record { begins = (refl, inr (omega arith)); more = drop 1 header_of_0; since = refl; rest = 0 ∷ []; front = refl }, refl)),
          (header_of_0 ++ 0 ∷ [], refl, ((refl, inr (omega arith)), inr (inr refl))),
        ),
      ),
    ),
  ),
)
  where
    stays : IsLater both both
    stays = record { session = refl; session0 = refl; start = refl; more = []; sets = refl }
