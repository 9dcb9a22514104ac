-- Chains of relays, worked out: what was published, before a restart too; in which order relays change a set; and which world is the last.
use Rattle.std.specs.Prelude.{◌≡◌, [], ◌∷◌, Some, None, refl}
use Rattle.std.proofs.Common.{inl, inr}
use Rattle.vrps.specs.Instance.{Instance, versions}
use Rattle.vrps.specs.Stores.{newest}
use Rattle.vrps.specs.VrpSet.{VrpSet, empty}
use Rattle.rtr_ends.specs.Transcript.{Committed}
use Rattle.rtr_world.specs.World.{World}
use Rattle.relays.specs.Chains.{HoldsSuch, IsChain, IsMadeOf, IsNewest, Relay, Relays, WasPublished, last_world, made_by, set_now}

module _ (a b c : VrpSet) where
  -- The cache published a and then b in session 17. It restarted with session 18, and published c.
  abbrev first_run : Instance
  first_run = record { session = 17; session0 = 17; start = 5; sets = b ∷ a ∷ [] }

  abbrev second_run : Instance
  second_run = record { session = 18; session0 = 18; start = 5; sets = c ∷ [] }

  published_now : WasPublished (second_run ∷ first_run ∷ []) c
  published_now = inl (inl refl)

  published_before_the_restart : WasPublished (second_run ∷ first_run ∷ []) a
  published_before_the_restart = inr (inl (inr (inl refl)))

  published_twice : WasPublished (record second_run { sets = a ∷ [] } ∷ first_run ∷ []) a
  published_twice = inl (inl refl)

  -- A set that is none of these was not published, and before the first set nothing was.
  never_published : (d : VrpSet) → (d ≡ a → ⊥) → (d ≡ b → ⊥) → (d ≡ c → ⊥) → WasPublished (second_run ∷ first_run ∷ []) d → ⊥
  never_published d not_a not_b not_c (inl (inl e)) = not_c e
  never_published d not_a not_b not_c (inl (inr h)) = h
  never_published d not_a not_b not_c (inr (inl (inl e))) = not_b e
  never_published d not_a not_b not_c (inr (inl (inr (inl e)))) = not_a e
  never_published d not_a not_b not_c (inr (inl (inr (inr h)))) = h
  never_published d not_a not_b not_c (inr (inr h)) = h

  nothing_yet : WasPublished (record first_run { sets = [] } ∷ []) a → ⊥
  nothing_yet (inl h) = h
  nothing_yet (inr h) = h

  -- The newest set is that of this run alone.
  newest_set : (w : World) → IsNewest (record w { present = first_run }) b
  newest_set w = refl

  no_newest : (w : World) → set_now (newest (versions (record first_run { sets = [] }))) ≡ None
  no_newest w = refl

  -- Without a session the table is empty. With one it is such a set.
  holds_nothing : HoldsSuch (λ set. set ≡ a) None empty
  holds_nothing = refl

  holds_one : (held : Committed) → HoldsSuch (λ set. set ≡ a) (Some held) a
  holds_one held = refl

  -- a chain of two, the next relay first
  module _ (w : World) (first second : Relay) where
    last_of_two : last_world w (first ∷ second ∷ []) ≡ second.world
    last_of_two = refl

    last_of_none : last_world w [] ≡ w
    last_of_none = refl

    made_in_order : made_by (first ∷ second ∷ []) a ≡ second.make (first.make a)
    made_in_order = refl

    made_by_none : made_by [] a ≡ a
    made_by_none = refl

    chain_of_two : Relays w first → Relays first.world second → IsChain w (first ∷ second ∷ [])
    chain_of_two one other = (one, (other, tt))

    made_of : IsMadeOf (λ set. set ≡ a) (first ∷ second ∷ []) (second.make (first.make a))
    made_of = (a, refl, refl)
