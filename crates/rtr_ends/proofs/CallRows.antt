-- The life of a connection among others, worked out.
use Rattle.rtr_ends.proofs.Words.{List, None, Option, Some, [], refl, ℕ, ◌∷◌, ◌≡◌, VrpSet, set_of}
use Rattle.rtr_ends.specs.Cache.{Gives, Notifies, Publishes, Takes, serving}
use Rattle.rtr_ends.specs.CacheState.{CacheCall, Close, Life, Notify, Open, Publish, Pull, Receive, life, without_conns}
use Rattle.rtr_ends.specs.Timing.{default_intervals}
use Rattle.rtr_ends.proofs.WholeAnswerRows.{cache, reset_bytes, v}

abbrev life_of : List CacheCall → ℕ → Option Life
life_of calls c = life calls (without_conns 2 default_intervals (cache 5 [])) c

-- Two connections were opened, and a Reset Query came on the second.
abbrev asked : List CacheCall
asked = Receive 1 None reset_bytes ∷ Open 1 ∷ Open 0 ∷ []

abbrev with_v : VrpSet
with_v = set_of (v ∷ [])

-- The life of a connection has its own calls, and what was published, since it was opened last; a closed one has none.
lives : life_of (Notify 1 ∷ Pull 1 10 ∷ Publish with_v ∷ Pull 0 3 ∷ asked) 1
    ≡ Some (record { opened = cache 5 []; serving = serving 2 default_intervals (cache 5 []) (Notifies ∷ Gives 10 ∷ Publishes with_v ∷ Takes None reset_bytes ∷ []) })
lives = refl

lives_anew : (life_of (Open 1 ∷ Close 1 ∷ asked) 1 ≡ Some (record { opened = cache 5 []; serving = serving 2 default_intervals (cache 5 []) [] })) × (life_of (Close 1 ∷ asked) 1 ≡ None)
lives_anew = (refl, refl)
