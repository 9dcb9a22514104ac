-- Steps from version to version, the newest first.
use Rattle.std.specs.Prelude.{◌≡◌, ℕ, ◌<◌, ◌^◌, List, [], ◌∷◌, length, take, reverse, Option, Some, None, slice_get, ⊤, refl}
use Rattle.std.specs.Coded.{Coded, code_by, coded×, coded_list, coded_option, coded_ℕ}
use Rattle.std.specs.FinMap as map
use Rattle.prefixes.specs.Payload.{coded_payload}
use base.Stored.{coded_unit}
use Rattle.vrps.specs.Change.{between}
use Rattle.vrps.specs.Instance.{Instance}
use Rattle.vrps.specs.Serial.{serial_at}
use Rattle.vrps.specs.VrpSet.{VrpSet, IsVrpSet, union, without}
use Rattle.vrps.specs.declared.change.Change.{Change}

-- the step to each set from the one before it
abbrev pub steps_of : List VrpSet → List Change
steps_of [] = []
steps_of (set ∷ []) = []
steps_of (set ∷ before ∷ older) = between before set ∷ steps_of (before ∷ older)

abbrev pub newest_set : List VrpSet → Option VrpSet
newest_set [] = None
newest_set (set ∷ older) = Some set

-- The kept step of a place, counted from the oldest kept one
abbrev pub kept_step : ℕ → List VrpSet → ℕ → Option Change
kept_step keep sets place = slice_get (reverse (take keep (steps_of sets))) place

-- the set before a step
abbrev pub back : Change → VrpSet → VrpSet
back step set = union (without set step.announce) step.withdraw

-- the set before steps, the newest first
abbrev pub back_to : List Change → VrpSet → VrpSet
back_to [] set = set
back_to (step ∷ older) set = back_to older (back step set)

-- Each step leads to a set from one that can be published.
abbrev pub AreSteps : VrpSet → List Change → Type 0
AreSteps set [] = ⊤
AreSteps set (step ∷ older) = IsVrpSet (back step set) × (step ≡ between (back step set) set) × AreSteps (back step set) older

-- What a log of steps has: its session, the serial of the next version, the current set, the steps to it, and how many it keeps.
pub record Steps : Type 0 where
  pub session : ℕ
  pub next : ℕ
  pub newest : Option VrpSet
  pub steps : List Change
  pub keep : ℕ

abbrev pub steps_log : ℕ → ℕ → Option VrpSet → List Change → ℕ → Steps
steps_log session next now steps keep = record { session = session; next = next; newest = now; steps = steps; keep = keep }

abbrev pub coded_set : Coded VrpSet
coded_set = map.code coded_payload coded_unit

abbrev pub coded_change : Coded Change
coded_change = code_by (VrpSet × VrpSet) (coded× coded_set coded_set) (λ c. (c.withdraw, c.announce)) (λ p. record { withdraw = p.0; announce = p.1 }) (λ _. refl)

abbrev pub coded_steps : Coded Steps
coded_steps =
    code_by (ℕ × (ℕ × (Option VrpSet × (List Change × ℕ)))) (coded× coded_ℕ (coded× coded_ℕ (coded× (coded_option coded_set) (coded× (coded_list coded_change) coded_ℕ))))
    (λ s. (s.session, (s.next, (s.newest, (s.steps, s.keep))))) (λ p. steps_log p.0 p.1.0 p.1.1.0 p.1.1.1.0 p.1.1.1.1) (λ _. refl)

-- The steps lead to the current set; without one there are none.
pub record LeadsToNow (now : Option VrpSet) (steps : List Change) : Type 0 where
  pub none : now ≡ None → steps ≡ []
  pub set : (set : VrpSet) → now ≡ Some set → IsVrpSet set
  pub steps_to : (set : VrpSet) → now ≡ Some set → AreSteps set steps

-- Of an instance the log has the current set and the newest steps.
pub record HoldsSteps (keep : ℕ) (i : Instance) (log : Steps) : Type 0 where
  pub session_is : log.session ≡ i.session
  pub start : i.start < 2 ^ 32
  pub next_is : log.next ≡ serial_at i.start (length i.sets)
  pub newest_is : log.newest ≡ newest_set i.sets
  pub steps_are : log.steps ≡ take keep (steps_of i.sets)
  pub keep_is : log.keep ≡ keep
