-- The instance whose versions a log keeps as whole sets.
use Rattle.std.specs.Prelude.{◌≡◌, ℕ, ◌+◌, List, map, take}
use Rattle.std.specs.VecDeque.{deque_capacity}
use Rattle.vrps.specs.Instance.{Instance}
use Rattle.vrps.specs.Wholes.{HoldsSets}
use Rattle.vrps.specs.VrpSet.{VrpSet}
use Rattle.vrps.specs.declared.whole.WholeLog.{WholeLog}

-- the sets of a log, the newest first
abbrev pub sets_of : WholeLog → List VrpSet
sets_of log = map (λ set. set.value) log.sets.items

-- They are those of the instance, and there is room for the current one and the keep before it.
pub record IsLogOf (keep : ℕ) (i : Instance) (log : WholeLog) : Type 0 where
  pub holds : HoldsSets keep i log.session log.next.0 (sets_of log)
  pub room : deque_capacity log.sets ≡ keep + 1

-- The oldest set was dropped if there was no room, and nothing else changed.
pub record HasRoom (old new : WholeLog) : Type 0 where
  pub session : new.session ≡ old.session
  pub next : new.next ≡ old.next
  pub capacity : deque_capacity new.sets ≡ deque_capacity old.sets
  pub sets : (keep : ℕ) → deque_capacity old.sets ≡ keep + 1 → sets_of new ≡ take keep (sets_of old)
