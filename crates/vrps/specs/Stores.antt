-- What the calls of a store of versions answer.
use Rattle.std.specs.Prelude.{◌≡◌, false, true, List, [], ◌∷◌, length, Option, Some, None, Result, Ok, Err}
use Rattle.std.specs.declared.alloc.AllocError.{AllocError}
use Rattle.vrps.specs.Instance.{Instance, NumberedSet}
use Rattle.vrps.specs.Serial.{serial_at}
use Rattle.vrps.specs.Store as store
use Rattle.vrps.specs.Store.{is_current, published}
use Rattle.vrps.specs.VrpSet.{VrpSet}
use Rattle.vrps.specs.declared.store.Published.{Published}
use Rattle.vrps.specs.declared.store.Published.TheVariants.{New, Unchanged}
use Rattle.vrps.specs.declared.store.Since.{Since}
use Rattle.vrps.specs.declared.store.Since.TheVariants.{Change, Unknown, NoData}

-- A set that differs from the current one is a new version, of the serial of its position; an equal one adds nothing. Without memory
-- nothing is published.
abbrev pub Publishes : {S : Type 0} → (Instance → S → Type 0) → Result Published AllocError → VrpSet → Instance → S → Type 0
Publishes holds (Ok (New serial)) set i new = holds (published set i) new × (is_current i.sets set ≡ false) × (serial.0 ≡ serial_at i.start (length i.sets))
Publishes holds (Ok Unchanged) set i new = holds i new × (is_current i.sets set ≡ true)
Publishes holds (Err error) set i new = holds i new

-- the newest of versions
abbrev pub newest : List NumberedSet → Option NumberedSet
newest [] = None
newest (now ∷ older) = Some now

-- what is answered, as it is defined
abbrev pub told_since : Since → store.Since
told_since (Change change) = store.Known change
told_since Unknown = store.Unknown
told_since NoData = store.NoData
