-- Why there is no set to publish, and why a set is not taken.
use Rattle.std.proofs.Common.{◌≡◌, ℕ, List, refl}
use Rattle.std.specs.Prelude.{Err, Option}
use Rattle.der_lite.specs.Moments.{CivilMoment}
use Rattle.der_lite.specs.Seconds.{seconds_of}
use Rattle.vrps.specs.VrpSet.{VrpSet}
use Rattle.vrps.specs.declared.set.SetFault.{SetFault}
use Rattle.vrps.specs.declared.set.SetFault.TheVariants.{TooMany, Memory}
use Rattle.sources.specs.Served.{PassesLimit, TakesSet}
use Rattle.sources.specs.declared.fault.TakeSetFault.{TakeSetFault}
use Rattle.sources.specs.declared.fault.TakeSetFault.TheVariants as untaken
use Rattle.sources.specs.declared.listed.Listed.{Listed}
use Rattle.sources.specs.declared.sources.Sources.{Sources}
use Rattle.rtr_daemon.specs.Serving.{IsReason}
use Rattle.rtr_daemon.specs.declared.refusal.Refusal.TheVariants as refused

-- Why the sources have no set
pub reason_of : (now : ℕ) (s : Sources) (fault : SetFault) (at : CivilMoment) → seconds_of at ≡ now → (fault ≡ TooMany → PassesLimit s.repository s.lists.items s.exceptions at) → IsReason now s (refused.Set fault)
reason_of now s TooMany at second limit = (at, second, limit refl)
reason_of now s Memory at second limit = tt

-- A set that is not taken changes nothing.
pub set_refused : (set : VrpSet) (end : Option ℕ) (i : ℕ) (fault : TakeSetFault) (old new : List Listed) → TakesSet set end i (Err fault) old new → new ≡ old
set_refused set end i untaken.NoSuchList old new h = h.1
set_refused set end i untaken.Memory old new h = h.1
