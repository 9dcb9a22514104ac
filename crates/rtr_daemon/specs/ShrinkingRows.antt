-- For how long an export that is too short is refused, worked out: 90 % for a day.
use Rattle.std.specs.Prelude.{◌≡◌, None, Some, Ok, Err, refl}
use Rattle.exports.specs.declared.fault.ExportFault.TheVariants.{Memory}
use Rattle.sources.specs.declared.fault.TakeFault.TheVariants.{Export, Shrank}
use Rattle.rtr_daemon.specs.Shrinking.{percent_at, since_after}
use Rattle.rtr_daemon.specs.declared.shrink_guard.ShrinkGuard.{ShrinkGuard}

abbrev guard : ShrinkGuard
guard = record { percent = 90; hold = 86400 }

without_a_guard : percent_at None None 5000 ≡ None
without_a_guard = refl

at_first : percent_at (Some guard) None 5000 ≡ Some 90
at_first = refl

almost_a_day_later : percent_at (Some guard) (Some 5000) 86404999 ≡ Some 90
almost_a_day_later = refl

a_day_later : percent_at (Some guard) (Some 5000) 86405000 ≡ None
a_day_later = refl

refused_first : since_after (Err (Shrank 90 700000 3)) None 5000 ≡ Some 5000
refused_first = refl

refused_again : since_after (Err (Shrank 90 700000 4)) (Some 5000) 65000 ≡ Some 5000
refused_again = refl

another_fault_between : since_after (Err (Export Memory)) (Some 5000) 65000 ≡ Some 5000
another_fault_between = refl

another_fault : since_after (Err (Export Memory)) None 65000 ≡ None
another_fault = refl

loaded : since_after (Ok 0) (Some 5000) 65000 ≡ None
loaded = refl
