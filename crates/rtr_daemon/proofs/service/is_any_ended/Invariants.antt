-- So far no record ends.
use Rattle.std.proofs.Common.{◌≡◌, ℕ, ◌<◌, false}
use Rattle.std.specs.Prelude.{slice_get}
use Rattle.sources.specs.Served.{ends_between}
use Rattle.rtr_daemon.proofs.service.is_any_ended.Given as goal

abbrev pub invariant-loop-file : goal.invariant-loop-file
invariant-loop-file l = (i : ℕ) → i < l.file → ends_between l.from l.to (slice_get l.sources.lists.items i) ≡ false
