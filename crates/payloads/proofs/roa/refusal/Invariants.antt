use Rattle.std.proofs.Common.{◌≡◌, drop}
use Rattle.std.specs.Prelude.{option_copied}
use Rattle.payloads.specs.RoaRefusal.{roa_refusal, entries_refusal}
use Rattle.payloads.proofs.roa.refusal.Given as goal

-- nothing is wrong in front, so what is wrong is the fault of the entries that are left
abbrev pub invariant-loop-index : goal.invariant-loop-index
invariant-loop-index l = roa_refusal l.entries ≡ entries_refusal l.index (option_copied l.before) (drop l.index l.entries)
