use Rattle.std.proofs.Common.{rules}
use Rattle.std.proofs.lemmas.Fn.{filter_same}
use Rattle.rtr_daemon.specs.Peaks.{is_within_a_day}
use Rattle.rtr_daemon.proofs.peaks.Peaks.forget.Goals as goal

pub returns : goal.returns
returns c = filter_same _ (is_within_a_day c.args.now) _ (λ x b f' h. search rules) _ _ c.retain.ensures.filtered
