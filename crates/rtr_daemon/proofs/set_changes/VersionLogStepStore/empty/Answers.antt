use Rattle.std.proofs.Common.{◌≡◌, ◌∙◌, ap}
use Rattle.std.specs.Prelude.{max, min}
use Rattle.std.proofs.Math.Nat.{max_comm}
use Rattle.rtr_daemon.specs.Serving.{kept_versions}
use Rattle.rtr_daemon.proofs.set_changes.VersionLogStepStore.empty.Goals as goal

pub returns : goal.returns
returns c =
    let keep_is : c.max.result ≡ kept_versions c.args.keep = c.max.ensures ∙ ap (λ n. max n 1) c.min.ensures ∙ max_comm (min c.args.keep 65536) 1 in
    rw (← keep_is) c.new.ensures
