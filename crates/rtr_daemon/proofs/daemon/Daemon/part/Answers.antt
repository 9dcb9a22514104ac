use Rattle.std.specs.Prelude.{IfSome, ◌≡◌, ◌||◌}
use Rattle.std.proofs.Common.{subst, sym}
use Rattle.rtr_daemon.specs.Parting.{has_agreed}
use Rattle.rtr_daemon.proofs.daemon.Daemon.part.Goals as goal

pub returns-in_default-clause-once : goal.returns-in_default-clause-once
returns-in_default-clause-once g c =
    subst (λ known. IfSome known (λ _. c.args.self.now.has_parted ≡ (c.args.self.now.has_parted || has_agreed c.args.self.now.service.server.parted))) (sym (c.remove.ensures.none c.in_default.is)) tt
