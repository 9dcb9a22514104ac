use Rattle.rtr_server.proofs.NoticeLaws as laws
use Rattle.rtr_server.proofs.server.Server.publish_to_all.Goals as goal

pub returns-in-New-clause-publishes : goal.returns-in-New-clause-publishes
returns-in-New-clause-publishes g c = λ m shows.
    laws.publishes_so g.S.VersionStore.holds m c.args.set c.args.self.now.slots.items c.notify_all.new.slots.items c.in_ok-published.published c.in-New.field-0 c.in-New.is c.publish.new.self c.notify_all.new.cache
    (c.in_ok-published.ensures m shows) c.notify_all.ensures.notifies
