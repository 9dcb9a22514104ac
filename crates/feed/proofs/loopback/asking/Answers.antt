use Rattle.feed.proofs.Turns.{asks_first}
use Rattle.feed.proofs.loopback.asking.Goals as goal

pub returns-clause-router : goal.returns-clause-router
returns-clause-router c =
    (asks_first c.new-router.result c.connect.new.self c.pull-asked.new.self c.args.room.now c.pull-asked.new.room c.pull-asked.result c.new-router.ensures c.connect.ensures.leads c.pull-asked.ensures.leads c.pull-asked.ensures.bytes c.requires).0

pub returns-clause-question : goal.returns-clause-question
returns-clause-question c =
    (asks_first c.new-router.result c.connect.new.self c.pull-asked.new.self c.args.room.now c.pull-asked.new.room c.pull-asked.result c.new-router.ensures c.connect.ensures.leads c.pull-asked.ensures.leads c.pull-asked.ensures.bytes c.requires).1
