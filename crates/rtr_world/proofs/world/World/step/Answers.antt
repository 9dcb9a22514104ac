use Rattle.std.proofs.Common.{ap}
use Rattle.rtr_world.specs.Events.{event_of}
use Rattle.rtr_world.proofs.Showing.{steps_on}
use Rattle.rtr_world.proofs.world.World.step.Goals as goal

pub returns-in-Publish : goal.returns-in-Publish
returns-in-Publish c = λ made history l. steps_on made history c.args.self.now c.publish.new.self _ _ c.publish.result l (ap event_of c.in-Publish.is) c.publish.ensures

pub returns-in-Restart : goal.returns-in-Restart
returns-in-Restart c = λ made history l. steps_on made history c.args.self.now c.restart.new.self _ _ c.restart.result l (ap event_of c.in-Restart.is) c.restart.ensures

pub returns-in-On : goal.returns-in-On
returns-in-On c = λ made history l. steps_on made history c.args.self.now c.on.new.self _ _ c.on.result l (ap event_of c.in-On.is) c.on.ensures
