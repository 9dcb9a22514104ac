use Rattle.std.specs.Prelude.{◌≤◌, List, map, take}
use Rattle.rtr_world.specs.Events.{event_of}
use Rattle.rtr_world.specs.History.{Entry, Made}
use Rattle.rtr_world.specs.Reached.{LeadsTo, RunsTo}
use Rattle.rtr_world.proofs.world.World.run.Given as goal

abbrev pub invariant-loop-event : goal.invariant-loop-event
invariant-loop-event l = record {
  runs : (made : Made) (history : List Entry) → LeadsTo made history l.fn.self → RunsTo made history (map event_of (take l.event-index l.events)) l.refused l.self;
  few : l.refused ≤ l.event-index;
}
