-- What the program's words for events and refusals are in the model.
use Rattle.std.specs.Prelude.{◌≡◌, ℕ, List, [], ◌∷◌, Option, Some, None, Result, Err, IsOk, ◌+◌, ⊤}
use Rattle.rtr_world.specs.World as model
use Rattle.rtr_world.specs.History.{Outcome, Done, SessionUsed, TooManyVersions, NoSuchRouter, Memory, Entry}
use Rattle.rtr_world.specs.declared.event.CatchFault.{CatchFault}
use Rattle.rtr_world.specs.declared.event.CatchFault.TheVariants as catch_faults
use Rattle.rtr_world.specs.declared.event.Event.{Event}
use Rattle.rtr_world.specs.declared.event.Event.TheVariants as events
use Rattle.rtr_world.specs.declared.event.SideEvent.{SideEvent}
use Rattle.rtr_world.specs.declared.event.SideEvent.TheVariants as side_events
use Rattle.rtr_world.specs.declared.event.WorldFault.{WorldFault}
use Rattle.rtr_world.specs.declared.event.WorldFault.TheVariants as faults

abbrev pub world_fault_number : WorldFault → ℕ
world_fault_number faults.SessionUsed = 1
world_fault_number faults.TooManyVersions = 2
world_fault_number faults.NoSuchRouter = 3
world_fault_number faults.Memory = 4

abbrev pub catch_fault_number : CatchFault → ℕ
catch_fault_number catch_faults.Memory = 1
catch_fault_number catch_faults.NoData = 2
catch_fault_number catch_faults.NoSuchRouter = 3

abbrev pub side_event_of : SideEvent → model.SideEvent
side_event_of side_events.RouterRestart = model.RouterRestart
side_event_of (side_events.Speak version) = model.Speak version
side_event_of side_events.Connect = model.Connect
side_event_of (side_events.RouterSends most) = model.RouterSends most
side_event_of (side_events.CacheGets most) = model.CacheGets most
side_event_of (side_events.CacheSends most) = model.CacheSends most
side_event_of (side_events.RouterGets most) = model.RouterGets most
side_event_of (side_events.Cut left) = model.Cut left
side_event_of side_events.NotifyRouter = model.NotifyRouter
side_event_of side_events.Ask = model.Ask
side_event_of (side_events.Tick now) = model.Tick now

abbrev pub event_of : Event → model.Event
event_of (events.Publish set) = model.Publish set
event_of (events.Restart session session0 start) = model.Restart session session0 start
event_of (events.On router event) = model.On router (side_event_of event)

-- the refusal that an outcome is
abbrev pub outcome_fault : Outcome → Option WorldFault
outcome_fault (Done wanting) = None
outcome_fault SessionUsed = Some faults.SessionUsed
outcome_fault TooManyVersions = Some faults.TooManyVersions
outcome_fault NoSuchRouter = Some faults.NoSuchRouter
outcome_fault (Memory bytes wanting) = Some faults.Memory

-- A call answers its outcome.
abbrev pub AnswersOutcome : Option WorldFault → Result ⊤ WorldFault → Type 0
AnswersOutcome None result = IsOk result
AnswersOutcome (Some fault) result = result ≡ Err fault

-- how many outcomes are refusals
abbrev pub counts : Option WorldFault → ℕ
counts None = 0
counts (Some fault) = 1

abbrev pub refused : List Entry → ℕ
refused [] = 0
refused (entry ∷ entries) = counts (outcome_fault entry.outcome) + refused entries
