use Rattle.std.proofs.Common.{ap, refl}
use Rattle.std.specs.Prelude.{None}
use Rattle.rtr_server.specs.declared.turn.Turn.TheVariants.{Busy, Gone, WaitsToRead, WaitsToWrite}
use Rattle.rtr_daemon.specs.Known.{known_at}
use Rattle.rtr_daemon.proofs.QueueLaws.{had_turn, parts_gone}
use Rattle.rtr_daemon.proofs.daemon.Daemon.serve.Goals as goal

pub returns-in-None-clause-turn : goal.returns-in-None-clause-turn
returns-in-None-clause-turn g c = (record { turn = None; serves = c.in-None.ensures.serves; others = c.serve.ensures.others }, refl, refl)

pub returns-in-Some-Gone-clause-turn : goal.returns-in-Some-Gone-clause-turn
returns-in-Some-Gone-clause-turn g c =
    had_turn g.W.Time.can_tick g.S.VersionStore.holds g.T.Stream.remaining g.T.Stream.contents g.T.Stream.answers c.args.client c.args.token (Gone c.in-Some-Gone.how) _ c.args.self.now c.part.new.self c.serve.new.self.server
    c.in-Some-Gone.field-0-is (ap (λ s. s.server) c.part.ensures.service) c.in-Some-Gone.ensures.serves c.in-Some-Gone.ensures.others c.part.ensures.gone
    (parts_gone c.in-Some-Gone.how (known_at c.args.self.now.clients c.args.token) c.serve.new.self.server.parted c.args.self.now.has_parted c.part.new.self.has_parted c.part.ensures.once)

pub returns-in-Some-Busy-clause-turn : goal.returns-in-Some-Busy-clause-turn
returns-in-Some-Busy-clause-turn g c =
    had_turn g.W.Time.can_tick g.S.VersionStore.holds g.T.Stream.remaining g.T.Stream.contents g.T.Stream.answers c.args.client c.args.token Busy _ c.args.self.now c.note_turn.new.self c.serve.new.self.server
    c.in-Some-Busy.field-0-is (ap (λ s. s.server) c.note_turn.ensures.service) c.in-Some-Busy.ensures.serves c.in-Some-Busy.ensures.others (c.note_turn.ensures.noted, c.note_turn.ensures.busy refl) c.note_turn.ensures.parted

pub returns-in-Some-WaitsToRead-clause-turn : goal.returns-in-Some-WaitsToRead-clause-turn
returns-in-Some-WaitsToRead-clause-turn g c =
    had_turn g.W.Time.can_tick g.S.VersionStore.holds g.T.Stream.remaining g.T.Stream.contents g.T.Stream.answers c.args.client c.args.token WaitsToRead _ c.args.self.now c.note_turn-in-Some-WaitsToRead.new.self c.serve.new.self.server
    c.in-Some-WaitsToRead.field-0-is (ap (λ s. s.server) c.note_turn-in-Some-WaitsToRead.ensures.service) c.in-Some-WaitsToRead.ensures.serves c.in-Some-WaitsToRead.ensures.others c.note_turn-in-Some-WaitsToRead.ensures.noted c.note_turn-in-Some-WaitsToRead.ensures.parted

pub returns-in-Some-WaitsToWrite-clause-turn : goal.returns-in-Some-WaitsToWrite-clause-turn
returns-in-Some-WaitsToWrite-clause-turn g c =
    had_turn g.W.Time.can_tick g.S.VersionStore.holds g.T.Stream.remaining g.T.Stream.contents g.T.Stream.answers c.args.client c.args.token WaitsToWrite _ c.args.self.now c.note_turn-in-Some-WaitsToWrite.new.self c.serve.new.self.server
    c.in-Some-WaitsToWrite.field-0-is (ap (λ s. s.server) c.note_turn-in-Some-WaitsToWrite.ensures.service) c.in-Some-WaitsToWrite.ensures.serves c.in-Some-WaitsToWrite.ensures.others c.note_turn-in-Some-WaitsToWrite.ensures.noted c.note_turn-in-Some-WaitsToWrite.ensures.parted
