use Rattle.std.proofs.Common.{◌≡◌, ◌+◌, ◌<◌, ◌≤◌, arith, drop, get_or, length, subst, suc, sym, take}
use Rattle.std.proofs.Math.Seq.{take-suc}
use Rattle.std.proofs.lemmas.List.{take_all}
use Rattle.rtr_daemon.specs.Queue.{QueuesBehind, ServesEach}
use Rattle.rtr_daemon.proofs.DueLaws.{only_on}
use Rattle.rtr_daemon.proofs.QueueLaws.{next_turn, serves_more}
use Rattle.rtr_daemon.proofs.ServiceLaws.{then_on}
use Rattle.rtr_daemon.proofs.daemon.Daemon.serve_all.Goals as goal

pub returns-clause-turns : goal.returns-clause-turns
returns-clause-turns g c =
    let queue = c.args.self.now.clients.queue.items in
    let all : length queue ≤ c.loop-client._client = omega (arith, c.loop-client-test.false, c.queue_len-client-end.ensures) in
    subst (λ q. ServesEach g.W.Time.can_tick g.S.VersionStore.holds g.T.Stream.remaining g.T.Stream.contents g.T.Stream.answers q c.args.self.now c.loop-client.self) (take_all c.loop-client._client queue all) c.loop-client.invariant.turns

pub loop-client-preserved : goal.loop-client-preserved
loop-client-preserved g c =
    let queue = c.args.self.now.clients.queue.items in
    let i = c.loop-client._client in
    let less : i < length queue = omega (arith, c.loop-client-test.true, c.queue_len-client-end.ensures) in
    let more : suc i ≡ i + 1 = omega arith in
    let next = next_turn g.W.Time.can_tick g.S.VersionStore.holds g.T.Stream.remaining g.T.Stream.contents g.T.Stream.answers queue i c.loop-client.self c.serve_next.new.self less c.loop-client.invariant.queue c.serve_next.ensures.turn in
    record {
      goes = then_on g.S.VersionStore.holds g.T.Stream.remaining g.T.Stream.contents c.args.self.now.service c.loop-client.self.service c.serve_next.new.self.service c.loop-client.invariant.goes c.serve_next.ensures.goes;
      rest = only_on c.args.self.now c.loop-client.self c.serve_next.new.self c.loop-client.invariant.rest c.serve_next.ensures.rest;
      turns =
          subst (λ n. ServesEach g.W.Time.can_tick g.S.VersionStore.holds g.T.Stream.remaining g.T.Stream.contents g.T.Stream.answers (take n queue) c.args.self.now c.serve_next.new.self) more
          (subst (λ q. ServesEach g.W.Time.can_tick g.S.VersionStore.holds g.T.Stream.remaining g.T.Stream.contents g.T.Stream.answers q c.args.self.now c.serve_next.new.self) (sym (take-suc queue i 0 less))
          (serves_more g.W.Time.can_tick g.S.VersionStore.holds g.T.Stream.remaining g.T.Stream.contents g.T.Stream.answers (take i queue) (get_or queue i 0) c.args.self.now c.loop-client.self c.serve_next.new.self c.loop-client.invariant.turns next.one));
      queue = subst (λ n. QueuesBehind (drop n queue) c.serve_next.new.self.clients) more next.behind;
    }
