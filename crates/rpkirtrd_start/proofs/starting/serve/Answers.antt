use Rattle.std.proofs.Common.{inl}
use Rattle.rpkirtrd_start.proofs.starting.serve.Goals as goal

pub returns : goal.returns
returns g c = inl (record {
  first = c.in_ok-daemon.daemon;
  last = c.run-end.new.daemon;
  result = c.run-end.result;
  begun = c.in_ok-daemon.ensures.begun;
  runs = c.run-end.ensures.turns;
  status_is = c.report_end-2.ensures;
})
