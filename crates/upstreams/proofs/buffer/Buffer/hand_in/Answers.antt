use Rattle.upstreams.proofs.buffer.Buffer.hand_in.Goals as goal

pub returns-clause-takes : goal.returns-clause-takes
returns-clause-takes c = rw (← c.self.view_is) c.hand_piece-taken.ensures.takes
