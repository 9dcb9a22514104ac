use Rattle.status_server.proofs.http_endpoint.HttpEndpoint.turn.Goals as goal

pub returns : goal.returns
returns g c = record {
  woken_ones = c.note_all.new.self.0;
  wakes = c.note_all.ensures;
  accepted = c.accept_all.new.self.0;
  accepts = c.accept_all.ensures;
  rest = c.serve.ensures.0;
  serves = c.serve.ensures.1;
  list = c.serve.ensures.2;
}
