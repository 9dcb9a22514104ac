use Rattle.status_server.proofs.http_endpoint.HttpEndpoint.serve.Goals as goal

pub returns : goal.returns
returns g c = rw (← c.self.view_is) (c.serve.new.self, c.serve.ensures, c.expire.ensures)
