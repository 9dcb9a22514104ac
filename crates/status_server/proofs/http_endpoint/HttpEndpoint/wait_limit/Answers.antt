use Rattle.status_server.proofs.http_endpoint.HttpEndpoint.wait_limit.Goals as goal

pub returns : goal.returns
returns g c = rw (← c.self.view_is) (rw (c.has_busy.ensures, c.is_empty.ensures) at c.wait_for.ensures)
