use Rattle.status_server.proofs.host.is_ipv4.Goals as goal

pub returns-in-Err : goal.returns-in-Err
returns-in-Err c = (λ wrong. cc, λ p. let none : ⊥ = c.in-Err.ensures p.0 p.1 in elim none [ ])
