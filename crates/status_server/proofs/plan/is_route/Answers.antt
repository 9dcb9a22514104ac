use Rattle.status_server.proofs.plan.is_route.Goals as goal

pub returns-in-None : goal.returns-in-None
returns-in-None c = (λ wrong. cc, λ p. let none : ⊥ = c.in-None.ensures.none p.0 p.1 in elim none [ ])
