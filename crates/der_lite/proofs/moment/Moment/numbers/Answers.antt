use Rattle.der_lite.specs.Civils.{whole_moment}
use Rattle.der_lite.proofs.moment.Moment.numbers.Goals as goal

pub returns-clause-real : goal.returns-clause-real
returns-clause-real c = rw (← c.self.view_is) (whole_moment c.self.inside.civil c.self.invariant)
