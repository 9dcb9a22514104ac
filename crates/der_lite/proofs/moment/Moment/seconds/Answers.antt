use Rattle.std.proofs.Common.{◌≡◌, ◌≤◌, arith, sym, subst}
use Rattle.std.specs.Prelude.{List, ℕ, slice_index}
use Rattle.der_lite.specs.Civils.{real_from}
use Rattle.der_lite.proofs.moment.Moment.seconds.Goals as goal

pub days_before_year-requires : goal.days_before_year-requires
days_before_year-requires c = rw c.numbers.ensures.value (real_from c.args.self.now c.numbers.ensures.real).year.0

pub days_before_month-requires : goal.days_before_month-requires
days_before_month-requires c = rw c.numbers.ensures.value (real_from c.args.self.now c.numbers.ensures.real).month.0

pub overflow_sub-day : goal.overflow_sub-day
overflow_sub-day c = rw c.numbers.ensures.value (real_from c.args.self.now c.numbers.ensures.real).day.0
