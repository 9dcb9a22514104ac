use Rattle.std.proofs.Common.{subst, sym}
use Rattle.sources.specs.Served.{CountsUntil}
use Rattle.sources.proofs.Until.{made_with_end, made_without_end, over_at_once}
use Rattle.sources.proofs.listed.Listed.until.Goals as goal

pub returns-in_default : goal.returns-in_default
returns-in_default c = made_without_end c.args.set.now c.args.until c.to_one_second.result c.in_default.is (c.to_one_second.ensures.set, c.to_one_second.ensures.lasts)

pub returns-then-end-eq0 : goal.returns-then-end-eq0
returns-then-end-eq0 c = subst (λ u. CountsUntil c.args.set.now u c.empty.result) (sym c.in-Some.is) (over_at_once c.args.set.now c.in-Some.end c.empty.result c.if-end-eq0.true c.empty.ensures)

pub returns : goal.returns
returns c = made_with_end c.args.set.now c.args.until c.in-Some.end c.to_one_second-2.result c.in-Some.is c.if-end-eq0.false (c.to_one_second-2.ensures.set, c.to_one_second-2.ensures.lasts)
