use Rattle.std.proofs.Common.{refl, subst, sym, Some}
use Rattle.rtr_ends.specs.Sender.{FillsAnswer}
use Rattle.rtr_ends.proofs.sender.Sender.fill.Goals as goal

pub returns-in-Some : goal.returns-in-Some
returns-in-Some c = record {
  version = refl;
  sessions = refl;
  timing = refl;
  ready = refl;
  buffer = refl;
  pulled = refl;
  answer = subst (λ a. FillsAnswer c.args.self.now.version a c.args.out.now c.args.filled c.fill.result c.fill.new.out (Some c.fill.new.self)) (sym c.in-Some.is) (c.fill.new.self, refl, c.fill.ensures);
}
