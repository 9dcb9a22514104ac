use Rattle.std.proofs.Common.{refl, subst}
use Rattle.std.specs.List.{Contains}
use Rattle.authority_tests.proofs.table.TableReader.read.Goals as goal

pub returns-clause-issued : goal.returns-clause-issued
returns-clause-issued c = λ v. (
  λ k. subst (λ x. Contains c.args.self.now.issued.now (c.args.by.now, x)) k.2 ((c.in_ok-issued.ensures k.0).0 k.1),
  λ k. (v, (c.in_ok-issued.ensures v).1 k, refl),
)
