use Rattle.std.proofs.Common.{◌∙◌, ◌+◌, ap, arith, drop, sym}
use Rattle.rtr_server.specs.Counting.{and_many, counted_on}
use Rattle.rtr_server.specs.Runs.{type_in}
use Rattle.rtr_server.proofs.CountingLaws as laws
use Rattle.rtr_server.proofs.tally.run_of.Goals as goal

pub returns-clause-counts : goal.returns-clause-counts
returns-clause-counts c = λ x between.
    let kind = c.header-head.ensures.0 in
    laws.one_run x c.args.piece.now c.args.len between c.requires.told c.requires.whole (omega arith) c.requires.kind
    ∙ ap (λ t. counted_on (and_many 1 t x) (drop c.args.len c.args.piece.now)) kind
    ∙ ap (counted_on (and_many 1 (type_in c.header-head.result) x)) (sym (laws.behind c.args.len c.args.piece.now))
    ∙ c.fours_of-fours.ensures.passes 1 x ∙ c.ones_of-ones.ensures.passes (1 + c.fours_of-fours.result.0) x
    ∙ ap (λ t. counted_on (and_many (1 + c.fours_of-fours.result.0 + c.ones_of-ones.result.0) t x) c.ones_of-ones.result.1.now) (sym kind)
