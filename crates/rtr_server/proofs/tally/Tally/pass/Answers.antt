use Rattle.std.proofs.Common.{◌∙◌, ap, arith, drop, sym, take}
use Rattle.rtr_server.specs.Counting.{counted_on}
use Rattle.rtr_server.proofs.CountingLaws as laws
use Rattle.rtr_server.proofs.tally.Tally.pass.Goals as goal

pub returns-then-kind-eq7-clause-counts : goal.returns-then-kind-eq7-clause-counts
returns-then-kind-eq7-clause-counts c =
    laws.whole_counts c.args.self.now c.args.piece.now c.args.len c.requires.none c.requires.told c.requires.whole (omega arith)
    ∙ ap (λ x. counted_on x (drop c.args.len c.args.piece.now)) (laws.no_report c.args.piece.now (laws.tail_of (take c.args.len c.args.piece.now)) c.args.len c.args.self.now c.requires.kind ∙ sym c.add.ensures)
    ∙ ap (counted_on c.add.new.self) (sym (laws.behind c.args.len c.args.piece.now))
