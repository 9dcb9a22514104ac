use Rattle.std.proofs.Common.{arith, ◌≡◌}
use Rattle.std.proofs.lemmas.Bool.Decides.{nat_tests}
use Rattle.rtr_server.proofs.CountingLaws as laws
use Rattle.rtr_server.proofs.tally.shows_at.Goals as goal

pub returns : goal.returns
returns c = λ yes.
    let same : c.header.result ≡ c.args.head = grind (arith, nat_tests, yes) in
    laws.shows_as c.header.result c.args.head _ _ same (laws.behind c.args.at c.args.bytes.now) c.header.ensures
