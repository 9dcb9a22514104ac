use Rattle.rtr_server.proofs.QueryLaws as laws
use Rattle.rtr_server.proofs.laws.counts_queries.Goals as goal

pub returns : goal.returns
returns c = laws.counts_queries
