use Rattle.rtr_ends.proofs.fetching.fetch_stream.Goals as goal

pub returns-clause-fetches : goal.returns-clause-fetches
returns-clause-fetches g c calls leads =
    let fetched = c.fetch-result.ensures.fetches calls (c.connect.ensures.leads calls leads).leads in
    (fetched.0, c.closed.ensures.leads _ fetched.1)
