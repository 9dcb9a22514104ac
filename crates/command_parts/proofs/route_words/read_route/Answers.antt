use Rattle.command_parts.proofs.route_words.read_route.Goals as goal

pub returns-in_default-clause-none : goal.returns-in_default-clause-none
returns-in_default-clause-none c r h = c.in_default.not-Ok r.prefix (c.parse.ensures.only r.prefix h.prefix_is)
