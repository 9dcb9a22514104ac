use Rattle.rpkirtrd.proofs.starting.serve_routers.Goals as goal

pub invariant_of-settings : goal.invariant_of-settings
invariant_of-settings g c = record { has_source = c.args.settings.has_source; listens = c.args.settings.listens; keeps_from = c.args.settings.keeps_from; keeps_to = c.args.settings.keeps_to; looks = c.args.settings.looks; reads = c.args.settings.reads; reads_to = c.args.settings.reads_to; shrinks_within = c.args.settings.shrinks_within; holds_from = c.args.settings.holds_from; holds_to = c.args.settings.holds_to; serves = c.args.settings.serves; serves_to = c.args.settings.serves_to; waits = c.args.settings.waits; slow_from = c.args.settings.slow_from; slow_to = c.args.settings.slow_to; names = c.args.settings.names; ages = c.args.settings.ages; ages_within = c.args.settings.ages_within; shares_within = c.args.settings.shares_within }

pub invariant_of-settings-in-Err-listen : goal.invariant_of-settings-in-Err-listen
invariant_of-settings-in-Err-listen g c = record { has_source = c.args.settings.has_source; listens = c.args.settings.listens; keeps_from = c.args.settings.keeps_from; keeps_to = c.args.settings.keeps_to; looks = c.args.settings.looks; reads = c.args.settings.reads; reads_to = c.args.settings.reads_to; shrinks_within = c.args.settings.shrinks_within; holds_from = c.args.settings.holds_from; holds_to = c.args.settings.holds_to; serves = c.args.settings.serves; serves_to = c.args.settings.serves_to; waits = c.args.settings.waits; slow_from = c.args.settings.slow_from; slow_to = c.args.settings.slow_to; names = c.args.settings.names; ages = c.args.settings.ages; ages_within = c.args.settings.ages_within; shares_within = c.args.settings.shares_within }

pub invariant_of-settings-in-Err-open : goal.invariant_of-settings-in-Err-open
invariant_of-settings-in-Err-open g c = record { has_source = c.args.settings.has_source; listens = c.args.settings.listens; keeps_from = c.args.settings.keeps_from; keeps_to = c.args.settings.keeps_to; looks = c.args.settings.looks; reads = c.args.settings.reads; reads_to = c.args.settings.reads_to; shrinks_within = c.args.settings.shrinks_within; holds_from = c.args.settings.holds_from; holds_to = c.args.settings.holds_to; serves = c.args.settings.serves; serves_to = c.args.settings.serves_to; waits = c.args.settings.waits; slow_from = c.args.settings.slow_from; slow_to = c.args.settings.slow_to; names = c.args.settings.names; ages = c.args.settings.ages; ages_within = c.args.settings.ages_within; shares_within = c.args.settings.shares_within }
