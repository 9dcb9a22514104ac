use Rattle.std.proofs.Common.{Err, Ok, subst}
use Rattle.prefixes.specs.Text.{ReadsAs}
use Rattle.prefix_texts.proofs.Sayings.{as_v6, other_faults, plain_spells, read_only}
use Rattle.prefix_texts.proofs.reading.parse_prefix.Goals as goal

pub returns-in-Ok-clause-reads : goal.returns-in-Ok-clause-reads
returns-in-Ok-clause-reads c = plain_spells c.args.text.now c.in-Ok.prefix c.in-Ok.ensures.reads

pub returns-in-Ok-clause-only : goal.returns-in-Ok-clause-only
returns-in-Ok-clause-only c = read_only c.args.text.now (Ok c.in-Ok.prefix) (returns-in-Ok-clause-reads c)

pub returns-in-BadText-clause-reads : goal.returns-in-BadText-clause-reads
returns-in-BadText-clause-reads c =
    as_v6 c.args.text.now (subst (λ w. ReadsAs c.args.text.now (Err w)) c.in-BadText.is c.in-Err.ensures.reads) c.v6_prefix.result c.v6_prefix.ensures

pub returns-in-BadText-clause-only : goal.returns-in-BadText-clause-only
returns-in-BadText-clause-only c = read_only c.args.text.now c.v6_prefix.result (returns-in-BadText-clause-reads c)

pub returns-in_default-clause-reads : goal.returns-in_default-clause-reads
returns-in_default-clause-reads c = other_faults c.args.text.now c.in-Err.fault c.in-Err.ensures.reads c.in_default.not-BadText

pub returns-in_default-clause-only : goal.returns-in_default-clause-only
returns-in_default-clause-only c = read_only c.args.text.now (Err c.in-Err.fault) (returns-in_default-clause-reads c)
