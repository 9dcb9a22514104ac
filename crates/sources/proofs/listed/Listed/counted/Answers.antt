use Rattle.std.proofs.Common.{◌∙◌, ap, sym}
use Rattle.sources.specs.Served.{is_any_before}
use Rattle.sources.proofs.Counts.{whole_set}
use Rattle.sources.proofs.listed.Listed.counted.Goals as goal

pub returns-clause-ok : goal.returns-clause-ok
returns-clause-ok c =
    c.in_ok-duplicate.ensures
    ∙ whole_set c.args.now c.args.self.now (ap (λ lasts. is_any_before c.args.now lasts) (sym c.as_slice-lasts.ensures.value) ∙ sym c.is_any_before.ensures ∙ c.if-is_any_before.false)
