use Rattle.std.proofs.Common.{◌∙◌}
use Rattle.slurm.specs.Telling.{number_text, place}
use Rattle.json_texts.proofs.ThreeParts.{with_place}
use Rattle.slurm.proofs.telling.fault_text.Goals as goal

pub returns : goal.returns
returns c =
    with_place (place c.args.fault) c.as_str.result.now c.as_str-2.result.now (number_text c.args.fault) c.joined.result (c.as_str.ensures.value ∙ c.in_ok-place.ensures) c.joined.ensures
