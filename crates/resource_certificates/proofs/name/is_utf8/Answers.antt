use Rattle.std.proofs.Common.{◌∙◌}
use Rattle.resource_certificates.proofs.Texts.{utf8_is}
use Rattle.resource_certificates.proofs.name.is_utf8.Goals as goal

pub returns : goal.returns
returns c = c.is_ok.ensures.value ∙ utf8_is _ _ c.args.content.now c.from_utf8.result c.from_utf8.ensures.cases
