use Rattle.resource_certificates.proofs.Texts.{ascii_is}
use Rattle.resource_certificates.proofs.name.is_ascii.Goals as goal

pub returns : goal.returns
returns c = ascii_is c.is_ascii.result c.args.content.now c.is_ascii.ensures.cases
