use Rattle.std.proofs.Common.{sym, subst}
use Rattle.serde_json.specs.Data.{put}
use Rattle.exports.specs.PlainForm.{IsMetadata}
use Rattle.exports.proofs.PlainParts.{told_buildtime, told_generated, told_other}
use Rattle.exports.proofs.streaming.with_detail.Goals as goal

pub returns-in-generated : goal.returns-in-generated
returns-in-generated c ms d is scalar =
    subst (λ k. IsMetadata (put k d ms) (record c.args.metadata { generated = c.args.scalar.number })) (sym c.in-generated.is) (told_generated ms d c.args.metadata c.args.scalar is scalar)

pub returns-in-buildtime : goal.returns-in-buildtime
returns-in-buildtime c ms d is scalar =
    subst (λ k. IsMetadata (put k d ms) (record c.args.metadata { buildtime = c.args.scalar.text })) (sym c.in-buildtime.is) (told_buildtime ms d c.args.metadata c.args.scalar is scalar)

pub returns-in_default : goal.returns-in_default
returns-in_default c ms d is scalar = told_other c.args.name.now ms d c.args.metadata c.in_default.not-generated c.in_default.not-buildtime is
