use Rattle.std.proofs.Common.{refl}
use Rattle.std.proofs.lemmas.Str.{IsUtf8-from_ascii}
use Rattle.der_lite.proofs.Texts.{ia5_from_ascii, not_ia5}
use Rattle.der_lite.proofs.content.ia5_text.Goals as goal

pub returns-then-not-is_ascii : goal.returns-then-not-is_ascii
returns-then-not-is_ascii c = rw (not_ia5 c.args.content.now c.if-not-is_ascii.ensures.cases.0 c.if-not-is_ascii.ensures.cases.1) refl

pub returns-in-Ok : goal.returns-in-Ok
returns-in-Ok c = rw (c.in-Ok.ensures.cases.0, ia5_from_ascii c.args.content.now c.if-not-is_ascii.ensures.cases) refl

pub returns-in-Err : goal.returns-in-Err
returns-in-Err c = absurd (c.in-Err.ensures.cases.0 (IsUtf8-from_ascii c.args.content.now c.if-not-is_ascii.ensures.cases))
