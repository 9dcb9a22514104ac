use Rattle.std.proofs.Common.{◌≡◌, Option, sym, ap, ◌∙◌, subst}
use Rattle.der_lite.specs.Moments.{CivilMoment, moment_in, IsMomentOf}
use Rattle.der_lite.proofs.MomentLaws.{says}
use Rattle.der_lite.proofs.moment.Moment.parse.Goals as goal

pub returns : goal.returns
returns c =
    let e : c.from_text.result ≡ moment_in c.args.text.now = c.from_text.ensures.value ∙ ap moment_in c.as_bytes.ensures.value in
    subst (λ (m : Option CivilMoment). IsMomentOf c.args.text.now m) (sym e) (says c.args.text.now)
