use Rattle.std.proofs.Common.{◌≡◌, None, true, false, sym, ap, ◌∙◌}
use Rattle.der_lite.specs.Moments.{if_real, moment_in}
use Rattle.der_lite.proofs.MomentLaws.{not_zone, zone_is, not_digits, read_digits, told_digits, found_real, found_says}
use Rattle.der_lite.proofs.moment.Moment.from_text.Goals.{then-digits-ne-DIGITS-via-then-digits-ne-DIGITS, then-digits-ne-DIGITS-via-else-digits-ne-DIGITS+then-not-are_digits}
use Rattle.der_lite.proofs.moment.Moment.from_text.Goals as goal

pub returns-in_err-digits-clause-value : goal.returns-in_err-digits-clause-value
returns-in_err-digits-clause-value c = c.from_residual.ensures ∙ not_zone c.args.text.now c.in_err-digits.ensures.cases

pub returns-then-digits-ne-DIGITS-clause-value : goal.returns-then-digits-ne-DIGITS-clause-value
returns-then-digits-ne-DIGITS-clause-value c =
    let digits = c.in_ok-digits.digits.now in
    let zone = zone_is c.args.text.now digits c.in_ok-digits.ensures.cases.0 c.in_ok-digits.ensures.cases.1 in
    not_digits digits (λ len h. elim c.then-digits-ne-DIGITS.branch [
      | then-digits-ne-DIGITS-via-then-digits-ne-DIGITS w ↦ absurd (w.if-digits-ne-DIGITS.true len)
      | then-digits-ne-DIGITS-via-else-digits-ne-DIGITS+then-not-are_digits w ↦ (let no : false ≡ true = w.if-not-are_digits.ensures ∙ h in absurd cc)
    ]) ∙ ap moment_in (sym zone)

pub returns-clause-value : goal.returns-clause-value
returns-clause-value c =
    let digits = c.in_ok-digits.digits.now in
    let zone = zone_is c.args.text.now digits c.in_ok-digits.ensures.cases.0 c.in_ok-digits.ensures.cases.1 in
    let same = told_digits digits _ _ _ _ _ _ c.four_digits.ensures.value c.two_digits.ensures.value c.two_digits-2.ensures.value c.two_digits-3.ensures.value c.two_digits-4.ensures.value c.two_digits-5.ensures.value in
    c.new.ensures ∙ ap if_real same ∙ sym (read_digits digits c.if-digits-ne-DIGITS.false (sym c.are_digits.ensures ∙ c.if-not-are_digits.false)) ∙ ap moment_in (sym zone)

pub returns-clause-real : goal.returns-clause-real
returns-clause-real c = found_real c.args.text.now c.new.result (returns-clause-value c)

pub returns-in_err-digits-clause-says : goal.returns-in_err-digits-clause-says
returns-in_err-digits-clause-says c = found_says c.args.text.now c.from_residual.result (returns-in_err-digits-clause-value c)

pub returns-then-digits-ne-DIGITS-clause-says : goal.returns-then-digits-ne-DIGITS-clause-says
returns-then-digits-ne-DIGITS-clause-says c = found_says c.args.text.now None (returns-then-digits-ne-DIGITS-clause-value c)

pub returns-clause-says : goal.returns-clause-says
returns-clause-says c = found_says c.args.text.now c.new.result (returns-clause-value c)
