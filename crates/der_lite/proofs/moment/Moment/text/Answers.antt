use Rattle.der_lite.proofs.MomentLaws.{text_by_twos}
use Rattle.der_lite.proofs.moment.Moment.text.Goals as goal

pub returns-clause-value : goal.returns-clause-value
returns-clause-value c =
    rw (c.decimals.ensures, c.decimals-2.ensures, c.decimals-3.ensures, c.decimals-4.ensures, c.decimals-5.ensures, c.decimals-6.ensures, c.decimals-7.ensures, c.numbers.ensures.value)
    (text_by_twos c.args.self.now)
