-- Numbers on a command line, worked out.
use Rattle.std.specs.Prelude.{codes, [], None, Some}
use Rattle.std.proofs.Common.{lit<, refl, arith}
use Rattle.rpkirtrd_cli.specs.Decimals.{ReadsNumber}

nothing_but_zero : ReadsNumber (codes "0") (Some 0)
nothing_but_zero = record { digits = (lit< tt, (lit< tt, tt)); no_zero_first = λ e. refl; value = refl }

the_most_versions : ReadsNumber (codes "65536") (Some 65536)
the_most_versions = record { digits = (lit< tt, (lit< tt, (lit< tt, (lit< tt, (lit< tt, (lit< tt, tt)))))); no_zero_first = λ e. absurd (omega (arith, e)); value = refl }

zero_in_front : ReadsNumber (codes "016") None
zero_in_front = λ n small w. absurd (omega (arith, w.no_zero_first refl))

plus_in_front : ReadsNumber (codes "+16") None
plus_in_front = λ n small w. absurd (omega (arith, w.digits.1.0))

minus_in_front : ReadsNumber (codes "-1") None
minus_in_front = λ n small w. absurd (omega (arith, w.digits.1.0))

no_digit : ReadsNumber [] None
no_digit = λ n small w. absurd (omega (arith, w.digits.0))
