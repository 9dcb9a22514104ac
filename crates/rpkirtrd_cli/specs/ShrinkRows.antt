-- The options of the guard against an export that shrinks, worked out.
use Rattle.std.specs.Prelude.{⊤, codes, [], None, Some, Ok, Err}
use Rattle.std.proofs.Common.{lit<, lit≤, refl, ap, length, arith}
use Rattle.rpkirtrd_cli.specs.Shrinks.{ReadsMaxShrink, ReadsShrinkHold}

not_given : ReadsMaxShrink {E = ⊤} None (Ok (Some 90))
not_given = refl

least_percentage : ReadsMaxShrink {E = ⊤} (Some (codes "1")) (Ok (Some 1))
least_percentage = (record { digits = (lit< tt, (lit< tt, tt)); no_zero_first = λ e. refl; value = refl }, lit≤ tt, lit≤ tt)

most_percentage : ReadsMaxShrink {E = ⊤} (Some (codes "99")) (Ok (Some 99))
most_percentage = (record { digits = (lit< tt, (lit< tt, (lit< tt, tt))); no_zero_first = λ e. absurd (omega (arith, e)); value = refl }, lit≤ tt, lit≤ tt)

no_percentage : ReadsMaxShrink {E = ⊤} (Some (codes "none")) (Ok None)
no_percentage = refl

zero : ReadsMaxShrink {E = ⊤} (Some (codes "0")) (Err tt)
zero = (λ e. absurd (omega (arith, ap length e)), λ n low high w. absurd (omega (arith, w.value, low)))

all_of_them : ReadsMaxShrink {E = ⊤} (Some (codes "100")) (Err tt)
all_of_them = (λ e. absurd (omega (arith, ap length e)), λ n low high w. absurd (omega (arith, w.value, high)))

with_a_sign : ReadsMaxShrink {E = ⊤} (Some (codes "90%")) (Err tt)
with_a_sign = (λ e. absurd (omega (arith, ap length e)), λ n low high w. absurd (omega (arith, w.digits.1.1.1.0)))

blank : ReadsMaxShrink {E = ⊤} (Some []) (Err tt)
blank = (λ e. absurd (omega (arith, ap length e)), λ n low high w. absurd (omega (arith, w.digits.0)))

a_day : ReadsShrinkHold {E = ⊤} None (Ok 86400)
a_day = refl

a_minute : ReadsShrinkHold {E = ⊤} (Some (codes "60")) (Ok 60)
a_minute = (record { digits = (lit< tt, (lit< tt, (lit< tt, tt))); no_zero_first = λ e. absurd (omega (arith, e)); value = refl }, lit≤ tt, lit≤ tt)

less_than_a_minute : ReadsShrinkHold {E = ⊤} (Some (codes "59")) (Err tt)
less_than_a_minute = λ n low high w. absurd (omega (arith, w.value, low))

more_than_a_year : ReadsShrinkHold {E = ⊤} (Some (codes "31536001")) (Err tt)
more_than_a_year = λ n low high w. absurd (omega (arith, w.value, high))
