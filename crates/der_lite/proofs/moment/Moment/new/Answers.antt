use Rattle.std.proofs.Common.{◌<◌, ◌≤◌, ℕ, arith, w8, w16, to_z}
use Rattle.std.proofs.lemmas.Int.{to_z_pos}
use Rattle.der_lite.specs.Moments.{told_moment}
use Rattle.der_lite.proofs.MomentLaws.{AreTold, not_real, civil_real, real_civil}
use Rattle.der_lite.proofs.moment.Moment.new.Goals as goal

-- small numbers keep their value as signed numbers
casts : (year month day hour minute second : ℕ) → year < 10000 → month < 100 → day < 100 → hour < 100 → minute < 100 → second < 100
    → AreTold (told_moment year month day hour minute second) (to_z w16 year) (to_z w8 month) (to_z w8 day) (to_z w8 hour) (to_z w8 minute) (to_z w8 second)
casts year month day hour minute second y m d h n s = record {
  year = to_z_pos w16 year (omega (arith, y));
  month = to_z_pos w8 month (omega (arith, m));
  day = to_z_pos w8 day (omega (arith, d));
  hour = to_z_pos w8 hour (omega (arith, h));
  minute = to_z_pos w8 minute (omega (arith, n));
  second = to_z_pos w8 second (omega (arith, s));
}

pub returns-then-year-lt-FIRST_YEAR : goal.returns-then-year-lt-FIRST_YEAR
returns-then-year-lt-FIRST_YEAR c = not_real (told_moment c.args.year c.args.month c.args.day c.args.hour c.args.minute c.args.second) (λ r. absurd (omega (arith, r.year, c.if-year-lt-FIRST_YEAR.true)))

pub returns-in-Ok : goal.returns-in-Ok
returns-in-Ok c =
    let told_by = casts c.args.year c.args.month c.args.day c.args.hour c.args.minute c.args.second c.requires.year c.requires.month c.requires.day c.requires.hour c.requires.minute c.requires.second in
    let value = c.in-Ok.ensures.value in
    let low : 1970 ≤ c.args.year = omega (arith, c.if-year-lt-FIRST_YEAR.false) in
    civil_real c.in-Ok.civil (told_moment c.args.year c.args.month c.args.day c.args.hour c.args.minute c.args.second) _ _ _ _ _ _ told_by value.0 value.1 low

pub returns-in-Err : goal.returns-in-Err
returns-in-Err c =
    let told_by = casts c.args.year c.args.month c.args.day c.args.hour c.args.minute c.args.second c.requires.year c.requires.month c.requires.day c.requires.hour c.requires.minute c.requires.second in
    let m = told_moment c.args.year c.args.month c.args.day c.args.hour c.args.minute c.args.second in
    not_real m (λ r. let ok = c.in-Err.ensures.succeeds.1 (real_civil m _ _ _ _ _ _ told_by r) in absurd cc)
