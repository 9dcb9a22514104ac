-- When data are over.
use Rattle.std.specs.Prelude.{◌≡◌, ℕ, ◌+◌, ◌-◌, ◌<◌, ◌≤◌, ◌^◌, Bool, true, false, nat_lt, Some, None, if◌then◌else◌, refl}
use Rattle.std.proofs.Common.{arith, sym, ap, ◌∙◌}
use Rattle.std.proofs.lemmas.Bool.Decides.{nat_tests}
use Rattle.rtr_ends.specs.Transcript.{sum_of}
use Rattle.rtr_ends.proofs.WakeLaws.{never, passes}
use Rattle.upstreams.specs.Upstreams.{ExpiresExactly, is_past, second_after}

abbrev last_moment : ℕ
last_moment = 18446744073709551615

over : (moment expire now : ℕ) → now < 2 ^ 64 → nat_lt expire (now - moment) ≡ is_past (second_after (sum_of moment expire)) now
over moment expire now fits = by_sum (nat_lt last_moment (moment + expire)) refl
  where
    none : 2 ^ 64 ≤ moment + expire + 1 → nat_lt expire (now - moment) ≡ false
    none late = never expire moment now fits late

    by_last : (b : Bool) → nat_lt (moment + expire) last_moment ≡ b → nat_lt expire (now - moment) ≡ is_past (second_after (moment + expire)) now
    by_last true is = passes expire moment (moment + expire + 1) now refl ∙ ap (λ b. is_past (if b then Some (moment + expire + 1) else None) now) (sym is)
    by_last false is = none (let late : last_moment ≤ moment + expire = grind (arith, nat_tests) in omega (arith, late)) ∙ ap (λ b. is_past (if b then Some (moment + expire + 1) else None) now) (sym is)

    by_sum : (b : Bool) → nat_lt last_moment (moment + expire) ≡ b → nat_lt expire (now - moment) ≡ is_past (second_after (sum_of moment expire)) now
    by_sum true is = none (let late : last_moment < moment + expire = grind (arith, nat_tests) in omega (arith, late)) ∙ ap (λ b. is_past (second_after (if b then last_moment else moment + expire)) now) (sym is)
    by_sum false is = by_last (nat_lt (moment + expire) last_moment) refl ∙ ap (λ b. is_past (second_after (if b then last_moment else moment + expire)) now) (sym is)

pub expires_exactly : ExpiresExactly
expires_exactly version now fits = over version.moment version.intervals.expire now fits
