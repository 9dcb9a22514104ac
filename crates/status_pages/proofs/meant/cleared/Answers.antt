use Rattle.std.proofs.Common.{◌≡◌, ℕ, ◌-◌, ◌<◌, ◌≤◌, ◌%◌, ◌^◌, arith}
use Rattle.std.proofs.Math.Nat.{mod-eq_of_lt}
use Rattle.std.proofs.Math.Pow.{pow_mono}
use Rattle.status_pages.proofs.meant.cleared.Goals as goal

all_cleared : (a n : ℕ) → a < 2 ^ 128 → 128 ≤ n → 0 ≡ a - a % 2 ^ n
all_cleared a n fits wide =
    let most : 2 ^ 128 ≤ 2 ^ n = pow_mono wide in
    let same : a % 2 ^ n ≡ a = mod-eq_of_lt (omega (arith, fits, most)) in
    omega (arith, same)

pub returns-then-host-ge128 : goal.returns-then-host-ge128
returns-then-host-ge128 c =
    all_cleared c.args.address (c.args.width - c.args.len) (omega (arith, c.ranges.address.fits)) (omega (arith, c.saturating_sub-host.ensures, c.if-host-ge128.true))
