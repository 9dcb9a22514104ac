use Rattle.std.proofs.Common.{◌≡◌, ◌≢◌, sym, arith, length, get_or}
use Rattle.der_lite.proofs.Integers.{too_large}
use Rattle.der_lite.proofs.content.unsigned.Goals as goal
use Rattle.der_lite.proofs.content.unsigned.Goals.{else-first-eq0-via-then-first-eq0+else-digits-eq4, else-first-eq0-via-else-first-eq0}

pub returns-else-first-eq0 : goal.returns-else-first-eq0
returns-else-first-eq0 c =
    let not_five : get_or c.args.content.now 0 0 ≡ 0 → length c.args.content.now ≢ 5 =
    elim c.else-first-eq0.branch [
      | else-first-eq0-via-then-first-eq0+else-digits-eq4 w ↦ λ z l. absurd (omega arith)
      | else-first-eq0-via-else-first-eq0 w ↦ λ z l. absurd (omega arith)
    ] in
    sym (too_large c.args.content.now c.requires (omega arith) not_five)
