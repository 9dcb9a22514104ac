use Rattle.std.proofs.Common.{ℕ, List, length, ap, arith}
use Rattle.der_lite.proofs.FieldLaws.{element_shorter}
use Rattle.ccr.proofs.vrp_lists.payload_list.Goals as goal

pub slice_bounds-result-count : goal.slice_bounds-result-count
slice_bounds-result-count c =
    let less = element_shorter 48 c.args.cursor.now c.in_ok-members.members c.sequence.new.self c.in_ok-members.ensures in
    omega (arith, less, ap (λ (l : List ℕ). length l) c.remaining.ensures, ap (λ (l : List ℕ). length l) c.remaining-here.ensures)
