use Rattle.std.proofs.Common.{ℕ, List, Option, length, ap, arith}
use Rattle.signed_objects.proofs.Going.{head_shorter}
use Rattle.signed_objects.proofs.ber_head.read_head.Goals as goal

pub overflow_sub-count : goal.overflow_sub-count
overflow_sub-count c =
    let head : ℕ × Option ℕ = (c.in_ok-tag.tag, c.in_ok-tag.length) in
    let less = head_shorter c.args.form c.args.element c.args.cursor.now head c.tag_and_length.new.cursor c.in_ok-tag.ensures in
    omega (arith, less, ap (λ (l : List ℕ). length l) c.remaining.ensures, ap (λ (l : List ℕ). length l) c.remaining-here.ensures)
