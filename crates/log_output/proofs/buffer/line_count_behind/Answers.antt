use Rattle.std.proofs.Common.{◌≤◌, length, arith, ap, ◌∙◌}
use Rattle.std.proofs.lemmas.List.{take_rest}
use Rattle.log_output.specs.Buffers.{lines_in}
use Rattle.log_output.proofs.Chunks.{lines_in_back, lines_in_both}
use Rattle.log_output.proofs.buffer.line_count_behind.Goals as goal

pub returns-then-count-front : goal.returns-then-count-front
returns-then-count-front c =
    let front = c.args.front.now in
    let rest = ap (λ l. lines_in l) (take_rest front c.args.count) in
    omega (arith, c.line_count.ensures, rest, c.line_count-then-count-front.ensures, lines_in_both c.args.count front c.args.back.now c.if-count-front.true)

pub returns : goal.returns
returns c =
    let front = c.args.front.now in
    let back = c.args.back.now in
    let past : length front ≤ c.args.count = omega (arith, c.if-count-front.false) in
    c.line_count-2.ensures ∙ ap (λ l. lines_in l) (take_rest back _) ∙ lines_in_back c.args.count front back past
