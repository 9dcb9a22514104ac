use Rattle.std.proofs.Common.{◌≡◌, ◌+◌, ◌<◌, ◌≤◌, suc, length, drop, arith, ap, sym, ◌∙◌}
use Rattle.std.proofs.lemmas.List.{drop_all}
use Rattle.log_output.specs.Buffers.{line_length}
use Rattle.log_output.proofs.Torn.{line_ends, line_more}
use Rattle.log_output.proofs.buffer.LogBuffer.line_length.Goals as goal

pub loop-at-init : goal.loop-at-init
loop-at-init c = omega arith

pub returns-then-is_newline : goal.returns-then-is_newline
returns-then-is_newline c =
    let bytes = c.args.self.now.bytes in
    let within : c.loop-at.at < length bytes = omega (arith, c.loop-at-test.true, c.len-at-end.ensures) in
    omega (arith, c.loop-at.invariant, line_ends bytes c.loop-at.at within (sym c.is_newline.ensures ∙ c.if-is_newline.true))

pub loop-at-preserved : goal.loop-at-preserved
loop-at-preserved c =
    let bytes = c.args.self.now.bytes in
    let at = c.loop-at.at in
    let within : at < length bytes = omega (arith, c.loop-at-test.true, c.len-at-end.ensures) in
    let next : suc at ≡ at + 1 = omega arith in
    omega (
      arith,
      c.loop-at.invariant,
      line_more bytes at within (sym c.is_newline.ensures ∙ c.if-is_newline.false),
      ap (λ k. line_length (drop k bytes)) next,
    )

pub returns : goal.returns
returns c =
    let bytes = c.args.self.now.bytes in
    let all : length bytes ≤ c.loop-at.at = omega (arith, c.loop-at-test.false, c.len-at-end.ensures) in
    let none = ap (λ l. line_length l) (drop_all c.loop-at.at bytes all) in
    omega (arith, c.loop-at.invariant, none, c.len.ensures, c.len-at-end.ensures, c.loop-at.auto.at-end)
