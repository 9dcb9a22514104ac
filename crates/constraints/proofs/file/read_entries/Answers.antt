use Rattle.std.proofs.Common.{arith}
use Rattle.std.specs.Str.Lines.{lines}
use Rattle.std.proofs.lemmas.Result.{err_from_is_err_and}
use Rattle.constraints.proofs.FileLaws.{read_on, read_all, file_wrong}
use Rattle.constraints.proofs.file.read_entries.Goals as goal

pub returns-in_err-take_line : goal.returns-in_err-take_line
returns-in_err-take_line c =
    let l = c.loop-line in
    let next = c.in-Some.line in
    let p = err_from_is_err_and c.from_residual.result c.from_residual.ensures.1 in
    rw (p.1, p.2) (file_wrong c.args.bytes.now l.entries.items c.take_line.new.entries.items l.number next.text.now (lines l.rest.now) (lines next.rest.now) c.in_err-take_line.field-0.0
    l.invariant.read c.in-Some.ensures.0 c.in_err-take_line.ensures)

pub loop-line-preserved : goal.loop-line-preserved
loop-line-preserved c =
    let l = c.loop-line in
    let next = c.in-Some.line in
    let taken = c.in_ok-take_line.ensures in
    record {
      read = read_on (lines c.args.bytes.now) l.entries.items c.take_line.new.entries.items l.number next.text.now (lines l.rest.now) (lines next.rest.now) taken.0
          l.invariant.read c.in-Some.ensures.0 taken.1 taken.2;
      counted = omega (arith, l.invariant.counted, c.in-Some.ensures.1);
    }

pub returns : goal.returns
returns c =
    let l = c.loop-line in
    read_all (lines c.args.bytes.now) l.entries.items l.number (lines l.rest.now) l.invariant.read c.in_default.ensures
