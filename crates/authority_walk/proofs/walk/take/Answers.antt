use Rattle.std.proofs.lemmas.Result.{err_from_is_err_and}
use Rattle.std.specs.List.{Contains}
use Rattle.authority_walk.specs.Walks.{Has, SetHas}
use Rattle.authority_walk.proofs.Standing.{taken, kept}
use Rattle.authority_walk.proofs.Walking.{again}
use Rattle.authority_walk.proofs.walk.take.Goals as goal

pub returns-then-is_visited-clause-taken : goal.returns-then-is_visited-clause-taken
returns-then-is_visited-clause-taken g c =
    let value = g.R.Reader.value in
    let walk = c.args.walk.now in
    again (g.R.Reader.hierarchy (g.R.Reader.files c.args.reader.now)) walk.depth (value c.args.by) (SetHas g.R.Authority.Ord.cmp value walk.visited) (Has value walk.waiting.items) (Has value walk.below.items) (Contains walk.vrps.items)
    (c.is_visited.ensures.0 c.if-is_visited.true) c.requires.right

pub returns-in_ok-add-in-Ok-Some-clause-taken : goal.returns-in_ok-add-in-Ok-Some-clause-taken
returns-in_ok-add-in-Ok-Some-clause-taken g c =
    let h = g.R.Reader.hierarchy (g.R.Reader.files c.args.reader.now) in
    let e = c.in_ok-add-in-Ok-Some.ensures in
    let issued = rw c.in-Ok-Some.field-0-is at c.in-Ok-Some.ensures.issued in
    let vrps = rw c.in-Ok-Some.field-0-is at c.in-Ok-Some.ensures.vrps in
    taken g.R.Authority.Ord.cmp g.R.Reader.value h (g.R.Reader.value c.args.by) c.args.walk.now c.add.new.walk c.in-Ok-Some.found.issued.items c.in-Ok-Some.found.vrps.items
    e.visited e.below e.vrps c.add.ensures.waiting c.add.ensures.depth issued vrps c.requires.right

pub returns-in_err-add-in-Ok-Some-clause-err : goal.returns-in_err-add-in-Ok-Some-clause-err
returns-in_err-add-in-Ok-Some-clause-err g c =
    let h = g.R.Reader.hierarchy (g.R.Reader.files c.args.reader.now) in
    let e = c.in_err-add-in-Ok-Some.ensures in
    let p = err_from_is_err_and c.from_residual.result c.from_residual.ensures.1 in
    rw p.1 (kept g.R.Authority.Ord.cmp g.R.Reader.value h (g.R.Reader.value c.args.by) c.args.walk.now c.add.new.walk e.err e.below e.vrps c.add.ensures.waiting c.add.ensures.depth c.requires.right)
