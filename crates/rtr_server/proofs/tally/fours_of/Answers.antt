use Rattle.std.proofs.Common.{◌≡◌, ◌∙◌, ◌+◌, ◌*◌, ap, arith, length, sym}
use Rattle.std.proofs.lemmas.List.{length-drop}
use Rattle.rtr_server.specs.Counting.{and_many, counted_on}
use Rattle.rtr_server.specs.Runs.{type_in}
use Rattle.rtr_server.proofs.CountingLaws as laws
use Rattle.rtr_server.proofs.tally.fours_of.Goals as goal

pub loop-rest-preserved : goal.loop-rest-preserved
loop-rest-preserved c =
    let yes = c.loop-rest-test.true in
    let is = c.are_four.ensures in
    let fits = is.fits yes in
    let whole = laws.behind (4 * c.args.len) c.loop-rest.rest.now in
    let l = ap (λ x. length x) whole in
    let k = length-drop (4 * c.args.len) c.loop-rest.rest.now in record {
      passes = λ n x.
          let more : n + c.loop-rest.count + 4 ≡ n + (c.loop-rest.count + 4) = omega arith in
          c.loop-rest.invariant.passes n x
          ∙ laws.passes_four c.loop-rest.rest.now c.args.head c.args.len (n + c.loop-rest.count) x c.requires.told c.requires.kind fits (is.first yes) (is.second yes) (is.third yes) (is.fourth yes)
          ∙ (λ i. counted_on (and_many (more i) (type_in c.args.head) x) (sym whole i));
      few = omega (arith, l, k, fits, c.requires.told, c.loop-rest.invariant.few);
    }
