use Rattle.std.proofs.Common.{◌≡◌, ◌∙◌, is_ok, true, false, ap, sym}
use Rattle.vrps.proofs.Searching.{has_searched}
use Rattle.exports.proofs.Lasts.{found_at}
use Rattle.exports.proofs.lasting.place_of.Goals as goal

pub returns-in-Ok : goal.returns-in-Ok
returns-in-Ok c = found_at c.args.members.now c.in-Ok.place c.args.vrp.now c.in-Ok.ensures.bound c.in-Ok.ensures.ok

pub returns-in-Err : goal.returns-in-Err
returns-in-Err c =
    let no : false ≡ true =
    ap is_ok (sym c.in-Err.is) ∙ has_searched c.args.members.now c.args.vrp.now c.requires.ascends c.binary_search.result c.binary_search.ensures.bound c.binary_search.ensures.position ∙ c.requires.member in
    absurd (cc)
