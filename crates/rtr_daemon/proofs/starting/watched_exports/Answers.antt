use Rattle.std.proofs.Common.{◌≡◌, arith, length, subst, sym}
use Rattle.std.proofs.lemmas.Grind.{common_steps}
use Rattle.rtr_daemon.specs.Files.{AreNumbered}
use Rattle.rtr_daemon.proofs.ContentLaws.{numbered_more}
use Rattle.rtr_daemon.proofs.starting.watched_exports.Goals as goal

pub loop-path-preserved : goal.loop-path-preserved
loop-path-preserved c =
    let number = c.new.ensures.number in
    let count = c.len-number.ensures in
    let placed : c.new.result.number ≡ length c.loop-path.exports.items = omega (arith, number, count, c.loop-path.exports.ok.0) in
    record {
      numbered = subst AreNumbered (sym c.in_ok-push.ensures.items) (numbered_more c.loop-path.exports.items c.new.result c.loop-path.invariant.numbered placed);
      paths = grind (arith, common_steps);
    }
