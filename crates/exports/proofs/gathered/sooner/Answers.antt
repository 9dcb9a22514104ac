use Rattle.std.proofs.Common.{subst}
use Rattle.exports.specs.Until.{IsFirst}
use Rattle.exports.proofs.Ends.{first_of_both}
use Rattle.exports.proofs.gathered.sooner.Goals as goal

pub returns-in-Some-Some : goal.returns-in-Some-Some
returns-in-Some-Some c ts us h k =
    first_of_both ts us c.in-Some-Some.first c.in-Some-Some.second c.min.result c.min.ensures (subst (λ o. IsFirst ts o) c.in-Some-Some.is-0 h) (subst (λ o. IsFirst us o) c.in-Some-Some.is-1 k)
