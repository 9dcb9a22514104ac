use Rattle.std.proofs.Common.{subst}
use Rattle.std.specs.Prelude.{IfErr, IfOk, ◌≡◌, ◌≤◌}
use Rattle.vrps.specs.VrpSet.{set_of, size}
use Rattle.exports.specs.Gathering.{SetFails}
use Rattle.exports.proofs.lasting.set_of_copy.Goals as goal

pub returns-clause-ok : goal.returns-clause-ok
returns-clause-ok c =
    subst (λ vs. IfOk c.set_from.result (λ s. (s ≡ set_of vs) × (size s ≤ 16777215))) (c.in_ok-to_vec.ensures.items_if_clones_equal (λ x y h. h)) c.set_from.ensures.ok

pub returns-clause-fault : goal.returns-clause-fault
returns-clause-fault c =
    subst (λ vs. IfErr c.set_from.result (λ fault. SetFails vs fault)) (c.in_ok-to_vec.ensures.items_if_clones_equal (λ x y h. h)) c.set_from.ensures.fault
