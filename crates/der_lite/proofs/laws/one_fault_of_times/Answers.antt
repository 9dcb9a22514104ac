use Rattle.der_lite.specs.Times.{timed, timed_at}
use Rattle.der_lite.proofs.GrammarLaws.{element_fault, element_apart, element_either}
use Rattle.der_lite.proofs.TimeLaws.{exact_timed}
use Rattle.der_lite.proofs.laws.one_fault_of_times.Goals as goal

pub returns : goal.returns
returns c = λ rules p.
    let e = timed rules in
    let read = timed_at rules in
    let x = exact_timed rules in
    (element_fault e read x p, element_apart e read x p, element_either e read x p)
