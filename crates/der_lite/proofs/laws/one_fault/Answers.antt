use Rattle.der_lite.specs.Grammar.{plain}
use Rattle.der_lite.specs.DerReading.{content_at}
use Rattle.der_lite.proofs.GrammarLaws.{element_fault, element_apart, element_either}
use Rattle.der_lite.proofs.ContentReads.{exact_plain}
use Rattle.der_lite.proofs.laws.one_fault.Goals as goal

pub returns : goal.returns
returns c = λ tag rules p.
    let e = plain tag rules in
    let read = content_at tag rules in
    let x = exact_plain tag rules in
    (element_fault e read x p, element_apart e read x p, element_either e read x p)
