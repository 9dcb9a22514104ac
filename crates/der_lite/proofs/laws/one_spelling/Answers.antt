use Rattle.der_lite.specs.Grammar.{plain}
use Rattle.der_lite.specs.DerReading.{content_at}
use Rattle.der_lite.proofs.GrammarLaws.{one_front}
use Rattle.der_lite.proofs.ContentReads.{exact_plain, plain_once}
use Rattle.der_lite.proofs.laws.one_spelling.Goals as goal

pub returns : goal.returns
returns c = λ tag rules. (plain_once tag rules, one_front (plain tag rules) (content_at tag rules) (exact_plain tag rules))
