use Rattle.der_lite.specs.Grammar.{plain}
use Rattle.der_lite.specs.DerReading.{content_at}
use Rattle.der_lite.proofs.GrammarLaws.{stands_read, read_stands}
use Rattle.der_lite.proofs.ContentReads.{exact_plain}
use Rattle.der_lite.proofs.laws.reads_exactly.Goals as goal

pub returns : goal.returns
returns c = λ tag rules p bytes.
    let x = exact_plain tag rules in (
      λ content q. (read_stands (plain tag rules) (content_at tag rules) x p content q bytes, stands_read (plain tag rules) (content_at tag rules) x p content q),
      λ fault. (x.faults p fault bytes, x.refuses p fault),
    )
