use Rattle.std.proofs.Common.{[]}
use Rattle.der_lite.specs.DerReading.{time_at}
use Rattle.der_lite.specs.Times.{timed}
use Rattle.der_lite.proofs.GrammarLaws.{stands_read, read_stands}
use Rattle.der_lite.proofs.TimeLaws.{exact_time}
use Rattle.der_lite.proofs.laws.reads_times_exactly.Goals as goal

pub returns : goal.returns
returns c = λ p bytes. (
  λ m q. (read_stands (timed (λ m. [])) time_at exact_time p m q bytes, stands_read (timed (λ m. [])) time_at exact_time p m q),
  λ fault. (exact_time.faults p fault bytes, exact_time.refuses p fault),
)
