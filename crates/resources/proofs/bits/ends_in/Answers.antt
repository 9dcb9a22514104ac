use Rattle.std.proofs.Common.{arith}
use Rattle.der_lite.specs.Values.{bits_value}
use Rattle.der_lite.specs.Cursors.{bits_content}
use Rattle.resources.proofs.BitLaws.{ends_is}
use Rattle.resources.proofs.bits.ends_in.Goals as goal

pub returns-then-count-gt0 : goal.returns-then-count-gt0
returns-then-count-gt0 c = ends_is c.args.bit (bits_value (bits_content c.args.bits)) c.spelled.result (omega (arith, c.if-count-gt0.true, c.count.ensures)) c.spelled.ensures
