use Rattle.std.proofs.Common.{arith}
use Rattle.rtr_server.proofs.pieces.hand_piece.Goals as goal

pub returns-clause-bytes : goal.returns-clause-bytes
returns-clause-bytes g c = λ i. omega (arith, c.type_inv.piece i)
