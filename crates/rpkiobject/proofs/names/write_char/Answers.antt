use Rattle.std.proofs.Common.{arith}
use Rattle.rpkiobject.specs.Names.{escaped}
use Rattle.rpkiobject.proofs.NameLaws.{escaped_other}
use Rattle.rpkiobject.proofs.names.write_char.Goals as goal

pub returns-then-character-eq34 : goal.returns-then-character-eq34
unfolding escaped
returns-then-character-eq34 g c = rw c.if-character-eq34.true c.write_all.ensures.bytes

pub returns-then-character-eq92 : goal.returns-then-character-eq92
unfolding escaped
returns-then-character-eq92 g c = rw c.if-character-eq92.true c.write_all-then-character-eq92.ensures.bytes

pub returns : goal.returns
returns g c =
    rw (escaped_other c.args.character (λ e. omega (arith, e, c.if-character-eq34.false)) (λ e. omega (arith, e, c.if-character-eq92.false))) c.write_visible.ensures
