use Rattle.std.proofs.Common.{arith, lit≤}
use Rattle.std.proofs.lemmas.Str.Pattern.{contains_char}
use Rattle.prefixes.proofs.Addresses.{v6_read, v6_missed, v6_lacks}
use Rattle.prefixes.proofs.Lacks.{at_each, from_each}
use Rattle.prefixes.proofs.text.v6_number.Goals as goal

pub returns-then-contains : goal.returns-then-contains
returns-then-contains c n small h =
    let found = (contains_char 46 c.args.text.now c.contains.result c.contains.ensures.cases (omega arith)).0 c.if-contains.true in
    at_each 46 c.args.text.now (v6_lacks 46 n c.args.text.now (lit≤ tt) (omega arith) h) found.0 found.1 found.2

pub returns-in-Ok : goal.returns-in-Ok
returns-in-Ok c =
    let finds = (contains_char 46 c.args.text.now c.contains.result c.contains.ensures.cases (omega arith)).1 in
    let bare = from_each 46 c.args.text.now (λ i within is. let found = finds i within is in cc) in
    v6_read c.args.text.now c.in-Ok.address c.to_bits.result c.in-Ok.ensures.value bare c.to_bits.ensures

pub returns-in-Err : goal.returns-in-Err
returns-in-Err c = v6_missed c.args.text.now c.in-Err.ensures.value
