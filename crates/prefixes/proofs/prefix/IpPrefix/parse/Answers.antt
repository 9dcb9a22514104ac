use Rattle.std.proofs.Common.{arith}
use Rattle.std.proofs.lemmas.Result.{err_from_is_err_and}
use Rattle.prefixes.specs.Address.{Block}
use Rattle.prefixes.specs.declared.prefix.IpPrefix.TheVariants.{V4, V6}
use Rattle.prefixes.proofs.Spelling.{first_slash, read_only, not_split, no_length, four_digits, no_address, parts_say, reads_v4, reads_v6, refuses}
use Rattle.prefixes.proofs.prefix.IpPrefix.parse.Goals as goal

pub returns-in_default-clause-reads : goal.returns-in_default-clause-reads
returns-in_default-clause-reads c = not_split c.args.text.now c.split_once.result c.split_once.ensures.cases c.in_default.is

pub returns-in_default-number-clause-reads : goal.returns-in_default-number-clause-reads
returns-in_default-number-clause-reads c =
    let cut = first_slash c.args.text.now c.split_once.result c.split_once.ensures.cases c.in-Some.address c.in-Some.length c.in-Some.is in
    no_length c.args.text.now c.in-Some.address.now c.in-Some.length.now cut c.in_default-number.ensures

pub returns-then-len-ge1000-clause-reads : goal.returns-then-len-ge1000-clause-reads
returns-then-len-ge1000-clause-reads c =
    let cut = first_slash c.args.text.now c.split_once.result c.split_once.ensures.cases c.in-Some.address c.in-Some.length c.in-Some.is in
    let len = c.in-Some-number.ensures in
    four_digits c.args.text.now c.in-Some.address.now c.in-Some.length.now c.in-Some-number.len cut len.0 len.1 c.if-len-ge1000.true

pub returns-in_err-judged-clause-reads : goal.returns-in_err-judged-clause-reads
returns-in_err-judged-clause-reads c =
    let cut = first_slash c.args.text.now c.split_once.result c.split_once.ensures.cases c.in-Some.address c.in-Some.length c.in-Some.is in
    let p = V4 (record { addr = c.in-Some-v4_number.addr; len = c.in-Some-number.len }) in
    let says = parts_say p c.args.text.now c.in-Some.address.now c.in-Some.length.now cut c.in-Some-v4_number.ensures (omega arith) c.in-Some-number.ensures.1 in
    let fault = err_from_is_err_and c.from_residual.result c.from_residual.ensures.1 in
    rw (fault.1, fault.2) (refuses c.args.text.now p c.in_err-judged.field-0.0 says c.in_err-judged.ensures)

pub returns-in-Some-v4_number-clause-reads : goal.returns-in-Some-v4_number-clause-reads
returns-in-Some-v4_number-clause-reads c =
    let cut = first_slash c.args.text.now c.split_once.result c.split_once.ensures.cases c.in-Some.address c.in-Some.length c.in-Some.is in
    let p : Block = record { addr = c.in-Some-v4_number.addr; len = c.in-Some-number.len } in
    let says = parts_say (V4 p) c.args.text.now c.in-Some.address.now c.in-Some.length.now cut c.in-Some-v4_number.ensures (omega arith) c.in-Some-number.ensures.1 in
    reads_v4 c.args.text.now p c.judged.result says c.judged.ensures c.in_ok-judged.field-0 c.in_ok-judged.was

pub returns-in_default-v6_number-clause-reads : goal.returns-in_default-v6_number-clause-reads
returns-in_default-v6_number-clause-reads c =
    let cut = first_slash c.args.text.now c.split_once.result c.split_once.ensures.cases c.in-Some.address c.in-Some.length c.in-Some.is in
    no_address c.args.text.now c.in-Some.address.now c.in-Some.length.now cut c.in_default-v4_number.ensures c.in_default-v6_number.ensures

pub returns-in_err-judged-2-clause-reads : goal.returns-in_err-judged-2-clause-reads
returns-in_err-judged-2-clause-reads c =
    let cut = first_slash c.args.text.now c.split_once.result c.split_once.ensures.cases c.in-Some.address c.in-Some.length c.in-Some.is in
    let p = V6 (record { addr = c.in-Some-v6_number.addr; len = c.in-Some-number.len }) in
    let says = parts_say p c.args.text.now c.in-Some.address.now c.in-Some.length.now cut c.in-Some-v6_number.ensures (omega arith) c.in-Some-number.ensures.1 in
    let fault = err_from_is_err_and c.from_residual-in_err-judged-2.result c.from_residual-in_err-judged-2.ensures.1 in
    rw (fault.1, fault.2) (refuses c.args.text.now p c.in_err-judged-2.field-0.0 says c.in_err-judged-2.ensures)

pub returns-clause-reads : goal.returns-clause-reads
returns-clause-reads c =
    let cut = first_slash c.args.text.now c.split_once.result c.split_once.ensures.cases c.in-Some.address c.in-Some.length c.in-Some.is in
    let p : Block = record { addr = c.in-Some-v6_number.addr; len = c.in-Some-number.len } in
    let says = parts_say (V6 p) c.args.text.now c.in-Some.address.now c.in-Some.length.now cut c.in-Some-v6_number.ensures (omega arith) c.in-Some-number.ensures.1 in
    reads_v6 c.args.text.now p c.judged-2.result says c.judged-2.ensures c.in_ok-judged-2.field-0 c.in_ok-judged-2.was

pub returns-in_default-clause-only : goal.returns-in_default-clause-only
returns-in_default-clause-only c = read_only c.args.text.now _ (returns-in_default-clause-reads c)

pub returns-in_default-number-clause-only : goal.returns-in_default-number-clause-only
returns-in_default-number-clause-only c = read_only c.args.text.now _ (returns-in_default-number-clause-reads c)

pub returns-then-len-ge1000-clause-only : goal.returns-then-len-ge1000-clause-only
returns-then-len-ge1000-clause-only c = read_only c.args.text.now _ (returns-then-len-ge1000-clause-reads c)

pub returns-in_err-judged-clause-only : goal.returns-in_err-judged-clause-only
returns-in_err-judged-clause-only c = read_only c.args.text.now _ (returns-in_err-judged-clause-reads c)

pub returns-in-Some-v4_number-clause-only : goal.returns-in-Some-v4_number-clause-only
returns-in-Some-v4_number-clause-only c = read_only c.args.text.now _ (returns-in-Some-v4_number-clause-reads c)

pub returns-in_default-v6_number-clause-only : goal.returns-in_default-v6_number-clause-only
returns-in_default-v6_number-clause-only c = read_only c.args.text.now _ (returns-in_default-v6_number-clause-reads c)

pub returns-in_err-judged-2-clause-only : goal.returns-in_err-judged-2-clause-only
returns-in_err-judged-2-clause-only c = read_only c.args.text.now _ (returns-in_err-judged-2-clause-reads c)

pub returns-clause-only : goal.returns-clause-only
returns-clause-only c = read_only c.args.text.now _ (returns-clause-reads c)
