use Rattle.std.proofs.Common.{arith}
use Rattle.std.proofs.lemmas.Result.{err_from_is_err_and}
use Rattle.prefixes.specs.Address.{Block}
use Rattle.prefixes.proofs.Spelling.{first_slash}
use Rattle.prefix_texts.proofs.Sayings.{four_digits, no_address, no_length, not_split, parts_say, reads, refuses}
use Rattle.prefix_texts.proofs.reading.v6_prefix.Goals as goal

pub returns-in_default : goal.returns-in_default
returns-in_default c = not_split c.args.text.now c.split_once.result c.split_once.ensures.cases c.in_default.is

pub returns-in_default-number_in : goal.returns-in_default-number_in
returns-in_default-number_in c =
    let cut = first_slash c.args.text.now c.split_once.result c.split_once.ensures.cases c.in-Some.address c.in-Some.length c.in-Some.is in
    no_length c.args.text.now c.in-Some.address.now c.in-Some.length.now cut c.in_default-number_in.ensures

pub returns-then-len-ge1000 : goal.returns-then-len-ge1000
returns-then-len-ge1000 c =
    let cut = first_slash c.args.text.now c.split_once.result c.split_once.ensures.cases c.in-Some.address c.in-Some.length c.in-Some.is in
    let len = c.in-Some-number_in.ensures in
    four_digits c.args.text.now c.in-Some.address.now c.in-Some.length.now c.in-Some-number_in.len cut len.0 len.1 c.if-len-ge1000.true

pub returns-in_default-address_in : goal.returns-in_default-address_in
returns-in_default-address_in c =
    let cut = first_slash c.args.text.now c.split_once.result c.split_once.ensures.cases c.in-Some.address c.in-Some.length c.in-Some.is in
    no_address c.args.text.now c.in-Some.address.now c.in-Some.length.now cut c.in_default-address_in.ensures

pub returns-in_err-judged : goal.returns-in_err-judged
returns-in_err-judged c =
    let cut = first_slash c.args.text.now c.split_once.result c.split_once.ensures.cases c.in-Some.address c.in-Some.length c.in-Some.is in
    let p : Block = record { addr = c.in-Some-address_in.addr; len = c.in-Some-number_in.len } in
    let says = parts_say p c.args.text.now c.in-Some.address.now c.in-Some.length.now cut c.in-Some-address_in.ensures (omega arith) c.in-Some-number_in.ensures.1 in
    let fault = err_from_is_err_and c.from_residual.result c.from_residual.ensures.1 in
    rw (fault.1, fault.2) (refuses c.args.text.now p c.in_err-judged.field-0.0 says c.in_err-judged.ensures)

pub returns : goal.returns
returns c =
    let cut = first_slash c.args.text.now c.split_once.result c.split_once.ensures.cases c.in-Some.address c.in-Some.length c.in-Some.is in
    let p : Block = record { addr = c.in-Some-address_in.addr; len = c.in-Some-number_in.len } in
    let says = parts_say p c.args.text.now c.in-Some.address.now c.in-Some.length.now cut c.in-Some-address_in.ensures (omega arith) c.in-Some-number_in.ensures.1 in
    reads c.args.text.now p c.judged.result says c.judged.ensures c.in_ok-judged.field-0 c.in_ok-judged.was
