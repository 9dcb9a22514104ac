use Rattle.std.proofs.Common.{sym, subst}
use Rattle.std.specs.Prelude.{IfNone}
use Rattle.serde_json.specs.Data.{Members, object}
use Rattle.prefixes.specs.Payload.{Payload}
use Rattle.payload_lists.specs.PayloadList.{IsEntry}
use Rattle.exports.specs.ListForm.{HoldsEntry}
use Rattle.exports.proofs.ListParts.{if_makes, if_makes_none, no_entry_with_others, no_entry_without_asn, no_entry_without_max_len, no_entry_without_prefix}
use Rattle.exports.proofs.lists.payload_of.Goals as goal

pub returns-then-found-clause-none : goal.returns-then-found-clause-none
returns-then-found-clause-none c ms h = no_entry_with_others ms c.args.found.now c.if-found.true h

pub returns-in_err-asn-clause-none : goal.returns-in_err-asn-clause-none
returns-in_err-asn-clause-none c =
    subst (λ o. IfNone o ((ms : Members) → HoldsEntry ms c.args.found.now → (v : Payload) → ¬ (IsEntry (object ms) v))) (sym c.from_residual.ensures)
    (λ ms h. no_entry_without_asn ms c.args.found.now c.in_err-asn.was h)

pub returns-in_err-max_len-clause-none : goal.returns-in_err-max_len-clause-none
returns-in_err-max_len-clause-none c =
    subst (λ o. IfNone o ((ms : Members) → HoldsEntry ms c.args.found.now → (v : Payload) → ¬ (IsEntry (object ms) v))) (sym c.from_residual-in_err-max_len.ensures)
    (λ ms h. no_entry_without_max_len ms c.args.found.now c.in_err-max_len.was h)

pub returns-in_err-prefix-clause-none : goal.returns-in_err-prefix-clause-none
returns-in_err-prefix-clause-none c =
    subst (λ o. IfNone o ((ms : Members) → HoldsEntry ms c.args.found.now → (v : Payload) → ¬ (IsEntry (object ms) v))) (sym c.from_residual-in_err-prefix.ensures)
    (λ ms h. no_entry_without_prefix ms c.args.found.now c.in_err-prefix.was h)

pub returns-clause-some : goal.returns-clause-some
returns-clause-some c =
    if_makes c.args.found.now c.in_ok-asn.asn c.in_ok-max_len.max_len c.in_ok-prefix.prefix c.payload.result c.if-found.false c.in_ok-asn.was c.in_ok-max_len.was c.in_ok-prefix.was c.payload.ensures.some

pub returns-clause-none : goal.returns-clause-none
returns-clause-none c =
    if_makes_none c.args.found.now c.in_ok-asn.asn c.in_ok-max_len.max_len c.in_ok-prefix.prefix c.payload.result c.in_ok-asn.was c.in_ok-max_len.was c.in_ok-prefix.was c.payload.ensures.none
