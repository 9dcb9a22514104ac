use Rattle.std.proofs.Common.{◌∙◌, Err, Some, ap, sym, subst}
use Rattle.std.specs.Prelude.{IfErr}
use Rattle.std.proofs.lemmas.Result.{err_from_is_err_and}
use Rattle.exports.specs.Export.{HasFault}
use Rattle.exports.specs.declared.streaming.Entries.TheVariants.{Whole}
use Rattle.exports.proofs.Ends.{entries_of, is_counted, set_fails, with_anchors}
use Rattle.exports.proofs.export.read_text.Goals as goal

pub returns-clause-ok : goal.returns-clause-ok
returns-clause-ok c =
    let p = c.in_ok-entries.field-0 in
    let g = c.in-Some-Whole.gathered in
    let e = entries_of c.args.text.now c.args.now p (Some (Whole g)) c.utf8.text c.in_ok-entries.ensures.ok c.if-repeats.false (c.in-Some-Whole.is ∙ ap (λ x. Some x) c.in-Some-Whole.field-0-is) in
    is_counted c.args.text.now c.args.now e.0 p.elements g p.built (record { lasting = c.in_ok-lasting.lasting; ignored = c.in-Some.ignored; anchors = c.in_ok-lasting.anchors }) e.1 e.2 e.3 e.4
    (record { set = c.in_ok-lasting.ensures.set; lasts = c.in_ok-lasting.ensures.lasts; rest = c.in_ok-lasting.ensures.rest }) c.in-Some.ensures.aspas c.in-Some.ensures.router_keys

pub returns-clause-anchors : goal.returns-clause-anchors
returns-clause-anchors c =
    let p = c.in_ok-entries.field-0 in
    let g = c.in-Some-Whole.gathered in
    let e = entries_of c.args.text.now c.args.now p (Some (Whole g)) c.utf8.text c.in_ok-entries.ensures.ok c.if-repeats.false (c.in-Some-Whole.is ∙ ap (λ x. Some x) c.in-Some-Whole.field-0-is) in
    with_anchors c.args.text.now c.args.now e.0 g (record { lasting = c.in_ok-lasting.lasting; ignored = c.in-Some.ignored; anchors = c.in_ok-lasting.anchors }) e.1 e.2 c.in_ok-lasting.ensures.anchors

pub returns-in_err-lasting-clause-fault : goal.returns-in_err-lasting-clause-fault
returns-in_err-lasting-clause-fault c =
    let p = c.in_ok-entries.field-0 in
    let g = c.in-Some-Whole.gathered in
    let e = entries_of c.args.text.now c.args.now p (Some (Whole g)) c.utf8.text c.in_ok-entries.ensures.ok c.if-repeats.false (c.in-Some-Whole.is ∙ ap (λ x. Some x) c.in-Some-Whole.field-0-is) in
    let fails = err_from_is_err_and c.from_residual-in_err-lasting.result c.from_residual-in_err-lasting.ensures.1 in
    subst (λ r. IfErr r (λ fault. HasFault c.args.text.now c.args.now fault)) (sym (fails.1 ∙ ap Err fails.2))
    (set_fails c.args.text.now c.args.now e.0 g c.in_err-lasting.field-0.0 e.1 e.2 c.in_err-lasting.ensures.fault)
