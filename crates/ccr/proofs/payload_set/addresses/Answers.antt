use Rattle.std.proofs.Common.{◌∙◌, ◌+◌, ◌++◌, Bool, map, sym, ap, arith}
use Rattle.std.proofs.lemmas.List.{append-nil, get_or-map, length-map, take-map}
use Rattle.payloads.specs.RoaReading.{family_in}
use Rattle.payloads.proofs.RoaSpellings.{chosen, list_step}
use Rattle.ccr.specs.Canonical.{entry_of}
use Rattle.ccr.specs.Families.{addresses_of, family_content}
use Rattle.ccr.proofs.payload_set.addresses.Goals as goal
use Rattle.ccr.proofs.payload_set.addresses.Goals.{then-has+in_ok-add_entry, else-has}

pub loop-vrp-preserved : goal.loop-vrp-preserved
loop-vrp-preserved c =
    let vs = c.args.vrps.now in
    let i = c.loop-vrp.vrp-index in
    let list = c.loop-vrp.list in
    let v = c.vrp-item.result in
    let e = c.entry_of-entry.result in
    list_step (family_in (family_content c.args.family)) (map entry_of vs) i e list c.if-has.list (omega (arith, c.loop-vrp-test.true, length-map vs entry_of))
    (c.entry_of-entry.ensures ∙ ap entry_of c.vrp-item.is ∙ sym (get_or-map entry_of vs i v e c.loop-vrp-test.true))
    (c.loop-vrp.invariant ∙ ap (addresses_of c.args.family) (sym (take-map entry_of i vs)))
    (elim c.if-has.branch [
      | then-has+in_ok-add_entry w ↦ w.list-is ∙ w.in_ok-add_entry.ensures ∙ ap (λ (test : Bool). list ++ chosen test e) (sym w.if-has.true ∙ c.has.ensures)
      | else-has w ↦ w.list-is ∙ sym (append-nil list) ∙ ap (λ (test : Bool). list ++ chosen test e) (sym w.if-has.false ∙ c.has.ensures)
    ])
    ∙ ap (addresses_of c.args.family) (take-map entry_of (i + 1) vs)
