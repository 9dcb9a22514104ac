use Rattle.std.proofs.Common.{◌≡◌, ◌+◌, ◌||◌, ◌∷◌, ◌∙◌, [], false, refl, sym, ap, subst, arith}
use Rattle.std.proofs.lemmas.List.{length-append}
use Rattle.exports.specs.PlainForm.{IsReadEntry, ReadsEntry, ReadsNone, TellsListed}
use Rattle.exports.specs.Repeating.{entry_repeats, items_repeat}
use Rattle.exports.specs.declared.streaming.Entries.TheVariants.{Whole}
use Rattle.json.specs.Json as json
use Rattle.exports.proofs.PlainParts.{EntriesSoFar, or_false, or_more}
use Rattle.exports.proofs.PlainSteps.{begun_items, ends_items, no_item, one_more_item}
use Rattle.exports.proofs.streaming.gather_entries.Goals as goal

pub loop-alloc-init : goal.loop-alloc-init
loop-alloc-init c = begun_items 125 (EntriesSoFar c.args.now 0 (Whole c.new.result) false) c.args.reader.now (refl, ([], tt, c.new.ensures.gathers c.args.now, c.new.ensures.anchors c.args.now), λ rest. refl)

pub returns-in_default : goal.returns-in_default
returns-in_default c =
    no_item 125 (EntriesSoFar c.args.now c.loop-alloc.index c.loop-alloc.entries c.loop-alloc.repeat) c.args.reader.now c.loop-alloc.reader c.loop-alloc.invariant c.loop-alloc-test.ensures.0
    (subst (λ ts. ReadsNone 125 ts) c.loop-alloc-test.ensures.1 c.in_default.ensures)

pub loop-alloc-preserved : goal.loop-alloc-preserved
loop-alloc-preserved c =
    let entry = c.in-Some.entry in
    one_more_item 125 (EntriesSoFar c.args.now c.loop-alloc.index c.loop-alloc.entries c.loop-alloc.repeat) (EntriesSoFar c.args.now (c.loop-alloc.index + 1) c.in_ok-entries.entries (c.loop-alloc.repeat || entry.repeat))
    (λ j d. IsReadEntry d entry × (entry.repeat ≡ entry_repeats j)) c.args.reader.now c.loop-alloc.reader c.plain_entry.new.reader c.loop-alloc.invariant c.loop-alloc-test.ensures.0
    (subst (λ ts. ReadsEntry ts c.plain_entry.new.reader entry) c.loop-alloc-test.ensures.1 c.in-Some.ensures)
    (λ f ds j d a is. (
      omega (arith, length-append ds (d ∷ []), a.0),
      c.in_ok-entries.ensures ds d a.0 a.1 is.0,
      λ rest. a.2 (json.item j rest) ∙ or_more c.loop-alloc.repeat (entry_repeats j) (items_repeat rest) ∙ ap (λ b. (c.loop-alloc.repeat || b) || items_repeat rest) (sym is.1),
    ))

pub returns : goal.returns
returns c =
    ends_items 125 (EntriesSoFar c.args.now c.loop-alloc.index c.loop-alloc.entries c.loop-alloc.repeat) (λ js ds. TellsListed c.args.now ds c.loop-alloc.entries × (c.loop-alloc.repeat ≡ items_repeat js)) c.args.reader.now c.loop-alloc.reader
    c.take_end_array.new.self c.loop-alloc.invariant c.loop-alloc-test.ensures (λ f ds a. (a.1, sym (a.2 json.no_items ∙ or_false c.loop-alloc.repeat)))
