use Rattle.std.proofs.Common.{◌≡◌, ◌||◌, ◌∙◌, Some, None, false, option_map, refl, sym, ap, ap₂, subst}
use Rattle.std.specs.Prelude.{MatchOption}
use Rattle.json.specs.Json as json
use Rattle.serde_json.specs.Data.{Members, put}
use Rattle.exports.specs.PlainForm.{HasParts, ReadsNone, ReadsPart}
use Rattle.exports.specs.Repeating.{export_twice, member_repeats}
use Rattle.exports.specs.declared.names.ExportNames.{ExportNames}
use Rattle.exports.specs.declared.names.Met.TheVariants.{Never}
use Rattle.exports.proofs.Elements.{none}
use Rattle.exports.proofs.PlainParts.{or_false}
use Rattle.exports.proofs.PlainSteps.{begun, ends, no_name, no_value, one_more}
use Rattle.exports.proofs.PlainWhole.{PartsSoFar, has_none, parts_more}
use Rattle.exports.proofs.streaming.plain_parts.Goals as goal

abbrev no_names : ExportNames
no_names = record { parts = record { one = Never; other = Never }; aspas = Never; keys = record { one = Never; other = Never } }

pub loop-key-init : goal.loop-key-init
loop-key-init c =
    begun 126 (PartsSoFar c.args.now (record { entries = None; built = None; elements = none; repeats = false }) no_names) c.args.reader.now
    (has_none c.args.now, ((λ rest. refl, λ rest. refl), (λ rest. refl), (λ rest. refl, λ rest. refl)), λ rest. refl)

pub returns-in_default : goal.returns-in_default
returns-in_default c = no_name 126 (PartsSoFar c.args.now c.loop-key.parts c.loop-key.names) c.args.reader.now c.loop-key.reader c.loop-key.invariant c.in_default.ensures

pub returns-in_default-key : goal.returns-in_default-key
returns-in_default-key c =
    ends 126 (PartsSoFar c.args.now c.loop-key.parts c.loop-key.names)
    (λ js ms. HasParts c.args.now ms (record { entries = c.loop-key.parts.entries; built = c.loop-key.parts.built; elements = c.loop-key.parts.elements; repeats = c.repeat.result || c.loop-key.parts.repeats }) × ((c.repeat.result || c.loop-key.parts.repeats) ≡ export_twice js)) c.args.reader.now
    c.loop-key.reader c.next_name.new.reader c.loop-key.invariant (c.in-Some.ensures ∙ ap (λ k. Some (option_map (λ s. s.now) k, c.next_name.new.reader)) c.in_default-key.is)
    (λ f ms a. (
      record { entries = a.0.entries; built = a.0.built; elements = a.0.elements },
      ap₂ (λ x y. x || y) (c.repeat.ensures f a.1) (sym (a.2 json.no_members ∙ or_false c.loop-key.parts.repeats)),
    ))

pub returns-in_default-2 : goal.returns-in_default-2
returns-in_default-2 c =
    no_value 126 (PartsSoFar c.args.now c.loop-key.parts c.loop-key.names) c.args.reader.now c.loop-key.reader c.next_name.new.reader c.in-Some-key.name.now c.loop-key.invariant
    (c.in-Some.ensures ∙ ap (λ k. Some (option_map (λ s. s.now) k, c.next_name.new.reader)) c.in-Some-key.is)
    (subst (λ o. MatchOption o (ReadsNone 126 c.next_name.new.reader) (λ more. ReadsPart c.args.now c.in-Some-key.name.now c.loop-key.parts more c.next_name.new.reader c.with_part.new.reader)) c.in_default-2.is c.in_ok-more.ensures)

pub loop-key-preserved : goal.loop-key-preserved
loop-key-preserved c =
    let read = subst (λ o. MatchOption o (ReadsNone 126 c.next_name.new.reader) (λ more. ReadsPart c.args.now c.in-Some-key.name.now c.loop-key.parts more c.next_name.new.reader c.with_part.new.reader)) c.in-Some-2.is c.in_ok-more.ensures in
    one_more 126 (PartsSoFar c.args.now c.loop-key.parts c.loop-key.names) (PartsSoFar c.args.now c.in-Some-2.more c.with-names.result)
    (λ j d. ((ms : Members) → HasParts c.args.now ms c.loop-key.parts → HasParts c.args.now (put c.in-Some-key.name.now d ms) c.in-Some-2.more) × (c.in-Some-2.more.repeats ≡ (c.loop-key.parts.repeats || member_repeats c.in-Some-key.name.now j)))
    c.args.reader.now c.loop-key.reader c.next_name.new.reader c.with_part.new.reader c.in-Some-key.name.now c.loop-key.invariant
    (c.in-Some.ensures ∙ ap (λ k. Some (option_map (λ s. s.now) k, c.next_name.new.reader)) c.in-Some-key.is) read
    (λ f ms j d a is. (is.0 ms a.0, c.with-names.ensures f j a.1, parts_more f c.loop-key.parts c.in-Some-2.more c.in-Some-key.name.now j a.2 is.1))
