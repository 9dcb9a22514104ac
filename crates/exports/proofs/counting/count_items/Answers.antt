use Rattle.std.proofs.Common.{◌≡◌, ◌+◌, ◌∷◌, [], length, refl, subst, arith}
use Rattle.std.proofs.lemmas.List.{length-append}
use Rattle.exports.specs.PlainForm.{IsScalar, ReadsNone, ReadsSome}
use Rattle.exports.proofs.PlainSteps.{begun_items, ends_items, no_item, one_more_item}
use Rattle.exports.proofs.counting.count_items.Goals as goal

pub loop-count-init : goal.loop-count-init
loop-count-init c = begun_items 125 (λ f ds. length ds ≡ 0) c.args.reader.now refl

pub returns-in_default : goal.returns-in_default
returns-in_default c =
    no_item 125 (λ f ds. length ds ≡ c.loop-count.count) c.args.reader.now c.loop-count.reader c.loop-count.invariant c.loop-count-test.ensures.0 (subst (λ ts. ReadsNone 125 ts) c.loop-count-test.ensures.1 c.in_default.ensures)

pub loop-count-preserved : goal.loop-count-preserved
loop-count-preserved c =
    one_more_item 125 (λ f ds. length ds ≡ c.loop-count.count) (λ f ds. length ds ≡ c.loop-count.count + 1) (λ j d. IsScalar d c.in-Some._passed) c.args.reader.now c.loop-count.reader c.read_value.new.reader c.loop-count.invariant
    c.loop-count-test.ensures.0 (subst (λ ts. ReadsSome 125 (λ j d. IsScalar d c.in-Some._passed) ts c.read_value.new.reader) c.loop-count-test.ensures.1 c.in-Some.ensures)
    (λ f ds j d a is. omega (arith, length-append ds (d ∷ []), a))

pub returns : goal.returns
returns c =
    ends_items 125 (λ f ds. length ds ≡ c.loop-count.count) (λ js ds. length ds ≡ c.loop-count.count) c.args.reader.now c.loop-count.reader c.take_end_array.new.self c.loop-count.invariant c.loop-count-test.ensures (λ f ds a. a)
