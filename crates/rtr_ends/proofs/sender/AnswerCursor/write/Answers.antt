use Rattle.rtr_ends.proofs.Words.{slice_get, get_or, ◌≡◌, ◌∙◌, ap, arith, false, length, refl, subst, sym, true, Some, Prefix, size_of_listing, listing}
use Rattle.rtr_ends.specs.Sender.{Writes, units_in}
use Rattle.rtr_ends.proofs.SenderLaws.{withdrawn_at}
use Rattle.rtr_ends.proofs.sender.AnswerCursor.write.Goals as goal

pub returns-then-self-withdrawn-clause-low : goal.returns-then-self-withdrawn-clause-low
returns-then-self-withdrawn-clause-low c = λ some.
    omega (arith, c.write_announced-then-self-withdrawn.ensures.low some, size_of_listing c.in-Step.change.withdraw, ap length c.as_slice-withdrawn.ensures.value, c.as_slice-withdrawn.ensures.set.within_limit)

pub returns-else-self-withdrawn-clause-writes : goal.returns-else-self-withdrawn-clause-writes
returns-else-self-withdrawn-clause-writes c =
    let is : c.index-withdrawn-self.result ≡ get_or (listing c.in-Step.change.withdraw) c.args.self.now.place c.index-withdrawn-self.result =
    c.index-withdrawn-self.is ∙ ap (λ vs. get_or vs c.args.self.now.place c.index-withdrawn-self.result) c.as_slice-withdrawn.ensures.value in
    let at : Some (Prefix false c.index-withdrawn-self.result) ≡ slice_get (units_in c.args.self.now.records) c.args.self.now.place =
    withdrawn_at c.in-Step.change.withdraw c.in-Step.change.announce c.args.self.now.place c.index-withdrawn-self.result
    (omega (arith, c.if-self-withdrawn.false, ap length c.as_slice-withdrawn.ensures.value)) is
    ∙ ap (λ r. slice_get (units_in r) c.args.self.now.place) (sym c.in-Step.is) in
    subst (λ o. Writes c.args.version o true c.args.buffer.now c.encode_prefix.new.buffer.items c.encode_prefix.new.buffer) at (refl, c.encode_prefix.ensures.bytes, (c.encode_prefix.ensures.unit, refl))

pub returns-else-self-withdrawn-clause-low : goal.returns-else-self-withdrawn-clause-low
returns-else-self-withdrawn-clause-low c = λ _.
    omega (arith, c.if-self-withdrawn.false, size_of_listing c.in-Step.change.withdraw, ap length c.as_slice-withdrawn.ensures.value, c.as_slice-withdrawn.ensures.set.within_limit)
