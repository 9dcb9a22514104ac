use Rattle.std.proofs.Common.{◌≡◌, ◌∙◌, ◌∷◌, ap, sym, is_some, true, false}
use Rattle.rtr_ends.specs.Router.{Ticks}
use Rattle.upstreams.specs.Upstreams.{ShowsUpstream, asks_early, is_past, lost_at}
use Rattle.upstreams.proofs.UpstreamLaws as laws
use Rattle.upstreams.proofs.upstream.Upstream.tick.Goals as goal

pub returns-then-is_some-clause-ticks : goal.returns-then-is_some-clause-ticks
returns-then-is_some-clause-ticks g c = λ calls b h.
    let lost = c.lost_at-lost.ensures calls b h in
    let is_lost : is_some (lost_at c.args.self.now.stall c.args.self.now.answer_limit c.args.now calls) ≡ true = sym (ap is_some lost) ∙ sym c.is_some.ensures ∙ c.if-is_some.true in
    (lost, laws.ticked_lost c.args.self.now.stall c.args.self.now.answer_limit c.args.now calls (λ more. ShowsUpstream g.T.Stream.remaining g.T.Stream.contents more b c.disconnect.new.self) is_lost (c.disconnect.ensures.calls calls b h))

pub returns-then-is_past-clause-ticks : goal.returns-then-is_past-clause-ticks
returns-then-is_past-clause-ticks g c = λ calls b h.
    let not_lost : is_some (lost_at c.args.self.now.stall c.args.self.now.answer_limit c.args.now calls) ≡ false = sym (ap is_some (c.lost_at-lost.ensures calls b h)) ∙ sym c.is_some.ensures ∙ c.if-is_some.false in
    let on = c.advance.ensures.calls calls b h in
    let early : asks_early c.args.now (Ticks c.args.now ∷ calls) ≡ true = sym (ap (λ x. is_past x c.args.now) (c.question_due.ensures (Ticks c.args.now ∷ calls) b on)) ∙ sym c.is_past.ensures ∙ c.if-is_past.true in
    (laws.none_is _ not_lost, laws.ticked_asks c.args.self.now.stall c.args.self.now.answer_limit c.args.now calls (λ more. ShowsUpstream g.T.Stream.remaining g.T.Stream.contents more b c.ask.new.self) not_lost early (c.ask.ensures.calls calls b on early))

pub returns-else-is_past-clause-ticks : goal.returns-else-is_past-clause-ticks
returns-else-is_past-clause-ticks g c = λ calls b h.
    let not_lost : is_some (lost_at c.args.self.now.stall c.args.self.now.answer_limit c.args.now calls) ≡ false = sym (ap is_some (c.lost_at-lost.ensures calls b h)) ∙ sym c.is_some.ensures ∙ c.if-is_some.false in
    let on = c.advance.ensures.calls calls b h in
    let early : asks_early c.args.now (Ticks c.args.now ∷ calls) ≡ false = sym (ap (λ x. is_past x c.args.now) (c.question_due.ensures (Ticks c.args.now ∷ calls) b on)) ∙ sym c.is_past.ensures ∙ c.if-is_past.false in
    (laws.none_is _ not_lost, laws.ticked_on c.args.self.now.stall c.args.self.now.answer_limit c.args.now calls (λ more. ShowsUpstream g.T.Stream.remaining g.T.Stream.contents more b c.advance.new.self) not_lost early on)
