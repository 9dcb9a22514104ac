use Rattle.std.proofs.Common.{◌∙◌, ap, sym, if◌then◌else◌}
use Rattle.std.specs.Prelude.{◌||◌, unwrap_or}
use Rattle.upstreams.specs.Upstreams.{refresh_due}
use Rattle.upstreams.specs.Versions.{asks_for_version_0}
use Rattle.upstreams.specs.declared.notes.Notes.{Notes}
use Rattle.upstreams.proofs.upstream.Upstream.attempt_at.Goals as goal

pub returns-then-notes : goal.returns-then-notes
returns-then-notes g c = λ calls b h. ap (λ x. if x || asks_for_version_0 calls then 0 else unwrap_or (refresh_due calls) 0) (sym c.if-notes.true ∙ ap (λ (n : Notes). n.flushed) (c.notes.ensures ∙ h.noted))

pub returns-then-asks_for_version_0 : goal.returns-then-asks_for_version_0
returns-then-asks_for_version_0 g c = λ calls b h.
    ap (λ x. if x then 0 else unwrap_or (refresh_due calls) 0) (sym c.if-asks_for_version_0.true ∙ c.asks_for_version_0.ensures calls b h)
    ∙ ap (λ x. if x || asks_for_version_0 calls then 0 else unwrap_or (refresh_due calls) 0) (sym c.if-notes.false ∙ ap (λ (n : Notes). n.flushed) (c.notes.ensures ∙ h.noted))

pub returns : goal.returns
returns g c = λ calls b h.
    c.unwrap_or.ensures ∙ ap (λ x. unwrap_or x 0) (c.refresh_due.ensures calls b h)
    ∙ ap (λ x. if x then 0 else unwrap_or (refresh_due calls) 0) (sym c.if-asks_for_version_0.false ∙ c.asks_for_version_0.ensures calls b h)
    ∙ ap (λ x. if x || asks_for_version_0 calls then 0 else unwrap_or (refresh_due calls) 0) (sym c.if-notes.false ∙ ap (λ (n : Notes). n.flushed) (c.notes.ensures ∙ h.noted))
