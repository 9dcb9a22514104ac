use Rattle.std.proofs.Common.{◌∙◌, ap}
use Rattle.std.specs.Prelude.{◌&&◌, ◌||◌}
use Rattle.rtr_pdu.specs.declared.version.Version.TheVariants.{V1}
use Rattle.rtr_ends.specs.RouterLaws.{connected_version}
use Rattle.rtr_ends.specs.Transcript.{is_same}
use Rattle.upstreams.specs.Notes.{has_asked_for_version_0}
use Rattle.upstreams.specs.Versions.{has_refused, is_zero}
use Rattle.upstreams.proofs.OpeningLaws.{first_is}
use Rattle.upstreams.proofs.upstream.Upstream.asks_for_version_0.Goals as goal

pub returns : goal.returns
returns g c = λ calls b h.
    c.asks_for_version_0.ensures ∙ ap has_asked_for_version_0 (c.notes.ensures ∙ h.noted) ∙ ap (λ v. is_same V1 (connected_version calls) && (is_zero v || has_refused calls)) (first_is calls)
