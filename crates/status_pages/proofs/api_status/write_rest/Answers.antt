use Rattle.std.proofs.Common.{◌≡◌, ◌∙◌, ℕ, Option, ap, refl, subst}
use Rattle.status_pages.proofs.HealthTexts.{both}
use Rattle.status_pages.proofs.Written.{on_ok}
use Rattle.status_pages.specs.ApiStatus.{IsDone, api_ending, newest}
use Rattle.status_pages.specs.Health.{AppendsSome}
use Rattle.status_pages.proofs.api_status.write_rest.Goals as goal

pub returns : goal.returns
returns g c =
    let s = c.args.status.now in
    let x = g.W.Write.contents c.args.out.now in
    let y = g.W.Write.contents c.write_done.new.out in
    let z = g.W.Write.contents c.write_ending.new.out in
    both c.write_ending.result x y z (IsDone (newest s.files.items)) (λ t. t ≡ api_ending s)
    (subst (λ (done : Option ℕ). AppendsSome x y (IsDone done)) (c.newest_load.ensures ∙ ap newest c.deref.ensures.value) c.in_ok-write_done.ensures)
    (on_ok c.write_ending.result c.write_ending.ensures (λ a. (api_ending s, refl, a)))
