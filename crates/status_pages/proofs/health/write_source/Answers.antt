use Rattle.std.proofs.Common.{ℕ, List, refl, subst}
use Rattle.std.proofs.KnownBytes.{Appends-trans}
use Rattle.status_pages.proofs.Written.{on_ok}
use Rattle.status_pages.specs.Health.{AreAnchorTexts}
use Rattle.status_pages.specs.declared.status.AnchorStatus.{AnchorStatus}
use Rattle.status_pages.proofs.health.write_source.Goals as goal

pub returns : goal.returns
returns g c =
    let f = c.args.file.now in
    let refusal = c.in_ok-write_refusal.ensures in
    on_ok c.write_anchors.result c.write_anchors.ensures (λ s. (
      _,
      record {
        refusal = refusal.0;
        is_refusal = refusal.1;
        anchors = s.0;
        are_anchors =
            subst (λ (path : List ℕ). AreAnchorTexts path f.anchors.items s.0) c.deref.ensures
            (subst (λ (anchors : List AnchorStatus). AreAnchorTexts c.deref.result.now anchors s.0) c.deref-2.ensures.value s.1);
        is_text = refl;
      },
      Appends-trans _ _ _ _ _ (Appends-trans _ _ _ _ _ c.in_ok-write_age.ensures refusal.2) s.2,
    ))
