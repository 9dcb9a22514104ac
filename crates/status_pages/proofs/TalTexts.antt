-- The trust anchors of sources, one source after the other.
use Rattle.std.proofs.Common.{◌≡◌, ◌++◌, List, [], ◌∷◌, ap, sym, append_assoc, ◌∙◌}
use Rattle.std.proofs.lemmas.List.{append-nil}
use Rattle.status_pages.specs.ApiStatus.{source_tals, tals_after}
use Rattle.status_pages.specs.declared.status.FileStatus.{FileStatus}

-- those of one more source
pub one_more : (all before files : List FileStatus) (f : FileStatus)
    → tals_after all before (files ++ f ∷ []) ≡ tals_after all before files ++ source_tals all (before ++ files) f
one_more all before [] f = append-nil (source_tals all before f) ∙ ap (λ b. source_tals all b f) (sym (append-nil before))
one_more all before (g ∷ files) f =
    let own = source_tals all before g in
    let here = before ++ g ∷ [] in
    ap (λ t. own ++ t) (one_more all here files f ∙ ap (λ b. tals_after all here files ++ source_tals all b f) (append_assoc before (g ∷ []) files))
    ∙ sym (append_assoc own (tals_after all here files) (source_tals all (before ++ g ∷ files) f))
