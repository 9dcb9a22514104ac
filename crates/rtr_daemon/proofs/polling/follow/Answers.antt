use Rattle.std.proofs.Common.{inl, inr, refl, subst, sym, ap, ◌∙◌}
use Rattle.std.specs.Prelude.{None}
use Rattle.rtr_daemon.specs.DiskAnswers.{ReadsWhole}
use Rattle.rtr_daemon.specs.Files.{loaded_after, loaded_at_after, path_of}
use Rattle.rtr_daemon.proofs.ContentLaws.{mark_is}
use Rattle.rtr_daemon.proofs.polling.follow.Goals as goal

pub returns-in-Read-clause-follows : goal.returns-in-Read-clause-follows
returns-in-Read-clause-follows g c =
    let result = c.take_export_within-taken.result in
    let stamp = c.in-Read.stamp in
    let before = c.args.export.now in
    inl (
      result,
      stamp,
      (c.as_slice-bytes.result.now, subst (ReadsWhole g.W.Disk.answers (path_of before.file) stamp) (sym c.as_slice-bytes.ensures.value) c.in-Read.ensures, c.take_export_within-taken.ensures.export),
      record {
        short = c.note.ensures.short ∙ ap (λ e. e.short_since) c.note_short.ensures;
        loaded = c.note.ensures.loaded ∙ ap (λ e. loaded_after result stamp e.file.loaded) c.note_short.ensures;
        refused = c.note.ensures.refused;
        at = c.note.ensures.at ∙ ap (λ e. loaded_at_after result c.args.at.seconds e.file.loaded_at) c.note_short.ensures;
      },
    )

pub returns-in-Unchanged-clause-follows : goal.returns-in-Unchanged-clause-follows
returns-in-Unchanged-clause-follows g c =
    let h = c.in-Unchanged.ensures in
    let now = c.set_unchanged.ensures in
    let after = c.set_unchanged.new.self in
    inr (
      inl (
        (h.0, h.1, h.2),
        mark_is after.short_since None after.file.loaded c.args.export.now.file.loaded after.file.refusals.last None after.file.loaded_at c.args.export.now.file.loaded_at now.short now.loaded now.refused now.at,
        c.is_loaded_after-anew.ensures h.3,
      ),
      refl,
    )
