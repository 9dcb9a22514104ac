use Rattle.std.proofs.Common.{◌≡◌, ◌∙◌, length}
use Rattle.std.proofs.lemmas.List.{length-map}
use Rattle.rtr_daemon.specs.Files.{path_of, paths_of, texts_of}
use Rattle.rtr_daemon.specs.SlurmRefusals.{IsNotOfBytes}
use Rattle.rtr_daemon.proofs.ContentLaws.{contents_many, same_many}
use Rattle.rtr_daemon.proofs.SlurmRefusalLaws.{each_then}
use Rattle.rtr_daemon.proofs.slurm_polling.read_slurms.Goals as goal

pub returns-in-Ok-take-clause-reads : goal.returns-in-Ok-take-clause-reads
returns-in-Ok-take-clause-reads g c =
    let contents = c.in-Ok.contents in
    let read = c.in-Ok.ensures in
    let many : length contents.stamps.items ≡ length c.note_at.new.slurms =
    contents_many g.W.Disk.answers (paths_of c.args.slurms.now) contents.stamps.items (texts_of contents) read ∙ length-map c.args.slurms.now path_of ∙ same_many c.args.slurms.now c.note_at.new.slurms c.note_at.ensures.loads.0 in
    record {
      stamps = contents.stamps.items;
      contents = texts_of contents;
      read = read;
      taken = c.in-Ok-take.ensures.loads;
      noted = c.report_not_applied.ensures.loads.1 ∙ c.report_loaded.ensures.loaded many;
    }

pub returns-in-Ok-take-clause-refusals : goal.returns-in-Ok-take-clause-refusals
returns-in-Ok-take-clause-refusals g c =
    let old = c.args.slurms.now in
    let noted = c.note_at.new.slurms in
    let loaded = c.report_loaded.new.slurms in
    let last = c.report_not_applied.new.slurms in
    let many = same_many old noted c.note_at.ensures.loads.0 in
    let first = each_then (λ k. IsNotOfBytes) old noted loaded many c.note_at.ensures.refusals c.report_loaded.ensures.refusals in
    each_then (λ k. IsNotOfBytes) old loaded last (many ∙ same_many noted loaded c.report_loaded.ensures.paths) first c.report_not_applied.ensures.refusals
