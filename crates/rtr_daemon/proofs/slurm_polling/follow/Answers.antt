use Rattle.std.proofs.Common.{◌≡◌, ◌∙◌, inl, inr, length, refl, rules, subst, sym}
use Rattle.std.specs.Prelude.{Ok}
use Rattle.std.proofs.lemmas.List.{length-map}
use Rattle.rtr_daemon.specs.Files.{FollowsSlurms, path_of, paths_of, texts_of}
use Rattle.rtr_daemon.specs.SlurmRefusals.{IsNotOfBytes, IsNotedAt}
use Rattle.rtr_daemon.proofs.ContentLaws.{contents_many, same_many}
use Rattle.rtr_daemon.proofs.SlurmRefusalLaws.{each_then, no_bytes_follow, noted_follow, noted_weaker}
use Rattle.rtr_daemon.proofs.slurm_polling.follow.Goals as goal

pub returns-then-not-is_any_new-clause-follows : goal.returns-then-not-is_any_new-clause-follows
returns-then-not-is_any_new-clause-follows g c = inr (inl (c.is_any_new.ensures (search rules)), c.report_known.ensures.loads.1 ∙ c.note_at.ensures.loads.1, refl)

pub returns-in-Ok-clause-follows : goal.returns-in-Ok-clause-follows
returns-in-Ok-clause-follows g c =
    let contents = c.in-Ok.contents in
    let read = c.in-Ok.ensures.read in
    let many : length contents.stamps.items ≡ length c.note_at-2.new.slurms =
    contents_many g.W.Disk.answers (paths_of c.args.slurms.now) contents.stamps.items (texts_of contents) read ∙ length-map c.args.slurms.now path_of ∙ same_many c.args.slurms.now c.note_at-2.new.slurms c.note_at-2.ensures.loads.0 in
    inl (
      Ok tt,
      record {
        stamps = contents.stamps.items;
        contents = texts_of contents;
        read = read;
        taken = c.in-Ok.ensures.loads;
        noted = c.report_not_applied.ensures.loads.1 ∙ c.report_loaded.ensures.loaded many;
      },
    )

pub returns-in-Err-clause-follows : goal.returns-in-Err-clause-follows
returns-in-Err-clause-follows g c =
    subst (λ loads. FollowsSlurms g.W.Disk.answers c.args.slurms.now loads c.args.service.now.sources c.load-loaded.new.service.sources) (sym (c.report_refused.ensures.loads.1 ∙ c.note_at-2.ensures.loads.1)) c.in-Err.ensures.refuses

pub returns-then-not-is_any_new-clause-refusals : goal.returns-then-not-is_any_new-clause-refusals
returns-then-not-is_any_new-clause-refusals g c =
    let old = c.args.slurms.now in
    let noted = c.note_at.new.slurms in
    let last = c.report_known.new.slurms in
    no_bytes_follow g.W.Disk.answers old last
    (each_then (λ k. IsNotOfBytes) old noted last (same_many old noted c.note_at.ensures.loads.0) c.note_at.ensures.refusals c.report_known.ensures.refusals)

pub returns-in-Ok-clause-refusals : goal.returns-in-Ok-clause-refusals
returns-in-Ok-clause-refusals g c =
    let old = c.args.slurms.now in
    let noted = c.note_at-2.new.slurms in
    let loaded = c.report_loaded.new.slurms in
    let last = c.report_not_applied.new.slurms in
    let many = same_many old noted c.note_at-2.ensures.loads.0 in
    let first = each_then (λ k. IsNotOfBytes) old noted loaded many c.note_at-2.ensures.refusals c.report_loaded.ensures.refusals in
    no_bytes_follow g.W.Disk.answers old last
    (each_then (λ k. IsNotOfBytes) old loaded last (many ∙ same_many noted loaded c.report_loaded.ensures.paths) first c.report_not_applied.ensures.refusals)

pub returns-in-Err-clause-refusals : goal.returns-in-Err-clause-refusals
returns-in-Err-clause-refusals g c =
    let old = c.args.slurms.now in
    let noted = c.note_at-2.new.slurms in
    let last = c.report_refused.new.slurms in
    let refusal = c.in-Err.refusal in
    let Q = IsNotedAt refusal.index refusal.stamp refusal.why in
    noted_follow g.W.Disk.answers refusal old last c.in-Err.ensures.refused
    (each_then Q old noted last (same_many old noted c.note_at-2.ensures.loads.0) (noted_weaker refusal.index refusal.stamp refusal.why old noted c.note_at-2.ensures.refusals) c.report_refused.ensures.refusals)
