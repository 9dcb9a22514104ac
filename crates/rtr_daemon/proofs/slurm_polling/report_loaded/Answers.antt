use Rattle.std.proofs.Common.{◌≡◌, ◌+◌, ◌++◌, ◌<◌, ◌∙◌, suc, arith, drop, get_or, length, set, subst, take}
use Rattle.std.specs.Prelude.{Some, map}
use Rattle.rtr_daemon.specs.Files.{loads_of}
use Rattle.rtr_daemon.specs.SlurmRefusals.{IsNotOfBytes}
use Rattle.rtr_daemon.proofs.ContentLaws.{loaded_all, loaded_more, paths_kept}
use Rattle.rtr_daemon.proofs.SlurmRefusalLaws.{notes_more}
use Rattle.rtr_daemon.proofs.slurm_polling.report_loaded.Goals as goal

pub loop-at-preserved : goal.loop-at-preserved
loop-at-preserved g c =
    let stamps = c.args.contents.now.stamps.items in
    let initial = c.args.slurms.now in
    let files = c.loop-at.slurms in
    let at = c.loop-at.at in
    let item = c.index-slurms-at.result in
    let file = c.report_one_loaded.new.file in
    let one = c.report_one_loaded.ensures in
    let less = c.loop-at-test.true in
    let count = c.loop-at.auto.slurms in
    let next : suc at ≡ at + 1 = omega arith in
    let within : at < length initial = omega (arith, less, count) in
    record {
      paths = paths_kept files at item file one.path ∙ c.loop-at.invariant.paths;
      loaded = λ many.
          subst (λ n. loads_of (set files at file) ≡ take n (map Some stamps) ++ drop n (loads_of initial)) next
          (loaded_more stamps initial files at (get_or files at item).loaded file (omega (arith, within, many)) within one.loaded (c.loop-at.invariant.loaded many));
      refusals = notes_more (λ k. IsNotOfBytes) initial files at item file (omega (arith, within, count)) c.loop-at.invariant.refusals one.refusals;
    }

pub returns-clause-loaded : goal.returns-clause-loaded
returns-clause-loaded g c =
    let last = c.loop-at-test.false in
    let most = c.loop-at.auto.at-end in
    λ many. loaded_all c.args.contents.now.stamps.items c.args.slurms.now c.loop-at.slurms c.loop-at.at many (omega (arith, last, most)) (c.loop-at.invariant.loaded many)
