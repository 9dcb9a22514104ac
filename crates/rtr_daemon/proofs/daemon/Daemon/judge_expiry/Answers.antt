use Rattle.std.proofs.Common.{◌∙◌, ℕ, List, ap, refl}
use Rattle.rtr_daemon.specs.Ages.{Aging, ages_of, aging_of, with_expired}
use Rattle.rtr_daemon.specs.Files.{Mark, mark_of, marks_of, names_of, path_of}
use Rattle.rtr_daemon.specs.declared.watched_file.WatchedExport.{WatchedExport}
use Rattle.rtr_daemon.proofs.AgeLaws.{all_same}
use Rattle.rtr_daemon.proofs.daemon.Daemon.judge_expiry.Goals as goal

pub returns-then-judge_expiry-clause-rest : goal.returns-then-judge_expiry-clause-rest
returns-then-judge_expiry-clause-rest g c =
    let change = with_expired c.seconds-now.result c.sources.result.now in
    let old = c.args.self.now.exports.items in
    let changed = c.note_all_expired.ensures in
    record {
      names = ap names_of changed ∙ all_same {A = WatchedExport} {B = List ℕ × ℕ} (λ e. (path_of e.file, e.number)) change old (λ e. refl);
      marks = ap marks_of changed ∙ all_same {A = WatchedExport} {B = Mark} mark_of change old (λ e. refl);
      ages = ap ages_of changed ∙ all_same {A = WatchedExport} {B = Aging} aging_of change old (λ e. refl);
      rest = ap (λ s. record c.args.self.now { service = s; exports = c.note_all_expired.new.exports }) c.judge_expiry.ensures.rest;
    }
