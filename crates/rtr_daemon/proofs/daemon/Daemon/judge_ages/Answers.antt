use Rattle.std.proofs.Common.{◌∙◌, ℕ, List, ap, refl, subst, sym}
use Rattle.std.specs.Prelude.{All, ◌||◌}
use Rattle.std.specs.List.{list_any}
use Rattle.rtr_daemon.specs.Ages.{AreJudged, IsJudged, IsOldAfter, aged, ages_of}
use Rattle.rtr_daemon.specs.Files.{Mark, mark_of, marks_of, names_of, path_of}
use Rattle.rtr_daemon.specs.declared.watched_file.WatchedExport.{WatchedExport}
use Rattle.rtr_daemon.proofs.AgeLaws.{all_judged, all_same, any_old}
use Rattle.rtr_daemon.proofs.daemon.Daemon.judge_ages.Goals as goal

pub returns : goal.returns
returns g c =
    let most = c.in-Some.most in
    let now = c.seconds-now.result in
    let sources = c.sources.result.now in
    let old = c.args.self.now.exports.items in
    let new = c.judge_each_age.new.exports.items in
    let changed = c.judge_each_age.ensures in
    record {
      names = ap names_of changed ∙ all_same {A = WatchedExport} {B = List ℕ × ℕ} (λ e. (path_of e.file, e.number)) (aged most now sources) old (λ e. refl);
      marks = ap marks_of changed ∙ all_same {A = WatchedExport} {B = Mark} mark_of (aged most now sources) old (λ e. refl);
      judged =
          subst (λ m. AreJudged g.W.Time.can_be m c.args.self.now.service.sources (ages_of new)) (sym c.in-Some.is) (
            now,
            c.seconds-now.ensures,
            subst (λ s. All (IsJudged most now s) (ages_of new)) c.sources.ensures (subst (λ es. All (IsJudged most now sources) (ages_of es)) (sym changed) (all_judged most now sources old)),
          );
      is_old =
          subst (λ m. IsOldAfter m c.args.self.now.is_old (ages_of new) c.is_old_after-self.result) (sym c.in-Some.is)
          (c.is_old_after-self.ensures ∙ ap (λ (es : List WatchedExport). c.args.self.now.is_old || list_any (λ e. e.is_old) es) c.as_slice.ensures.value ∙ ap (λ any. c.args.self.now.is_old || any) (any_old new));
      rest = refl;
    }
