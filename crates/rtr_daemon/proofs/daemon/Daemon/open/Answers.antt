use Rattle.std.proofs.Common.{◌≡◌, ◌∙◌, ℕ, ap, arith, length, subst, sym}
use Rattle.std.specs.Prelude.{All, None, Some}
use Rattle.std.proofs.lemmas.List.{length-map}
use Rattle.rtr_server.specs.Clients.{Begun}
use Rattle.sources.specs.Served.{IsNothing}
use Rattle.rtr_daemon.specs.Ages.{AreJudged, ages_of}
use Rattle.rtr_daemon.specs.Times.{later_by}
use Rattle.rtr_daemon.specs.Files.{AreContents, LoadsEach, loads_of, marks_of, names_of, paths_of}
use Rattle.rtr_daemon.specs.PointOffers.{OffersEach, points_of}
use Rattle.rtr_daemon.specs.Serving.{LeadsToService, past_of}
use Rattle.rtr_daemon.specs.Starting.{ReadsAll, numbered_from, texts}
use Rattle.rtr_daemon.proofs.ContentLaws.{same_many, written_back}
use Rattle.rtr_daemon.proofs.OriginLaws.{opened_comes}
use Rattle.rtr_daemon.proofs.SlurmRefusalLaws.{no_bytes_follow, none_slurms_refused, slurms_refused}
use Rattle.rtr_daemon.specs.SlurmRefusals.{SlurmRefusalsCome}
use Rattle.rtr_daemon.proofs.ServiceLaws.{leads_on, then_on}
use Rattle.rtr_daemon.proofs.StartLaws.{loads_named, names_numbered, numbered_at, offers_named, paths_texts, points_texts, same_length}
use Rattle.rtr_daemon.proofs.daemon.Daemon.open.Goals as goal

pub returns-clause-leads : goal.returns-clause-leads
returns-clause-leads g c begun =
    let p = past_of c.args.settings c.args.session_ids begun in
    let read = then_on g.S.VersionStore.holds g.T.Stream.remaining g.T.Stream.contents c.in_ok-service.service c.read_all.new.service c.read_slurms.new.service c.read_all.ensures.goes c.read_slurms.ensures.goes in
    subst (λ s. LeadsToService g.W.Time.can_be g.S.VersionStore.holds g.T.Stream.remaining g.T.Stream.contents p s) (sym (ap (λ d. d.service) c.judge_ages.ensures.rest))
    (leads_on g.W.Time.can_be g.S.VersionStore.holds g.T.Stream.remaining g.T.Stream.contents c.in_ok-service.service c.read_points.new.service p c.seconds-now.result c.seconds-now.ensures c.in_ok-service.ensures.pace (c.in_ok-service.ensures.shows c.in_ok-held.ensures.empty.1 begun)
    (then_on g.S.VersionStore.holds g.T.Stream.remaining g.T.Stream.contents c.in_ok-service.service c.read_slurms.new.service c.read_points.new.service read c.read_points.ensures.goes))

pub returns-clause-begins : goal.returns-clause-begins
returns-clause-begins g c =
    let only = c.judge_ages.ensures.rest in
    let begun : ℕ → Begun = λ conn. record { before = None; had = None } in
    let p = past_of c.args.settings c.args.session_ids begun in
    let read = then_on g.S.VersionStore.holds g.T.Stream.remaining g.T.Stream.contents c.in_ok-service.service c.read_all.new.service c.read_slurms.new.service c.read_all.ensures.goes c.read_slurms.ensures.goes in
    let all = then_on g.S.VersionStore.holds g.T.Stream.remaining g.T.Stream.contents c.in_ok-service.service c.read_slurms.new.service c.read_points.new.service read c.read_points.ensures.goes in
    let paced : c.read_points.new.service.pace ≡ Some c.seconds-now.result = (all p (c.in_ok-service.ensures.shows c.in_ok-held.ensures.empty.1 begun)).4 ∙ c.in_ok-service.ensures.pace in
    record {
      second = subst g.W.Time.can_be (sym (ap (λ d. d.started) only)) c.seconds-now.ensures;
      millis = subst g.W.Time.can_tick (sym (ap (λ d. d.opened) only)) c.millis-millis.ensures.ticks;
      pace = ap (λ d. d.service.pace) only ∙ paced ∙ ap (λ second. Some second) (sym (ap (λ d. d.started) only));
      next_check = ap (λ d. d.next_check) only ∙ c.saturating_add.ensures ∙ ap (later_by c.args.plan.check) (sym (ap (λ d. d.opened) only));
      next_round = ap (λ d. d.next_round) only ∙ sym (ap (λ d. d.opened) only);
      held_until = ap (λ d. d.held_until) only ∙ sym (ap (λ d. d.opened) only);
      failing = ap (λ d. d.failing) only;
      parted = ap (λ d. d.has_parted) only;
      idle = ap (λ d. d.clients.queue.items) only ∙ c.new-3.ensures;
      listeners = ap (λ d. d.listeners.listeners.items) only ∙ c.in_ok-listeners.ensures;
      judged = subst (λ s. AreJudged g.W.Time.can_be c.args.plan.max_age s.sources (ages_of c.judge_ages.new.self.exports.items)) (sym (ap (λ d. d.service) only)) c.judge_ages.ensures.judged;
      is_old = c.judge_ages.ensures.is_old;
    }

pub returns-clause-watches : goal.returns-clause-watches
returns-clause-watches g c =
    let files = c.in_ok-slurms.slurms in
    let after = c.read_slurms.new.slurms in
    let paths = c.in_ok-read_slurms.ensures.paths ∙ ap paths_of c.deref_mut.ensures.value in
    let same = same_many files.items after paths in
    let whole = files.ok.0 in
    let back = written_back after files.items files.len (omega (arith, whole, same)) same in
    record {
      exports =
          c.judge_ages.ensures.names ∙ c.in_ok-read_all.ensures.names ∙ names_numbered c.in_ok-exports.exports.items c.in_ok-exports.ensures.numbered
          ∙ ap (λ paths. numbered_from 0 (texts paths)) c.in_ok-exports.ensures.paths;
      slurms = ap (λ d. paths_of d.slurms.items) c.judge_ages.ensures.rest ∙ ap paths_of back ∙ paths ∙ paths_texts files.items ∙ ap texts c.in_ok-slurms.ensures.paths;
      points = ap (λ d. points_of d.points.items) c.judge_ages.ensures.rest ∙ c.in_ok-read_points.ensures.paths ∙ points_texts c.in_ok-offered.offered.items ∙ ap texts c.in_ok-offered.ensures;
    }

pub returns-clause-reads : goal.returns-clause-reads
returns-clause-reads g c =
    let d = c.judge_ages.new.self in
    let only = c.judge_ages.ensures.rest in
    let held = c.in_ok-held.ensures.empty in
    let sources = c.in_ok-service.ensures.sources in
    let now = c.seconds-now.result in
    let started : now ≡ d.started = sym (ap (λ d. d.started) only) in
    let names : names_of c.in_ok-exports.exports.items ≡ names_of d.exports.items = sym (c.judge_ages.ensures.names ∙ c.in_ok-read_all.ensures.names) in
    let files = c.in_ok-slurms.slurms in
    let after = c.read_slurms.new.slurms in
    let paths = c.in_ok-read_slurms.ensures.paths ∙ ap paths_of c.deref_mut.ensures.value in
    let same = same_many files.items after paths in
    let files_whole = files.ok.0 in
    let back = written_back after files.items files.len (omega (arith, files_whole, same)) same in
    let slurm_paths : paths_of c.deref_mut.result.now ≡ paths_of d.slurms.items = sym (ap (λ d. paths_of d.slurms.items) only ∙ ap paths_of back ∙ c.in_ok-read_slurms.ensures.paths) in
    let point_paths : points_of c.in_ok-offered.offered.items ≡ points_of d.points.items = sym (ap (λ d. points_of d.points.items) only ∙ c.in_ok-read_points.ensures.paths) in
    let many : length c.in_ok-exports.exports.items ≡ length c.args.sources.files.items = sym (length-map c.in_ok-exports.exports.items (λ e. e.file.path)) ∙ ap length c.in_ok-exports.ensures.paths in
    let first_many : length c.in_ok-service.service.sources.lists.items ≡ length c.in_ok-held.held.lists.items = ap (λ s. length s.lists.items) sources in
    let held_many = held.2.0 in
    let counted = c.len.ensures in
    let whole = c.args.sources.files.ok.0 in
    let last = same_length c.in_ok-exports.exports.items d.exports.items names in
    let reads = c.in_ok-read_slurms.ensures.reads in
    let offers = offers_named g.W.Disk.answers (λ at. at ≡ now) c.in_ok-offered.offered.items d.points.items c.read_slurms.new.service.sources c.read_points.new.service.sources point_paths c.in_ok-read_points.ensures.offers in
    record {
      first = c.in_ok-service.service.sources;
      none = (
        omega (arith, first_many, held_many, counted, whole, many, last),
        subst (λ s. All IsNothing s.lists.items) (sym sources) held.2.1,
      );
      no_exceptions = ap (λ s. s.exceptions) sources ∙ held.0;
      no_points = ap (λ s. s.repository) sources ∙ held.1;
      leaves = ap (λ s. s.leaves_out) sources ∙ c.in_ok-held.ensures.planned.0;
      aged = ap (λ s. s.max_age) sources ∙ c.in_ok-held.ensures.planned.1;
      loaded = c.read_all.new.service.sources;
      excepted = c.read_slurms.new.service.sources;
      exports =
          subst (λ at. LoadsEach g.W.Disk.answers at d.exports.items (marks_of d.exports.items) c.in_ok-service.service.sources c.read_all.new.service.sources) started
          (subst (λ marks. LoadsEach g.W.Disk.answers now d.exports.items marks c.in_ok-service.service.sources c.read_all.new.service.sources) (sym c.judge_ages.ensures.marks)
          (loads_named g.W.Disk.answers now c.in_ok-exports.exports.items d.exports.items (marks_of c.read_all.new.exports.items) c.in_ok-service.service.sources c.read_all.new.service.sources names c.in_ok-read_all.ensures.loads));
      slurms = record {
        stamps = reads.stamps;
        contents = reads.contents;
        read = subst (λ paths. AreContents g.W.Disk.answers paths reads.stamps reads.contents) slurm_paths reads.read;
        taken = reads.taken;
        noted = ap (λ d. loads_of d.slurms.items) only ∙ ap loads_of back ∙ reads.noted;
      };
      slurm_refusals =
          subst (λ all. SlurmRefusalsCome g.W.Disk.answers all.items) (sym (ap (λ d. d.slurms) only))
          (subst (SlurmRefusalsCome g.W.Disk.answers) (sym back)
          (slurms_refused g.W.Disk.answers c.deref_mut.result.now after c.in_ok-read_slurms.ensures.paths (same_many c.deref_mut.result.now after c.in_ok-read_slurms.ensures.paths)
          (no_bytes_follow g.W.Disk.answers c.deref_mut.result.now after c.in_ok-read_slurms.ensures.refusals)
          (subst (SlurmRefusalsCome g.W.Disk.answers) (sym c.deref_mut.ensures.value) (none_slurms_refused g.W.Disk.answers files.items c.in_ok-slurms.ensures.refusals))));
      points =
          subst (λ s. OffersEach g.W.Disk.answers (λ at. at ≡ d.started) d.points.items c.read_slurms.new.service.sources s.sources) (sym (ap (λ d. d.service) only))
          (subst (λ second. OffersEach g.W.Disk.answers (λ at. at ≡ second) d.points.items c.read_slurms.new.service.sources c.read_points.new.service.sources) started offers);
    }

pub returns-clause-comes : goal.returns-clause-comes
returns-clause-comes g c =
    let d = c.judge_ages.new.self in
    let plan : c.args.plan ≡ d.plan = sym (ap (λ d. d.plan) c.judge_ages.ensures.rest) in
    let numbers = numbered_at d.exports.items (texts c.args.sources.files.items) (returns-clause-watches g c).exports in
    opened_comes g.W.Disk.answers g.W.Time.can_be d (returns-clause-begins g c).second numbers (subst (λ plan. ReadsAll g.W.Disk.answers plan d) plan (returns-clause-reads g c))

pub returns-clause-planned : goal.returns-clause-planned
returns-clause-planned g c =
    let led = returns-clause-leads g c (λ conn. record { before = None; had = None }) in (
      ap (λ d. d.plan) c.judge_ages.ensures.rest,
      sym led.2.made_with.timing ∙ led.1.timing,
      ap (λ d. d.session_ids) c.judge_ages.ensures.rest,
    )
