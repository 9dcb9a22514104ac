-- So far the service went on, and the exports before this one were loaded.
use Rattle.std.proofs.Common.{◌≡◌, ℕ, ◌≤◌, get_or, length, take}
use Rattle.rtr_daemon.specs.Files.{LoadsEach, marks_of, names_of}
use Rattle.rtr_daemon.specs.Serving.{Continues}
use Rattle.rtr_daemon.specs.declared.watched_file.WatchedExport.{WatchedExport}
use Rattle.rtr_daemon.proofs.starting.read_all.Given as goal

abbrev pub invariant-loop-export : goal.invariant-loop-export
invariant-loop-export g l = record {
  goes : Continues g.S.VersionStore.holds g.T.Stream.remaining g.T.Stream.contents l.initial.service l.service;
  loads : LoadsEach g.W.Disk.answers l.now (take l.export-index l.initial.export-items) (take l.export-index (marks_of l.export-items)) l.initial.service.sources l.service.sources;
  count : length l.export-items ≡ length l.initial.export-items;
  names : names_of l.export-items ≡ names_of l.initial.export-items;
  left : (k : ℕ) (d : WatchedExport) → l.export-index ≤ k → get_or l.export-items k d ≡ get_or l.initial.export-items k d;
}
