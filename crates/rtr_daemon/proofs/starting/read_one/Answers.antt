use Rattle.std.proofs.Common.{subst, sym}
use Rattle.std.specs.Prelude.{None, Ok}
use Rattle.std.specs.String.{string_bytes}
use Rattle.sources.specs.Shrinking.{ExportTakenWithin}
use Rattle.rtr_daemon.specs.DiskAnswers.{ReadsWhole}
use Rattle.rtr_daemon.specs.Files.{path_of}
use Rattle.rtr_daemon.specs.Serving.{Continues}
use Rattle.rtr_daemon.proofs.starting.read_one.Goals as goal

pub returns-in-Read-clause-loads : goal.returns-in-Read-clause-loads
returns-in-Read-clause-loads g c =
    let bytes = c.as_slice.result.now in (
      c.in-Read.stamp,
      (
        bytes,
        subst (λ p. ReadsWhole g.W.Disk.answers (string_bytes p) c.in-Read.stamp bytes) c.loop-time.invariant.path (subst (ReadsWhole g.W.Disk.answers (path_of c.loop-time.export.file) c.in-Read.stamp) (sym c.as_slice.ensures.value) c.in-Read.ensures),
        subst (λ n. ExportTakenWithin None bytes c.args.now n (Ok c.in_ok-expired-in-Read.expired) c.args.service.now.sources c.take.new.service.sources) c.loop-time.invariant.number
            (subst (λ s. ExportTakenWithin None bytes c.args.now c.loop-time.export.number (Ok c.in_ok-expired-in-Read.expired) s.sources c.take.new.service.sources) c.loop-time.invariant.service c.in_ok-expired-in-Read.ensures.loads),
      ),
      c.set_loaded.ensures.loaded,
      c.set_loaded.ensures.refused,
      c.set_loaded.ensures.at,
    )

pub returns-in-Read-clause-goes : goal.returns-in-Read-clause-goes
returns-in-Read-clause-goes g c =
    subst (λ service. Continues g.S.VersionStore.holds g.T.Stream.remaining g.T.Stream.contents service c.take.new.service) c.loop-time.invariant.service c.in_ok-expired-in-Read.ensures.goes

pub returns-in_err-expired-in-Read-clause-goes : goal.returns-in_err-expired-in-Read-clause-goes
returns-in_err-expired-in-Read-clause-goes g c =
    subst (λ service. Continues g.S.VersionStore.holds g.T.Stream.remaining g.T.Stream.contents service c.take.new.service) c.loop-time.invariant.service c.in_err-expired-in-Read.ensures.goes
