use Rattle.std.proofs.Common.{subst, sym}
use Rattle.rtr_daemon.specs.Files.{path_of}
use Rattle.rtr_daemon.proofs.watched_file.WatchedFile.content.Goals as goal

pub returns-in-Read-clause-reads : goal.returns-in-Read-clause-reads
returns-in-Read-clause-reads g c =
    let h = c.in-Read.ensures in
    let path = path_of c.args.self.now in
    record {
      first = c.args.env.now;
      second = c.stamp.new.self;
      third = h.1;
      fourth = h.2;
      before = subst (λ s. g.W.Disk.answers.stamps c.args.env.now path s c.stamp.new.self) (sym h.0) (subst (λ p. g.W.Disk.answers.stamps c.args.env.now p c.in-Ok.stamp c.stamp.new.self) c.as_str.ensures.value c.in-Ok.ensures.stamps);
      read = h.3;
      after = subst (λ s. g.W.Disk.answers.stamps h.1 path s h.2) (sym h.0) h.4;
    }
