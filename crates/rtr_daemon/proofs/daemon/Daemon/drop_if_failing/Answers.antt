use Rattle.std.proofs.Common.{◌≤◌, ◌<◌, ◌-◌, ◌∙◌, ap, arith, inl, inr, subst, sym}
use Rattle.std.specs.Prelude.{option_map}
use Rattle.rtr_server.specs.Clients.{ShowsServer, present}
use Rattle.rtr_daemon.specs.Due.{expire_millis}
use Rattle.rtr_daemon.proofs.DroppingLaws.{keeps, late_early, late_long, late_none, no_sets}
use Rattle.rtr_daemon.proofs.daemon.Daemon.drop_if_failing.Goals as goal

pub returns-in_default : goal.returns-in_default
returns-in_default g c =
    let a = c.args.self.now in
    keeps g.W.Time.can_tick g.S.VersionStore.holds g.T.Stream.remaining g.T.Stream.contents a (late_none g.W.Time.can_tick g.S.VersionStore.holds g.T.Stream.remaining g.T.Stream.contents a.failing a (sym c.in_default.is))

pub returns-then-saturating_sub-expire_millis : goal.returns-then-saturating_sub-expire_millis
returns-then-saturating_sub-expire_millis g c =
    let a = c.args.self.now in
    let less : c.millis-now.result - c.in-Some.since < expire_millis a = omega (arith, c.if-saturating_sub-expire_millis.true, c.saturating_sub.ensures, c.expire_millis.ensures) in
    keeps g.W.Time.can_tick g.S.VersionStore.holds g.T.Stream.remaining g.T.Stream.contents a
    (late_early g.W.Time.can_tick g.S.VersionStore.holds g.T.Stream.remaining g.T.Stream.contents a.failing c.in-Some.since c.millis-now.result a c.in-Some.is c.millis-now.ensures.ticks less)

pub returns-in-Some-current : goal.returns-in-Some-current
returns-in-Some-current g c =
    let a = c.args.self.now in
    let long : expire_millis a ≤ c.millis-now.result - c.in-Some.since = omega (arith, c.if-saturating_sub-expire_millis.false, c.saturating_sub.ensures, c.expire_millis.ensures) in
    record {
      goes = c.drop_versions.ensures.goes;
      late = late_long g.W.Time.can_tick g.S.VersionStore.holds g.T.Stream.remaining g.T.Stream.contents a.failing c.in-Some.since c.millis-now.result a c.drop_versions.new.self c.in-Some.is c.millis-now.ensures.ticks long (inr c.drop_versions.ensures.clients);
      clients = inr c.drop_versions.ensures.clients;
      rest = c.drop_versions.ensures.rest;
    }

pub returns-in_default-current : goal.returns-in_default-current
returns-in_default-current g c =
    let a = c.args.self.now in
    let long : expire_millis a ≤ c.millis-now.result - c.in-Some.since = omega (arith, c.if-saturating_sub-expire_millis.false, c.saturating_sub.ensures, c.expire_millis.ensures) in
    keeps g.W.Time.can_tick g.S.VersionStore.holds g.T.Stream.remaining g.T.Stream.contents a
    (late_long g.W.Time.can_tick g.S.VersionStore.holds g.T.Stream.remaining g.T.Stream.contents a.failing c.in-Some.since c.millis-now.result a a c.in-Some.is c.millis-now.ensures.ticks long
    (inl
    (λ p shows. (
      p,
      shows,
      no_sets (present p).cache
          (ap (λ found. option_map (λ f. record { serial = f.0.0; set = f.1.now }) found) (sym c.in_default-current.is)
          ∙ c.current.ensures p (subst (λ server. ShowsServer g.S.VersionStore.holds g.T.Stream.remaining g.T.Stream.contents p server) (sym c.server.ensures) shows.server)),
    ))))
