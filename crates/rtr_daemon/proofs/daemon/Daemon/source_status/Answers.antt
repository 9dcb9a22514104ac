use Rattle.std.proofs.Common.{ap, subst, sym, ◌∙◌}
use Rattle.rtr_server.specs.Clients.{made, present}
use Rattle.rtr_daemon.proofs.DroppingLaws.{ran_session0}
use Rattle.rtr_daemon.proofs.daemon.Daemon.source_status.Goals as goal

pub returns-clause-set : goal.returns-clause-set
returns-clause-set g c p is =
    let server = is.server in
    record {
      session = c.session.ensures (present p).keep (present p).cache (subst (λ store. g.S.VersionStore.holds (present p).keep (present p).cache store) (sym (c.version_store.ensures ∙ ap (λ s. s.cache.store) c.server.ensures)) server.shows.store);
      session0 = sym (ran_session0 p.calls (made p) ∙ is.made_with.session0_is);
      serial = c.serial.ensures p is;
      ipv4 = ap (λ f. f.ipv4) is.families;
      ipv6 = ap (λ f. f.ipv6) is.families;
    }
