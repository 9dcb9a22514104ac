use Rattle.std.proofs.Common.{◌≡◌, ◌∙◌, ap, inr, refl, subst, sym}
use Rattle.std.specs.Prelude.{◌+◌, ◌%◌, ◌^◌, false, option_map, true}
use Rattle.rtr_server.specs.Clients.{present}
use Rattle.vrps.specs.Instance.{NumberedSet}
use Rattle.rtr_daemon.specs.Serving.{new_past}
use Rattle.rtr_daemon.proofs.DroppingLaws.{begins_anew, no_sets}
use Rattle.rtr_daemon.proofs.service.Service.begin_anew.Goals as goal

pub returns-in_default-clause-emptied : goal.returns-in_default-clause-emptied
returns-in_default-clause-emptied g c p is =
    (p, record { server = is.server; newest = is.newest; families = is.families; points = is.points; made_with = is.made_with }, no_sets (present p).cache (ap (λ found. option_map (λ f. record { serial = f.0.0; set = f.1.now }) found) (sym c.in_default.is) ∙ c.current.ensures p is.server))

pub returns-clause-drops : goal.returns-clause-drops
returns-clause-drops g c = inr (λ p is.
    let self = c.args.self.now in
    let i = (present p).cache in
    let found : NumberedSet = record { serial = c.in-Some.serial.0; set = c.in-Some._set.now } in
    let session = c.session.ensures (present p).keep i (subst (λ store. g.S.VersionStore.holds (present p).keep i store) (sym c.version_store.ensures) is.server.shows.store) in (
      new_past self.settings c.session.result self.session0 ((c.in-Some.serial.0 + 1) % 2 ^ 32) p.begun,
      begins_anew self.settings c.session.result self.session0 c.in-Some.serial.0 found p is.made_with (ap (λ it. option_map (λ f. record { serial = f.0.0; set = f.1.now }) it) (sym c.in-Some.is) ∙ c.current.ensures p is.server) refl session,
      record {
        server = c.in_ok-self.ensures p.begun;
        newest = λ e. absurd (let never : true ≡ false = e in cc);
        families = c.none-self.ensures;
        points = is.points;
        made_with = record { keep = refl; timing = refl; most = refl; session0_is = refl };
      },
      refl,
    ))

pub returns-clause-emptied : goal.returns-clause-emptied
returns-clause-emptied g c p is =
    let self = c.args.self.now in (
      new_past self.settings c.session.result self.session0 ((c.in-Some.serial.0 + 1) % 2 ^ 32) p.begun,
      record {
        server = c.in_ok-self.ensures p.begun;
        newest = λ e. absurd (let never : true ≡ false = e in cc);
        families = c.none-self.ensures;
        points = is.points;
        made_with = record { keep = refl; timing = refl; most = refl; session0_is = refl };
      },
      refl,
    )
