use Rattle.std.proofs.Common.{refl, rules}
use Rattle.rtr_daemon.specs.Serving.{empty_instance, kept_versions}
use Rattle.rtr_daemon.proofs.versions.server_of.Goals as goal

pub returns : goal.returns
returns g c begun =
    let keep = kept_versions c.args.settings.keep in
    let i = empty_instance c.args.ids.session c.args.ids.session0 c.args.ids.serial in
    c.new.ensures.past keep c.args.settings.timing i begun (record { session = search rules; session0 = search rules; start = search rules; sets = tt; news = tt })
    (c.new_both-cache.ensures keep i (c.in_ok-store.ensures c.args.ids.session0) refl)
