use Rattle.std.proofs.Common.{take, drop, option_copied, ap, sym, subst, ◌∙◌}
use Rattle.http_server.specs.Host.{is_port}
use Rattle.status_server.specs.Hosts.{IsServedName}
use Rattle.status_server.proofs.host.is_served_host.Goals as goal

pub returns-then-is_port : goal.returns-then-is_port
returns-then-is_port c =
    let front = ap (λ n. take n c.args.host.now) (sym c.host_len.ensures.value) ∙ sym c.split_at.ensures.front in
    let back = ap (λ n. drop n c.args.host.now) (sym c.host_len.ensures.value) ∙ sym c.split_at.ensures.back in (
      λ t. (ap is_port back ∙ sym c.is_port.ensures ∙ c.if-is_port.true, subst (IsServedName (option_copied c.args.name)) (sym front) (c.is_served_name.ensures.0 t)),
      λ s. c.is_served_name.ensures.1 (subst (IsServedName (option_copied c.args.name)) front s.1),
    )
