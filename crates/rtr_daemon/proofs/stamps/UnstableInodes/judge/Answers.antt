use Rattle.std.proofs.Common.{◌≡◌, ◌∙◌, ap, refl, sym}
use Rattle.std.specs.Prelude.{false}
use Rattle.rtr_daemon.specs.Stamps.{is_known}
use Rattle.rtr_daemon.proofs.StampLaws.{stable_news}
use Rattle.rtr_daemon.proofs.stamps.UnstableInodes.judge.Goals as goal

pub returns : goal.returns
returns c =
    let unknown : is_known c.args.path.now c.args.self.now.paths.items ≡ false = ap (is_known c.args.path.now) (sym c.deref.ensures.value) ∙ sym c.if-is_known.ensures in
    stable_news c.args.path.now c.args.self.now.paths.items c.push.new.self.items c.args.first c.args.second c.without_inode-2.result unknown (c.if-not-differ_in_inode.ensures.0 refl) c.without_inode-2.ensures
    (record { path = c.in_ok-from_str.field-0 }, c.in_ok-from_str.ensures.ok, c.in_ok-push.ensures.items)
