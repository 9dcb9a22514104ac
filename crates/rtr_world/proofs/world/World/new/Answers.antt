use Rattle.rtr_world.proofs.Words.{◌∙◌, ◌++◌, ◌∷◌, ap, false, refl, subst, true, [], list_any, ◌≡◌, ℕ, Option, None, slice_get, HoldsSteps, Conn, ShowsCache, without_conns, Intervals}
use Rattle.rtr_world.specs.History.{side_at}
use Rattle.rtr_world.specs.Reached.{ShowsAt}
use Rattle.rtr_world.specs.World.{World, new_sides, new_world}
use Rattle.rtr_world.proofs.Showing.{all_new_show, new_own, used_more, uses}
use Rattle.rtr_world.proofs.world.World.new.Goals as goal

pub returns : goal.returns
returns c =
    let at : ℕ → Option Conn = λ n. None in
    let w : World = new_world c.args.routers c.args.session c.args.session0 c.args.start c.args.keep in
    record {
      world = new_world c.args.routers c.args.session c.args.session0 c.args.start c.args.keep;
      leads = (record { session = c.ranges.session.fits; session0 = c.ranges.session0.fits; start = c.ranges.start.fits }, refl);
      shows = record {
        rest = record { keep = refl; used = λ session session0. ap (list_any (uses session session0)) (c.in_ok-push.ensures.items ∙ ap (λ l. l ++ record { v0 = c.args.session0; v1 = c.args.session } ∷ []) c.new-sessions.ensures.items) ∙ used_more [] [] w.present (record { v0 = c.args.session0; v1 = c.args.session }) session session0 (record { v1 = refl; v0 = refl }) refl; sessions = record { v1 = refl; v0 = refl }; start = refl };
        at = λ n. None;
        parts = record {
          serves = subst (λ (t : Intervals). ShowsCache HoldsSteps (without_conns c.args.keep t w.present) c.new_both.result) c.default.ensures (c.new_both.ensures c.args.keep w.present (c.in_ok-store.ensures c.args.session0) refl);
          each = λ r. subst (λ n. ShowsAt w at (side_at r (new_sides n)) (slice_get c.in_ok-sides.sides.items r)) c.in_ok-sides.ensures.0 (all_new_show w at c.in_ok-sides.sides.items c.in_ok-sides.ensures.1 r);
          own = new_own c.in_ok-sides.sides.items c.in_ok-sides.ensures.1;
          all = λ n some. absurd (let k : false ≡ true = some in cc);
        };
      };
    }
