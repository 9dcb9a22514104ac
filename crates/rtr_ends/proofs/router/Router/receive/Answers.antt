use Rattle.std.proofs.Common.{◌∷◌, refl}
use Rattle.rtr_ends.specs.Router.{played, Receives}
use Rattle.rtr_ends.proofs.RouterSteps.{led, receives_so}
use Rattle.rtr_ends.proofs.router.Router.receive.Goals as goal

pub returns-clause-shown : goal.returns-clause-shown
returns-clause-shown c =
    receives_so c.args.self.now (record c.args.self.now { machine = c.advance_clock.new.self }) c.take.new.self c.args.now c.args.piece.now c.take.new.piece.now _
    c.advance_clock.ensures refl c.take.ensures.takes refl

pub returns-clause-leads : goal.returns-clause-leads
returns-clause-leads c =
    let so = receives_so c.args.self.now (record c.args.self.now { machine = c.advance_clock.new.self }) c.take.new.self c.args.now c.args.piece.now c.take.new.piece.now _
    c.advance_clock.ensures refl c.take.ensures.takes refl in
    (so.0, λ calls s. led (Receives c.args.now so.0 c.args.piece.now ∷ calls) _ (so.1 (played calls).router s).shown)
