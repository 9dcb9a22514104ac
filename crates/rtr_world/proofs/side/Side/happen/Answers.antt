use Rattle.rtr_world.proofs.Words.{◌≡◌, Bool, false, true, ◌∙◌, subst, sym}
use Rattle.rtr_world.specs.Events.{side_event_of}
use Rattle.rtr_world.specs.SideShown.{Goes}
use Rattle.rtr_world.specs.World as model
use Rattle.rtr_world.proofs.Happening.{happens}
use Rattle.rtr_world.proofs.side.Side.happen.Goals as goal
use Rattle.rtr_world.proofs.side.Side.happen.Goals.{then-is_err, else-is_err}

differs : {A : Type 0} (b : Bool) → b ≡ true → b ≡ false → A
differs b is none = absurd (let k : true ≡ false = sym is ∙ none in cc)

pub returns : goal.returns
returns c = λ w at s start h.
    let done = c.begin-done.ensures w at s start h in
    elim c.if-is_err.branch [
      | then-is_err b ↦ happens w at (side_event_of c.args.event) s c.args.self.now c.begin-done.new.self c.if-is_err.self c.settle.new.self c.begin-done.new.cache c.if-is_err.cache c.settle.new.cache c.begin-done.result done
          (λ err. subst (λ x. Goes (λ w s. model.cut 0 s) c.begin-done.new.cache c.begin-done.new.self x c.if-is_err.self) (sym b.cache-is)
          (subst (λ v. Goes (λ w s. model.cut 0 s) c.begin-done.new.cache c.begin-done.new.self b.cut.new.cache v) (sym b.self-is) b.cut.ensures))
          (λ ok. differs c.is_err.result b.if-is_err.true (c.is_err.ensures.value ∙ ok)) c.settle.ensures
      | else-is_err b ↦ happens w at (side_event_of c.args.event) s c.args.self.now c.begin-done.new.self c.if-is_err.self c.settle.new.self c.begin-done.new.cache c.if-is_err.cache c.settle.new.cache c.begin-done.result done
          (λ err. differs c.is_err.result (c.is_err.ensures.value ∙ err) b.if-is_err.false) (λ ok. (b.cache-is, b.self-is)) c.settle.ensures
    ]
