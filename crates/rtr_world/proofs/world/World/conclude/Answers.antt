use Rattle.std.proofs.Common.{◌∙◌, sym}
use Rattle.rtr_world.specs.World.{Cut}
use Rattle.rtr_world.proofs.CaughtUpLaws.{cut_at_last, has_nothing, is_current_now, told_idle}
use Rattle.rtr_world.proofs.Rounds.{step_of}
use Rattle.rtr_world.proofs.world.World.conclude.Goals as goal

pub returns-in-None-clause-concluded : goal.returns-in-None-clause-concluded
returns-in-None-clause-concluded c = λ made history l s o found rests.
    has_nothing made history c.args.self.now c.args.router l o s found rests (told_idle s.router.link (sym (c.link.ensures l.world s l.shows found) ∙ c.in-Idle.is)) (sym (c.in-None.ensures _ l.shows.parts.serves))

pub returns-in-Some-clause-concluded : goal.returns-in-Some-clause-concluded
returns-in-Some-clause-concluded c = λ made history l s o found rests.
    is_current_now made history c.args.self.now c.args.router l o s found rests (told_idle s.router.link (sym (c.link.ensures l.world s l.shows found) ∙ c.in-Idle.is)) _ (sym (c.in-Some.ensures _ l.shows.parts.serves))

pub returns-in_default : goal.returns-in_default
returns-in_default c = record {
  concluded = λ made history l s o found rests.
      cut_at_last made history c.args.self.now c.args.router l o s found rests (λ idle. c.in_default.not-Idle (c.link.ensures l.world s l.shows found ∙ idle)) c.on-cut.result c.on-cut.new.self
      (step_of made history c.args.self.now c.on-cut.new.self c.args.router (Cut 0) c.on-cut.result l c.on-cut.ensures);
  there = λ e. cc;
}
