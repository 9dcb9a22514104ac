use Rattle.std.proofs.Common.{Ok}
use Rattle.rtr_world.specs.World as model
use Rattle.rtr_world.proofs.Happening.{begins_as, noted_shows, of_case, passes, speaks_shown}
use Rattle.rtr_world.proofs.Moving.{alone}
use Rattle.rtr_world.proofs.side.Side.begin.Goals as goal

pub returns-in-Connect : goal.returns-in-Connect
returns-in-Connect c = λ w at s start h. of_case w at _ _ s _ c.connect.result c.in-Connect.is (c.connect.ensures w at s start h)

pub returns-in-RouterSends : goal.returns-in-RouterSends
returns-in-RouterSends c = λ w at s start h. of_case w at _ _ s _ c.router_sends.result c.in-RouterSends.is (begins_as w at _ s _ _ c.router_sends.result (λ t a. alone w at s t _ _ _ h a) (c.router_sends.ensures w at s h.side))

pub returns-in-CacheSends : goal.returns-in-CacheSends
returns-in-CacheSends c = λ w at s start h. of_case w at _ _ s _ c.cache_sends.result c.in-CacheSends.is (c.cache_sends.ensures w at s h)

pub returns-in-RouterGets : goal.returns-in-RouterGets
returns-in-RouterGets c = λ w at s start h. of_case w at _ _ s _ (Ok tt) c.in-RouterGets.is (begins_as w at _ s _ _ (Ok tt) (λ t a. alone w at s t _ _ _ h a) (c.router_gets.ensures w at s h.side))

pub returns-in-RouterRestart : goal.returns-in-RouterRestart
unfolding model.side_step
returns-in-RouterRestart c = λ w at s start h. of_case w at _ _ s _ (Ok tt) c.in-RouterRestart.is (passes w at _ s _ (c.restart.ensures w at s h))

pub returns-in-Speak : goal.returns-in-Speak
unfolding model.side_step model.speaks
returns-in-Speak c = λ w at s start h. of_case w at _ _ s _ (Ok tt) c.in-Speak.is (passes w at _ s _ (alone w at s _ _ _ _ h (speaks_shown w at s _ _ _ h.side (c.speak.ensures.calls s.router h.side.router))))

pub returns-in-Cut : goal.returns-in-Cut
unfolding model.side_step
returns-in-Cut c = λ w at s start h. of_case w at _ _ s _ (Ok tt) c.in-Cut.is (passes w at _ s _ (c.cut.ensures w at s h))

pub returns-in-NotifyRouter : goal.returns-in-NotifyRouter
unfolding model.side_step
returns-in-NotifyRouter c = λ w at s start h. of_case w at _ _ s _ (Ok tt) c.in-NotifyRouter.is (passes w at _ s _ (c.notify.ensures w at s h))

pub returns-in-Ask : goal.returns-in-Ask
unfolding model.side_step
returns-in-Ask c = λ w at s start h. of_case w at _ _ s _ (Ok tt) c.in-Ask.is (passes w at _ s _ (alone w at s _ _ _ _ h (noted_shows w at s _ _ _ h.side (c.ask-asked.ensures.calls s.router h.side.router))))

pub returns-in-Tick : goal.returns-in-Tick
unfolding model.side_step
returns-in-Tick c = λ w at s start h. of_case w at _ _ s _ (Ok tt) c.in-Tick.is (passes w at _ s _ (alone w at s _ _ _ _ h (noted_shows w at s _ _ _ h.side (c.tick.ensures.calls s.router h.side.router))))
