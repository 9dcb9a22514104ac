use Rattle.std.proofs.Common.{◌≡◌, [], ◌∷◌, ◌++◌, subst}
use Rattle.std.specs.List.{Contains}
use Rattle.authority_walk.specs.Walks.{Has, SetHas, With}
use Rattle.authority_walk.proofs.Having.{has_pushed}
use Rattle.authority_walk.proofs.Progressing.{less_left}
use Rattle.authority_walk.proofs.Walking.{waits}
use Rattle.authority_walk.proofs.walk.visit.Goals as goal

pub take-requires : goal.take-requires
take-requires g c =
    let value = g.R.Reader.value in
    let walk = c.args.walk.now in
    let by = c.in-Some.by in
    record {
      right = waits (g.R.Reader.hierarchy (g.R.Reader.files c.args.reader.now)) walk.depth (SetHas g.R.Authority.Ord.cmp value walk.visited) (Has value walk.waiting.items) (With (Has value c.pop.new.self.items) (value by)) (Has value walk.below.items)
          (Contains walk.vrps.items) (has_pushed value c.pop.new.self.items walk.waiting.items by c.in-Some.ensures.items) c.requires.right;
    }

pub returns-in_ok-push-in-Ok-Some-clause-part : goal.returns-in_ok-push-in-Ok-Some-clause-part
returns-in_ok-push-in-Ok-Some-clause-part g c = λ _.
    let part = rw c.in-Ok-Some.field-0-is at c.in-Ok-Some.ensures.part in
    let rest = rw c.in-Ok-Some.field-0-is at c.in-Ok-Some.ensures.rest in
    less_left (g.R.Reader.left c.take.new.reader) (g.R.Reader.left c.args.reader.now) g.R.Reader.value c.take.new.walk.waiting.items c.push.new.self.items c.pop.new.self.items c.args.walk.now.waiting.items c.in-Ok-Some.by c.in-Some.by
    c.in_ok-push-in-Ok-Some.ensures.items c.in-Some.ensures.items rest part.1

pub returns-in_ok-push-in-Err-clause-right : goal.returns-in_ok-push-in-Err-clause-right
returns-in_ok-push-in-Err-clause-right g c =
    let value = g.R.Reader.value in
    let walk = c.take.new.walk in
    let by = c.in-Some.by in
    let items = c.push-in-Err.new.self.items in
    let e : items ≡ walk.waiting.items ++ by ∷ [] = subst (λ a. items ≡ walk.waiting.items ++ a ∷ []) c.in-Err.ensures.back c.in_ok-push-in-Err.ensures.items in
    waits (g.R.Reader.hierarchy (g.R.Reader.files c.args.reader.now)) walk.depth (SetHas g.R.Authority.Ord.cmp value walk.visited) (With (Has value walk.waiting.items) (value by)) (Has value items) (Has value walk.below.items)
    (Contains walk.vrps.items) (λ x. ((has_pushed value walk.waiting.items items by e x).1, (has_pushed value walk.waiting.items items by e x).0)) c.in-Err.ensures.err
