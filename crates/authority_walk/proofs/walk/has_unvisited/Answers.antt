use Rattle.std.proofs.Common.{◌≡◌, false, refl, sym, subst, ◌∙◌, rules}
use Rattle.std.specs.List.{All}
use Rattle.std.proofs.lemmas.Bool.{false≢true}
use Rattle.std.proofs.lemmas.List.Elements.{All-contains}
use Rattle.authority_walk.specs.Walks.{SetHas}
use Rattle.authority_walk.proofs.Having.{all_so_far, all_at_end, found_at}
use Rattle.authority_walk.proofs.walk.has_unvisited.Goals as goal

pub returns-then-not-is_visited : goal.returns-then-not-is_visited
returns-then-not-is_visited g c =
    let a = c.authority-item.result in
    let unseen : c.is_visited.result ≡ false = search rules in
    let among = found_at c.args.walk.now.below.items c.deref-authority-items.result.now c.loop-authority.authority-index a c.deref-authority-items.ensures.value c.loop-authority-test.true c.authority-item.is in
    (λ _. (g.R.Reader.value a, (a, among, refl), λ seen. absurd (false≢true (sym unseen ∙ c.is_visited.ensures.1 seen))), λ _. refl)

pub loop-authority-preserved : goal.loop-authority-preserved
loop-authority-preserved g c =
    all_so_far (λ a. SetHas g.R.Authority.Ord.cmp g.R.Reader.value c.args.walk.now.visited (g.R.Reader.value a)) c.args.walk.now.below.items c.deref-authority-items.result.now c.loop-authority.authority-index c.authority-item.result
    c.deref-authority-items.ensures.value c.loop-authority-test.true c.authority-item.is c.loop-authority.invariant (c.is_visited.ensures.0 (search rules))

pub returns : goal.returns
returns g c =
    let P : g.row.R-Authority.Denot → Type 0 = λ a. SetHas g.R.Authority.Ord.cmp g.R.Reader.value c.args.walk.now.visited (g.R.Reader.value a) in
    let all : All P c.args.walk.now.below.items = all_at_end P c.args.walk.now.below.items c.deref-authority-items.result.now c.loop-authority.authority-index c.deref-authority-items.ensures.value c.loop-authority-test.false c.loop-authority.invariant in
    (λ t. absurd (false≢true t), λ k. absurd (k.2 (subst (SetHas g.R.Authority.Ord.cmp g.R.Reader.value c.args.walk.now.visited) k.1.2 (All-contains P c.args.walk.now.below.items k.1.0 all k.1.1))))
