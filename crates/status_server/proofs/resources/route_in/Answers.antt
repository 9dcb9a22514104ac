use Rattle.std.specs.Prelude.{Option, Some, None, IfNone, MatchOption}
use Rattle.status_server.proofs.resources.route_in.Goals as goal

-- what a None says
none_says : {A : Type 0} (r : Option A) (lacks says : Type 0) (some : A → Type 0) → MatchOption r lacks some → (lacks → says) → IfNone r says
none_says (Some x) lacks says some m f = tt
none_says None lacks says some m f = f m

pub returns-clause-none : goal.returns-clause-none
returns-clause-none c = none_says c.strip_prefix.result _ _ _ c.strip_prefix.ensures.cases (λ lacks. λ rest e. lacks rest e)
