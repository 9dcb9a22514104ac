use Rattle.std.proofs.Common.{◌≡◌, ◌↔◌, Bool, true, false, refl, sym}
use Rattle.authority_walk.proofs.laws.one_answer.Goals as goal

-- two answers to one question are the same
alike : {P : Type 0} (a b : Bool) → (a ≡ true) ↔ P → (b ≡ true) ↔ P → a ≡ b
alike true b p q = sym (q.1 (p.0 refl))
alike false true p q = p.1 (q.0 refl)
alike false false p q = refl

pub returns : goal.returns
returns g c = record {
  vrps = λ files xs ys a b p q vrp. (λ k. (q.listed vrp).1 ((p.listed vrp).0 k), λ k. (p.listed vrp).1 ((q.listed vrp).0 k));
  deeper = λ files xs ys a b p q. alike a b p.deeper q.deeper;
}
