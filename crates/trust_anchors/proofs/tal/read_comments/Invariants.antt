use Rattle.std.proofs.Common.{◌≡◌, ℕ, List, length}
use Rattle.trust_anchors.specs.Locators.{IsComment}
use Rattle.trust_anchors.proofs.Cutting.{Grows}
use Rattle.trust_anchors.proofs.tal.read_comments.Given as goal

pub record IsCounted (count : ℕ) (rest bytes : List ℕ) : Type 0 where
  pub lines : List (List ℕ)
  pub counted : length lines ≡ count
  pub grows : Grows IsComment lines rest bytes

-- the lines so far are comments
abbrev pub invariant-loop-line : goal.invariant-loop-line
invariant-loop-line l = IsCounted l.count l.rest l.fn.bytes

-- less remains
abbrev pub decreases-loop-line : goal.decreases-loop-line
decreases-loop-line l = length l.rest
