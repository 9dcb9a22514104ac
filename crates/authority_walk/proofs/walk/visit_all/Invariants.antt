use Rattle.std.proofs.Common.{◌≡◌, vec_len}
use Rattle.std.specs.declared.cmp.Ordering.{Ordering}
use Rattle.authority_walk.specs.Hierarchy.{Hierarchy}
use Rattle.authority_walk.specs.Stands.{Stands}
use Rattle.authority_walk.specs.declared.walk.Walk.{Walk}
use Rattle.authority_walk.proofs.walk.visit_all.Given as goal

-- The walk is right and at its depth, and the files are the same.
pub record Stays {A V F : Type 0} (cmp : A → A → Ordering) (value : A → V) (h : Hierarchy V) (old new : Walk A) (before after : F) : Type 0 where
  pub right : Stands cmp value h new
  pub depth : new.depth ≡ old.depth
  pub same : after ≡ before

abbrev pub invariant-loop-alloc : goal.invariant-loop-alloc
invariant-loop-alloc g l =
    Stays g.R.Authority.Ord.cmp g.R.Reader.value (g.R.Reader.hierarchy (g.R.Reader.files l.fn.reader)) l.fn.walk l.walk (g.R.Reader.files l.fn.reader) (g.R.Reader.files l.reader)

abbrev pub decreases-loop-alloc : goal.decreases-loop-alloc
decreases-loop-alloc g l = vec_len l.walk.waiting
