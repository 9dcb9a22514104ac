use Rattle.std.proofs.Common.{◌≡◌, vec_len}
use Rattle.std.specs.declared.cmp.Ordering.{Ordering}
use Rattle.authority_walk.specs.Hierarchy.{Hierarchy}
use Rattle.authority_walk.specs.Progress.{left_of}
use Rattle.authority_walk.specs.Stands.{Stands}
use Rattle.authority_walk.specs.declared.walk.Walk.{Walk}
use Rattle.authority_walk.proofs.walk.visit_whole.Given as goal

-- The walk is right and at its depth, as many wait, and the files are the same.
pub record Stays {A V F : Type 0} (cmp : A → A → Ordering) (value : A → V) (h : Hierarchy V) (old new : Walk A) (before after : F) : Type 0 where
  pub right : Stands cmp value h new
  pub waiting : vec_len new.waiting ≡ vec_len old.waiting
  pub depth : new.depth ≡ old.depth
  pub same : after ≡ before

abbrev pub invariant-loop : goal.invariant-loop
invariant-loop g l =
    Stays g.R.Authority.Ord.cmp g.R.Reader.value (g.R.Reader.hierarchy (g.R.Reader.files l.fn.reader)) l.fn.walk l.walk (g.R.Reader.files l.fn.reader) (g.R.Reader.files l.reader)

abbrev pub decreases-loop : goal.decreases-loop
decreases-loop g l = left_of (g.R.Reader.left l.reader) g.R.Reader.value l.walk.waiting.items
