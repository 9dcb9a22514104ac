use Rattle.std.proofs.Common.{◌≡◌, ◌+◌, ◌++◌, [], not, length}
use Rattle.std.specs.Prelude.{option_map}
use Rattle.vrps.specs.Merging.{count_of, first_and}
use Rattle.vrps.specs.Walk.{led, left_out}
use Rattle.vrps.proofs.Fronts.{IsAhead}
use Rattle.vrps.proofs.merge.joined.Given as goal

-- What was found and what is to come make up each list.
abbrev pub invariant-loop-p : goal.invariant-loop-p
invariant-loop-p l = record {
  withdraw : l.lists.withdraw.items ++ led (first_and (option_map (λ v. v.now) l.p.first) l.p.of_s (left_out l.p.s.now l.p.t.now)) [] (first_and (option_map (λ v. v.now) l.q.first) l.q.of_s (left_out l.q.s.now l.q.t.now))
      ≡ led (left_out l.older.withdraw.items l.newer.announce.items) [] (left_out l.newer.withdraw.items l.older.announce.items);
  announce : l.lists.announce.items ++ led (first_and (option_map (λ v. v.now) l.p.first) (not l.p.of_s) (left_out l.p.t.now l.p.s.now)) [] (first_and (option_map (λ v. v.now) l.q.first) (not l.q.of_s) (left_out l.q.t.now l.q.s.now))
      ≡ led (left_out l.older.announce.items l.newer.withdraw.items) [] (left_out l.newer.announce.items l.older.withdraw.items);
  p : IsAhead (option_map (λ v. v.now) l.p.first) l.p.s.now l.p.t.now;
  q : IsAhead (option_map (λ v. v.now) l.q.first) l.q.s.now l.q.t.now;
}

abbrev pub decreases-loop-p : goal.decreases-loop-p
decreases-loop-p l = (count_of (option_map (λ v. v.now) l.p.first) + (length l.p.s.now + length l.p.t.now)) + (count_of (option_map (λ v. v.now) l.q.first) + (length l.q.s.now + length l.q.t.now))
