use Rattle.std.proofs.Common.{◌≡◌, ◌∙◌, not, ◌&&◌, [], None, ◌⊎◌, inl, inr, ap, sym, subst, refl}
use Rattle.std.specs.Prelude.{option_map}
use Rattle.vrps.specs.Walk.{led, left_out}
use Rattle.vrps.proofs.Fronts.{ahead, goes_end, goes_equal, goes_first, goes_greater, goes_less, not_not, swapped}
use Rattle.vrps.proofs.Walks.{Ascends, led_ascends, left_out_ascends}
use Rattle.vrps.proofs.merge.joined.Goals as goal
use Rattle.vrps.proofs.merge.joined.Goals.{in_default, in_default-2}

pub loop-p-init : goal.loop-p-init
loop-p-init c =
    let p = c.front_of-p.ensures.front in
    let q = c.front_of-q.ensures.front in
    let gone = c.as_slice-gone.ensures.value in
    let came = c.as_slice-came.ensures.value in
    let lost = c.as_slice-lost.ensures.value in
    let new = c.as_slice-new.ensures.value in
    record {
      withdraw = goes_first _ _ _ _ _ c.in_ok-with_capacity.ensures.items p.only_s q.only_s ∙ (λ i. led (left_out (gone i) (new i)) [] (left_out (lost i) (came i)));
      announce = goes_first _ _ _ _ _ c.in_ok-with_capacity-2.ensures.items p.only_t q.only_t ∙ (λ i. led (left_out (new i) (gone i)) [] (left_out (came i) (lost i))) ∙ swapped _ _;
      p = ahead _ _ _ _ _ _ p;
      q = ahead _ _ _ _ _ _ q;
    }

pub loop-p-preserved-in_ok-put-in-Less : goal.loop-p-preserved-in_ok-put-in-Less
loop-p-preserved-in_ok-put-in-Less c =
    let p = c.loop-p.p in
    let q = c.loop-p.q in
    let i = c.loop-p.invariant in
    let d = ap (λ o. option_map (λ v. v.now) o) c.in-Some-Some.is-0 in
    let e = ap (λ o. option_map (λ v. v.now) o) c.in-Some-Some.is-1 in
    let front = c.front_of-p-in-Less.ensures.front in
    let is = sym c.cmp.ensures ∙ c.in-Less.is in
    record {
      withdraw = goes_less _ _ _ _ p.of_s q.of_s (left_out p.s.now p.t.now) (left_out q.s.now q.t.now) _ c.loop-p.lists.withdraw.items _ _ d e is i.p.after_s (left_out_ascends p.s.now p.t.now) i.q.after_s (left_out_ascends q.s.now q.t.now) front.only_s c.in_ok-put-in-Less.ensures.withdraw i.withdraw;
      announce = goes_less _ _ _ _ (not p.of_s) (not q.of_s) (left_out p.t.now p.s.now) (left_out q.t.now q.s.now) _ c.loop-p.lists.announce.items _ _ d e is i.p.after_t (left_out_ascends p.t.now p.s.now) i.q.after_t (left_out_ascends q.t.now q.s.now) front.only_t c.in_ok-put-in-Less.ensures.announce i.announce;
      p = ahead _ _ _ _ _ _ front;
      q = i.q;
    }

pub loop-p-preserved-in_ok-put-in-Greater : goal.loop-p-preserved-in_ok-put-in-Greater
loop-p-preserved-in_ok-put-in-Greater c =
    let p = c.loop-p.p in
    let q = c.loop-p.q in
    let i = c.loop-p.invariant in
    let d = ap (λ o. option_map (λ v. v.now) o) c.in-Some-Some.is-0 in
    let e = ap (λ o. option_map (λ v. v.now) o) c.in-Some-Some.is-1 in
    let front = c.front_of-q-in-Greater.ensures.front in
    let is = sym c.cmp.ensures ∙ c.in-Greater.is in
    record {
      withdraw = goes_greater _ _ _ _ p.of_s q.of_s (left_out p.s.now p.t.now) (left_out q.s.now q.t.now) _ c.loop-p.lists.withdraw.items _ _ d e is i.p.after_s (left_out_ascends p.s.now p.t.now) i.q.after_s (left_out_ascends q.s.now q.t.now) front.only_s c.in_ok-put-in-Greater.ensures.withdraw i.withdraw;
      announce = goes_greater _ _ _ _ (not p.of_s) (not q.of_s) (left_out p.t.now p.s.now) (left_out q.t.now q.s.now) _ c.loop-p.lists.announce.items _ _ d e is i.p.after_t (left_out_ascends p.t.now p.s.now) i.q.after_t (left_out_ascends q.t.now q.s.now) front.only_t c.in_ok-put-in-Greater.ensures.announce i.announce;
      p = i.p;
      q = ahead _ _ _ _ _ _ front;
    }

pub loop-p-preserved : goal.loop-p-preserved
loop-p-preserved c =
    let p = c.loop-p.p in
    let q = c.loop-p.q in
    let i = c.loop-p.invariant in
    let d = ap (λ o. option_map (λ v. v.now) o) c.in-Some-Some.is-0 in
    let e = ap (λ o. option_map (λ v. v.now) o) c.in-Some-Some.is-1 in
    let front = c.front_of-q-in-Equal.ensures.front in
    let is = sym c.cmp.ensures ∙ c.in-Equal.is in
    record {
      withdraw = goes_equal _ _ _ _ p.of_s q.of_s (not p.of_s && q.of_s) (left_out p.s.now p.t.now) (left_out q.s.now q.t.now) _ c.loop-p.lists.withdraw.items _ _ refl d e is i.p.after_s (left_out_ascends p.s.now p.t.now) i.q.after_s (left_out_ascends q.s.now q.t.now) front.only_s c.in_ok-put_other-in-Equal.ensures.withdraw i.withdraw;
      announce = goes_equal _ _ _ _ (not p.of_s) (not q.of_s) (p.of_s && not q.of_s) (left_out p.t.now p.s.now) (left_out q.t.now q.s.now) _ c.loop-p.lists.announce.items _ _ (ap (λ b. b && not q.of_s) (not_not p.of_s)) d e is i.p.after_t (left_out_ascends p.t.now p.s.now) i.q.after_t (left_out_ascends q.t.now q.s.now) front.only_t c.in_ok-put_other-in-Equal.ensures.announce i.announce;
      p = i.p;
      q = ahead _ _ _ _ _ _ front;
    }

pub returns-clause-merged : goal.returns-clause-merged
returns-clause-merged c =
    let p = c.loop-p.p in
    let q = c.loop-p.q in
    let i = c.loop-p.invariant in
    let ends : (option_map (λ v. v.now) p.first ≡ None) ⊎ (option_map (λ v. v.now) q.first ≡ None) = elim c.match-p.branch [
      | in_default w ↦ inr (ap (λ o. option_map (λ v. v.now) o) w.in_default.is-1)
      | in_default-2 w ↦ inl (ap (λ o. option_map (λ v. v.now) o) w.in_default.is-0)
    ] in
    record {
      withdraw = goes_end _ _ p.of_s q.of_s (left_out p.s.now p.t.now) (left_out q.s.now q.t.now) c.loop-p.lists.withdraw.items _ _ _ i.p.after_s i.q.after_s (left_out_ascends p.s.now p.t.now) (left_out_ascends q.s.now q.t.now) ends c.in_ok-put_all.ensures.withdraw c.in_ok-put_all-2.ensures.withdraw i.withdraw;
      announce = goes_end _ _ (not p.of_s) (not q.of_s) (left_out p.t.now p.s.now) (left_out q.t.now q.s.now) c.loop-p.lists.announce.items _ _ _ i.p.after_t i.q.after_t (left_out_ascends p.t.now p.s.now) (left_out_ascends q.t.now q.s.now) ends c.in_ok-put_all.ensures.announce c.in_ok-put_all-2.ensures.announce i.announce;
    }

pub returns-clause-ascend : goal.returns-clause-ascend
returns-clause-ascend c =
    let m = returns-clause-merged c in
    record { withdraw = subst (λ l. Ascends l) (sym m.withdraw) (led_ascends _ [] _); announce = subst (λ l. Ascends l) (sym m.announce) (led_ascends _ [] _) }
