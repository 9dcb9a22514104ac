use Rattle.std.proofs.Common.{◌≡◌, ◌≤◌, ◌%◌, ◌+◌, false, length, map, ap, sym, subst₂, ◌∙◌, arith}
use Rattle.std.proofs.lemmas.List.{length-map, length-take}
use Rattle.std.specs.VecDeque.{deque_len}
use Rattle.vrps.specs.Wholes.{HoldsSets}
use Rattle.vrps.specs.WholeLogs.{sets_of}
use Rattle.vrps.specs.Store.{is_current, published}
use Rattle.vrps.proofs.WholeLaws.{current_kept, publishes}
use Rattle.vrps.proofs.whole.WholeLogVersionStore.publish.Goals as goal

pub returns : goal.returns
returns c = λ keep i h.
    let other : is_current i.sets c.args.set.value ≡ false =
    sym (current_kept keep i.sets c.args.set.value) ∙ (λ j. is_current (sym h.holds.sets_are j) (sym c.as_ref.ensures j)) ∙ sym c.is_current.ensures ∙ c.if-is_current.false in
    let rest = c.make_room.ensures.sets keep h.room in
    let few : deque_len c.make_room.new.self.sets ≤ keep =
    omega (arith, ap length rest, length-map c.make_room.new.self.sets.items (λ set. set.value), length-take keep (sets_of c.args.self.now), c.make_room.new.self.sets.ok.0) in
    let kept = publishes keep i c.args.self.now.session c.args.self.now.next.0 (sets_of c.args.self.now) (sets_of c.make_room.new.self) c.args.set.value h.holds rest other in (
      record {
        holds = subst₂ (λ n l. HoldsSets keep (published c.args.set.value i) n ((c.args.self.now.next.0 + 1) % 4294967296) l) (sym c.make_room.ensures.session) (ap (λ l. map (λ set. set.value) l) (sym c.in_ok-push_front.ensures.items)) kept;
        room = c.in_ok-push_front.ensures.in_place (omega (arith, few, h.room, c.make_room.ensures.capacity)) ∙ c.make_room.ensures.capacity ∙ h.room;
      },
      other,
      h.holds.next_is,
    )
