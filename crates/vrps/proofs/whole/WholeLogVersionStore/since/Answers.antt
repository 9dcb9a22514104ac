use Rattle.std.proofs.Common.{◌<◌, ◌≤◌, ap, sym, ◌∙◌, arith, refl}
use Rattle.std.proofs.Math.ListN.{get_or-map}
use Rattle.std.proofs.lemmas.List.{length-map}
use Rattle.std.specs.VecDeque.{deque_len}
use Rattle.vrps.specs.Change.{between}
use Rattle.vrps.specs.WholeLogs.{sets_of}
use Rattle.vrps.specs.Store.{Known}
use Rattle.vrps.proofs.WholeLaws.{knows, knows_not, past_by}
use Rattle.vrps.proofs.whole.WholeLogVersionStore.since.Goals as goal

pub returns-in_default-get : goal.returns-in_default-get
returns-in_default-get c = λ keep i h.
    let past : deque_len c.args.self.now.sets ≤ c.behind.result = past_by c.behind.result (deque_len c.args.self.now.sets) c.in_default-get.ensures.variant.1 in
    let some : 0 < deque_len c.args.self.now.sets = c.in-Some.ensures.variant.0 refl in
    let size = length-map c.args.self.now.sets.items (λ set. set.value) in
    knows_not keep i c.args.self.now.session c.args.self.now.next.0 c.args.serial.0 c.behind.result (sets_of c.args.self.now) h.holds c.behind.ensures
    (omega (arith, some, size, c.args.self.now.sets.ok.0)) (omega (arith, past, size, c.args.self.now.sets.ok.0))

pub returns : goal.returns
returns c = λ keep i h.
    let some : c.behind.result < deque_len c.args.self.now.sets = c.in-Some-get.ensures.variant.0 refl in
    let size = length-map c.args.self.now.sets.items (λ set. set.value) in
    (λ j. Known (c.in_ok-change.ensures j)) ∙ (λ j. Known (between (c.as_ref.ensures j) (c.as_ref-2.ensures j)))
    ∙ knows keep i c.args.self.now.session c.args.self.now.next.0 c.args.serial.0 c.behind.result (sets_of c.args.self.now) c.in-Some.now.now.value c.in-Some-get.before.now.value h.holds c.behind.ensures
    (ap (λ set. set.value) c.in-Some.ensures.lookup ∙ sym (get_or-map (λ set. set.value) c.args.self.now.sets.items 0 c.in-Some.now.now))
    (omega (arith, some, size, c.args.self.now.sets.ok.0))
    (ap (λ set. set.value) c.in-Some-get.ensures.lookup ∙ sym (get_or-map (λ set. set.value) c.args.self.now.sets.items c.behind.result c.in-Some-get.before.now))
