use Rattle.std.proofs.Common.{arith, subst, sym, ◌∙◌, List, ℕ}
use Rattle.std.proofs.lemmas.List.{length-take-le}
use Rattle.rtr_commands.specs.Serves.{ServesOn}
use Rattle.rtr_commands.proofs.Exchanging.{pulled_all, pulled_fits, pulled_size, pulls_less, serves_pull}
use Rattle.rtr_commands.proofs.answering.pull_all.Goals as goal

pub slice_bounds-buffer-end : goal.slice_bounds-buffer-end
slice_bounds-buffer-end c =
    let s = c.loop-conn.invariant.1 c.requires.0 c.requires.1.0 c.requires.1.1 in pulled_fits s.state c.args.conn.0 c.loop-conn.buffer c.pull-count.result c.pull-count.new.out c.pull-count.new.self (c.pull-count.ensures.gives s.state s.shows)

pub slice_bounds-extend_from_slice-end : goal.slice_bounds-extend_from_slice-end
slice_bounds-extend_from_slice-end c =
    let s = c.loop-conn.invariant.1 c.requires.0 c.requires.1.0 c.requires.1.1 in
    sym (length-take-le c.pull-count.result c.pull-count.new.out (pulled_fits s.state c.args.conn.0 c.loop-conn.buffer c.pull-count.result c.pull-count.new.out c.pull-count.new.self (c.pull-count.ensures.gives s.state s.shows)))

pub loop-conn-smaller : goal.loop-conn-smaller
loop-conn-smaller c =
    let s = c.loop-conn.invariant.1 c.requires.0 c.requires.1.0 c.requires.1.1 in
    pulls_less c.requires.0 c.args.conn.0 c.requires.1.0 c.loop-conn.replies.items c.loop-conn.cache c.pull-count.new.self c.loop-conn.buffer c.pull-count.result c.pull-count.new.out c.has_bytes.result s (c.pull-count.ensures.gives s.state s.shows)
    (omega (arith, c.loop-conn.invariant.0)) (c.has_bytes.ensures s.state s.shows) c.loop-conn-test.true

pub loop-conn-preserved : goal.loop-conn-preserved
loop-conn-preserved c =
    let t = c.loop-conn.invariant.1 c.requires.0 c.requires.1.0 c.requires.1.1 in (
      pulled_size t.state c.args.conn.0 c.loop-conn.buffer c.pull-count.result c.pull-count.new.out c.pull-count.new.self (c.pull-count.ensures.gives t.state t.shows) ∙ c.loop-conn.invariant.0,
      λ i came before.
          let s = c.loop-conn.invariant.1 i came before in
          subst (λ (x : List ℕ). ServesOn i c.args.conn.0 came x c.pull-count.new.self) (sym c.in_ok-extend_from_slice.ensures.items)
          (serves_pull i c.args.conn.0 came c.loop-conn.replies.items c.loop-conn.cache c.pull-count.new.self c.loop-conn.buffer c.pull-count.result c.pull-count.new.out s (c.pull-count.ensures.gives s.state s.shows)),
    )

pub returns : goal.returns
returns c i came before =
    let s = c.loop-conn.invariant.1 i came before in pulled_all i c.args.conn.0 came c.loop-conn.replies.items c.loop-conn.cache c.has_bytes.result s (c.has_bytes.ensures s.state s.shows) c.loop-conn-test.false
