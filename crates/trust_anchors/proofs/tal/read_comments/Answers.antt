use Rattle.std.proofs.Common.{[], ◌∷◌, ◌++◌, ◌+◌, refl, ap, subst, ◌∙◌, arith, length-append}
use Rattle.trust_anchors.specs.Locators.{IsComment}
use Rattle.trust_anchors.proofs.Cutting.{grows_none, grows_on, grows_all, grows_out, lines_shorter, line_shorter}
use Rattle.trust_anchors.proofs.Once.{same_line, has_break}
use Rattle.trust_anchors.proofs.tal.read_comments.Goals as goal

pub loop-line-init : goal.loop-line-init
loop-line-init c = record { lines = []; counted = refl; grows = grows_none IsComment c.args.bytes.now }

pub loop-line-preserved : goal.loop-line-preserved
loop-line-preserved c =
    let i = c.loop-line.invariant in
    let n = c.in-Some.line in
    record {
      lines = i.lines ++ n.text.now ∷ [];
      counted = length-append i.lines (n.text.now ∷ []) ∙ ap (λ k. k + 1) i.counted;
      grows = grows_on IsComment i.lines (i.lines ++ n.text.now ∷ []) n.text.now c.loop-line.rest.now n.rest.now c.args.bytes.now i.grows c.in-Some.ensures
          (c.is_comment.ensures.0 c.if-not-is_comment.false) refl;
    }

pub overflow_add-count : goal.overflow_add-count
overflow_add-count c =
    let i = c.loop-line.invariant in
    omega (
      arith,
      i.counted,
      lines_shorter IsComment i.lines c.loop-line.rest.now c.args.bytes.now (grows_all IsComment i.lines c.loop-line.rest.now c.args.bytes.now i.grows),
      line_shorter c.in-Some.line.text.now c.in-Some.line.rest.now c.loop-line.rest.now c.in-Some.ensures,
    )

pub returns-then-not-is_comment : goal.returns-then-not-is_comment
returns-then-not-is_comment c =
    let i = c.loop-line.invariant in
    let n = c.in-Some.line in (
      i.lines,
      i.counted,
      grows_out IsComment i.lines c.loop-line.rest.now c.args.bytes.now i.grows
          (λ line after is p.
          let t = c.is_comment.ensures.1 (subst IsComment (same_line line n.text.now after n.rest.now c.loop-line.rest.now is c.in-Some.ensures).0 p) in cc),
    )

pub returns : goal.returns
returns c =
    let i = c.loop-line.invariant in (
      i.lines,
      i.counted,
      grows_out IsComment i.lines c.loop-line.rest.now c.args.bytes.now i.grows
          (λ line after is p. has_break line after c.loop-line.rest.now is c.in_default.ensures),
    )
