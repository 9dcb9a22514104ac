use Rattle.std.proofs.Common.{ℕ, List, get_or, sym, ap, ◌∙◌, arith}
use Rattle.std.proofs.lemmas.List.{length-take-le, take_rest}
use Rattle.trust_anchors.proofs.Framing.{is_key, parts}
use Rattle.trust_anchors.proofs.key.modulus_in.Goals as goal
use Rattle.trust_anchors.proofs.key.modulus_in.Goals.{then-not-is_frame-via-then-not-is_frame, then-not-is_frame-via-else-not-is_frame+then-modulus-lt128}

pub slice_bounds-head-end : goal.slice_bounds-head-end
slice_bounds-head-end c = sym (length-take-le 33 c.args.octets.now (omega arith))

pub returns-then-not-is_frame : goal.returns-then-not-is_frame
returns-then-not-is_frame c = λ m key.
    let p = parts m c.args.octets.now key in
    elim c.then-not-is_frame.branch [
      | then-not-is_frame-via-then-not-is_frame w ↦ (let t = c.is_frame.ensures.1 (p.head, take_rest c.args.octets.now 289 ∙ p.tail) in cc)
      | then-not-is_frame-via-else-not-is_frame+then-modulus-lt128 w ↦ (let e = ap (λ (l : List ℕ). get_or l 0 0) p.modulus_is in omega (arith, key.top_bit, e))
    ]

pub returns : goal.returns
returns c =
    let f = c.is_frame.ensures.0 c.if-not-is_frame.false in
    is_key c.args.octets.now c.if-octets-ne-KEY_LENGTH.false f.0 (sym (take_rest c.args.octets.now 289) ∙ f.1) c.if-modulus-lt128.false
