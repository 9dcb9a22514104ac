use Rattle.std.proofs.Common.{◌≡◌, ℕ, ◌++◌, ◌∙◌, List, [], length, refl, ap, sym, subst, append_assoc, append-nil}
use Rattle.std.proofs.KnownBytes.{Appends-nil}
use Rattle.std.proofs.lemmas.Bool.{eqb-true}
use Rattle.std.proofs.lemmas.List.{nil_from_length, take-append-drop}
use Rattle.std.specs.Io.KnownBytes.{Appends}
use Rattle.hex.specs.Hex.{encode_lower}
use Rattle.command_parts.proofs.Digits.{digits-nil, prints_more}
use Rattle.command_parts.proofs.hexadecimal.print_hex.Goals as goal

pub loop-rest-init : goal.loop-rest-init
loop-rest-init g c = ([], refl, rw digits-nil (Appends-nil (g.W.Write.contents c.args.out.now)))

pub loop-rest-preserved : goal.loop-rest-preserved
loop-rest-preserved g c =
    let (done, is, printed) = c.loop-rest.invariant in
    let parts : c.loop-rest.rest.now ≡ c.split_at.result.0.now ++ c.split_at.result.1.now =
    rw (c.split_at.ensures.front, c.split_at.ensures.back) (sym (take-append-drop _ c.loop-rest.rest.now)) in (
      done ++ c.split_at.result.0.now,
      is ∙ ap (λ (x : List ℕ). done ++ x) parts ∙ sym (append_assoc done c.split_at.result.0.now c.split_at.result.1.now),
      prints_more _ _ _ done c.split_at.result.0.now printed c.in_ok-print_piece.ensures,
    )

pub returns : goal.returns
returns g c =
    let (done, is, printed) = c.loop-rest.invariant in
    let none : length c.loop-rest.rest.now ≡ 0 = eqb-true (length c.loop-rest.rest.now) 0 (sym c.is_empty.ensures ∙ c.loop-rest-test.false) in
    let all : c.args.bytes.now ≡ done = is ∙ ap (λ (x : List ℕ). done ++ x) (nil_from_length c.loop-rest.rest.now none) ∙ append-nil done in
    subst (λ (x : List ℕ). Appends (g.W.Write.contents c.args.out.now) (g.W.Write.contents c.loop-rest.out) (encode_lower x)) (sym all) printed
