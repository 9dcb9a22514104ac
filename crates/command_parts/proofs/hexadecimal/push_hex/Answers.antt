use Rattle.std.proofs.Common.{◌≡◌, ℕ, ◌++◌, ◌∙◌, List, [], string_bytes, length, refl, ap, sym, append_assoc, append-nil}
use Rattle.std.proofs.lemmas.Bool.{eqb-true}
use Rattle.std.proofs.lemmas.List.{nil_from_length, take-append-drop}
use Rattle.hex.specs.Hex.{encode_lower}
use Rattle.command_parts.proofs.Digits.{digits-append, digits-nil}
use Rattle.command_parts.proofs.hexadecimal.push_hex.Goals as goal

pub loop-rest-init : goal.loop-rest-init
loop-rest-init c = ([], refl, sym (append-nil (string_bytes c.args.text.now)) ∙ ap (λ (x : List ℕ). string_bytes c.args.text.now ++ x) (sym digits-nil))

pub loop-rest-preserved : goal.loop-rest-preserved
loop-rest-preserved c =
    let (done, is, pushed) = c.loop-rest.invariant in
    let piece = c.split_at.result.0.now in
    let parts : c.loop-rest.rest.now ≡ piece ++ c.split_at.result.1.now =
    rw (c.split_at.ensures.front, c.split_at.ensures.back) (sym (take-append-drop _ c.loop-rest.rest.now)) in (
      done ++ piece,
      is ∙ ap (λ (x : List ℕ). done ++ x) parts ∙ sym (append_assoc done piece c.split_at.result.1.now),
      c.in_ok-push_piece.ensures
          ∙ ap (λ (x : List ℕ). x ++ encode_lower piece) pushed
          ∙ append_assoc (string_bytes c.args.text.now) (encode_lower done) (encode_lower piece)
          ∙ ap (λ (x : List ℕ). string_bytes c.args.text.now ++ x) (sym (digits-append done piece)),
    )

pub returns : goal.returns
returns c =
    let (done, is, pushed) = c.loop-rest.invariant in
    let none : length c.loop-rest.rest.now ≡ 0 = eqb-true (length c.loop-rest.rest.now) 0 (sym c.is_empty.ensures ∙ c.loop-rest-test.false) in
    let all : c.args.bytes.now ≡ done = is ∙ ap (λ (x : List ℕ). done ++ x) (nil_from_length c.loop-rest.rest.now none) ∙ append-nil done in
    pushed ∙ ap (λ (x : List ℕ). string_bytes c.args.text.now ++ encode_lower x) (sym all)
