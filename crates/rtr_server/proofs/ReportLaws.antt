-- What an Error Report says, in the bytes that are kept of it.
use Rattle.std.specs.Prelude.{◌≡◌, ℕ, ◌≤◌, List, ◌++◌, length, take, drop, replicate}
use Rattle.std.proofs.Common.{ap, sym, ◌∙◌}
use Rattle.std.proofs.lemmas.List.{drop-replicate}
use Rattle.std.proofs.Math.Seq.{take-append_seam}
use Rattle.rtr_server.specs.Reports.{padded}

-- A text is put into a room of zeros.
pub text_put : (text out : List ℕ) → out ≡ text → length text ≤ 200 → (length text ≤ 200) × (out ++ drop (length text) (replicate 200 0) ≡ padded (take (length text) (out ++ drop (length text) (replicate 200 0))))
unfolding padded
text_put text out is fits =
    let room : List ℕ → List ℕ = λ xs. xs ++ drop (length text) (replicate 200 0) in
    let text_again : take (length text) (room text) ≡ text = take-append_seam text (drop (length text) (replicate 200 0)) in
    let whole : room text ≡ padded text = ap (λ zeros. text ++ zeros) (drop-replicate (length text) 200 0) in
    (fits, ap room is ∙ whole ∙ ap padded (sym text_again) ∙ ap (λ xs. padded (take (length text) (room xs))) (sym is))
