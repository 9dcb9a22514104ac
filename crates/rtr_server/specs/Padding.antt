-- A text of at most 200 bytes, and zeros behind it.
use Rattle.std.specs.Prelude.{◌≡◌, ℕ, ◌+◌, ◌-◌, ◌≤◌, List, length, take, replicate}
use Rattle.std.proofs.Common.{ap, ◌∙◌, arith}
use Rattle.std.proofs.lemmas.List.{length-append, length-replicate, length-take}
use Rattle.rtr_server.specs.Reports.{padded}

length_padded : (text : List ℕ) → length (padded text) ≡ length text + (200 - length text)
unfolding padded
length_padded text = length-append text (replicate (200 - length text) 0) ∙ ap (λ n. length text + n) (length-replicate (200 - length text) 0)

-- the length of a text, back from the text
pub len_again : (bytes : List ℕ) (len : ℕ) → len ≤ 200 → bytes ≡ padded (take len bytes) → length (take len bytes) ≡ len
len_again bytes len fits is =
    let l = length-take len bytes in
    let p = length_padded (take len bytes) in
    let e = ap (λ x. length x) is in
    omega (arith, l, p, e, fits)
