-- No JSON text begins with a zero byte.
use Rattle.std.proofs.Common.{◌≡◌, ◌==◌, ◌&&◌, ◌∙◌, ℕ, List, [], ◌∷◌, Bool, true, false, None, ap, refl, subst, arith}
use Rattle.std.specs.Prelude.{option_and_then}
use Rattle.std.proofs.lemmas.Bool.Decides.{nat_tests}
use Rattle.json.specs.Json as json
use Rattle.json.specs.Lex.{lex, punctuate, tokens}
use Rattle.json.specs.Token.{Token}
use Rattle.json.specs.Word.{after_number, word}
use Rattle.json.proofs.Grammar.{value_is}
use Rattle.serde_json.specs.Read.{of_json, read}
use Rattle.json_texts.specs.Encoding.{ZeroIsNoJson, begins_with_zero}

-- The first token is none.
tokens_bad : (xs : List ℕ) → tokens (0 ∷ xs) ≡ Token.bad ∷ []
unfolding lex punctuate word after_number
tokens_bad xs = refl

not_read : (xs : List ℕ) → read (0 ∷ xs) ≡ None
not_read xs =
    ap (λ ts. option_and_then of_json (option_and_then (λ p. json.if_last p.0 p.1) (json.value 127 ts))) (tokens_bad xs)
    ∙ ap (λ o. option_and_then of_json (option_and_then (λ p. json.if_last p.0 p.1) o)) (value_is 127 (Token.bad ∷ []))

is_first : (x : ℕ) → ((0 == x) && true) ≡ true → 0 ≡ x
is_first x h = by (0 == x) refl h
  where
    by : (b : Bool) → (0 == x) ≡ b → (b && true) ≡ true → 0 ≡ x
    by true is h = grind (arith, nat_tests)
    by false is h = absurd (let no : false ≡ true = h in cc)

pub zero_is_no_json : ZeroIsNoJson
zero_is_no_json [] h = absurd (let no : false ≡ true = h in cc)
zero_is_no_json (x ∷ xs) h = subst (λ y. read (y ∷ xs) ≡ None) (is_first x h) (not_read xs)
