-- Paths, each once.
use Rattle.std.proofs.Common.{◌≡◌, ◌∙◌, ℕ, List, [], ◌∷◌, ◌++◌, ap, refl, sym}
use Rattle.std.proofs.lemmas.List.{map-append}
use Rattle.std.specs.Prelude.{Bool, true, false, ◌||◌, bytes_eq, if◌then◌else◌}
use Rattle.std.specs.List.{list_any}
use Rattle.std.specs.String.{string_bytes}
use Rattle.std.specs.declared.string.String.{String}
use Rattle.rtr_daemon.specs.Starting.{texts}
use Rattle.rpkirtrd_start.specs.Plans.{and_others}

-- whether one of these texts is equal to a path
pub any_text : {C : Type 0} (path : List ℕ) (paths : List (String C)) → list_any (λ other. bytes_eq other path) (texts paths) ≡ list_any (λ other. bytes_eq (string_bytes other) path) paths
any_text path [] = refl
any_text path (first ∷ others) = ap (λ b. bytes_eq (string_bytes first) path || b) (any_text path others)

-- A path more is taken, or was taken before.
one_more : (kept : List (List ℕ)) (path : List ℕ) (rest : List (List ℕ)) (has : Bool) → list_any (λ other. bytes_eq other path) kept ≡ has → and_others kept (path ∷ rest) ≡ and_others (if has then kept else kept ++ path ∷ []) rest
one_more kept path rest has is = ap (λ b. and_others (if b then kept else kept ++ path ∷ []) rest) is

pub known_path : {C : Type 0} (kept rest all : List (String C)) (path : String C) (whole : List (List ℕ)) → all ≡ path ∷ rest → list_any (λ other. bytes_eq (string_bytes other) (string_bytes path)) kept ≡ true → and_others (texts kept) (texts all) ≡ whole → and_others (texts kept) (texts rest) ≡ whole
known_path kept rest all path whole front has before =
    sym (one_more (texts kept) (string_bytes path) (texts rest) true (any_text (string_bytes path) kept ∙ has)) ∙ ap (λ items. and_others (texts kept) (texts items)) (sym front) ∙ before

pub new_path : {C : Type 0} (kept now rest all : List (String C)) (path : String C) (whole : List (List ℕ)) → all ≡ path ∷ rest → now ≡ kept ++ path ∷ [] → list_any (λ other. bytes_eq (string_bytes other) (string_bytes path)) kept ≡ false → and_others (texts kept) (texts all) ≡ whole → and_others (texts now) (texts rest) ≡ whole
new_path kept now rest all path whole front pushed has before =
    ap (λ items. and_others items (texts rest)) (ap texts pushed ∙ map-append string_bytes kept (path ∷ [])) ∙ sym (one_more (texts kept) (string_bytes path) (texts rest) false (any_text (string_bytes path) kept ∙ has))
    ∙ ap (λ items. and_others (texts kept) (texts items)) (sym front) ∙ before
