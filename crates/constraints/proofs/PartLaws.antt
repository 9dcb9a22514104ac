-- Parts of bytes: lines and words.
use Rattle.std.proofs.Common.{◌≡◌, ◌≢◌, ℕ, ◌+◌, ◌-◌, ◌<◌, ◌≤◌, ◌==◌, Bool, true, false, not, ◌||◌, eqb, List, [], ◌∷◌, ◌++◌, length, take, drop, get_or, refl, sym, ap, subst, ◌∙◌, arith, length-append}
use Rattle.std.specs.List.{All, slice_split, onto_first, filter, flat_map}
use Rattle.std.specs.Str.Lines.{strip_carriage_return, lines, lines_of_parts}
use Rattle.std.proofs.lemmas.Bool.{eqb-true, ne_eqb}
use Rattle.std.proofs.lemmas.List.{take_all}
use Rattle.std.proofs.lemmas.List.Elements.{All-cons, All-nil}
use Rattle.std.proofs.lemmas.List.Splits.{slice_split_none, slice_split_at}
use Rattle.constraints.specs.Words.{until, from, is_line_feed, is_blank, not_blank, ends_word, spaced, is_word, words}

-- ---- a part and what follows it

joined_by : (p : ℕ → Bool) (b : ℕ) (more : List ℕ) (x : Bool) → p b ≡ x → more ≡ until p more ++ from p more → b ∷ more ≡ until p (b ∷ more) ++ from p (b ∷ more)
joined_by p b more true h ih = rw (h) refl
joined_by p b more false h ih = rw (h) (ap (λ (l : List ℕ). b ∷ l) ih)

pub joined : (p : ℕ → Bool) (bs : List ℕ) → bs ≡ until p bs ++ from p bs
joined p [] = refl
joined p (b ∷ more) = joined_by p b more (p b) refl (joined p more)

take_front : (xs ys : List ℕ) → take (length xs) (xs ++ ys) ≡ xs
take_front [] ys = refl
take_front (x ∷ xs) ys = ap (λ (l : List ℕ). x ∷ l) (take_front xs ys)

-- the bytes in front of what follows are the part
pub front_is : (p : ℕ → Bool) (bs rest : List ℕ) (n : ℕ) → rest ≡ from p bs → n + length rest ≡ length bs → take n bs ≡ until p bs
front_is p bs rest n e sum =
    let parts : length bs ≡ length (until p bs) + length (from p bs) = ap length (joined p bs) ∙ length-append (until p bs) (from p bs) in
    let count : n ≡ length (until p bs) = omega (arith, sum, parts, ap length e) in
    ap (λ (k : ℕ). take k bs) count ∙ ap (take (length (until p bs))) (joined p bs) ∙ take_front (until p bs) (from p bs)

-- what follows begins with a byte that passes
from_by : (p : ℕ → Bool) (c : ℕ) (more : List ℕ) (x : Bool) → p c ≡ x → (b : ℕ) (rest : List ℕ) → (from p more ≡ b ∷ rest → p b ≡ true) → from p (c ∷ more) ≡ b ∷ rest → p b ≡ true
from_by p c more true h b rest ih e = let same : c ≡ b = (let f : c ∷ more ≡ b ∷ rest = rw h at e in cc) in subst (λ (k : ℕ). p k ≡ true) same h
from_by p c more false h b rest ih e = ih (rw h at e)

pub from_head : (p : ℕ → Bool) (bs : List ℕ) (b : ℕ) (rest : List ℕ) → from p bs ≡ b ∷ rest → p b ≡ true
from_head p [] b rest e = absurd cc
from_head p (c ∷ more) b rest e = from_by p c more (p c) refl b rest (from_head p more b rest) e

-- ---- lines

last_by : (p : ℕ → Bool) (b : ℕ) (more : List ℕ) (x : Bool) → p b ≡ x → (from p more ≡ [] → slice_split p more ≡ until p more ∷ []) → from p (b ∷ more) ≡ [] → slice_split p (b ∷ more) ≡ until p (b ∷ more) ∷ []
last_by p b more true h ih e = absurd (let f : b ∷ more ≡ [] = rw h at e in cc)
last_by p b more false h ih e = let f : from p more ≡ [] = rw h at e in rw (h) (ap (onto_first b) (ih f))

split_last : (p : ℕ → Bool) (bs : List ℕ) → from p bs ≡ [] → slice_split p bs ≡ until p bs ∷ []
split_last p [] e = refl
split_last p (b ∷ more) e = last_by p b more (p b) refl (split_last p more) e

first_by : (p : ℕ → Bool) (b : ℕ) (more : List ℕ) (x : Bool) → p b ≡ x → (c : ℕ) (rest : List ℕ) → (from p more ≡ c ∷ rest → slice_split p more ≡ until p more ∷ slice_split p rest)
    → from p (b ∷ more) ≡ c ∷ rest → slice_split p (b ∷ more) ≡ until p (b ∷ more) ∷ slice_split p rest
first_by p b more true h c rest ih e =
    let f : b ∷ more ≡ c ∷ rest = rw h at e in
    let same : more ≡ rest = cc in
    rw (h) (ap (λ (l : List ℕ). [] ∷ slice_split p l) same)
first_by p b more false h c rest ih e = let f : from p more ≡ c ∷ rest = rw h at e in rw (h) (ap (onto_first b) (ih f))

split_first : (p : ℕ → Bool) (bs : List ℕ) (c : ℕ) (rest : List ℕ) → from p bs ≡ c ∷ rest → slice_split p bs ≡ until p bs ∷ slice_split p rest
split_first p [] c rest e = absurd cc
split_first p (b ∷ more) c rest e = first_by p b more (p b) refl c rest (split_first p more c rest) e

-- there is always a part
abbrev IsCons : List (List ℕ) → Type 0
IsCons parts = (y : List ℕ) × (ys : List (List ℕ)) × (parts ≡ y ∷ ys)

onto_some : (b : ℕ) (parts : List (List ℕ)) → IsCons (onto_first b parts)
onto_some b [] = (b ∷ [], [], refl)
onto_some b (part ∷ parts) = (b ∷ part, parts, refl)

some_by : (p : ℕ → Bool) (b : ℕ) (more : List ℕ) (x : Bool) → p b ≡ x → IsCons (slice_split p (b ∷ more))
some_by p b more true h = rw (h) ([], slice_split p more, refl)
some_by p b more false h = rw (h) (onto_some b (slice_split p more))

split_some : (p : ℕ → Bool) (bs : List ℕ) → IsCons (slice_split p bs)
split_some p [] = ([], [], refl)
split_some p (b ∷ more) = some_by p b more (p b) refl

of_parts : (u : List ℕ) (parts : List (List ℕ)) → IsCons parts → lines_of_parts (u ∷ parts) ≡ strip_carriage_return u ∷ lines_of_parts parts
of_parts u parts (y, ys, e) = subst (λ (l : List (List ℕ)). lines_of_parts (u ∷ l) ≡ strip_carriage_return u ∷ lines_of_parts l) (sym e) refl

-- a line ends at the first LF
pub lines_on : (bs : List ℕ) (b : ℕ) (rest line : List ℕ) → from is_line_feed bs ≡ b ∷ rest → line ≡ strip_carriage_return (until is_line_feed bs) → lines bs ≡ line ∷ lines rest
lines_on bs b rest line e is =
    ap lines_of_parts (split_first is_line_feed bs b rest e)
    ∙ of_parts (until is_line_feed bs) (slice_split is_line_feed rest) (split_some is_line_feed rest)
    ∙ ap (λ (l : List ℕ). l ∷ lines rest) (sym is)

alone : (line : List ℕ) → line ≢ [] → lines_of_parts (line ∷ []) ≡ line ∷ []
alone [] some = absurd (some refl)
alone (b ∷ more) some = rw (ne_eqb (length (b ∷ more)) 0 (λ e. omega (arith, e))) refl

no_part : (p : ℕ → Bool) (bs : List ℕ) → from p bs ≡ [] → until p bs ≡ [] → bs ≡ []
no_part p bs e f = joined p bs ∙ ap (λ (l : List ℕ). l ++ from p bs) f ∙ e

-- the last line may lack that
pub lines_last : (bs line rest : List ℕ) → bs ≢ [] → from is_line_feed bs ≡ [] → line ≡ until is_line_feed bs → rest ≡ from is_line_feed bs → lines bs ≡ line ∷ lines rest
lines_last bs line rest some e is after =
    ap lines_of_parts (split_last is_line_feed bs e)
    ∙ alone (until is_line_feed bs) (λ f. some (no_part is_line_feed bs e f))
    ∙ ap (λ (l : List ℕ). l ∷ lines []) (sym is) ∙ ap (λ (l : List ℕ). line ∷ lines l) (sym (after ∙ e))

-- ---- words

or_false : (a b : Bool) → (a || b) ≡ false → (a ≡ false) × (b ≡ false)
or_false true b h = absurd cc
or_false false b h = (refl, h)

plain_by : (b : ℕ) (x : Bool) → eqb b 45 ≡ x → x ≡ false → spaced b ≡ b ∷ []
plain_by b true h e = absurd cc
plain_by b false h e = rw (h) refl

-- a blank is no dash
blank_by : (b : ℕ) (x : Bool) → eqb b 45 ≡ x → is_blank b ≡ true → x ≡ false
blank_by b true h k = absurd (let e = subst (λ (n : ℕ). is_blank n ≡ true) (eqb-true b 45 h) k in cc)
blank_by b false h k = refl

blank_spaced : (b : ℕ) → is_blank b ≡ true → spaced b ≡ b ∷ []
blank_spaced b k = plain_by b (eqb b 45) refl (blank_by b (eqb b 45) refl k)

plain_spaced : (b : ℕ) → ends_word b ≡ false → spaced b ≡ b ∷ []
plain_spaced b k = plain_by b (eqb b 45) refl (or_false (is_blank b) (eqb b 45) k).1

-- filter and split of a blank and more
split_blank : (b : ℕ) (more : List ℕ) → is_blank b ≡ true → filter is_word (slice_split is_blank (b ∷ more)) ≡ filter is_word (slice_split is_blank more)
split_blank b more h = general is_blank b more h
  where
    general : (p : ℕ → Bool) (b : ℕ) (more : List ℕ) → p b ≡ true → filter is_word (slice_split p (b ∷ more)) ≡ filter is_word (slice_split p more)
    general p b more h = rw (h) refl

pub words_blank : (b : ℕ) (more : List ℕ) → is_blank b ≡ true → words (b ∷ more) ≡ words more
unfolding words
words_blank b more h =
    ap (λ (l : List ℕ). filter is_word (slice_split is_blank (l ++ flat_map spaced more))) (blank_spaced b h) ∙ split_blank b (flat_map spaced more) h

pub words_none : words [] ≡ []
unfolding words
words_none = refl

-- after blanks
not_by : (b : ℕ) (more : List ℕ) (x : Bool) → is_blank b ≡ x → words (from not_blank more) ≡ words more → words (from not_blank (b ∷ more)) ≡ words (b ∷ more)
not_by b more true h ih =
    let skip : from not_blank (b ∷ more) ≡ from not_blank more = skipped not_blank b more (ap not h) in
    ap words skip ∙ ih ∙ sym (words_blank b more h)
  where
    skipped : (p : ℕ → Bool) (b : ℕ) (more : List ℕ) → p b ≡ false → from p (b ∷ more) ≡ from p more
    skipped p b more h = rw (h) refl
not_by b more false h ih = ap words (kept not_blank b more (ap not h))
  where
    kept : (p : ℕ → Bool) (b : ℕ) (more : List ℕ) → p b ≡ true → from p (b ∷ more) ≡ b ∷ more
    kept p b more h = rw (h) refl

pub words_from : (bs : List ℕ) → words (from not_blank bs) ≡ words bs
words_from [] = refl
words_from (b ∷ more) = not_by b more (is_blank b) refl (words_from more)

-- a dash is a word
pub words_dash : (rest : List ℕ) → words (45 ∷ rest) ≡ (45 ∷ []) ∷ words rest
unfolding words
words_dash rest = refl

-- the bytes of a word stand as they are
spaced_by : (b : ℕ) (more : List ℕ) (x : Bool) → ends_word b ≡ x → flat_map spaced more ≡ until ends_word more ++ flat_map spaced (from ends_word more)
    → flat_map spaced (b ∷ more) ≡ until ends_word (b ∷ more) ++ flat_map spaced (from ends_word (b ∷ more))
spaced_by b more true h ih = sym (stopped ends_word b more h)
  where
    stopped : (p : ℕ → Bool) (b : ℕ) (more : List ℕ) → p b ≡ true → until p (b ∷ more) ++ flat_map spaced (from p (b ∷ more)) ≡ flat_map spaced (b ∷ more)
    stopped p b more h = rw (h) refl
spaced_by b more false h ih =
    ap (λ (l : List ℕ). l ++ flat_map spaced more) (plain_spaced b h) ∙ ap (λ (l : List ℕ). b ∷ l) ih ∙ sym (passed ends_word b more h)
  where
    passed : (p : ℕ → Bool) (b : ℕ) (more : List ℕ) → p b ≡ false → until p (b ∷ more) ++ flat_map spaced (from p (b ∷ more)) ≡ b ∷ until p more ++ flat_map spaced (from p more)
    passed p b more h = rw (h) refl

spaced_parts : (bs : List ℕ) → flat_map spaced bs ≡ until ends_word bs ++ flat_map spaced (from ends_word bs)
spaced_parts [] = refl
spaced_parts (b ∷ more) = spaced_by b more (ends_word b) refl (spaced_parts more)

abbrev IsNoBlank : ℕ → Type 0
IsNoBlank b = is_blank b ≡ false

plain_all_by : (b : ℕ) (more : List ℕ) (x : Bool) → ends_word b ≡ x → All IsNoBlank (until ends_word more) → All IsNoBlank (until ends_word (b ∷ more))
plain_all_by b more true h ih = subst (All IsNoBlank) (sym (stopped ends_word b more h)) (All-nil IsNoBlank)
  where
    stopped : (p : ℕ → Bool) (b : ℕ) (more : List ℕ) → p b ≡ true → until p (b ∷ more) ≡ []
    stopped p b more h = rw (h) refl
plain_all_by b more false h ih = subst (All IsNoBlank) (sym (passed ends_word b more h)) (All-cons IsNoBlank b (until ends_word more) (or_false (is_blank b) (eqb b 45) h).0 ih)
  where
    passed : (p : ℕ → Bool) (b : ℕ) (more : List ℕ) → p b ≡ false → until p (b ∷ more) ≡ b ∷ until p more
    passed p b more h = rw (h) refl

plain_all : (bs : List ℕ) → All IsNoBlank (until ends_word bs)
plain_all [] = All-nil IsNoBlank
plain_all (b ∷ more) = plain_all_by b more (ends_word b) refl (plain_all more)

no_more : (l : List ℕ) → l ++ [] ≡ l
no_more [] = refl
no_more (b ∷ more) = ap (λ (l : List ℕ). b ∷ l) (no_more more)

-- a word, and what the rest has
kept_word : (w : List ℕ) (parts : List (List ℕ)) → w ≢ [] → filter is_word (w ∷ parts) ≡ w ∷ filter is_word parts
kept_word [] parts some = absurd (some refl)
kept_word (b ∷ w) parts some = refl

run_blank : (w : List ℕ) (c : ℕ) (rest : List ℕ) → w ≢ [] → All IsNoBlank w → is_blank c ≡ true → filter is_word (slice_split is_blank (w ++ flat_map spaced (c ∷ rest))) ≡ w ∷ words (c ∷ rest)
unfolding words
run_blank w c rest some plain h =
    let F = flat_map spaced rest in
    ap (λ (l : List ℕ). filter is_word (slice_split is_blank (w ++ (l ++ F)))) (blank_spaced c h)
    ∙ ap (filter is_word) (slice_split_at is_blank w c F plain h) ∙ kept_word w (slice_split is_blank F) some
    ∙ ap (λ (l : List (List ℕ)). w ∷ l) (sym (words_blank c rest h))

run_dash : (w rest : List ℕ) → w ≢ [] → All IsNoBlank w → filter is_word (slice_split is_blank (w ++ flat_map spaced (45 ∷ rest))) ≡ w ∷ words (45 ∷ rest)
unfolding words
run_dash w rest some plain =
    let F = 45 ∷ 32 ∷ flat_map spaced rest in
    ap (filter is_word) (slice_split_at is_blank w 32 F plain refl) ∙ kept_word w (slice_split is_blank F) some

run_none : (w : List ℕ) → w ≢ [] → All IsNoBlank w → filter is_word (slice_split is_blank (w ++ flat_map spaced [])) ≡ w ∷ words []
unfolding words
run_none w some plain =
    ap (λ (l : List ℕ). filter is_word (slice_split is_blank l)) (no_more w) ∙ ap (filter is_word) (slice_split_none is_blank w plain) ∙ kept_word w [] some

run_on : (w r : List ℕ) → w ≢ [] → All IsNoBlank w → ((c : ℕ) (rest : List ℕ) → r ≡ c ∷ rest → ends_word c ≡ true) → filter is_word (slice_split is_blank (w ++ flat_map spaced r)) ≡ w ∷ words r
run_on w [] some plain head = run_none w some plain
run_on w (c ∷ rest) some plain head = by (is_blank c) refl
  where
    at_dash : (x : Bool) → eqb c 45 ≡ x → x ≡ true → filter is_word (slice_split is_blank (w ++ flat_map spaced (c ∷ rest))) ≡ w ∷ words (c ∷ rest)
    at_dash true h e = subst (λ (k : ℕ). filter is_word (slice_split is_blank (w ++ flat_map spaced (k ∷ rest))) ≡ w ∷ words (k ∷ rest)) (sym (eqb-true c 45 h)) (run_dash w rest some plain)
    at_dash false h e = absurd cc

    by : (x : Bool) → is_blank c ≡ x → filter is_word (slice_split is_blank (w ++ flat_map spaced (c ∷ rest))) ≡ w ∷ words (c ∷ rest)
    by true h = run_blank w c rest some plain h
    by false h = at_dash (eqb c 45) refl (sym (ap (λ (x : Bool). x || eqb c 45) h) ∙ head c rest refl)

until_some : (b : ℕ) (more : List ℕ) → ends_word b ≡ false → until ends_word (b ∷ more) ≢ []
until_some b more h e = (let f : b ∷ until ends_word more ≡ [] = sym (passed ends_word b more h) ∙ e in cc)
  where
    passed : (p : ℕ → Bool) (b : ℕ) (more : List ℕ) → p b ≡ false → until p (b ∷ more) ≡ b ∷ until p more
    passed p b more h = rw (h) refl

pub words_run : (b : ℕ) (more : List ℕ) → ends_word b ≡ false → words (b ∷ more) ≡ until ends_word (b ∷ more) ∷ words (from ends_word (b ∷ more))
unfolding words
words_run b more h =
    let bs = b ∷ more in
    ap (λ (l : List ℕ). filter is_word (slice_split is_blank l)) (spaced_parts bs)
    ∙ run_on (until ends_word bs) (from ends_word bs) (until_some b more h) (plain_all bs) (from_head ends_word bs)

-- ---- the first word of bytes

pub none_is : (bs text : List ℕ) → text ≡ from not_blank bs → length text < 1 → words bs ≡ []
none_is bs [] e short = sym (words_from bs) ∙ ap words (sym e) ∙ words_none
none_is bs (b ∷ more) e short = absurd (omega (arith, short))

pub dash_is : (bs text : List ℕ) → text ≡ from not_blank bs → 1 ≤ length text → get_or text 0 0 ≡ 45 → words bs ≡ take 1 text ∷ words (take (length text - 1) (drop 1 text))
dash_is bs [] e some is = absurd (omega (arith, some))
dash_is bs (b ∷ more) e some is =
    let left : take (length (b ∷ more) - 1) more ≡ more = take_all (length (b ∷ more) - 1) more (omega arith) in
    sym (words_from bs) ∙ ap words (sym e) ∙ ap (λ (k : ℕ). words (k ∷ more)) is ∙ words_dash more
    ∙ ap (λ (k : ℕ). (k ∷ []) ∷ words more) (sym is) ∙ ap (λ (l : List ℕ). (b ∷ []) ∷ words l) (sym left)

no_end : (b : ℕ) (x y : Bool) → not x ≡ true → eqb b 45 ≡ y → (b ≡ 45 → ⊥) → (x || y) ≡ false
no_end b true y h e other = absurd cc
no_end b false true h e other = absurd (other (eqb-true b 45 e))
no_end b false false h e other = refl

pub word_is : (bs text word rest : List ℕ) → text ≡ from not_blank bs → 1 ≤ length text → (get_or text 0 0 ≡ 45 → ⊥) → word ≡ until ends_word text → rest ≡ from ends_word text → words bs ≡ word ∷ words rest
word_is bs [] word rest e some other is after = absurd (omega (arith, some))
word_is bs (b ∷ more) word rest e some other is after =
    let plain : ends_word b ≡ false = no_end b (is_blank b) (eqb b 45) (from_head not_blank bs b more (sym e)) refl other in
    sym (words_from bs) ∙ ap words (sym e) ∙ words_run b more plain
    ∙ ap (λ (l : List ℕ). l ∷ words (from ends_word (b ∷ more))) (sym is) ∙ ap (λ (l : List ℕ). word ∷ words l) (sym after)

-- ---- the first line of bytes

pub last_is : (bs line rest : List ℕ) → (length bs == 0) ≡ false → line ≡ until is_line_feed bs → rest ≡ from is_line_feed bs → length rest < 1 → (lines bs ≡ line ∷ lines rest) × (length rest < length bs)
last_is [] line rest some is after short = absurd cc
last_is (b ∷ more) line [] some is after short = (lines_last (b ∷ more) line [] (λ f. cc) (sym after) is after, omega arith)
last_is (b ∷ more) line (c ∷ others) some is after short = absurd (omega (arith, short))

pub line_is : (bs front rest line : List ℕ) → front ≡ until is_line_feed bs → rest ≡ from is_line_feed bs → length rest ≤ length bs → 1 ≤ length rest → line ≡ strip_carriage_return front
    → (lines bs ≡ line ∷ lines (take (length rest - 1) (drop 1 rest))) × (length (take (length rest - 1) (drop 1 rest)) < length bs)
line_is bs front [] line is after shorter some text = absurd (omega (arith, some))
line_is bs front (c ∷ others) line is after shorter some text =
    let left : take (length (c ∷ others) - 1) others ≡ others = take_all (length (c ∷ others) - 1) others (omega arith) in
    let on = lines_on bs c others line (sym after) (text ∙ ap strip_carriage_return is) in
    (on ∙ ap (λ (l : List ℕ). line ∷ lines l) (sym left), omega (arith, ap length left, shorter))
