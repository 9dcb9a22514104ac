-- Lines, one after the other.
use Rattle.std.proofs.Common.{◌≡◌, ℕ, suc, ◌+◌, ◌<◌, ◌≤◌, List, [], ◌∷◌, ◌++◌, length, refl, sym, ap, subst, ◌∙◌, append_assoc, append-nil, arith, length-append}
use Rattle.std.specs.List.{concat}
use Rattle.std.specs.Str.Iter.{LacksByte}
use Rattle.trust_anchors.specs.Lines.{IsLine, Lines, Section, IsAny, Joins}

-- what follows a line is shorter
pub line_shorter : (line rest bytes : List ℕ) → IsLine line rest bytes → length rest < length bytes
line_shorter line rest bytes l =
    let e : length bytes ≡ length l.part + suc (length rest) = ap length l.ended ∙ length-append l.part (10 ∷ rest) in omega arith

-- a line takes at least a byte
pub lines_shorter : (P : List ℕ → Type 0) (lines : List (List ℕ)) (rest bytes : List ℕ) → Lines P lines rest bytes → length lines + length rest ≤ length bytes
lines_shorter P [] rest bytes l = let e : length bytes ≡ length rest = ap length l in omega arith
lines_shorter P (line ∷ lines) rest bytes l =
    omega (arith, line_shorter line l.0 bytes l.1, lines_shorter P lines rest l.0 l.3)

-- Lines that follow these are lines of the whole.
abbrev pub Grows : (List ℕ → Type 0) → List (List ℕ) → List ℕ → List ℕ → Type 0
Grows P lines rest bytes = (later : List (List ℕ)) (end : List ℕ) → Lines P later end rest → Lines P (lines ++ later) end bytes

pub grows_none : (P : List ℕ → Type 0) (bytes : List ℕ) → Grows P [] bytes bytes
grows_none P bytes later end l = l

pub grows_on : (P : List ℕ → Type 0) (lines new : List (List ℕ)) (line rest after bytes : List ℕ) → Grows P lines rest bytes → IsLine line after rest → P line
    → new ≡ lines ++ line ∷ [] → Grows P new after bytes
grows_on P lines new line rest after bytes grows is p grown later end l =
    subst (λ (ls : List (List ℕ)). Lines P (ls ++ later) end bytes) (sym grown)
    (subst (λ (ls : List (List ℕ)). Lines P ls end bytes) (sym (append_assoc lines (line ∷ []) later)) (grows (line ∷ later) end (after, is, p, l)))

-- all of them
pub grows_all : (P : List ℕ → Type 0) (lines : List (List ℕ)) (rest bytes : List ℕ) → Grows P lines rest bytes → Lines P lines rest bytes
grows_all P lines rest bytes grows = subst (λ (ls : List (List ℕ)). Lines P ls rest bytes) (append-nil lines) (grows [] rest refl)

-- the section ends, if no further line has the property
pub grows_out : (P : List ℕ → Type 0) (lines : List (List ℕ)) (rest bytes : List ℕ) → Grows P lines rest bytes → ((line after : List ℕ) → IsLine line after rest → P line → ⊥)
    → Section P lines rest bytes
grows_out P lines rest bytes grows ends = record { all = grows_all P lines rest bytes grows; ends = ends }

concat_push : (lines : List (List ℕ)) (line : List ℕ) → concat (lines ++ line ∷ []) ≡ concat lines ++ line
concat_push [] line = append-nil line
concat_push (first ∷ lines) line = ap (λ t. first ++ t) (concat_push lines line) ∙ sym (append_assoc first (concat lines) line)

-- The text so far is that of lines.
pub record Joined (text rest bytes : List ℕ) : Type 0 where
  pub lines : List (List ℕ)
  pub grows : Grows IsAny lines rest bytes
  pub joined : text ≡ concat lines

pub joined_none : (bytes : List ℕ) → Joined [] bytes bytes
joined_none bytes = record { lines = []; grows = grows_none IsAny bytes; joined = refl }

pub joined_on : (text new line rest after bytes : List ℕ) → Joined text rest bytes → IsLine line after rest → new ≡ text ++ line → Joined new after bytes
joined_on text new line rest after bytes j is grown = record {
  lines = j.lines ++ line ∷ [];
  grows = grows_on IsAny j.lines (j.lines ++ line ∷ []) line rest after bytes j.grows is tt refl;
  joined = grown ∙ ap (λ t. t ++ line) j.joined ∙ sym (concat_push j.lines line);
}

pub joined_all : (text new rest bytes : List ℕ) → Joined text rest bytes → LacksByte 10 rest → new ≡ text ++ rest → Joins new bytes
joined_all text new rest bytes j lacks grown = record {
  lines = j.lines;
  last = rest;
  all = grows_all IsAny j.lines rest bytes j.grows;
  no_break = lacks;
  joined = grown ∙ ap (λ t. t ++ rest) j.joined;
}
