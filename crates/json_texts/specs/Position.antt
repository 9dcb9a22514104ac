-- The line and the column after a text, as editors count: a line ends with a line feed.
use Rattle.std.specs.Prelude.{◌≡◌, ◌≢◌, ◌⊎◌, ◌==◌, ℕ, suc, List, [], ◌∷◌, ◌++◌, length, count_by, codes}
use Rattle.std.specs.List.{All}
use Rattle.std.specs.Fmt.{decimal}

abbrev pub line_feed : ℕ
line_feed = 10

-- The next byte after this text is in this line, in this column. The last line has all that follows the last line feed.
pub record StandsAt (text : List ℕ) (line column : ℕ) : Type 0 where
  pub line_is : line ≡ suc (count_by (λ b. b == line_feed) text)
  pub before : List ℕ
  pub last : List ℕ
  pub parts : text ≡ before ++ last
  pub begins : (before ≡ []) ⊎ ((rest : List ℕ) × (before ≡ rest ++ line_feed ∷ []))
  pub no_feed : All (λ b. b ≢ line_feed) last
  pub column_is : column ≡ suc (length last)

abbrev pub position_text : ℕ → ℕ → List ℕ
position_text line column = codes "line " ++ decimal line ++ codes ", column " ++ decimal column
