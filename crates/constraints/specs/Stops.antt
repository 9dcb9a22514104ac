-- The bytes at which parts end.
use Rattle.std.specs.Prelude.{ℕ, Bool}
use Rattle.constraints.specs.declared.words.Stop.{Stop}
use Rattle.constraints.specs.declared.words.Stop.TheVariants.{LineFeed, Comment, NotBlank, WordEnd}
use Rattle.constraints.specs.Words.{is_line_feed, begins_comment, not_blank, ends_word}

-- the part ends at this byte
abbrev pub stops : Stop → ℕ → Bool
stops LineFeed = is_line_feed
stops Comment = begins_comment
stops NotBlank = not_blank
stops WordEnd = ends_word
