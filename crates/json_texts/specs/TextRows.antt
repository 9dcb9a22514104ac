-- Texts in messages, worked out.
use Rattle.std.specs.Prelude.{◌≡◌, [], ◌∷◌, ◌++◌, Some, None, codes, refl}
use Rattle.std.specs.Fmt.{digits}
use Rattle.std.proofs.Common.{inl, inr, lit≤}
use Rattle.std.proofs.lemmas.List.Elements.{All-nil}
use Rattle.json_texts.specs.Encoding.{encoding_reason}
use Rattle.json_texts.specs.Position.{StandsAt, line_feed, position_text}
use Rattle.json_texts.specs.Shown.{IsCut}

at_the_beginning : StandsAt [] 1 1
at_the_beginning = record { line_is = refl; before = []; last = []; parts = refl; begins = inl refl; no_feed = All-nil (λ b. ¬ (b ≡ line_feed)); column_is = refl }

behind_a_line_feed : StandsAt (codes "{" ++ 10 ∷ []) 2 1
behind_a_line_feed = record { line_is = refl; before = 123 ∷ 10 ∷ []; last = []; parts = refl; begins = inr (123 ∷ [], refl); no_feed = All-nil (λ b. ¬ (b ≡ line_feed)); column_is = refl }

position_written : position_text 12 7 ≡ codes "line 12, column 7"
unfolding digits
position_written = refl

-- a text of at most 80 bytes is shown whole
short_is_whole : IsCut (codes "192.0.2.0/24") (codes "192.0.2.0/24")
short_is_whole = inl (refl, lit≤ tt)

-- ---- the beginning of a file

-- gzip with deflate
gzip_begins : encoding_reason (0x1f ∷ 0x8b ∷ 8 ∷ []) ≡ Some (codes "it is compressed by gzip, decompress it first")
gzip_begins = refl

marked_object : encoding_reason (0xef ∷ 0xbb ∷ 0xbf ∷ codes "{}") ≡ Some (codes "it begins with a byte order mark, save it without one")
marked_object = refl

utf16_object : encoding_reason (0xff ∷ 0xfe ∷ 123 ∷ 0 ∷ []) ≡ Some (codes "it is UTF-16, save it as UTF-8 without a byte order mark")
utf16_object = refl

plain_object : encoding_reason (codes "{}") ≡ None
plain_object = refl

one_byte_shows_nothing : encoding_reason (0x1f ∷ []) ≡ None
one_byte_shows_nothing = refl

sparse_file : encoding_reason (0 ∷ 0 ∷ []) ≡ Some (codes "it begins with a zero byte")
sparse_file = refl
