-- Trust anchor locators (RFC 8630 section 2.2).
use Rattle.std.specs.Prelude.{◌≡◌, ◌≢◌, ℕ, ◌+◌, ◌-◌, ◌≤◌, Bool, true, ◌||◌, bytes_eq, List, [], ◌∷◌, length, take, slice_index, Result, Ok, Err}
use Rattle.std.specs.List.{All}
use Rattle.std.specs.Str.Iter.{LacksByte}
use Rattle.trust_anchors.specs.declared.fault.TalFault.{TalFault}
use Rattle.trust_anchors.specs.declared.fault.TalFault.TheVariants.{At, Memory}
use Rattle.trust_anchors.specs.declared.fault.TalFaultKind.{TalFaultKind}
use Rattle.trust_anchors.specs.declared.fault.TalFaultKind.TheVariants.{NoBreak, NoUri, Uri, Base64, Key}
use Rattle.trust_anchors.specs.Lines.{IsLine, Section, Joins}
use Rattle.trust_anchors.specs.Keys.{IsKeyText, IsNoBase64, IsNoKeyText}

-- It begins with '#'.
abbrev pub IsComment : List ℕ → Type 0
IsComment line = slice_index line 0 ≡ 35

-- rsync:// (RFC 5781)
abbrev pub rsync : List ℕ
rsync = 0x72 ∷ 0x73 ∷ 0x79 ∷ 0x6e ∷ 0x63 ∷ 0x3a ∷ 0x2f ∷ 0x2f ∷ []

-- https:// (RFC 7230 section 2.7.2)
abbrev pub https : List ℕ
https = 0x68 ∷ 0x74 ∷ 0x74 ∷ 0x70 ∷ 0x73 ∷ 0x3a ∷ 0x2f ∷ 0x2f ∷ []

-- one of the two, in lower case
abbrev pub has_scheme : List ℕ → Bool
has_scheme uri = bytes_eq (take 8 uri) rsync || bytes_eq (take 8 uri) https

-- a character of ASCII that shows
abbrev pub IsVisible : ℕ → Type 0
IsVisible byte = (33 ≤ byte) × (byte ≤ 126)

-- A TA URI (RFC 8630 section 2.2) is of rsync or https. Its characters are visible ones of ASCII. It names one object, so it does not end in '/'
-- (section 2.3).
pub record IsTaUri (uri : List ℕ) : Type 0 where
  pub scheme : has_scheme uri ≡ true
  pub visible : All IsVisible uri
  pub object : slice_index uri (length uri - 1) ≢ 0x2f

-- a locator: the URIs in their order, and the modulus of the key
pub record Tal : Type 0 where
  pub uris : List (List ℕ)
  pub modulus : List ℕ

-- The file begins with comments and URIs, and this follows them.
pub record Begins (comments uris : List (List ℕ)) (rest bytes : List ℕ) : Type 0 where
  pub between : List ℕ
  pub commented : Section IsComment comments between bytes
  pub located : Section IsTaUri uris rest between

-- What follows the URIs: there is at least one, then comes an empty line, and then the key in base64 with line breaks.
pub record Ends (tal : Tal) (rest : List ℕ) : Type 0 where
  pub some : tal.uris ≢ []
  pub after : List ℕ
  pub empty : IsLine [] after rest
  pub text : List ℕ
  pub joined : Joins text after
  pub key : IsKeyText tal.modulus text

-- RFC 8630 section 2.2: comments, at least one URI, an empty line, and the key
pub record Spells (tal : Tal) (bytes : List ℕ) : Type 0 where
  pub comments : List (List ℕ)
  pub rest : List ℕ
  pub begins : Begins comments tal.uris rest bytes
  pub ends : Ends tal rest

-- what is wrong after these URIs, and how many lines after them it is
pub data Wrong (uris : List (List ℕ)) (rest : List ℕ) : TalFaultKind → ℕ → Type 0 where
  no_break : LacksByte 10 rest → Wrong uris rest NoBreak 1
  no_uri : (after : List ℕ) → uris ≡ [] → IsLine [] after rest → Wrong uris rest NoUri 1
  bad_uri : (line after : List ℕ) → IsLine line after rest → line ≢ [] → Wrong uris rest Uri 1
  bad_base64 : (after text : List ℕ) → uris ≢ [] → IsLine [] after rest → Joins text after → IsNoBase64 text → Wrong uris rest Base64 2
  bad_key : (after text : List ℕ) → uris ≢ [] → IsLine [] after rest → Joins text after → IsNoKeyText text → Wrong uris rest Key 2

-- the first fault, and its line, from 1
pub record FaultAt (bytes : List ℕ) (kind : TalFaultKind) (line : ℕ) : Type 0 where
  pub comments : List (List ℕ)
  pub uris : List (List ℕ)
  pub rest : List ℕ
  pub begins : Begins comments uris rest bytes
  pub further : ℕ
  pub wrong : Wrong uris rest kind further
  pub line_is : line ≡ length comments + length uris + further

-- The bytes are this locator, or this is their first fault, or memory ran out.
abbrev pub ReadsTal : {X : Type 0} → (X → Tal) → List ℕ → Result X TalFault → Type 0
ReadsTal view bytes (Ok tal) = Spells (view tal) bytes
ReadsTal view bytes (Err (At kind line)) = FaultAt bytes kind line
ReadsTal view bytes (Err Memory) = Unit {0}
