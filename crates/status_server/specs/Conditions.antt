-- What the headers of a request ask for.
use Rattle.std.specs.Prelude.{◌≡◌, ◌⊎◌, ℕ, List, codes, Some}
use Rattle.http_header.specs.FieldValue.{FieldValue}
use Rattle.http_header.specs.HeaderMap.{Entries, get}
use Rattle.memchr.specs.Find.{OccursAt}

-- One text is a part of another.
abbrev pub Occurs : List ℕ → List ℕ → Type 0
Occurs part whole = (place : ℕ) × OccursAt whole part place

-- If-None-Match is `*`, or lists the tag, weak or strong (RFC 9110 section 13.1.2). An entity tag begins and ends with a quote, and ours has
-- only digits and hyphens between them. So a list in which it occurs has it as an element.
abbrev pub NamesTag : List ℕ → List ℕ → Type 0
NamesTag tag value = (value ≡ codes "*") ⊎ Occurs tag value

-- The client has the representation of this tag.
abbrev pub HasTag : Entries FieldValue → List ℕ → Type 0
HasTag headers tag = (v : FieldValue) × (get headers (codes "if-none-match") ≡ Some v) × NamesTag tag v.bytes
