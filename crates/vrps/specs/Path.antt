-- The origin of a route, read off its path (RFC 6811 section 2).
use Rattle.std.specs.Prelude.{ℕ, ◌-◌, List, length, Option, Some, None, Result, Ok, Err}
use Rattle.std.specs.List.{slice_get}
use Rattle.vrps.specs.declared.path.PathFault.{PathFault}
use Rattle.vrps.specs.declared.path.PathFault.TheVariants.{EmptySequence}
use Rattle.vrps.specs.declared.path.Segment.{Segment}
use Rattle.vrps.specs.declared.path.SegmentKind.{SegmentKind}
use Rattle.vrps.specs.declared.path.SegmentKind.TheVariants as kinds

-- the last element, if there is one
abbrev pub last_of : {X : Type 0} → List X → Option X
last_of xs = slice_get xs (length xs - 1)

-- the rightmost AS of a sequence, if it has one
abbrev pub rightmost : Option ℕ → Result (Option ℕ) PathFault
rightmost (Some n) = Ok (Some n)
rightmost None = Err EmptySequence

-- What the final segment says: the rightmost AS of a sequence, the own AS for segments of a confederation, NONE for a set.
abbrev pub origin_of_segment : SegmentKind → List ℕ → ℕ → Result (Option ℕ) PathFault
origin_of_segment kinds.Sequence numbers own = rightmost (last_of numbers)
origin_of_segment kinds.Set numbers own = Ok None
origin_of_segment kinds.ConfedSequence numbers own = Ok (Some own)
origin_of_segment kinds.ConfedSet numbers own = Ok (Some own)

-- The final segment decides. A path without a segment is the own AS's.
abbrev pub origin_of_final : Option Segment → ℕ → Result (Option ℕ) PathFault
origin_of_final (Some segment) own = origin_of_segment segment.kind segment.numbers.items own
origin_of_final None own = Ok (Some own)

abbrev pub origin_of_path : List Segment → ℕ → Result (Option ℕ) PathFault
origin_of_path segments own = origin_of_final (last_of segments) own
