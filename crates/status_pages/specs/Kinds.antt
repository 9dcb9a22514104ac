-- The three kinds of records that cover a route (RFC 6811 section 2).
use Rattle.std.specs.Prelude.{◌≡◌, ◌+◌, Bool, not, ◌&&◌, nat_le, List, length, filter}
use Rattle.std.specs.List.{list_any}
use Rattle.prefixes.specs.Payload.{Payload, block_of}
use Rattle.prefixes.specs.declared.route.Route.{Route}
use Rattle.vrps.specs.Origin.{covering, covers_route, is_origin, matches, state}
use Rattle.vrps.specs.VrpSet.{VrpSet}
use Rattle.vrps.specs.declared.origin.OriginState.TheVariants.{Invalid}

-- The route's length is at most the record's maximum length.
abbrev pub is_within : Route → Payload → Bool
is_within r v = nat_le (block_of r.prefix).len v.max_len

-- A record that covers the route and does not match it either has too small a maximum length ..
abbrev pub is_too_short : Route → Payload → Bool
is_too_short r v = covers_route r v && not (is_within r v)

-- .. or is of an AS that is not the route's origin, or is 0, which is no origin.
abbrev pub is_of_other_as : Route → Payload → Bool
is_of_other_as r v = covers_route r v && (is_within r v && not (is_origin r.origin v.asn))

-- The members that cover the route, by kind, each list in ascending order
abbrev pub matched : VrpSet → Route → List Payload
matched s r = filter (matches r) (covering s r)

abbrev pub unmatched_length : VrpSet → Route → List Payload
unmatched_length s r = filter (is_too_short r) (covering s r)

abbrev pub unmatched_as : VrpSet → Route → List Payload
unmatched_as s r = filter (is_of_other_as r) (covering s r)

-- Each record that covers a route is of exactly one of the three kinds.
pub record IsOfOneKind (r : Route) (v : Payload) : Type 0 where
  pub matching : matches r v ≡ (covers_route r v && (not (is_too_short r v) && not (is_of_other_as r v)))
  pub too_small : is_too_short r v ≡ (covers_route r v && (not (matches r v) && not (is_of_other_as r v)))
  pub other_as : is_of_other_as r v ≡ (covers_route r v && (not (matches r v) && not (is_too_short r v)))

abbrev pub OneKindEach : Type 0
OneKindEach = (r : Route) (v : Payload) → IsOfOneKind r v

-- So the three lists have as many members as cover the route.
abbrev pub ListsCover : Type 0
ListsCover =
    (s : VrpSet) (r : Route) → length (covering s r) ≡ length (matched s r) + length (unmatched_length s r) + length (unmatched_as s r)

-- One of these records is of the route's origin.
abbrev pub has_origin : Route → List Payload → Bool
has_origin r vs = list_any (λ v. is_origin r.origin v.asn) vs

-- If a route is invalid, and a record that covers it is of its origin, then the maximum length of such a record is too small.
abbrev pub OriginIsTooShort : Type 0
OriginIsTooShort = (s : VrpSet) (r : Route) → state s r ≡ Invalid → has_origin r (unmatched_length s r) ≡ has_origin r (covering s r)
