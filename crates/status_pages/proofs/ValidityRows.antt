-- What records say of routes, worked out.
use Rattle.std.proofs.Common.{◌≡◌, ℕ, List, [], ◌∷◌, Option, Some, None, filter, refl, Bool, true, false, codes}
use Rattle.std.specs.List.Sorted.{IsStrictlySortedBy}
use Rattle.prefixes.specs.Payload.{Payload, vrp_cmp}
use Rattle.prefixes.specs.declared.prefix.IpPrefix.TheVariants.{V4}
use Rattle.prefixes.specs.declared.route.Route.{Route}
use Rattle.vrps.specs.Origin.{covers_route, matches}
use Rattle.vrps.specs.VrpSet.{listing, set_of}
use Rattle.vrps.proofs.SetLaws.{listing-set_of}
use Rattle.vrps.specs.declared.origin.OriginState.TheVariants.{Valid, Invalid, NotFound}
use Rattle.status_pages.specs.Kinds.{has_origin, is_of_other_as, is_too_short, matched, unmatched_as, unmatched_length}
use Rattle.status_pages.specs.ValidityText.{reason_text}

-- 192.0.2.0/24 maximum 24 AS0, and the same prefix maximum 25 AS64496
abbrev of_none : Payload
of_none = record { prefix = V4 (record { addr = 0xc0000200; len = 24 }); max_len = 24; asn = 0 }

abbrev of_one : Payload
of_one = record { prefix = V4 (record { addr = 0xc0000200; len = 24 }); max_len = 25; asn = 64496 }

abbrev records : List Payload
records = of_none ∷ of_one ∷ []

ascend : IsStrictlySortedBy vrp_cmp records
unfolding IsStrictlySortedBy
ascend = ((refl, tt), (tt, tt))

abbrev route : ℕ → ℕ → Option ℕ → Route
route addr len origin = record { prefix = V4 (record { addr = addr; len = len }); origin = origin }

-- the lists over the set of the two are those over their list
abbrev of_kind : (Payload → Bool) → Route → List Payload → List Payload
of_kind kind r vs = filter kind (filter (covers_route r) vs)

kinds : (kind : Payload → Bool) (r : Route) (vs : List Payload) → of_kind kind r records ≡ vs → of_kind kind r (listing (set_of records)) ≡ vs
kinds kind r vs h = rw (listing-set_of records ascend) h

-- within one maximum, and longer than the other, whose AS 0 is not looked at
abbrev within : Route
within = route 0xc0000200 25 (Some 64496)

within_one : matched (set_of records) within ≡ of_one ∷ []
within_one = kinds (matches within) within (of_one ∷ []) refl

within_not_other : unmatched_length (set_of records) within ≡ of_none ∷ []
within_not_other = kinds (is_too_short within) within (of_none ∷ []) refl

within_no_as : unmatched_as (set_of records) within ≡ []
within_no_as = kinds (is_of_other_as within) within [] refl

-- longer than both maxima
abbrev long : Route
long = route 0xc0000200 26 (Some 64496)

long_length : unmatched_length (set_of records) long ≡ records
long_length = kinds (is_too_short long) long records refl

long_no_as : unmatched_as (set_of records) long ≡ []
long_no_as = kinds (is_of_other_as long) long [] refl

-- another AS: both are of another
abbrev other : Route
other = route 0xc0000200 24 (Some 64497)

other_as : unmatched_as (set_of records) other ≡ records
other_as = kinds (is_of_other_as other) other records refl

-- AS 0 matches nothing, and neither does the origin NONE.
as_zero : unmatched_as (set_of records) (route 0xc0000200 24 (Some 0)) ≡ records
as_zero = kinds (is_of_other_as (route 0xc0000200 24 (Some 0))) (route 0xc0000200 24 (Some 0)) records refl

as_none : unmatched_as (set_of records) (route 0xc0000200 24 None) ≡ records
as_none = kinds (is_of_other_as (route 0xc0000200 24 None)) (route 0xc0000200 24 None) records refl

-- A shorter route is not covered.
abbrev short : Route
short = route 0xc0000000 16 (Some 64496)

short_length : unmatched_length (set_of records) short ≡ []
short_length = kinds (is_too_short short) short [] refl

short_as : unmatched_as (set_of records) short ≡ []
short_as = kinds (is_of_other_as short) short [] refl

-- The reason is by the origin. 192.0.2.0/24 maximum 24 AS64496: the route 192.0.2.0/25 of AS64511 is too long for it, and of no record's AS.
of_no_record : has_origin (route 0xc0000200 25 (Some 64511)) (record { prefix = V4 (record { addr = 0xc0000200; len = 24 }); max_len = 24; asn = 64496 } ∷ []) ≡ false
of_no_record = refl

-- 10.0.0.0/16 maximum 16 AS1: the route 10.0.1.0/24 of AS1 is too long for it, whatever a record of AS2 allows.
of_its_own : has_origin (route 0x0a000100 24 (Some 1)) (record { prefix = V4 (record { addr = 0x0a000000; len = 16 }); max_len = 16; asn = 1 } ∷ []) ≡ true
of_its_own = refl

-- neither AS 0 nor the origin NONE is a record's AS
zero_of_none : has_origin (route 0xc0000200 25 (Some 0)) (of_none ∷ []) ≡ false
zero_of_none = refl

none_of_one : has_origin (route 0xc0000200 26 None) (of_one ∷ []) ≡ false
none_of_one = refl

too_long : reason_text Invalid true ≡ codes "\"reason\":\"length\","
too_long = refl

of_another : reason_text Invalid false ≡ codes "\"reason\":\"as\","
of_another = refl

valid_without : reason_text Valid true ≡ []
valid_without = refl

not_found_without : reason_text NotFound true ≡ []
not_found_without = refl
