-- States of routes, worked out.
use Rattle.std.proofs.Common.{◌≡◌, ℕ, List, [], ◌∷◌, Option, Some, None, refl}
use Rattle.std.specs.List.Sorted.{IsStrictlySortedBy}
use Rattle.prefixes.specs.Payload.{Payload, vrp_cmp}
use Rattle.prefixes.specs.declared.prefix.IpPrefix.TheVariants.{V4}
use Rattle.prefixes.specs.declared.route.Route.{Route}
use Rattle.vrps.specs.Origin.{state, state_among}
use Rattle.vrps.specs.VrpSet.{set_of}
use Rattle.vrps.specs.declared.origin.OriginState.{OriginState}
use Rattle.vrps.specs.declared.origin.OriginState.TheVariants.{Valid, Invalid, NotFound}
use Rattle.vrps.proofs.SetLaws.{listing-set_of}

-- 192.0.2.0/24 maximum 24 AS0, and the same prefix maximum 25 AS64496
abbrev records : List Payload
records =
    record { prefix = V4 (record { addr = 0xc0000200; len = 24 }); max_len = 24; asn = 0 }
    ∷ record { prefix = V4 (record { addr = 0xc0000200; len = 24 }); max_len = 25; asn = 64496 }
    ∷ []

ascend : IsStrictlySortedBy vrp_cmp records
unfolding IsStrictlySortedBy
ascend = ((refl, tt), (tt, tt))

abbrev route : ℕ → ℕ → Option ℕ → Route
route addr len origin = record { prefix = V4 (record { addr = addr; len = len }); origin = origin }

among : (r : Route) (answer : OriginState) → state_among records r ≡ answer → state (set_of records) r ≡ answer
among r answer h = rw (listing-set_of records ascend) h

-- within the maximum
valid : state (set_of records) (route 0xc0000200 25 (Some 64496)) ≡ Valid
valid = among (route 0xc0000200 25 (Some 64496)) Valid refl

-- longer than the maximum
too_long : state (set_of records) (route 0xc0000200 26 (Some 64496)) ≡ Invalid
too_long = among (route 0xc0000200 26 (Some 64496)) Invalid refl

-- the origin NONE matches nothing
no_origin : state (set_of records) (route 0xc0000200 24 None) ≡ Invalid
no_origin = among (route 0xc0000200 24 None) Invalid refl

-- nor does AS 0
origin_zero : state (set_of records) (route 0xc0000200 24 (Some 0)) ≡ Invalid
origin_zero = among (route 0xc0000200 24 (Some 0)) Invalid refl

-- A record covers no route that is shorter.
shorter : state (set_of records) (route 0xc0000000 16 (Some 64496)) ≡ NotFound
shorter = among (route 0xc0000000 16 (Some 64496)) NotFound refl
