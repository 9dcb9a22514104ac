-- The validity of a route as JSON, in the format of Routinator's API.
use Rattle.std.specs.Prelude.{ℕ, Bool, if◌then◌else◌, List, [], ◌∷◌, ◌++◌, Option, None, Some, codes}
use Rattle.std.specs.Fmt.{decimal}
use Rattle.std.specs.Io.KnownBytes.{Appends}
use Rattle.std.specs.List.{concat, flat_map}
use Rattle.event_log.specs.Clock.{IsTimeOf}
use Rattle.prefixes.specs.Payload.{Payload}
use Rattle.prefixes.specs.Text.{written_text}
use Rattle.prefixes.specs.declared.prefix.IpPrefix.{IpPrefix}
use Rattle.prefixes.specs.declared.route.Route.{Route}
use Rattle.vrps.specs.declared.origin.OriginState.{OriginState}
use Rattle.vrps.specs.declared.origin.OriginState.TheVariants.{Valid, Invalid, NotFound}
use Rattle.status_pages.specs.Kinds.{has_origin}
use Rattle.status_pages.specs.declared.validity.Validity.{Validity}

-- a record: its AS, its prefix and its maximum length, each as a text
unfoldable pub vrp_text : Payload → List ℕ
vrp_text v =
    concat (codes "{\"asn\":\"AS" ∷ decimal v.asn ∷ codes "\",\"prefix\":\"" ∷ written_text v.prefix ∷ codes "\",\"max_length\":\"" ∷ decimal v.max_len ∷ codes "\"}" ∷ [])

-- records, separated by commas
abbrev pub after_comma : Payload → List ℕ
after_comma v = codes "," ++ vrp_text v

abbrev pub joined_vrps : List Payload → List ℕ
joined_vrps [] = []
joined_vrps (v ∷ vs) = vrp_text v ++ flat_map after_comma vs

unfoldable pub vrps_text : List Payload → List ℕ
vrps_text vs = codes "[" ++ joined_vrps vs ++ codes "]"

-- the origin of a route: NONE if its path ends in a set (RFC 6811 section 2)
unfoldable pub origin_text : Option ℕ → List ℕ
origin_text None = codes "NONE"
origin_text (Some asn) = codes "AS" ++ decimal asn

unfoldable pub prefix_text : IpPrefix → List ℕ
prefix_text p = concat (codes "\",\"prefix\":\"" ∷ written_text p ∷ codes "\"}" ∷ [])

unfoldable pub route_text : Route → List ℕ
route_text r = codes "{\"origin_asn\":\"" ++ origin_text r.origin ++ prefix_text r.prefix

abbrev pub state_word : OriginState → List ℕ
state_word Valid = codes "valid"
state_word Invalid = codes "invalid"
state_word NotFound = codes "not-found"

-- Why a route is invalid: it is too long for the records of its origin that cover it, or none of these is of its origin.
abbrev pub reason_text : OriginState → Bool → List ℕ
reason_text Valid too_long = []
reason_text NotFound too_long = []
reason_text Invalid too_long = if too_long then codes "\"reason\":\"length\"," else codes "\"reason\":\"as\","

abbrev pub description : OriginState → Bool → List ℕ
description Valid too_long = codes "At least one VRP Matches the Route Prefix"
description NotFound too_long = codes "No VRP Covers the Route Prefix"
description Invalid too_long =
    if too_long then codes "At least one VRP Covers the Route Prefix, but the Route Prefix length is greater than the maximum length allowed by VRP(s) matching this route origin ASN"
    else codes "At least one VRP Covers the Route Prefix, but no VRP ASN matches the route origin ASN"

unfoldable pub state_text : OriginState → Bool → List ℕ
state_text s too_long =
    codes "{\"state\":\"" ++ state_word s ++ codes "\"," ++ reason_text s too_long ++ codes "\"description\":\"" ++ description s too_long ++ codes "\""

-- a list under its key, and the three
unfoldable pub listed : List ℕ → List Payload → List ℕ
listed key vs = key ++ vrps_text vs

unfoldable pub last_list : List Payload → List ℕ
last_list too_short = listed (codes ",\"unmatched_length\":") too_short ++ codes "}}"

unfoldable pub lists_text : List Payload → List Payload → List Payload → List ℕ
lists_text matched other_as too_short =
    listed (codes ",\"VRPs\":{\"matched\":") matched ++ listed (codes ",\"unmatched_as\":") other_as ++ last_list too_short

-- the validity: the state, and the lists
unfoldable pub judged_text : Route → OriginState → List Payload → List Payload → List Payload → List ℕ
judged_text r s matched other_as too_short = state_text s (has_origin r too_short) ++ lists_text matched other_as too_short

-- the whole object, at a time
unfoldable pub beginning : Route → List ℕ
beginning r = codes "{\"validated_route\":{\"route\":" ++ route_text r ++ codes ",\"validity\":"

unfoldable pub middle : Route → Validity → List ℕ
middle r v = judged_text r v.state v.matched.items v.unmatched_as.items v.unmatched_length.items

unfoldable pub ending : List ℕ → List ℕ
ending time = codes "},\"generatedTime\":\"" ++ time ++ codes "\"}"

unfoldable pub validity_text : Route → Validity → List ℕ → List ℕ
validity_text r v time = beginning r ++ middle r v ++ ending time

-- That text is appended, with the time of this many seconds since 1970.
abbrev pub TellsValidity : Option (List ℕ) → Option (List ℕ) → Route → Validity → ℕ → Type 0
TellsValidity old new r v now = (time : List ℕ) × IsTimeOf now time × Appends old new (validity_text r v time)
