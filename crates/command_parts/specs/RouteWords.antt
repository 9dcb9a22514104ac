-- The words of a route, and the word for its state.
use Rattle.std.specs.Prelude.{◌≡◌, ℕ, ◌<◌, ◌^◌, List, Option, Some, None, codes}
use Rattle.std.specs.Fmt.{decimal}
use Rattle.prefixes.specs.Text.{PrefixText}
use Rattle.prefixes.specs.declared.route.Route.{Route}
use Rattle.vrps.specs.declared.origin.OriginState.{OriginState}
use Rattle.vrps.specs.declared.origin.OriginState.TheVariants.{Valid, Invalid, NotFound}

-- An origin is the number of an AS in decimal, or NONE (RFC 6811 section 2).
abbrev pub OriginText : Option ℕ → List ℕ → Type 0
OriginText (Some n) text = (n < 2 ^ 32) × (text ≡ decimal n)
OriginText None text = text ≡ codes "none"

-- Two words are a route.
pub record RouteText (r : Route) (prefix origin : List ℕ) : Type 0 where
  pub prefix_is : PrefixText r.prefix prefix
  pub origin_is : OriginText r.origin origin

abbrev pub state_word : OriginState → List ℕ
state_word Valid = codes "valid"
state_word Invalid = codes "invalid"
state_word NotFound = codes "not-found"
