-- What the subject of a certificate holds, if its issuer holds these resources (RFC 6487 section 7.2).
use Rattle.std.specs.Prelude.{◌≡◌, ◌↔◌, ℕ, List, [], Option, Some, None, Result, Ok, Err, ⊤}
use Rattle.resources.specs.declared.kind.ResourceKind.{ResourceKind}
use Rattle.resources.specs.declared.kind.ResourceKind.TheVariants.{Ipv4, Ipv6, As}
use Rattle.resources.specs.declared.range.ResourceRange.{ResourceRange}
use Rattle.resources.specs.declared.choice.ResourceChoice.{ResourceChoice}
use Rattle.resources.specs.declared.ip_resources.IpResources.{IpResources}
use Rattle.resources.specs.declared.choice.ResourceChoice.TheVariants.{Inherit, Listed}
use Rattle.resources.specs.Ranges.{Covers, Within}
use Rattle.point_validation.specs.declared.resource_certificate.ResourceExtensions.{ResourceExtensions}
use Rattle.point_validation.specs.declared.held.HeldResources.{HeldResources}
use Rattle.point_validation.specs.declared.held.HoldError.{HoldError}
use Rattle.point_validation.specs.declared.held.HoldError.TheVariants.{Excess, Memory}

-- two lists of ranges have the same numbers
abbrev pub SameNumbers : List ResourceRange → List ResourceRange → Type 0
SameNumbers ranges others = (n : ℕ) → Covers ranges n ↔ Covers others n

-- What is held of one kind, of what the issuer holds (RFC 6487 section 7.2). If the certificate does not name the kind, it is nothing. By inherit it is
-- all that the issuer holds. Otherwise it is what is listed, if the issuer holds that.
abbrev pub HoldsKind : Option ResourceChoice → List ResourceRange → List ResourceRange → Type 0
HoldsKind None issuer held = held ≡ []
HoldsKind (Some Inherit) issuer held = SameNumbers held issuer
HoldsKind (Some (Listed ranges)) issuer held = (held ≡ ranges) × Within ranges issuer

-- The certificate lists a number of one kind that the issuer does not hold.
abbrev pub ExceedsKind : Option ResourceChoice → List ResourceRange → Type 0
ExceedsKind None issuer = ⊥
ExceedsKind (Some Inherit) issuer = ⊥
ExceedsKind (Some (Listed ranges)) issuer = ¬ (Within ranges issuer)

-- what is said of each family; nothing without the extension
abbrev pub families : Option IpResources → IpResources
families None = record { v4 = None; v6 = None }
families (Some ip) = ip

-- RFC 6487 section 7.2: what the subject of a certificate holds of each kind, which its issuer holds too
pub record HoldsEach (said : ResourceExtensions) (issuer held : HeldResources) : Type 0 where
  pub v4 : HoldsKind (families said.ip).v4 issuer.v4 held.v4
  pub v6 : HoldsKind (families said.ip).v6 issuer.v6 held.v6
  pub as_numbers : HoldsKind said.as_ids issuer.as_numbers held.as_numbers

-- This is the first kind, in the order IPv4, IPv6, AS numbers, of which the certificate lists what its issuer does not hold.
abbrev pub Exceeds : ResourceKind → ResourceExtensions → HeldResources → Type 0
Exceeds Ipv4 said issuer = ExceedsKind (families said.ip).v4 issuer.v4
Exceeds Ipv6 said issuer = ((v4 : List ResourceRange) × HoldsKind (families said.ip).v4 issuer.v4 v4) × ExceedsKind (families said.ip).v6 issuer.v6
Exceeds As said issuer =
    ((v4 : List ResourceRange) × HoldsKind (families said.ip).v4 issuer.v4 v4) × ((v6 : List ResourceRange) × HoldsKind (families said.ip).v6 issuer.v6 v6)
    × ExceedsKind said.as_ids issuer.as_numbers

-- ---- private functions

-- what is held of this kind; or the issuer lacks some; or memory ran out
abbrev pub TakesKind : ResourceKind → Result (List ResourceRange) HoldError → Option ResourceChoice → List ResourceRange → Type 0
TakesKind kind (Ok held) choice issuer = HoldsKind choice issuer held
TakesKind kind (Err (Excess other)) choice issuer = (other ≡ kind) × ExceedsKind choice issuer
TakesKind kind (Err Memory) choice issuer = ⊤

-- what is held of each kind; or this is the first of which the issuer lacks some; or memory ran out
abbrev pub TakesEach : Result HeldResources HoldError → ResourceExtensions → HeldResources → Type 0
TakesEach (Ok held) said issuer = HoldsEach said issuer held
TakesEach (Err (Excess kind)) said issuer = Exceeds kind said issuer
TakesEach (Err Memory) said issuer = ⊤
