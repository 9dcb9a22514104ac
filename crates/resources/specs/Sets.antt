-- Who holds which numbers.
use Rattle.std.specs.Prelude.{◌≡◌, List, Option, Some, None}
use Rattle.resources.specs.declared.range.ResourceRange.{ResourceRange}
use Rattle.resources.specs.declared.choice.ResourceChoice.{ResourceChoice}
use Rattle.resources.specs.declared.choice.ResourceChoice.TheVariants.{Inherit, Listed}
use Rattle.resources.specs.Ranges.{Within}

-- What the subject of a certificate holds of one kind, if its issuer holds these: all of them by inherit, otherwise what is listed, if the issuer
-- holds that. None: the issuer does not hold all that is listed. (What the issuer holds is not what its own certificate lists, if that inherits.)
abbrev pub Holds : ResourceChoice → List ResourceRange → Option (List ResourceRange) → Type 0
Holds Inherit issuer held = held ≡ Some issuer
Holds (Listed ranges) issuer (Some held) = (held ≡ ranges) × Within ranges issuer
Holds (Listed ranges) issuer None = ¬ (Within ranges issuer)
