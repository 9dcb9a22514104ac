-- Names of states, links, ends and faults, as texts for C.
use Rattle.std.specs.Prelude.{◌≡◌, ◌⊎◌, ℕ, List, codes}
use Rattle.der_lite.specs.declared.fault.DerFaultKind.{DerFaultKind}
use Rattle.der_lite.specs.declared.fault.DerFaultKind.TheVariants.{Truncated, WrongTag, BadLength, BadContent, Trailing}
use Rattle.payloads.specs.declared.fault.GrammarFaultKind.{GrammarFaultKind}
use Rattle.payloads.specs.declared.fault.GrammarFaultKind.TheVariants.{Element, VersionPresent, AsnRange, Family, Empty, PrefixTooLong, MaxLength, Order, NumberRange, TimesOrder, HashAlg, Name, HashLength, NameTwice, TooMany, MaxLengthSuperfluous}
use Rattle.rtr_ends.specs.RouterLink.{end_text}
use Rattle.rtr_ends.specs.declared.link.End.{End}
use Rattle.rtr_ends.specs.declared.link.End.TheVariants.{Reported, Told}
use Rattle.rtr_ends.specs.declared.link.Link.{Link}
use Rattle.rtr_ends.specs.declared.link.Link.TheVariants.{Closed, Idle, Asked, Answering, Ended}
use Rattle.rpkirtr_c.specs.Links.{link_of}
use Rattle.rpkirtr_c.specs.Texts.{in_room}
use Rattle.rpkirtr_c.specs.declared.texts.CText.{CText}

-- The text is the name of what has this number, if there is such. If there is none, it is another one.
abbrev pub IsNamed : {X N : Type 0} → (X → N) → (X → List ℕ) → List ℕ → N → CText → Type 0
IsNamed {X} number_of name other code text =
    ((x : X) × (number_of x ≡ code) × (text ≡ in_room (name x))) ⊎ (((x : X) → ¬ (number_of x ≡ code)) × (text ≡ in_room other))

abbrev pub link_number : Link → ℕ
link_number link = (link_of link).state

abbrev pub link_name : Link → List ℕ
link_name Closed = codes "closed"
link_name Idle = codes "idle"
link_name Asked = codes "asked"
link_name Answering = codes "answering"
link_name (Ended end) = codes "ended"

-- the text of an end, without the code of its Error Report
abbrev pub end_name : End → List ℕ
end_name (Reported code) = codes "the cache was sent an Error Report"
end_name (Told code) = codes "the cache sent an Error Report"
end_name end = end_text end

abbrev pub element_name : DerFaultKind → List ℕ
element_name Truncated = codes "an element is longer than what holds it"
element_name WrongTag = codes "another element was expected"
element_name BadLength = codes "a length is indefinite, or not in its shortest form"
element_name BadContent = codes "the content of an element is not valid"
element_name Trailing = codes "bytes remain"

abbrev pub fault_name : GrammarFaultKind → List ℕ
fault_name (Element kind) = element_name kind
fault_name VersionPresent = codes "a version is encoded, which may only be left out"
fault_name AsnRange = codes "the AS number is negative or greater than 4294967295"
fault_name Family = codes "the address family is neither IPv4 nor IPv6, or it occurs twice"
fault_name Empty = codes "no address family, or a family without addresses"
fault_name PrefixTooLong = codes "the prefix is longer than an address of its family"
fault_name MaxLength = codes "the maximum length is out of its range"
fault_name Order = codes "the entries are not in strictly ascending order"
fault_name NumberRange = codes "the manifest number is negative, or longer than 20 octets"
fault_name TimesOrder = codes "nextUpdate is not later than thisUpdate"
fault_name HashAlg = codes "the hash algorithm is not SHA-256"
fault_name Name = codes "not a file name of a manifest"
fault_name HashLength = codes "a hash is not 256 bits long"
fault_name NameTwice = codes "a file name occurs twice"
fault_name TooMany = codes "more than 65536 entries or files"
fault_name MaxLengthSuperfluous = codes "the maximum length equals the prefix length"
