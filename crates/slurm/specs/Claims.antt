-- What files are about, arranged so that overlaps are side by side.
use Rattle.std.specs.Prelude.{◌≡◌, ◌≢◌, ℕ, suc, nat_lt, true, if◌then◌else◌, List, [], ◌∷◌, ◌++◌, map, Contains}
use Rattle.std.specs.Ordering.{nat_cmp, on, then_cmp}
use Rattle.std.specs.declared.cmp.Ordering.{Ordering}
use Rattle.prefixes.specs.Address.{IsPrefix}
use Rattle.prefixes.specs.Payload.{block_of, covers, prefix_cmp, width_of}
use Rattle.prefixes.specs.declared.asn.Asn.{Asn}
use Rattle.prefixes.specs.declared.prefix.IpPrefix.{IpPrefix}
use Rattle.slurm.specs.Scoped.{Scoped}
use Rattle.slurm.specs.Uniting.{asns_of, prefixes_of}
use Rattle.slurm.specs.declared.claims.AsnClaim.{AsnClaim}
use Rattle.slurm.specs.declared.claims.PrefixClaim.{PrefixClaim}
use Rattle.slurm.specs.declared.unite_fault.Overlap.TheVariants.{Prefixes, Bgpsec}
use Rattle.slurm.specs.declared.unite_fault.UniteFault.{UniteFault}
use Rattle.slurm.specs.declared.unite_fault.UniteFault.TheVariants as fault

-- What these files claim, the first of which has this index: each thing that a file is about, with the file's index
abbrev pub claims_from : {X C : Type 0} → (ℕ → X → C) → (Scoped → List X) → ℕ → List Scoped → List C
claims_from claim about n [] = []
claims_from claim about n (s ∷ ss) = map (claim n) (about s) ++ claims_from claim about (suc n) ss

-- ---- prefixes

abbrev pub prefix_claim : ℕ → IpPrefix → PrefixClaim
prefix_claim file p = record { prefix = p; file = file }

abbrev pub prefix_claims : List Scoped → List PrefixClaim
prefix_claims ss = claims_from prefix_claim prefixes_of 0 ss

abbrev pub HasPrefix : PrefixClaim → Type 0
HasPrefix c = IsPrefix (width_of c.prefix) (block_of c.prefix)

-- by prefix, then by file
abbrev pub prefix_claim_cmp : PrefixClaim → PrefixClaim → Ordering
prefix_claim_cmp = then_cmp (on (λ c. c.prefix) prefix_cmp) (on (λ c. c.file) nat_cmp)

-- Two of the claims are of different files, and one covers the other.
abbrev pub PrefixesClash : List PrefixClaim → PrefixClaim → PrefixClaim → Type 0
PrefixesClash cs c d = Contains cs c × Contains cs d × (covers c.prefix d.prefix ≡ true) × (c.file ≢ d.file)

-- None does that.
abbrev pub PrefixesAgree : List PrefixClaim → Type 0
PrefixesAgree cs = (c d : PrefixClaim) → Contains cs c → Contains cs d → covers c.prefix d.prefix ≡ true → c.file ≡ d.file

abbrev pub prefix_overlap : PrefixClaim → PrefixClaim → UniteFault
prefix_overlap c d =
    if nat_lt c.file d.file then fault.Overlap c.file d.file (Prefixes c.prefix d.prefix) else fault.Overlap d.file c.file (Prefixes d.prefix c.prefix)

-- ---- ASes

abbrev pub asn_claim : ℕ → Asn → AsnClaim
asn_claim file a = record { asn = a.0; file = file }

abbrev pub asn_claims : List Scoped → List AsnClaim
asn_claims ss = claims_from asn_claim asns_of 0 ss

-- by AS, then by file
abbrev pub asn_claim_cmp : AsnClaim → AsnClaim → Ordering
asn_claim_cmp = then_cmp (on (λ c. c.asn) nat_cmp) (on (λ c. c.file) nat_cmp)

abbrev pub AsnsClash : List AsnClaim → AsnClaim → AsnClaim → Type 0
AsnsClash cs c d = Contains cs c × Contains cs d × (c.asn ≡ d.asn) × (c.file ≢ d.file)

abbrev pub AsnsAgree : List AsnClaim → Type 0
AsnsAgree cs = (c d : AsnClaim) → Contains cs c → Contains cs d → c.asn ≡ d.asn → c.file ≡ d.file

abbrev pub asn_overlap : AsnClaim → AsnClaim → UniteFault
asn_overlap c d = if nat_lt c.file d.file then fault.Overlap c.file d.file (Bgpsec (record { 0 = c.asn })) else fault.Overlap d.file c.file (Bgpsec (record { 0 = c.asn }))
