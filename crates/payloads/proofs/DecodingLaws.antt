-- What a payload that was read spells.
use Rattle.std.proofs.Common.{◌≡◌, ℕ, zero, suc, ◌-◌, Bool, true, ◌&&◌, ltb, List, [], ◌∷◌, length, take, Ok, Err, refl, sym, ap, ◌∙◌, arith}
use Rattle.std.proofs.lemmas.Bool.{and_parts, ltb-true}
use Rattle.std.proofs.lemmas.List.{take_all}
use Rattle.der_lite.specs.Place.{Fault, place_of}
use Rattle.der_lite.specs.Der.{IsBytes}
use Rattle.der_lite.proofs.Rules.{ok_is}
use Rattle.payloads.specs.declared.roa_entry.RoaEntry.{RoaEntry}
use Rattle.payloads.specs.Roa.{RoaTree}
use Rattle.payloads.specs.RoaReading.{payload_at}
use Rattle.payloads.specs.RoaValues.{RoaValue, all_entries, flat, TreeSpells, RoaSpells, RoaFaultAt}
use Rattle.payloads.specs.Gives.{Progress, Grows}
use Rattle.payloads.proofs.Roas.{exact_roa}

-- a tree that was read is spelled
pub tree_read : (bytes : List ℕ) (tree : RoaTree) → IsBytes bytes → payload_at bytes ≡ Ok tree → TreeSpells tree bytes
unfolding payload_at TreeSpells
tree_read bytes tree are e = exact_roa.takes (place_of 0 bytes) tree are e

-- and so is its flat value
pub flat_read : (bytes : List ℕ) (tree : RoaTree) → IsBytes bytes → payload_at bytes ≡ Ok tree → RoaSpells (flat tree) bytes
flat_read bytes tree are e = record { tree = tree; spelled = tree_read bytes tree are e; is_flat = refl }

-- a fault that was read is the one there
pub fault_read : (bytes : List ℕ) (f : Fault) → IsBytes bytes → payload_at bytes ≡ Err f → RoaFaultAt bytes f.offset f.number
unfolding payload_at RoaFaultAt
fault_read bytes f are e = exact_roa.faults (place_of 0 bytes) f are e

-- no entries
abbrev pub none_yet : ℕ → Progress
none_yet room = record { count = 0; room = room; listed = [] }

-- a value with these entries
abbrev pub value_of : ℕ → List RoaEntry → RoaValue
value_of asn entries = record { asn = asn; entries = entries }

-- The entries were counted first, and then there was room for all.
pub read_twice : (bytes : List ℕ) (first second : RoaTree) (counted listed : Progress) (asn : ℕ) (entries : List RoaEntry) → IsBytes bytes
    → payload_at bytes ≡ Ok first → Grows (none_yet 0) counted (all_entries first.1)
    → payload_at bytes ≡ Ok second → second.0 ≡ asn → Grows (none_yet counted.count) listed (all_entries second.1) → entries ≡ listed.listed
    → RoaSpells (value_of asn entries) bytes
read_twice bytes first second counted listed asn entries are e g d asn_is h entries_are =
    let same : first ≡ second = ok_is first second (sym e ∙ d) in
    let all = all_entries second.1 in
    let room : counted.count - 0 ≡ length all = omega (arith, g.counted, ap (λ (t : RoaTree). length (all_entries t.1)) same) in
    let whole : all ≡ entries = sym (entries_are ∙ h.kept ∙ ap (λ (n : ℕ). take n all) room ∙ take_all (length all) all (omega arith)) in
    record { tree = second; spelled = tree_read bytes second are d; is_flat = ap (λ (n : ℕ). value_of n all) asn_is ∙ ap (value_of asn) whole }

-- ---- bytes of examples

-- each number is one of a byte
abbrev pub all_bytes : List ℕ → Bool
all_bytes [] = true
all_bytes (b ∷ bytes) = ltb b 256 && all_bytes bytes

-- so they are bytes
pub are_bytes : (bytes : List ℕ) → all_bytes bytes ≡ true → IsBytes bytes
are_bytes [] h i = omega arith
are_bytes (b ∷ bytes) h zero = ltb-true b 256 (and_parts (ltb b 256) (all_bytes bytes) h).0
are_bytes (b ∷ bytes) h (suc i) = are_bytes bytes (and_parts (ltb b 256) (all_bytes bytes) h).1 i
