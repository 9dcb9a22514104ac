-- A payload set with at most 65,536 entries is a ROA, and the other way round.
use Rattle.std.proofs.Common.{ℕ, ◌+◌, ◌<◌, ◌≤◌, List, [], ◌∷◌, ◌++◌, length, Option, Some, None, refl, sym, subst, arith, length-append}
use Rattle.std.specs.List.{last_or}
use Rattle.std.proofs.lemmas.Bool.{lt-leb}
use Rattle.der_lite.specs.Grammar.{EachSpells, OptionSpells}
use Rattle.der_lite.proofs.Rules.{kept_on}
use Rattle.payloads.specs.declared.roa_entry.RoaEntry.{RoaEntry}
use Rattle.payloads.specs.Roa as roas
use Rattle.payloads.specs.Roa.{Blocks, Family, RoaTree, ip_address}
use Rattle.payloads.specs.RoaValues.{RoaValue, RoaSpells, TreeSpells, all_entries, entries_of}
use Rattle.payloads.proofs.RoaRefusals.{roa_right}
use Rattle.payloads.proofs.RoaSpellings.{few_entries}
use Rattle.ccr.specs.Families.{RoaFamily}
use Rattle.ccr.specs.PayloadSet as g
use Rattle.ccr.specs.Laws.{SetsAreRoas}

-- ---- an entry, after others and as the first

entry_to : (family : RoaFamily) (count : ℕ) (before : Option RoaEntry) (e : RoaEntry) (bytes : List ℕ) → (ip_address family count before).Spells e bytes → (ip_address family 0 before).Spells e bytes
unfolding ip_address
entry_to family count before e bytes s = (s.0, s.1, (kept_on 19 _ [] (lt-leb 65536 0 (omega arith)) refl, s.2.1, s.2.2))

entry_from : (family : RoaFamily) (count : ℕ) (before : Option RoaEntry) (e : RoaEntry) (bytes : List ℕ) → count < 65536 → (ip_address family 0 before).Spells e bytes → (ip_address family count before).Spells e bytes
unfolding ip_address
entry_from family count before e bytes few s = (s.0, s.1, (kept_on 19 _ [] (lt-leb 65536 count few) refl, s.2.1, s.2.2))

-- ---- entries

each_to : (family : RoaFamily) (count : ℕ) (before es : List RoaEntry) (bytes : List ℕ) → EachSpells (roas.entry_behind family count) before es bytes → EachSpells (g.entry_behind family) before es bytes
each_to family count before [] bytes s = s
each_to family count before (e ∷ es) bytes s =
    (s.0, s.1, s.2, entry_to family (count + length before) (last_or None before) e s.0 s.3, each_to family count (before ++ e ∷ []) es s.1 s.4)

each_from : (family : RoaFamily) (count : ℕ) (before es : List RoaEntry) (bytes : List ℕ) → count + length before + length es ≤ 65536 → EachSpells (g.entry_behind family) before es bytes
    → EachSpells (roas.entry_behind family count) before es bytes
each_from family count before [] bytes few s = s
each_from family count before (e ∷ es) bytes few s = (
  s.0,
  s.1,
  s.2,
  entry_from family (count + length before) (last_or None before) e s.0 (omega (arith, few)) s.3,
  each_from family count (before ++ e ∷ []) es s.1 (omega (arith, few, length-append before (e ∷ []))) s.4,
)

-- ---- families

family_to : (before : Option RoaFamily) (count : ℕ) (v : Family) (bytes : List ℕ) → (roas.ip_family before count).Spells v bytes → (g.ip_family before).Spells v bytes
unfolding roas.ip_family g.ip_family roas.addresses g.addresses
family_to before count v bytes s =
    let m = s.2.1 in
    let list = m.4 in
    (s.0, s.1, (refl, (m.0, m.1, m.2, m.3, (list.0, list.1, (list.2.0, each_to v.0 count [] v.1 list.0 list.2.1, refl))), refl))

family_from : (before : Option RoaFamily) (count : ℕ) (v : Family) (bytes : List ℕ) → count + length v.1 ≤ 65536 → (g.ip_family before).Spells v bytes → (roas.ip_family before count).Spells v bytes
unfolding roas.ip_family g.ip_family roas.addresses g.addresses
family_from before count v bytes few s =
    let m = s.2.1 in
    let list = m.4 in
    (s.0, s.1, (refl, (m.0, m.1, m.2, m.3, (list.0, list.1, (list.2.0, each_from v.0 count [] v.1 list.0 (omega (arith, few)) list.2.1, refl))), refl))

second_to : (first : RoaFamily) (count : ℕ) (v : Option Family) (bytes : List ℕ) → OptionSpells (roas.ip_family (Some first) count).Spells v bytes → OptionSpells (g.ip_family (Some first)).Spells v bytes
second_to first count None bytes s = s
second_to first count (Some v) bytes s = family_to (Some first) count v bytes s

second_from : (first : RoaFamily) (count : ℕ) (v : Option Family) (bytes : List ℕ) → count + length (entries_of v) ≤ 65536 → OptionSpells (g.ip_family (Some first)).Spells v bytes
    → OptionSpells (roas.ip_family (Some first) count).Spells v bytes
second_from first count None bytes few s = s
second_from first count (Some v) bytes few s = family_from (Some first) count v bytes few s

blocks_to : (v : Blocks) (bytes : List ℕ) → roas.ip_addr_blocks.Spells v bytes → g.ip_addr_blocks.Spells v bytes
unfolding roas.ip_addr_blocks g.ip_addr_blocks
blocks_to v bytes s =
    let m = s.2.1 in
    (s.0, s.1, (s.2.0, (m.0, m.1, m.2, family_to None 0 v.0 m.0 m.3, second_to v.0.0 (length v.0.1) v.1 m.1 m.4), refl))

blocks_from : (v : Blocks) (bytes : List ℕ) → length (all_entries v) ≤ 65536 → g.ip_addr_blocks.Spells v bytes → roas.ip_addr_blocks.Spells v bytes
unfolding roas.ip_addr_blocks g.ip_addr_blocks
blocks_from v bytes few s =
    let m = s.2.1 in
    let count = length-append v.0.1 (entries_of v.1) in (
      s.0,
      s.1,
      (s.2.0, (m.0, m.1, m.2, family_from None 0 v.0 m.0 (omega (arith, few, count)) m.3, second_from v.0.0 (length v.0.1) v.1 m.1 (omega (arith, few, count)) m.4), refl),
    )

-- ---- the whole

set_to : (roa : RoaValue) (bytes : List ℕ) → RoaSpells roa bytes → (g.payload_set None).Spells roa bytes
unfolding TreeSpells roas.roa_payload roas.route_origin_attestation g.payload_set g.set_members
set_to roa bytes r =
    let s = r.spelled in
    let m = s.2.1 in
    (s.0, s.1, (refl, (r.tree, (m.0, m.1, m.2, m.3, blocks_to r.tree.1 m.1 m.4), r.is_flat), refl))

set_from : (roa : RoaValue) (bytes : List ℕ) → length roa.entries ≤ 65536 → (g.payload_set None).Spells roa bytes → RoaSpells roa bytes
unfolding TreeSpells roas.roa_payload roas.route_origin_attestation g.payload_set g.set_members
set_from roa bytes few s =
    let told = s.2.1 in
    let m = told.1 in
    let same : length (all_entries told.0.1) ≤ 65536 = subst (λ (r : RoaValue). length r.entries ≤ 65536) (sym told.2) few in
    record { tree = told.0; spelled = (s.0, s.1, (refl, (m.0, m.1, m.2, m.3, blocks_from told.0.1 m.1 same m.4), refl)); is_flat = told.2 }

pub sets_are_roas : SetsAreRoas
sets_are_roas roa bytes = ((λ r. (set_to roa bytes r, few_entries roa.entries (roa_right roa bytes r))), λ s. set_from roa bytes s.1 s.0)
