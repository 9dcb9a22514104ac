-- Steps of reading entries.
use Rattle.std.specs.Prelude.{◌≡◌, ℕ, ◌<◌, List, length, replicate, None, option_map, ⊤}
use Rattle.prefixes.specs.Payload.{Payload}
use Rattle.vrps.specs.VrpSet.{set_of, size}
use Rattle.exports.specs.Entry.{Said, current, expired}
use Rattle.exports.specs.Lasting.{last_seconds}
use Rattle.exports.specs.Until.{IsFirst, endings}
use Rattle.exports.specs.declared.entry.RawEntry.{RawEntry}
use Rattle.exports.specs.declared.entry.ExportEntry.{ExportEntry}
use Rattle.exports.specs.declared.gathered.EntryRecords.{EntryRecords}
use Rattle.exports.specs.declared.fault.ExportFault.{ExportFault}
use Rattle.exports.specs.declared.fault.ExportFault.TheVariants.{NotJson, NoRoas, Entry, TooMany, Memory, Repeated}

-- what was found in an entry
abbrev pub said_by : RawEntry → Said
said_by f = record {
  asn_number = f.asn_number;
  asn_text = option_map (λ s. s.now) f.asn_text;
  prefix = option_map (λ s. s.now) f.prefix;
  max_len = f.max_len;
  expires = f.expires;
}

-- This was gathered of these entries.
pub record Gathers (now : ℕ) (es : List ExportEntry) (g : EntryRecords) : Type 0 where
  pub records : g.records.items ≡ current now es
  pub lasts : g.lasts.items ≡ last_seconds now es
  pub expired : g.expired ≡ expired now es
  pub until : IsFirst (endings now es) g.until

-- This was gathered of entries that have no expiry and no trust anchor.
pub record IsLasting (g : EntryRecords) : Type 0 where
  pub lasts : g.lasts.items ≡ replicate (length g.records.items) 18446744073709551615
  pub anchors : g.anchors.items ≡ replicate (length g.records.items) 255
  pub names : length g.names.names.items ≡ 0
  pub expired : g.expired ≡ 0
  pub until : g.until ≡ None

-- Why there is no set of some payloads
abbrev pub SetFails : List Payload → ExportFault → Type 0
SetFails vs TooMany = 16777215 < size (set_of vs)
SetFails vs Memory = ⊤
SetFails vs NotJson = ⊥
SetFails vs NoRoas = ⊥
SetFails vs (Entry i w) = ⊥
SetFails vs Repeated = ⊥
