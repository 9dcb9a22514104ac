-- The entries of an export.
use Rattle.std.specs.Prelude.{◌≡◌, ◌⊎◌, ℕ, zero, suc, ◌^◌, ◌<◌, ◌≤◌, Bool, true, false, not, nat_lt, List, [], ◌∷◌, map, filter, count_by, Option, Some, None, option_map, option_and_then, is_some, codes, ⊤}
use Rattle.serde_json.specs.Data.{Data, Items, no_items, item}
use Rattle.serde_json.specs.Find.{get, as_number, as_object, as_u64}
use Rattle.prefixes.specs.Payload.{Payload, block_of, width_of}
use Rattle.prefixes.specs.declared.prefix.IpPrefix.{IpPrefix}
use Rattle.prefix_texts.specs.AsnText.{AsnText}
use Rattle.prefix_texts.specs.MixedText.{SpellsPrefix}
use Rattle.payload_lists.specs.PayloadList.{text_at, whole_at}
use Rattle.exports.specs.declared.entry.ExportEntry.{ExportEntry}
use Rattle.exports.specs.declared.fault.EntryFault.{EntryFault}
use Rattle.exports.specs.declared.fault.EntryFault.TheVariants as faults

-- What is looked at in an entry: under each key its whole number or its text, if it has one. The value of `expires`
-- may be no whole number.
pub record Said : Type 0 where
  pub asn_number : Option ℕ
  pub asn_text : Option (List ℕ)
  pub prefix : Option (List ℕ)
  pub max_len : Option ℕ
  pub expires : Option (Option ℕ)

abbrev pub whole : Data → Option ℕ
whole d = option_and_then as_u64 (as_number d)

abbrev pub said : Data → Said
said d = record {
  asn_number = whole_at (codes "asn") d;
  asn_text = text_at (codes "asn") d;
  prefix = text_at (codes "prefix") d;
  max_len = whole_at (codes "maxLength") d;
  expires = option_map whole (get (codes "expires") d);
}

-- An AS is spelled by a whole number, or by a text of one.
abbrev pub SpellsAsn : Option ℕ → Option (List ℕ) → ℕ → Type 0
SpellsAsn (Some m) text n = m ≡ n
SpellsAsn None text n = (t : List ℕ) × (text ≡ Some t) × AsnText n t

-- The AS is a number below 2 to the 32.
abbrev pub SaysAsn : Said → ℕ → Type 0
SaysAsn s n = (n < 2 ^ 32) × SpellsAsn s.asn_number s.asn_text n

-- The prefix is a readable spelling of it, in which an IPv6 address may be in mixed notation.
abbrev pub SaysPrefix : Said → IpPrefix → Type 0
SaysPrefix s p = (text : List ℕ) × (s.prefix ≡ Some text) × SpellsPrefix p text

-- The maximum is not below the length of the prefix, nor over the width of its family.
abbrev pub SaysMaxLen : Said → IpPrefix → ℕ → Type 0
SaysMaxLen s p m = (s.max_len ≡ Some m) × ((block_of p).len ≤ m) × (m ≤ width_of p)

-- The expiry is a whole number, or there is none.
abbrev pub SaysExpiry : Said → Option ℕ → Type 0
SaysExpiry s None = s.expires ≡ None
SaysExpiry s (Some t) = s.expires ≡ Some (Some t)

pub record SaysEntry (s : Said) (e : ExportEntry) : Type 0 where
  pub asn : SaysAsn s e.payload.asn
  pub prefix : SaysPrefix s e.payload.prefix
  pub max_len : SaysMaxLen s e.payload.prefix e.payload.max_len
  pub expires : SaysExpiry s e.expires

-- What is wrong first: the AS, the prefix, the maximum, the expiry
abbrev pub SaysFault : Said → EntryFault → Type 0
SaysFault s faults.NoObject = ⊥
SaysFault s faults.Asn = (n : ℕ) → ¬ (SaysAsn s n)
SaysFault s faults.Prefix = ((n : ℕ) × SaysAsn s n) × ((p : IpPrefix) → ¬ (SaysPrefix s p))
SaysFault s faults.MaxLength =
    ((n : ℕ) × SaysAsn s n) × ((p : IpPrefix) × SaysPrefix s p × ((m : ℕ) → ¬ (SaysMaxLen s p m)))
SaysFault s faults.Expires =
    ((n : ℕ) × SaysAsn s n) × ((p : IpPrefix) × SaysPrefix s p × ((m : ℕ) × SaysMaxLen s p m)) × ((t : Option ℕ) → ¬ (SaysExpiry s t))

-- An entry is an object. Its other members are ignored.
abbrev pub IsEntry : Data → ExportEntry → Type 0
IsEntry d e = (is_some (as_object d) ≡ true) × SaysEntry (said d) e

abbrev pub IsNoEntry : Data → EntryFault → Type 0
IsNoEntry d w = ((is_some (as_object d) ≡ false) × (w ≡ faults.NoObject)) ⊎ ((is_some (as_object d) ≡ true) × SaysFault (said d) w)

-- ---- entries

abbrev pub AreEntries : Items → List ExportEntry → Type 0
AreEntries no_items [] = ⊤
AreEntries (item d ds) (e ∷ es) = IsEntry d e × AreEntries ds es
AreEntries no_items (e ∷ es) = ⊥
AreEntries (item d ds) [] = ⊥

-- The first that is no entry has this index, and this is wrong with it.
abbrev pub FailsAt : Items → ℕ → EntryFault → Type 0
FailsAt no_items i w = ⊥
FailsAt (item d ds) zero w = IsNoEntry d w
FailsAt (item d ds) (suc i) w = ((e : ExportEntry) × IsEntry d e) × FailsAt ds i w

abbrev pub is_after : ℕ → Option ℕ → Bool
is_after now None = true
is_after now (Some t) = nat_lt now t

-- An entry counts at a moment, a second since 1970, if it has no expiry or a later one.
abbrev pub counts_at : ℕ → ExportEntry → Bool
counts_at now e = is_after now e.expires

abbrev pub current : ℕ → List ExportEntry → List Payload
current now es = map (λ e. e.payload) (filter (counts_at now) es)

abbrev pub expired : ℕ → List ExportEntry → ℕ
expired now es = count_by (λ e. not (counts_at now e)) es
