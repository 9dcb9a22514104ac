-- Steps of reading a text.
use Rattle.std.specs.Prelude.{ℕ, ◌≤◌, ◌<◌, List, Result, Ok, Err}
use Rattle.prefixes.specs.Address.{Block, HasNoHostBits, IsPrefix}
use Rattle.prefixes.specs.declared.fault.PrefixFault.{PrefixFault}
use Rattle.prefixes.specs.declared.fault.PrefixFault.TheVariants as faults
use Rattle.prefixes.specs.declared.prefix.IpPrefix.{IpPrefix}
use Rattle.prefixes.specs.declared.prefix.IpPrefix.TheVariants.{V4, V6}
use Rattle.prefix_texts.specs.MixedText.{SaysV6}

-- What is read from a text of an IPv6 prefix in either notation
abbrev pub ReadsV6 : List ℕ → Result IpPrefix PrefixFault → Type 0
ReadsV6 text (Ok (V4 p)) = ⊥
ReadsV6 text (Ok (V6 p)) = SaysV6 p text × IsPrefix 128 p
ReadsV6 text (Err faults.BadText) = (p : Block) → ¬ (SaysV6 p text)
ReadsV6 text (Err faults.TooLong) = (p : Block) × SaysV6 p text × (128 < p.len)
ReadsV6 text (Err faults.HostBits) = (p : Block) × SaysV6 p text × (p.len ≤ 128) × ¬ (HasNoHostBits 128 p.addr p.len)
ReadsV6 text (Err faults.MaxLength) = ⊥
