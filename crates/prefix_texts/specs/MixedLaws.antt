-- A text says one thing, and what a plain text says it says here.
use Rattle.std.specs.Prelude.{◌≡◌, ◌≢◌, ℕ, List, Result, Err}
use Rattle.prefixes.specs.Text.{PrefixText, ReadsAs}
use Rattle.prefixes.specs.declared.fault.PrefixFault.{PrefixFault}
use Rattle.prefixes.specs.declared.fault.PrefixFault.TheVariants as faults
use Rattle.prefixes.specs.declared.prefix.IpPrefix.{IpPrefix}
use Rattle.prefix_texts.specs.MixedText.{ReadsPrefix, SaysText, SpellsPrefix}

-- No text says two things.
abbrev pub OneSaying : Type 0
OneSaying = (text : List ℕ) (p q : IpPrefix) → SaysText p text → SaysText q text → p ≡ q

-- A plain text of a prefix spells it.
abbrev pub PlainSpells : Type 0
PlainSpells = (text : List ℕ) (p : IpPrefix) → PrefixText p text → SpellsPrefix p text

-- What is read from a plain text, a prefix or a fault of what it says, is read from it here.
abbrev pub PlainIsRead : Type 0
PlainIsRead = (text : List ℕ) (r : Result IpPrefix PrefixFault) → ReadsAs text r → r ≢ Err faults.BadText → ReadsPrefix text r
