-- What words say.
use Rattle.std.proofs.Common.{◌≡◌, ℕ, ◌+◌, ◌*◌, ◌/◌, ◌%◌, ◌^◌, ◌<◌, ◌≤◌, List, ◌⊎◌, sym, ap, subst, ◌∙◌, arith}
use Rattle.prefixes.specs.Text.{IsV6Address, v4_address}
use Rattle.prefix_texts.specs.MixedText.{IsMixedAddress}
use Rattle.resources.specs.declared.kind.ResourceKind.{ResourceKind}
use Rattle.resources.specs.declared.kind.ResourceKind.TheVariants.{Ipv4, Ipv6, As}
use Rattle.constraints.specs.Values.{SpellsAddress}
use Rattle.std.proofs.lemmas.Nat.{pow-add, shr_split, shr_below, row_fits}

-- the last address of a prefix is one of its family
pub last_fits : (addr width len rest : ℕ) → len + rest ≡ width → addr < 2 ^ width → addr % 2 ^ rest ≡ 0 → addr + 2 ^ rest ≤ 2 ^ width
last_fits addr width len rest sum small host =
    let power : 2 ^ width ≡ 2 ^ len * 2 ^ rest = ap (λ (k : ℕ). 2 ^ k) (sym sum) ∙ pow-add 2 len rest in
    let within : addr / 2 ^ rest < 2 ^ len = shr_below addr len rest (subst (λ (k : ℕ). addr < 2 ^ k) (sym sum) small) in
    let row : addr / 2 ^ rest * 2 ^ rest + 2 ^ rest ≤ 2 ^ len * 2 ^ rest = row_fits (addr / 2 ^ rest) (2 ^ rest) (2 ^ len) (2 ^ rest) within (omega arith) in
    omega (arith, row, power, shr_split addr rest, host)

-- a text that is that of no IPv4 address and of no IPv6 address
pub no_address : (text : List ℕ) → ((n : ℕ) → n < 2 ^ 32 → ¬ (text ≡ v4_address n)) → ((n : ℕ) → n < 2 ^ 128 → ¬ (IsV6Address n text ⊎ IsMixedAddress n text)) → (kind : ResourceKind) (n : ℕ) → ¬ (SpellsAddress kind n text)
no_address text v4 v6 Ipv4 n h = v4 n h.0 h.1
no_address text v4 v6 Ipv6 n h = v6 n h.0 h.1
no_address text v4 v6 As n h = h
