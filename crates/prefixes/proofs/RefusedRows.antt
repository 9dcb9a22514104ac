-- A text that says nothing, worked out.
use Rattle.std.proofs.Common.{◌≡◌, ℕ, ◌<◌, ◌/◌, ◌%◌, ◌^◌, List, [], ◌∷◌, ◌++◌, Option, Some, None, sym, ◌∙◌, refl, arith, codes, rules, lit≤}
use Rattle.std.proofs.NetLemmas.Ipv4.{read_ipv4_complete}
use Rattle.std.specs.Net.Grammar.{IsDotted}
use Rattle.std.specs.Net.Reader.{read_ipv4, read_number, read_octet}
use Rattle.prefixes.specs.Text.{IsV6Address, Says, v4_address}
use Rattle.prefixes.specs.declared.prefix.IpPrefix.{IpPrefix}
use Rattle.prefixes.proofs.Addresses.{v6_lacks}
use Rattle.prefixes.proofs.Spelling.{Cut, no_address}

-- a number with a leading zero
abbrev address : List ℕ
address = codes "192.0.02.0"

not_read : read_ipv4 (address ++ []) ≡ None
unfolding read_ipv4 read_octet read_number
not_read = refl

some_none : {A : Type 0} (o : Option A) (x : A) → o ≡ Some x → o ≡ None → ⊥
some_none o x a b = let e : Some x ≡ None = sym a ∙ b in cc

no_v4 : (n : ℕ) → n < 2 ^ 32 → ¬ (address ≡ v4_address n)
no_v4 n small e =
    let dotted : IsDotted address (n / 2 ^ 24 ∷ n / 2 ^ 16 % 2 ^ 8 ∷ n / 2 ^ 8 % 2 ^ 8 ∷ n % 2 ^ 8 ∷ []) = record {
      a = n / 2 ^ 24;
      b = n / 2 ^ 16 % 2 ^ 8;
      c = n / 2 ^ 8 % 2 ^ 8;
      d = n % 2 ^ 8;
      fit = (omega (arith, small), omega arith, omega arith, omega arith);
      value = refl;
      spelled = e;
    } in
    some_none _ _ (read_ipv4_complete address _ [] dotted (lit≤ tt)) not_read

no_v6 : (n : ℕ) → n < 2 ^ 128 → ¬ (IsV6Address n address)
no_v6 n small h = (v6_lacks 46 n address (lit≤ tt) (omega arith) h).1.1.1.0 refl

cut : Cut (codes "192.0.02.0/24") address (codes "24")
cut = record { bare = search rules; joins = refl }

leading_zero : (p : IpPrefix) → ¬ (Says p (codes "192.0.02.0/24"))
leading_zero = no_address (codes "192.0.02.0/24") address (codes "24") cut no_v4 no_v6
