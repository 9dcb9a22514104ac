-- The texts of AS numbers.
use Rattle.std.proofs.Common.{◌≡◌, ℕ, ◌<◌, ◌^◌, ◌++◌, List, Option, Some, None, refl, sym, ◌∙◌, subst, arith, codes, inl, inr}
use Rattle.std.specs.Prelude.{IfNone}
use Rattle.prefixes.specs.declared.asn.Asn.{Asn}
use Rattle.std.specs.Fmt.{decimal}
use Rattle.prefixes.proofs.Decimals.{decimal_lacks}
use Rattle.prefixes.proofs.Lacks.{Lacks}
use Rattle.prefix_texts.specs.AsnText.{AsnText, IsNoAsn}

-- If no number follows AS, the text is not an AS number.
pub none_after : (text digits : List ℕ) → text ≡ codes "AS" ++ digits → ((n : ℕ) → n < 2 ^ 32 → ¬ (digits ≡ decimal n)) → (n : ℕ) → n < 2 ^ 32 → ¬ (AsnText n text)
none_after text digits is none n small (inl h) =
    let lacks : Lacks 65 (codes "AS" ++ digits) = subst (λ t. Lacks 65 t) (sym h ∙ is) (decimal_lacks 65 n (omega arith) (omega arith)) in lacks.0 refl
none_after text digits is none n small (inr h) =
    let same : codes "AS" ++ digits ≡ codes "AS" ++ decimal n = sym is ∙ h in
    let rest : digits ≡ decimal n = cc in none n small rest

pub asn_none : (text digits : List ℕ) (r : Option Asn) → text ≡ codes "AS" ++ digits → IfNone r ((n : ℕ) → n < 2 ^ 32 → ¬ (digits ≡ decimal n)) → IfNone r (IsNoAsn text)
asn_none text digits (Some m) is h = tt
asn_none text digits None is h = none_after text digits is h
