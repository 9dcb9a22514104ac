-- How entries judge.
use Rattle.std.proofs.Common.{◌≡◌, ℕ, ◌≤◌, Bool, true, false, List, [], ◌∷◌, Option, Some, None, Ok, Err, inl, inr, ◌↔◌, ◌⊎◌, refl, sym, ap, ◌∙◌, arith}
use Rattle.std.proofs.lemmas.Bool.{cases_lt}
use Rattle.resources.specs.declared.kind.ResourceKind.{ResourceKind}
use Rattle.resources.specs.declared.kind.ResourceKind.TheVariants.{Ipv4, Ipv6, As}
use Rattle.resources.specs.declared.range.ResourceRange.{ResourceRange}
use Rattle.resources.specs.Ranges.{Covers, IsIn, Overlap, Within}
use Rattle.constraints.specs.declared.action.ConstraintAction.TheVariants.{Allow, Deny}
use Rattle.constraints.specs.declared.constraint.Constraint.{Constraint}
use Rattle.constraints.specs.declared.gathered.Gathered.{Gathered}
use Rattle.constraints.specs.declared.refusal.ConstraintRefusal.TheVariants.{Denied, NotAllowed}
use Rattle.constraints.specs.Judging.{Sets, in_kind, ip_sets, as_sets, is_ip, is_as, Lists, has, FirstDenial, AreAllowed}
use Rattle.constraints.specs.Gathering.{Gathers}
use Rattle.constraints.specs.Laws.{OneVerdict}

-- ---- ranges

-- the higher of the two beginnings is in both
pub shared : (a b : ResourceRange) → a.low ≤ a.high → b.low ≤ b.high → a.low ≤ b.high → b.low ≤ a.high → (n : ℕ) × IsIn a n × IsIn b n
shared a b fa fb ab ba =
    elim (cases_lt a.low b.low) [
      | inl lt ↦ (b.low, (omega (arith, lt), ba), (omega arith, fb))
      | inr ge ↦ (a.low, (omega arith, fa), (ge, ab))
    ]

only : (a : ResourceRange) (n : ℕ) → Covers (a ∷ []) n → IsIn a n
only a n (inl i) = i
only a n (inr c) = absurd c

-- a range shares a number with the first of the others, or with the rest
pub meets_first : (a b : ResourceRange) (rest : List ResourceRange) → (n : ℕ) × IsIn a n × IsIn b n → Overlap (a ∷ []) (b ∷ rest)
meets_first a b rest s = (s.0, inl s.1, inl s.2)

pub meets_rest : (a b : ResourceRange) (rest : List ResourceRange) → Overlap (a ∷ []) rest → Overlap (a ∷ []) (b ∷ rest)
meets_rest a b rest o = (o.0, o.1, inr o.2)

pub meets_on : (a b : ResourceRange) (rest : List ResourceRange) → ¬ ((n : ℕ) × IsIn a n × IsIn b n) → Overlap (a ∷ []) (b ∷ rest) → Overlap (a ∷ []) rest
meets_on a b rest apart (n, c, inl i) = absurd (apart (n, only a n c, i))
meets_on a b rest apart (n, c, inr d) = (n, c, d)

pub meets_none : (a : ResourceRange) → ¬ (Overlap (a ∷ []) [])
meets_none a (n, c, d) = d

-- ---- the first entry that denies

pub none_denies : (sets : Sets) (es : List Constraint) → ((kind : ResourceKind) (n : ℕ) → Lists Deny kind es n → Covers (in_kind sets kind) n → ⊥) → FirstDenial sets es None
none_denies sets [] h = refl
none_denies sets (e ∷ more) h =
    inr ((λ d. h e.kind d.1.0 (inl (d.0, refl, only e.range d.1.0 d.1.1)) d.1.2), none_denies sets more (λ kind n l c. h kind n (inr l) c))

-- addresses that no set of denied ones has in common
pub ip_none : (g : Gathered) (v4 v6 : List ResourceRange) (es : List Constraint) → Gathers Deny es g → ¬ (Overlap g.v4 v4 ⊎ Overlap g.v6 v6) → FirstDenial (ip_sets v4 v6) es None
ip_none g v4 v6 es gathers none = none_denies (ip_sets v4 v6) es apart
  where
    apart : (kind : ResourceKind) (n : ℕ) → Lists Deny kind es n → Covers (in_kind (ip_sets v4 v6) kind) n → ⊥
    apart Ipv4 n l c = none (inl (n, (gathers.covers Ipv4 n).1 l, c))
    apart Ipv6 n l c = none (inr (n, (gathers.covers Ipv6 n).1 l, c))
    apart As n l c = c

pub as_none : (g : Gathered) (numbers : List ResourceRange) (es : List Constraint) → Gathers Deny es g → ¬ (Overlap g.numbers numbers) → FirstDenial (as_sets numbers) es None
as_none g numbers es gathers none = none_denies (as_sets numbers) es apart
  where
    apart : (kind : ResourceKind) (n : ℕ) → Lists Deny kind es n → Covers (in_kind (as_sets numbers) kind) n → ⊥
    apart Ipv4 n l c = c
    apart Ipv6 n l c = c
    apart As n l c = none (n, (gathers.covers As n).1 l, c)

-- ---- what is allowed

-- all addresses are in the sets of allowed ones
pub ip_allowed : (g : Gathered) (v4 v6 : List ResourceRange) (es : List Constraint) → Gathers Allow es g
    → (((g.some_ip ≡ false) ⊎ (Within v4 g.v4 × Within v6 g.v6)) ↔ ((has Allow is_ip es ≡ false) ⊎ AreAllowed (ip_sets v4 v6) es))
ip_allowed g v4 v6 es gathers = (to, of)
  where
    all : Within v4 g.v4 × Within v6 g.v6 → AreAllowed (ip_sets v4 v6) es
    all w Ipv4 n c = (gathers.covers Ipv4 n).0 (w.0 n c)
    all w Ipv6 n c = (gathers.covers Ipv6 n).0 (w.1 n c)
    all w As n c = absurd c

    to : (g.some_ip ≡ false) ⊎ (Within v4 g.v4 × Within v6 g.v6) → (has Allow is_ip es ≡ false) ⊎ AreAllowed (ip_sets v4 v6) es
    to (inl h) = inl (sym gathers.some_ip ∙ h)
    to (inr w) = inr (all w)

    of : (has Allow is_ip es ≡ false) ⊎ AreAllowed (ip_sets v4 v6) es → (g.some_ip ≡ false) ⊎ (Within v4 g.v4 × Within v6 g.v6)
    of (inl h) = inl (gathers.some_ip ∙ h)
    of (inr a) = inr ((λ n c. (gathers.covers Ipv4 n).1 (a Ipv4 n c)), (λ n c. (gathers.covers Ipv6 n).1 (a Ipv6 n c)))

pub as_allowed : (g : Gathered) (numbers : List ResourceRange) (es : List Constraint) → Gathers Allow es g
    → (((g.some_as ≡ false) ⊎ Within numbers g.numbers) ↔ ((has Allow is_as es ≡ false) ⊎ AreAllowed (as_sets numbers) es))
as_allowed g numbers es gathers = (to, of)
  where
    all : Within numbers g.numbers → AreAllowed (as_sets numbers) es
    all w Ipv4 n c = absurd c
    all w Ipv6 n c = absurd c
    all w As n c = (gathers.covers As n).0 (w n c)

    to : (g.some_as ≡ false) ⊎ Within numbers g.numbers → (has Allow is_as es ≡ false) ⊎ AreAllowed (as_sets numbers) es
    to (inl h) = inl (sym gathers.some_as ∙ h)
    to (inr w) = inr (all w)

    of : (has Allow is_as es ≡ false) ⊎ AreAllowed (as_sets numbers) es → (g.some_as ≡ false) ⊎ Within numbers g.numbers
    of (inl h) = inl (gathers.some_as ∙ h)
    of (inr a) = inr (λ n c. (gathers.covers As n).1 (a As n c))

-- and if not, there are entries that allow, and not all is in these
pub refused : (b : Bool) (A : Type 0) → ¬ ((b ≡ false) ⊎ A) → (b ≡ true) × ¬ A
refused true A none = (refl, (λ a. none (inr a)))
refused false A none = absurd (none (inl refl))

-- ---- one verdict

pub one_denial : (sets : Sets) (es : List Constraint) (a b : Option ℕ) → FirstDenial sets es a → FirstDenial sets es b → a ≡ b
one_denial sets [] a b h k = h ∙ sym k
one_denial sets (e ∷ more) a b (inl h) (inl k) = h.1 ∙ sym k.1
one_denial sets (e ∷ more) a b (inl h) (inr k) = absurd (k.0 h.0)
one_denial sets (e ∷ more) a b (inr h) (inl k) = absurd (h.0 k.0)
one_denial sets (e ∷ more) a b (inr h) (inr k) = one_denial sets more a b h.1 k.1

not_both : (b : Bool) (A : Type 0) → ((b ≡ false) ⊎ A) → (b ≡ true) → ¬ A → ⊥
not_both b A (inl f) t none = cc
not_both b A (inr a) t none = none a

pub one_verdict : OneVerdict
one_verdict passes sets es (Ok u) (Ok v) h k = refl
one_verdict passes sets es (Ok u) (Err (Denied m)) h k = absurd (let e = one_denial sets es None (Some m) h.0 k in cc)
one_verdict passes sets es (Ok u) (Err NotAllowed) h k = absurd (not_both (has Allow passes es) (AreAllowed sets es) h.1 k.1 k.2)
one_verdict passes sets es (Err (Denied l)) (Ok u) h k = absurd (let e = one_denial sets es None (Some l) k.0 h in cc)
one_verdict passes sets es (Err (Denied l)) (Err (Denied m)) h k = let e = one_denial sets es (Some l) (Some m) h k in let same : l ≡ m = cc in ap (λ (n : ℕ). Err (Denied n)) same
one_verdict passes sets es (Err (Denied l)) (Err NotAllowed) h k = absurd (let e = one_denial sets es None (Some l) k.0 h in cc)
one_verdict passes sets es (Err NotAllowed) (Ok u) h k = absurd (not_both (has Allow passes es) (AreAllowed sets es) k.1 h.1 h.2)
one_verdict passes sets es (Err NotAllowed) (Err (Denied m)) h k = absurd (let e = one_denial sets es None (Some m) h.0 k in cc)
one_verdict passes sets es (Err NotAllowed) (Err NotAllowed) h k = refl
