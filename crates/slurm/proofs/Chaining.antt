-- Steps that may fail, one after the other.
use Rattle.std.proofs.Common.{◌≡◌, ℕ, Bool, true, false, inl, inr, Result, Ok, Err, MatchBool, refl, ap, sym, ◌∙◌, subst}
use Rattle.std.specs.Prelude.{List, Option}
use Rattle.serde_json.specs.Data.{Data}
use Rattle.prefixes.specs.Payload.{Payload}
use Rattle.prefixes.specs.declared.asn.Asn.{Asn}
use Rattle.slurm.specs.Chains.{Then, UnlessMemory, seen}
use Rattle.slurm.specs.Entries.{ReadsAssertion, ReadsEntries, ReadsFilter, ReadsKeyAssertion, ReadsKeyFilter}
use Rattle.slurm.specs.Scoped.{ReadsScoped, ReadsScopedArrays, ReadsScopedOnce, ReadsScopedValue, Scoped, scoped_by}
use Rattle.slurm.specs.SlurmFile.{Arrays, NamesOnce, ReadsJson, limited}
use Rattle.slurm.specs.declared.fault.SlurmArray.TheVariants as array
use Rattle.slurm.specs.declared.filter.PrefixFilter.{PrefixFilter}
use Rattle.slurm.specs.declared.fault.SlurmFault.{SlurmFault}
use Rattle.slurm.specs.declared.fault.SlurmFault.TheVariants.{Memory, Repeated}

-- A value is read.
pub is_read : {A : Type 0} (P : Result A SlurmFault → Type 0) (x : A) → UnlessMemory P (Ok x) → P (Ok x)
is_read P x (inl h) = h
is_read P x (inr h) = absurd (cc)

-- A reading goes on from a value.
pub goes_on : {A B : Type 0} (P : Result A SlurmFault → Type 0) (Q : A → Result B SlurmFault → Type 0) (x : A) (r : Result B SlurmFault)
    → UnlessMemory P (Ok x) → UnlessMemory (Q x) r → UnlessMemory (Then P Q) r
goes_on P Q x (Ok y) h (inl k) = inl (x, is_read P x h, k)
goes_on P Q x (Err e) h (inl k) = inl (inr (x, is_read P x h, k))
goes_on P Q x r h (inr k) = inr k

-- A reading stops at a fault.
pub stops : {A B : Type 0} (P : Result A SlurmFault → Type 0) (Q : A → Result B SlurmFault → Type 0) (q : Result B SlurmFault) (e : SlurmFault)
    → q ≡ Err e → UnlessMemory P (Err e) → UnlessMemory (Then P Q) q
stops P Q q e same (inl h) = inl (subst (Then P Q) (sym same) (inl h))
stops {A} P Q q e same (inr h) = inr (same ∙ ap Err (memory h))
  where
    memory : ◌≡◌ {A = Result A SlurmFault} (Err e) (Err Memory) → e ≡ Memory
    memory k = cc

-- The four arrays, the last of which has a fault.
module _ (a : Arrays) where
  abbrev FiltersRead : Result (List PrefixFilter) SlurmFault → Type 0
  FiltersRead = ReadsEntries ReadsFilter array.PrefixFilters a.prefix_filters

  abbrev BgpsecRead : Result (List (Option Asn)) SlurmFault → Type 0
  BgpsecRead = ReadsEntries ReadsKeyFilter array.BgpsecFilters a.bgpsec_filters

  abbrev AssertionsRead : Result (List Payload) SlurmFault → Type 0
  AssertionsRead = ReadsEntries ReadsAssertion array.PrefixAssertions a.prefix_assertions

  abbrev KeysRead : Result (List Asn) SlurmFault → Type 0
  KeysRead = ReadsEntries ReadsKeyAssertion array.BgpsecAssertions a.bgpsec_assertions

  abbrev AfterAssertions : List PrefixFilter → List (Option Asn) → List Payload → Result Scoped SlurmFault → Type 0
  AfterAssertions fs xs vs = Then KeysRead (λ ys s. s ≡ seen (scoped_by xs ys) (limited fs vs))

  abbrev AfterBgpsec : List PrefixFilter → List (Option Asn) → Result Scoped SlurmFault → Type 0
  AfterBgpsec fs xs = Then AssertionsRead (AfterAssertions fs xs)

  abbrev AfterFilters : List PrefixFilter → Result Scoped SlurmFault → Type 0
  AfterFilters fs = Then BgpsecRead (AfterBgpsec fs)

  abbrev BeforeKeys : List PrefixFilter → List (Option Asn) → List Payload → Type 0
  BeforeKeys fs xs vs = UnlessMemory FiltersRead (Ok fs) × UnlessMemory BgpsecRead (Ok xs) × UnlessMemory AssertionsRead (Ok vs)

  before_keys : (fs : List PrefixFilter) (xs : List (Option Asn)) (vs : List Payload) (q : Result Scoped SlurmFault) → BeforeKeys fs xs vs → UnlessMemory (AfterAssertions fs xs vs) q → UnlessMemory (ReadsScopedArrays a) q
  before_keys fs xs vs q h k =
      goes_on FiltersRead AfterFilters fs q h.0 (goes_on BgpsecRead (AfterBgpsec fs) xs q h.1 (goes_on AssertionsRead (AfterAssertions fs xs) vs q h.2 k))

  pub keys_stop : (fs : List PrefixFilter) (xs : List (Option Asn)) (vs : List Payload) (q : Result Scoped SlurmFault) (e : SlurmFault)
      → BeforeKeys fs xs vs → UnlessMemory KeysRead (Err e) → q ≡ Err e → UnlessMemory (ReadsScopedArrays a) q
  keys_stop fs xs vs q e h k same = before_keys fs xs vs q h (stops KeysRead (λ ys s. s ≡ seen (scoped_by xs ys) (limited fs vs)) q e same k)

  -- All are read.
  pub all_read : (fs : List PrefixFilter) (xs : List (Option Asn)) (vs : List Payload) (ys : List Asn) (q : Result Scoped SlurmFault)
      → BeforeKeys fs xs vs → UnlessMemory KeysRead (Ok ys) → q ≡ seen (scoped_by xs ys) (limited fs vs) → UnlessMemory (ReadsScopedArrays a) q
  all_read fs xs vs ys q h k same = before_keys fs xs vs q h (goes_on KeysRead (λ zs s. s ≡ seen (scoped_by xs zs) (limited fs vs)) ys q k (inl same))

-- ---- names

judged : (bytes : List ℕ) (d : Data) (r : Result Scoped SlurmFault) → NamesOnce bytes → UnlessMemory (ReadsScopedValue d) r → UnlessMemory (ReadsScopedOnce bytes d) r
judged bytes d r once (inl h) = inl (inl (once, h))
judged bytes d r once (inr h) = inr h

-- A name stands twice.
pub repeated : (bytes : List ℕ) (d : Data) (once : Bool) → once ≡ false → MatchBool once (NamesOnce bytes) (¬ (NamesOnce bytes)) → UnlessMemory (ReadsJson bytes) (Ok d) → UnlessMemory (ReadsScoped bytes) (Err Repeated)
repeated bytes d true is twice h = let no : true ≡ false = is in absurd (cc)
repeated bytes d false is twice h = inl (inr (d, is_read (ReadsJson bytes) d h, inr (twice, refl)))

-- None does.
pub read_on : (bytes : List ℕ) (d : Data) (r : Result Scoped SlurmFault) (once : Bool) → once ≡ true → MatchBool once (NamesOnce bytes) (¬ (NamesOnce bytes)) → UnlessMemory (ReadsJson bytes) (Ok d) → UnlessMemory (ReadsScopedValue d) r
    → UnlessMemory (ReadsScoped bytes) r
read_on bytes d r true is once h k = goes_on (ReadsJson bytes) (ReadsScopedOnce bytes) d r h (judged bytes d r once k)
read_on bytes d r false is once h k = let no : false ≡ true = is in absurd (cc)
