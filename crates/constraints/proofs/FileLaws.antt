-- Lines, one after the other.
use Rattle.std.proofs.Common.{◌≡◌, ℕ, ◌+◌, List, [], ◌∷◌, ◌++◌, Option, Some, None, Ok, Err, Result, inl, inr, refl, sym, ap, subst, ◌∙◌}
use Rattle.constraints.specs.declared.fault.ConstraintFaultKind.{ConstraintFaultKind}
use Rattle.constraints.specs.declared.fault.ConstraintsError.{ConstraintsError}
use Rattle.constraints.specs.declared.fault.ConstraintsError.TheVariants.{At, Memory}
use Rattle.constraints.specs.declared.constraint.Constraint.{Constraint}
use Rattle.constraints.specs.declared.entry.Entry.{Entry}
use Rattle.std.specs.Str.Lines.{lines}
use Rattle.constraints.specs.Entries.{ReadsLine}
use Rattle.constraints.specs.Files.{listed, before, ReadsLines, ReadsFile, TakesLine}

-- entries in front of what follows, or the fault of that
abbrev pub onto : List Constraint → Result (List Constraint) ConstraintsError → Result (List Constraint) ConstraintsError
onto es (Ok more) = Ok (es ++ more)
onto es (Err fault) = Err fault

-- what is read of the lines that are left is what is read of all, after these entries
abbrev pub Read : List (List ℕ) → List Constraint → ℕ → List (List ℕ) → Type 0
Read all es n left = (r : Result (List Constraint) ConstraintsError) → ReadsLines n left r → ReadsLines 1 all (onto es r)

onto_none : (r : Result (List Constraint) ConstraintsError) → r ≡ onto [] r
onto_none (Ok more) = refl
onto_none (Err fault) = refl

pub read_none : (all : List (List ℕ)) → Read all [] 1 all
read_none all r h = subst (ReadsLines 1 all) (onto_none r) h

behind : (es : List Constraint) (n : ℕ) (entry : Option Entry) (more : List Constraint) → es ++ listed n entry more ≡ (es ++ listed n entry []) ++ more
behind [] n None more = refl
behind [] n (Some e) more = refl
behind (x ∷ es) n entry more = ap (λ (l : List Constraint). x ∷ l) (behind es n entry more)

onto_before : (es new : List Constraint) (n : ℕ) (entry : Option Entry) (r : Result (List Constraint) ConstraintsError) → new ≡ es ++ listed n entry [] → onto es (before n entry r) ≡ onto new r
onto_before es new n entry (Ok more) is = ap Ok (behind es n entry more ∙ ap (λ (l : List Constraint). l ++ more) (sym is))
onto_before es new n entry (Err fault) is = refl

-- a line more
pub read_on : (all : List (List ℕ)) (es new : List Constraint) (n : ℕ) (line : List ℕ) (left more : List (List ℕ)) (entry : Option Entry)
    → Read all es n left → left ≡ line ∷ more → ReadsLine line (Ok entry) → new ≡ es ++ listed n entry [] → Read all new (n + 1) more
read_on all es new n line left more entry read is says grown r h =
    subst (ReadsLines 1 all) (onto_before es new n entry r grown)
    (read (before n entry r) (subst (λ (l : List (List ℕ)). ReadsLines n l (before n entry r)) (sym is) (inr (entry, r, says, h, refl))))

-- a line with a fault
pub read_wrong : (all : List (List ℕ)) (es : List Constraint) (n m : ℕ) (line : List ℕ) (left more : List (List ℕ)) (fault : ConstraintFaultKind)
    → Read all es n left → left ≡ line ∷ more → ReadsLine line (Err fault) → m ≡ n → ReadsLines 1 all (Err (At fault m))
read_wrong all es n m line left more fault read is says same =
    read (Err (At fault m)) (subst (λ (l : List (List ℕ)). ReadsLines n l (Err (At fault m))) (sym is) (inl (fault, says, ap (λ (k : ℕ). Err (At fault k)) same)))

no_more : (es : List Constraint) → es ++ [] ≡ es
no_more [] = refl
no_more (x ∷ es) = ap (λ (l : List Constraint). x ∷ l) (no_more es)

-- the end
pub read_all : (all : List (List ℕ)) (es : List Constraint) (n : ℕ) (left : List (List ℕ)) → Read all es n left → left ≡ [] → ReadsLines 1 all (Ok es)
read_all all es n left read end =
    subst (λ (l : List Constraint). ReadsLines 1 all (Ok l)) (no_more es) (read (Ok []) (subst (λ (l : List (List ℕ)). ReadsLines n l (Ok [])) (sym end) refl))

-- the first fault of a file
pub file_wrong : (bytes : List ℕ) (es new : List Constraint) (n : ℕ) (line : List ℕ) (left more : List (List ℕ)) (e : ConstraintsError)
    → Read (lines bytes) es n left → left ≡ line ∷ more → TakesLine n line es (Err e) new → ReadsFile bytes (Err e)
file_wrong bytes es new n line left more (At fault m) read is h = read_wrong (lines bytes) es n m line left more fault read is h.0 h.1
file_wrong bytes es new n line left more Memory read is h = tt
