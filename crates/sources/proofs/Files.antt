-- Files of local exceptions, read one after the other.
use Rattle.std.specs.Prelude.{◌≡◌, ◌⊎◌, ◌||◌, Bool, true, false, ◌<◌, ◌≤◌, ◌+◌, ℕ, zero, suc, List, [], ◌∷◌, ◌++◌, map, take, length, Option, Some, Result, Ok, Err, IfErr, refl}
use Rattle.std.proofs.Common.{arith, inl, inr, ap, subst, sym, ◌∙◌, get_or, append-nil}
use Rattle.std.specs.List.{slice_get}
use Rattle.std.proofs.lemmas.List.{take_more}
use Rattle.slurm.specs.Chains.{UnlessMemory}
use Rattle.slurm.specs.Exceptions.{Exceptions, exceptions_of}
use Rattle.slurm.specs.Scoped.{ReadsScoped, Scoped}
use Rattle.slurm.specs.SlurmFile.{ReadsSlurm}
use Rattle.slurm.specs.Uniting.{Unites}
use Rattle.slurm.specs.declared.fault.SlurmFault.{SlurmFault}
use Rattle.slurm.specs.declared.fault.SlurmFault.TheVariants.{Memory}
use Rattle.slurm.specs.Ignored.{ignored_of}
use Rattle.slurm.specs.declared.scoped.Ignored.{Ignored}
use Rattle.slurm.specs.declared.unite_fault.UniteFault.{UniteFault}
use Rattle.slurm.specs.declared.unite_fault.UniteFault.TheVariants as unite
use Rattle.slurm.specs.Uniting.{united}
use Rattle.slurm.proofs.Exactly.{reads_exactly}
use Rattle.slurm.proofs.Scopes.{drop_scope, fault_without}
use Rattle.slurm.proofs.United.{one_is_apart}
use Rattle.vrps.specs.VrpSet.{VrpSet, empty, has, size, union}
use Rattle.vrps.proofs.SetLaws.{has-empty, has-union, same_set}
use Rattle.sources.specs.Served.{AllRead, AreApplied, AreRefused, AreUnited, FirstFault, TakesSlurm, TakesSlurms}
use Rattle.sources.specs.TakenLaws.{OneSlurm}
use Rattle.sources.specs.declared.fault.SlurmSetFault.{SlurmSetFault}
use Rattle.sources.specs.declared.fault.SlurmSetFault.TheVariants.{File, Unite}
use Rattle.sources.specs.declared.slurms.AppliedSlurms.{AppliedSlurms}

-- One file more is read.
pub next_read : (bs : List (List ℕ)) (ss : List Scoped) (b : List ℕ) (s : Scoped) → AllRead bs ss → ReadsScoped b (Ok s) → AllRead (bs ++ b ∷ []) (ss ++ s ∷ [])
next_read [] [] b s h one = (one, tt)
next_read [] (t ∷ ss) b s h one = absurd h
next_read (c ∷ bs) [] b s h one = absurd h
next_read (c ∷ bs) (t ∷ ss) b s h one = (h.0, next_read bs ss b s h.1 one)

map-append : {A B : Type 0} (f : A → B) (xs ys : List A) → map f (xs ++ ys) ≡ map f xs ++ map f ys
map-append f [] ys = refl
map-append f (x ∷ xs) ys = ap (λ zs. f x ∷ zs) (map-append f xs ys)

module _ {F G : Type 0} (bytes : F → List ℕ) (scope : G → Scoped) (fs : List F) (i : ℕ) (f : F) (h : i < length fs) (is : f ≡ get_or fs i f) where
  further : map bytes (take (i + 1) fs) ≡ map bytes (take i fs) ++ bytes f ∷ []
  further = ap (map bytes) (take_more fs i f h ∙ ap (λ z. take i fs ++ z ∷ []) (sym is)) ∙ map-append bytes (take i fs) (f ∷ [])

  pub one_more : (old new : List G) (g : G) → AllRead (map bytes (take i fs)) (map scope old) → ReadsScoped (bytes f) (Ok (scope g)) → new ≡ old ++ g ∷ [] → AllRead (map bytes (take (i + 1) fs)) (map scope new)
  one_more old new g so_far one pushed =
      subst (λ bs. AllRead bs (map scope new)) (sym further)
      (subst (λ ss. AllRead (map bytes (take i fs) ++ bytes f ∷ []) ss) (sym (ap (map scope) pushed ∙ map-append scope old (g ∷ []))) (next_read (map bytes (take i fs)) (map scope old) (bytes f) (scope g) so_far one))

taken : {F : Type 0} (bytes : F → List ℕ) (fs : List F) (i : ℕ) → take i (map bytes fs) ≡ map bytes (take i fs)
taken bytes fs zero = refl
taken bytes [] (suc i) = refl
taken bytes (f ∷ fs) (suc i) = ap (λ bs. bytes f ∷ bs) (taken bytes fs i)

found : {F : Type 0} (bytes : F → List ℕ) (fs : List F) (i : ℕ) (f : F) → i < length fs → f ≡ get_or fs i f → slice_get (map bytes fs) i ≡ Some (bytes f)
found bytes [] i f h is = absurd (omega (arith, h))
found bytes (g ∷ fs) zero f h is = ap (λ x. Some (bytes x)) (sym is)
found bytes (g ∷ fs) (suc i) f h is = found bytes fs i f (omega (arith, h)) is

pub why : (bytes : List ℕ) (fault : SlurmFault) → UnlessMemory (ReadsSlurm bytes) (Err fault) → fault ≡ Memory ⊎ ReadsSlurm bytes (Err fault)
why bytes fault (inl h) = inr h
why bytes fault (inr h) = inl (same h)
  where
    same : ◌≡◌ {A = Result Exceptions SlurmFault} (Err fault) (Err Memory) → fault ≡ Memory
    same e = cc

-- The first file that cannot be read
pub first_fault : {F : Type 0} (bytes : F → List ℕ) (fs : List F) (i : ℕ) (f : F) (ss : List Scoped) (fault : SlurmFault) → i < length fs → f ≡ get_or fs i f → AllRead (map bytes (take i fs)) ss
    → UnlessMemory (ReadsScoped (bytes f)) (Err fault) → FirstFault (map bytes fs) i fault
first_fault bytes fs i f ss fault h is so_far one =
    record {
      scopes = ss;
      before = subst (λ bs. AllRead bs ss) (sym (taken bytes fs i)) so_far;
      bytes = bytes f;
      bytes_are = found bytes fs i f h is;
      reason = why (bytes f) fault (fault_without (bytes f) fault one);
    }

-- What is counted of each of them
pub counted_each : {G : Type 0} (scope : G → Scoped) (read : List G) (counts : List Ignored) → counts ≡ map (λ g. ignored_of (scope g)) read → counts ≡ map ignored_of (map scope read)
counted_each scope read counts is = is ∙ both read
  where
    both : (gs : List _) → map (λ g. ignored_of (scope g)) gs ≡ map ignored_of (map scope gs)
    both [] = refl
    both (g ∷ gs) = ap (λ ns. ignored_of (scope g) ∷ ns) (both gs)

-- All of them, united
pub united_files : {F : Type 0} (bytes : F → List ℕ) (fs : List F) (ss : List Scoped) (e : AppliedSlurms) → ¬ (length fs ≡ 0) → AllRead (map bytes fs) ss → AreApplied ss e → AreUnited (map bytes fs) (Some e)
united_files bytes [] ss e some read applied = absurd (some refl)
united_files bytes (f ∷ fs) ss e some read applied = (e, ss, read, applied, refl)

-- All of them, which are not used together, or memory runs out
pub not_united : (bs : List (List ℕ)) (ss : List Scoped) (r : Result (Option AppliedSlurms) SlurmSetFault) (x : SlurmSetFault) (f : UniteFault) → r ≡ Err x → x ≡ Unite f → AllRead bs ss
    → (f ≡ unite.Memory) ⊎ Unites ss (Err f) → IfErr r (AreRefused bs)
not_united bs ss r x f is same read (inl memory) = subst (λ q. IfErr q (AreRefused bs)) (sym (is ∙ ap Err same)) (inl memory)
not_united bs ss r x f is same read (inr unites) = subst (λ q. IfErr q (AreRefused bs)) (sym (is ∙ ap Err same)) (inr (ss, read, unites))

-- ---- one file

none_more : (bs : List (List ℕ)) (ss : List Scoped) → bs ≡ [] → AllRead bs ss → ss ≡ []
none_more [] [] e h = refl
none_more [] (s ∷ ss) e h = absurd h
none_more (b ∷ bs) ss e h = absurd (cc)

-- the one scope of one file
one_scope : (b : List ℕ) (ss : List Scoped) → AllRead (b ∷ []) ss → (s : Scoped) × ReadsScoped b (Ok s) × (ss ≡ s ∷ [])
one_scope b [] h = absurd h
one_scope b (s ∷ ss) h = (s, h.0, ap (λ ts. s ∷ ts) (none_more [] ss refl h.1))

and_empty : (t : VrpSet) → union t empty ≡ t
and_empty t = same_set _ _ (λ v. has-union t empty v ∙ ap (λ b. has t v || b) (has-empty v) ∙ or_none (has t v))
  where
    or_none : (b : Bool) → (b || false) ≡ b
    or_none true = refl
    or_none false = refl

-- One file as one of one
alone : (s : Scoped) → united (s ∷ []) ≡ s.exceptions
alone s = λ i. record { filters = append-nil s.exceptions.filters i; assertions = and_empty s.exceptions.assertions i }

few_enough : (bytes : List ℕ) (e : Exceptions) → ReadsSlurm bytes (Ok e) → size e.assertions ≤ 16777215
few_enough bytes e h =
    let is = ((reads_exactly bytes e).0 h).is_file in subst (λ t. size t ≤ 16777215) (sym is.set_is) is.within_limit

-- What is applied of one file
pub one_applied : (bytes : List ℕ) (s : Scoped) (e : AppliedSlurms) → ReadsScoped bytes (Ok s) → exceptions_of e.slurm ≡ s.exceptions → e.ignored.items ≡ ignored_of s ∷ [] → AreApplied (s ∷ []) e
one_applied bytes s e reads is counts = record {
  united = (one_is_apart s, subst (λ x. size x.assertions ≤ 16777215) (sym is) (few_enough bytes s.exceptions (drop_scope bytes (Ok s) reads)), is ∙ sym (alone s));
  counted = counts;
}

module _ (bytes : List ℕ) (old new : Option AppliedSlurms) where
  taken_alone : TakesSlurms (bytes ∷ []) (Ok tt) old new → TakesSlurm bytes (Ok tt) old new
  taken_alone h =
      let one = one_scope bytes h.1 h.2 in
      (h.0, one.0, one.1, subst (λ ss. AreApplied ss h.0) one.2 h.3, h.4)

  alone_taken : TakesSlurm bytes (Ok tt) old new → TakesSlurms (bytes ∷ []) (Ok tt) old new
  alone_taken h = (h.0, h.1 ∷ [], (h.2, tt), h.3, h.4)

  refused_alone : (fault : SlurmFault) → TakesSlurms (bytes ∷ []) (Err (File 0 fault)) old new → TakesSlurm bytes (Err fault) old new
  refused_alone fault h = (subst (λ b. fault ≡ Memory ⊎ ReadsSlurm b (Err fault)) (some_is h.0.bytes bytes h.0.bytes_are) h.0.reason, h.1)
    where
      some_is : (b c : List ℕ) → Some c ≡ Some b → b ≡ c
      some_is b c e = cc

  alone_refused : (fault : SlurmFault) → TakesSlurm bytes (Err fault) old new → TakesSlurms (bytes ∷ []) (Err (File 0 fault)) old new
  alone_refused fault h = (record { scopes = []; before = tt; bytes = bytes; bytes_are = refl; reason = h.0 }, h.1)

  never_apart : (fault : UniteFault) → TakesSlurms (bytes ∷ []) (Err (Unite fault)) old new → fault ≡ unite.Memory
  never_apart fault h = by_reason h.0
    where
      one_refused : (f : UniteFault) (s : Scoped) → ReadsScoped bytes (Ok s) → Unites (s ∷ []) (Err f) → f ≡ unite.Memory
      one_refused (unite.Overlap i j o) s reads h = absurd (one_is_apart s i j o h)
      one_refused unite.TooMany s reads h =
          let few = few_enough bytes s.exceptions (drop_scope bytes (Ok s) reads) in
          let over : 16777215 < size s.exceptions.assertions = subst (λ t. 16777215 < size t) (and_empty s.exceptions.assertions) h.1 in
          absurd (omega (arith, few, over))
      one_refused unite.Memory s reads h = refl

      by_reason : (fault ≡ unite.Memory) ⊎ ((ss : List Scoped) × AllRead (bytes ∷ []) ss × Unites ss (Err fault)) → fault ≡ unite.Memory
      by_reason (inl e) = e
      by_reason (inr k) = let one = one_scope bytes k.0 k.1 in one_refused fault one.0 one.1 (subst (λ ss. Unites ss (Err fault)) one.2 k.2)

pub one_slurm : OneSlurm
one_slurm bytes old new = (
  (taken_alone bytes old new, alone_taken bytes old new),
  (λ fault. (refused_alone bytes old new fault, alone_refused bytes old new fault)),
  never_apart bytes old new,
)
