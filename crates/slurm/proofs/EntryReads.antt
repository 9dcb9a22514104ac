-- Entries, read one after the other.
use Rattle.std.proofs.Common.{◌≡◌, ℕ, ◌+◌, ◌<◌, zero, suc, ◌++◌, List, [], ◌∷◌, Result, Ok, Err, length, map, take, drop, get_or, refl, sym, ap, ◌∙◌, subst, arith, add-one}
use Rattle.std.proofs.lemmas.List.{length-map, length-take-le, take_more, take_all}
use Rattle.serde_json.specs.Data.{Data}
use Rattle.serde_json.specs.View.{items_of, items_view, view}
use Rattle.serde_json.specs.declared.value.Value.{Value}
use Rattle.slurm.specs.Entries.{AreRead, FaultAt, listed}
use Rattle.slurm.specs.declared.fault.SlurmEntryFault.{SlurmEntryFault}

listed-items_of : (ds : List Data) → listed (items_of ds) ≡ ds
listed-items_of [] = refl
listed-items_of (d ∷ ds) = ap (λ es. d ∷ es) (listed-items_of ds)

-- what an array lists
pub listed-items_view : (vs : List Value) → listed (items_view vs) ≡ map view vs
listed-items_view vs = listed-items_of (map view vs)

map-append : (xs ys : List Value) → map view (xs ++ ys) ≡ map view xs ++ map view ys
map-append [] ys = refl
map-append (x ∷ xs) ys = ap (λ zs. view x ∷ zs) (map-append xs ys)

module _ {A : Type 0} (Reads : Data → Result A SlurmEntryFault → Type 0) where
  -- one entry more
  are_more : (ds : List Data) (xs : List A) (d : Data) (x : A) → AreRead Reads ds xs → Reads d (Ok x) → AreRead Reads (ds ++ d ∷ []) (xs ++ x ∷ [])
  are_more [] [] d x h r = (r, tt)
  are_more [] (y ∷ xs) d x h r = absurd h
  are_more (e ∷ ds) [] d x h r = absurd h
  are_more (e ∷ ds) (y ∷ xs) d x h r = (h.0, are_more ds xs d x h.1 r)

  pub next_read : (list : List Value) (i : ℕ) (v : Value) (xs : List A) (x : A) → i < length list → v ≡ get_or list i v → AreRead Reads (map view (take i list)) xs → Reads (view v) (Ok x)
      → AreRead Reads (map view (take (i + 1) list)) (xs ++ x ∷ [])
  next_read list i v xs x h is so_far one =
      let cut : take (i + 1) list ≡ take i list ++ v ∷ [] = take_more list i v h ∙ ap (λ w. take i list ++ w ∷ []) (sym is) in
      let all : map view (take (i + 1) list) ≡ map view (take i list) ++ view v ∷ [] = ap (map view) cut ∙ map-append (take i list) (v ∷ []) in
      subst (λ ds. AreRead Reads ds (xs ++ x ∷ [])) (sym all) (are_more (map view (take i list)) xs (view v) x so_far one)

  pub fault_at : (list : List Value) (i : ℕ) (v : Value) (xs : List A) (e : SlurmEntryFault) → i < length list → v ≡ get_or list i v → AreRead Reads (map view (take i list)) xs → Reads (view v) (Err e)
      → FaultAt Reads (listed (items_view list)) i e
  fault_at list i v xs e h is so_far one =
      record {
        before = map view (take i list);
        entry = view v;
        after = map view (drop (i + 1) list);
        parts = listed-items_view list ∙ parts list i v h is;
        index_is = length-map (take i list) view ∙ length-take-le i list (omega (arith, h));
        values = xs;
        are_read = so_far;
        fault = one;
      }
    where
      parts : (l : List Value) (k : ℕ) (w : Value) → k < length l → w ≡ get_or l k w → map view l ≡ map view (take k l) ++ view w ∷ map view (drop (k + 1) l)
      parts [] k w h is = absurd (omega (arith, h))
      parts (y ∷ l) zero w h is = ap (λ z. view z ∷ map view l) (sym is)
      parts (y ∷ l) (suc k) w h is = rw add-one (ap (λ ds. view y ∷ ds) (parts l k w (omega (arith, h)) is ∙ (rw add-one refl)))

  pub all_read : (list : List Value) (i : ℕ) (xs : List A) → length list ≡ i → AreRead Reads (map view (take i list)) xs → AreRead Reads (listed (items_view list)) xs
  all_read list i xs e h = subst (λ ds. AreRead Reads ds xs) (ap (map view) (take_all i list (omega (arith, e))) ∙ sym (listed-items_view list)) h
