-- A machine that consumes a piece, beside one that is alike until memory runs out there at a PDU. The other lacks memory exactly if the PDU
-- allocates memory, and leaves at least as much of the piece.
use Rattle.rtr_world.proofs.Words.{◌≡◌, ℕ, zero, suc, ◌≤◌, Bool, true, false, List, [], ◌∷◌, ◌++◌, length, Option, Some, None, slice_get, refl, sym, ap, ◌∙◌, append_assoc, arith, append-nil, length-append, FedPiece, feed, feed_takes, stopped, false_true}
use Rattle.rtr_ends.proofs.FeedingLaws.{goes_on}

-- the PDU that is named is there, and allocates memory
abbrev pub has : Option Bool → Bool
has None = false
has (Some takes) = takes

abbrev pub lacks_at : Option ℕ → List Bool → Bool
lacks_at None readings = false
lacks_at (Some unit) readings = has (slice_get readings unit)

-- A byte completes a PDU, which allocates memory or not, or it completes none.
abbrev pub told : Option Bool → List Bool → List Bool
told None readings = readings
told (Some takes) readings = takes ∷ readings

module _ {M : Type 0} (stops lacks : M → Bool) (Alike : Option ℕ → M → M → Type 0) where
  -- two machines behind a byte, with memory meant to run out at this PDU of the second
  abbrev pub After : Option Bool → Option ℕ → M → M → Type 0
  After None wanting m n = Alike wanting m n
  After (Some takes) None m n = Alike None m n
  After (Some takes) (Some (suc unit)) m n = Alike (Some unit) m n
  After (Some true) (Some zero) m n = (stops n ≡ true) × (lacks n ≡ true)
  After (Some false) (Some zero) m n = Alike None m n

-- A machine, and when another is alike; what it logs of PDUs, and whether those that come allocate memory there
pub record Beside (M X : Type 0) : Type 1 where
  pub stops : M → Bool
  pub step : M → ℕ → M
  pub took : M → ℕ → Option Bool
  pub lacks : M → Bool
  pub Alike : Option ℕ → M → M → Type 0
  pub same : (wanting : Option ℕ) (m n : M) → Alike wanting m n → stops n ≡ stops m
  pub none : (wanting : Option ℕ) (m n : M) → Alike wanting m n → lacks n ≡ false
  pub goes : (wanting : Option ℕ) (m n : M) (b : ℕ) → Alike wanting m n → After stops lacks Alike (took m b) wanting (step m b) (step n b)
  pub log : M → List X
  pub later : M → List X → List Bool
  pub nothing : (m : M) → later m [] ≡ []
  pub logs : (m : M) (b : ℕ) → Alike None m m → (more : List X) × (log (step m b) ≡ log m ++ more) × ((xs : List X) → (stops (step m b) ≡ true → xs ≡ []) → told (took m b) (later (step m b) xs) ≡ later m (more ++ xs))

module _ {M X : Type 0} (d : Beside M X) where
  abbrev pub fed : M → List ℕ → FedPiece M
  fed m piece = feed d.stops d.step m piece

  untaken : (m : M) (bytes : List ℕ) → d.stops m ≡ true → fed m bytes ≡ record { machine = m; rest = bytes }
  untaken m [] h = refl
  untaken m (b ∷ bytes) h = stopped d.stops d.step m b bytes h

  -- With memory these PDUs are consumed of the bytes; the other machine lacks memory as is said, behind a PDU that allocates it or not.
  pub record Takes (t : Option Bool) (bytes : List ℕ) (wanting : Option ℕ) (m n : M) : Type 0 where
    pub units : List X
    pub log : d.log (fed m bytes).machine ≡ d.log m ++ units
    pub ends : d.stops m ≡ true → units ≡ []
    pub lacks : d.lacks (fed n bytes).machine ≡ lacks_at wanting (told t (d.later m units))
    pub leaves : length (fed m bytes).rest ≤ length (fed n bytes).rest

  counts : (t : Option Bool) (bytes : List ℕ) (wanting now : Option ℕ) (m n : M) → ((xs : List Bool) → lacks_at now xs ≡ lacks_at wanting (told t xs)) → Takes None bytes now m n → Takes t bytes wanting m n
  counts t bytes wanting now m n so k = record { units = k.units; log = k.log; ends = k.ends; lacks = k.lacks ∙ so (d.later m k.units); leaves = k.leaves }

  behind : (bytes : List ℕ) (m n : M) → Takes None bytes None m m → ((wanting : Option ℕ) → d.Alike wanting m n → Takes None bytes wanting m n) → (t : Option Bool) (wanting : Option ℕ) → After d.stops d.lacks d.Alike t wanting m n → Takes t bytes wanting m n
  behind bytes m n alone on None wanting a = on wanting a
  behind bytes m n alone on (Some takes) None a = counts (Some takes) bytes None None m n (λ xs. refl) (on None a)
  behind bytes m n alone on (Some takes) (Some (suc unit)) a = counts (Some takes) bytes (Some (suc unit)) (Some unit) m n (λ xs. refl) (on (Some unit) a)
  behind bytes m n alone on (Some false) (Some zero) a = counts (Some false) bytes (Some zero) None m n (λ xs. refl) (on None a)
  behind bytes m n alone on (Some true) (Some zero) a =
      let t = feed_takes d.stops d.step m bytes in
      let all = ap (λ (f : FedPiece M). length f.rest) (untaken n bytes a.0) in
      record {
        units = alone.units;
        log = alone.log;
        ends = alone.ends;
        lacks = ap (λ (f : FedPiece M). d.lacks f.machine) (untaken n bytes a.0) ∙ a.1;
        leaves = omega (arith, all, ap length t.1.piece_is, length-append t.0 (feed d.stops d.step m bytes).rest);
      }

  lacks_none : (wanting : Option ℕ) → lacks_at wanting [] ≡ false
  lacks_none None = refl
  lacks_none (Some unit) = refl

  stays : (bytes : List ℕ) (wanting : Option ℕ) (m n : M) → d.Alike wanting m n → fed m bytes ≡ record { machine = m; rest = bytes } → fed n bytes ≡ record { machine = n; rest = bytes } → Takes None bytes wanting m n
  stays bytes wanting m n a e k = record {
    units = [];
    log = ap (λ (f : FedPiece M). d.log f.machine) e ∙ sym (append-nil (d.log m));
    ends = λ h. refl;
    lacks = ap (λ (f : FedPiece M). d.lacks f.machine) k ∙ d.none wanting m n a ∙ sym (ap (lacks_at wanting) (d.nothing m) ∙ lacks_none wanting);
    leaves = (let x = ap (λ (f : FedPiece M). length f.rest) e in let y = ap (λ (f : FedPiece M). length f.rest) k in omega (arith, x, y));
  }

  pub beside : (bytes : List ℕ) (wanting : Option ℕ) (m n : M) → d.Alike None m m → d.Alike wanting m n → Takes None bytes wanting m n
  beside [] wanting m n own a = stays [] wanting m n a refl refl
  beside (b ∷ bytes) wanting m n own a =
      let on = by_own (d.took m b) (d.goes None m m b own) in
      by_test (d.stops m) refl
      (behind bytes (d.step m b) (d.step n b) (beside bytes None (d.step m b) (d.step m b) on on) (λ w k. beside bytes w (d.step m b) (d.step n b) on k) (d.took m b) wanting (d.goes wanting m n b a))
    where
      by_own : (t : Option Bool) → After d.stops d.lacks d.Alike t None (d.step m b) (d.step m b) → d.Alike None (d.step m b) (d.step m b)
      by_own None k = k
      by_own (Some takes) k = k

      by_test : (s : Bool) → d.stops m ≡ s → Takes (d.took m b) bytes wanting (d.step m b) (d.step n b) → Takes None (b ∷ bytes) wanting m n
      by_test true is k = stays (b ∷ bytes) wanting m n a (untaken m (b ∷ bytes) is) (untaken n (b ∷ bytes) (d.same wanting m n a ∙ is))
      by_test false is k =
          let l = d.logs m b own in
          let e = goes_on d.stops d.step m b bytes is in
          let f = goes_on d.stops d.step n b bytes (d.same wanting m n a ∙ is) in
          record {
            units = l.0 ++ k.units;
            log = ap (λ (f : FedPiece M). d.log f.machine) e ∙ k.log ∙ ap (λ x. x ++ k.units) l.1 ∙ append_assoc (d.log m) l.0 k.units;
            ends = λ h. false_true (sym is ∙ h);
            lacks = ap (λ (f : FedPiece M). d.lacks f.machine) f ∙ k.lacks ∙ ap (lacks_at wanting) (l.2 k.units k.ends);
            leaves = (let x = ap (λ (f : FedPiece M). length f.rest) e in let y = ap (λ (f : FedPiece M). length f.rest) f in omega (arith, x, y, k.leaves));
          }
