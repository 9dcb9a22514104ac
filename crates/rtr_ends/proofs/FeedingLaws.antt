-- What a machine consumes of a piece.
use Rattle.rtr_ends.proofs.Words.{◌≡◌, ℕ, ◌-◌, ◌<◌, Bool, true, false, List, [], ◌∷◌, ◌++◌, length, suc, take, refl, sym, ap, subst, append_assoc, append-nil, arith, length-append, AreBytes}
use Rattle.rtr_ends.specs.Feeding.{FedPiece, feed, run, IsTaken, Takes}
use Rattle.rtr_ends.proofs.ByteLists.{bytes_front, front_of}

-- a list of no element has no part
no_part : {X : Type 0} (front back : List X) → [] ≡ front ++ back → 0 < length back → ⊥
no_part [] [] e some = absurd (omega (arith, some))
no_part _ _ e some = cc

module _ {M : Type 0} (stops : M → Bool) (step : M → ℕ → M) where
  pub run-append : (m : M) (xs ys : List ℕ) → run stops step m (xs ++ ys) ≡ run stops step (run stops step m xs) ys
  run-append m [] ys = refl
  run-append m (x ∷ xs) ys = run-append (step m x) xs ys

  -- the next byte is received or left
  abbrev by_stop : M → ℕ → List ℕ → Bool → FedPiece M
  by_stop m b bytes s = elim s [ true ↦ record { machine = m; rest = b ∷ bytes } | false ↦ feed stops step (step m b) bytes ]

  -- it is left if the machine stops
  pub stopped : (m : M) (b : ℕ) (bytes : List ℕ) → stops m ≡ true → feed stops step m (b ∷ bytes) ≡ record { machine = m; rest = b ∷ bytes }
  stopped m b bytes h = ap (by_stop m b bytes) h

  pub goes_on : (m : M) (b : ℕ) (bytes : List ℕ) → stops m ≡ false → feed stops step m (b ∷ bytes) ≡ feed stops step (step m b) bytes
  goes_on m b bytes h = ap (by_stop m b bytes) h

  takes_none : (m : M) (piece : List ℕ) → (0 < length piece → stops m ≡ true) → IsTaken stops step m piece [] (record { machine = m; rest = piece })
  takes_none m piece h = record { piece_is = refl; machine_is = refl; shortest = λ front back e some. absurd (no_part front back e some); all_or = h }

  takes_more : (m : M) (b : ℕ) (bytes taken : List ℕ) (f : FedPiece M) → stops m ≡ false → IsTaken stops step (step m b) bytes taken f → IsTaken stops step m (b ∷ bytes) (b ∷ taken) f
  takes_more m b bytes taken f h t = record {
    piece_is = ap (λ x. b ∷ x) t.piece_is;
    machine_is = t.machine_is;
    shortest = λ front back e some. short front back e some;
    all_or = t.all_or;
  }
    where
      short : (front back : List ℕ) → b ∷ taken ≡ front ++ back → 0 < length back → stops (run stops step m front) ≡ false
      short [] back e some = h
      short (x ∷ front) back e some =
          let same : b ≡ x = cc in
          let more : taken ≡ front ++ back = cc in
          subst (λ y. stops (run stops step (step m y) front) ≡ false) same (t.shortest front back more some)

  takes_by : (m : M) (b : ℕ) (bytes : List ℕ) (s : Bool) → stops m ≡ s → Takes stops step (step m b) bytes → Takes stops step m (b ∷ bytes)
  takes_by m b bytes true h t = ([], subst (λ f. IsTaken stops step m (b ∷ bytes) [] f) (sym (stopped m b bytes h)) (takes_none m (b ∷ bytes) (λ some. h)))
  takes_by m b bytes false h t =
      (b ∷ t.0, subst (λ f. IsTaken stops step m (b ∷ bytes) (b ∷ t.0) f) (sym (goes_on m b bytes h)) (takes_more m b bytes t.0 (feed stops step (step m b) bytes) h t.1))

  -- What is fed is consumed.
  pub feed_takes : (m : M) (piece : List ℕ) → Takes stops step m piece
  feed_takes m [] = ([], takes_none m [] (λ some. absurd (omega (arith, some))))
  feed_takes m (b ∷ bytes) = takes_by m b bytes (stops m) refl (feed_takes (step m b) bytes)

  -- A machine that consumes nothing of a piece is as it was, and stops if there is a piece.
  pub none_fed : (m : M) (piece : List ℕ) → 0 ≡ length piece - length (feed stops step m piece).rest → ((feed stops step m piece).machine ≡ m) × (0 < length piece → stops m ≡ true)
  none_fed m [] none = (refl, λ some. absurd (omega (arith, some)))
  none_fed m (b ∷ piece) none = by_test (stops m) refl
    where
      by_test : (s : Bool) → stops m ≡ s → ((feed stops step m (b ∷ piece)).machine ≡ m) × (0 < length (b ∷ piece) → stops m ≡ true)
      by_test true is = (ap (λ (f : FedPiece M). f.machine) (stopped m b piece is), λ some. is)
      by_test false is =
          let t = feed_takes (step m b) piece in
          let on = ap (λ (f : FedPiece M). length f.rest) (goes_on m b piece is) in
          absurd (omega (arith, none, on, ap length t.1.piece_is, length-append t.0 (feed stops step (step m b) piece).rest))

  -- What each byte keeps is kept of a machine and what is left.
  pub feed_keeps : (P : List ℕ → M → Type 0) → ((b : ℕ) (rest : List ℕ) (m : M) → stops m ≡ false → P (b ∷ rest) m → P rest (step m b))
      → (m : M) (piece : List ℕ) → P piece m → P (feed stops step m piece).rest (feed stops step m piece).machine
  feed_keeps P keeps m [] h = h
  feed_keeps P keeps m (b ∷ piece) h = by_test (stops m) refl (λ k. feed_keeps P keeps (step m b) piece k)
    where
      by_test : (s : Bool) → stops m ≡ s → (P piece (step m b) → P (feed stops step (step m b) piece).rest (feed stops step (step m b) piece).machine) → P (by_stop m b piece s).rest (by_stop m b piece s).machine
      by_test true is on = h
      by_test false is on = on (keeps b piece m is h)

  -- So is what each byte keeps of all that came.
  pub fed_keeps : (P : List ℕ → M → Type 0) → ((came : List ℕ) (b : ℕ) (m : M) → b < 256 → stops m ≡ false → P came m → P (came ++ b ∷ []) (step m b))
      → (m : M) (piece came : List ℕ) → AreBytes piece → P came m → P (came ++ take (length piece - length (feed stops step m piece).rest) piece) (feed stops step m piece).machine
  fed_keeps P keeps m piece came each h =
      let t = feed_takes m piece in
      subst (λ n. P (came ++ take (length piece - length (feed stops step m piece).rest) piece) n) (sym t.1.machine_is)
      (subst (λ x. P (came ++ x) (run stops step m t.0)) (sym (front_of piece t.0 _ t.1.piece_is)) (runs m t.0 came (bytes_front piece t.0 _ t.1.piece_is each) t.1.shortest h))
    where
      runs : (m : M) (taken came : List ℕ) → AreBytes taken → ((front back : List ℕ) → taken ≡ front ++ back → 0 < length back → stops (run stops step m front) ≡ false) → P came m → P (came ++ taken) (run stops step m taken)
      runs m [] came each on h = subst (λ x. P x m) (sym (append-nil came)) h
      runs m (b ∷ taken) came each on h =
          subst (λ x. P x (run stops step (step m b) taken)) (append_assoc came (b ∷ []) taken)
          (runs (step m b) taken (came ++ b ∷ []) (λ j. each (suc j)) (λ front back e some. on (b ∷ front) back (ap (λ x. b ∷ x) e) some) (keeps came b m (each 0) (on [] (b ∷ taken) refl (omega arith)) h))

  abbrev fed_to : M → List ℕ → FedPiece M
  fed_to m rest = record { machine = m; rest = rest }

  machine_is : (m n : M) (xs : List ℕ) → fed_to m xs ≡ fed_to n [] → (m ≡ n) × (xs ≡ [])
  machine_is m n xs e = (ap (λ f. f.machine) e, ap (λ f. f.rest) e)

  on_by : (m n : M) (b : ℕ) (xs ys : List ℕ) (s : Bool) → stops m ≡ s → by_stop m b xs s ≡ fed_to n []
      → (feed stops step (step m b) xs ≡ fed_to n [] → feed stops step (step m b) (xs ++ ys) ≡ feed stops step n ys) → by_stop m b (xs ++ ys) s ≡ feed stops step n ys
  on_by m n b xs ys true is e on = absurd (let h : b ∷ xs ≡ [] = (machine_is m n (b ∷ xs) e).1 in cc)
  on_by m n b xs ys false is e on = on e

  -- If all of a piece was consumed, the machine after it receives what follows.
  pub feed_on : (m n : M) (xs ys : List ℕ) → feed stops step m xs ≡ fed_to n [] → feed stops step m (xs ++ ys) ≡ feed stops step n ys
  feed_on m n [] ys e = ap (λ x. feed stops step x ys) (machine_is m n [] e).0
  feed_on m n (b ∷ xs) ys e = on_by m n b xs ys (stops m) refl e (feed_on (step m b) n xs ys)
