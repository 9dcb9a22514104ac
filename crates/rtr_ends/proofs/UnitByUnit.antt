-- A machine that judges behind each byte what it holds consumes a piece PDU by PDU, as a reader of PDUs does. The cache and the router are
-- such machines.
use Rattle.rtr_ends.proofs.Words.{◌≡◌, ℕ, ◌<◌, Bool, true, false, List, [], ◌∷◌, ◌++◌, length, Option, refl, sym, ap, ◌∙◌, subst, arith, append_assoc, rules, append-nil, length-append, Version, version_in, version_in-append, Judgement, Begins, Whole, Faulty, judge, IsFaulty, IsRead, IsPartial, IsShortest, as_read, Unit, UnitFault, begins_exactly, reads_judged, shows_judged, next_shortest}
use Rattle.rtr_ends.specs.Feeding.{FedPiece, feed}
use Rattle.rtr_ends.proofs.FeedingLaws.{stopped}

-- The machine: what it holds of a PDU, whether that may show any version, and the version that is expected. Then the machine that holds
-- these bytes, and the result of bytes of a version that are so judged. The beginning of a PDU is held, and nothing else changes by it.
pub record ByteMachine (M : Type 0) : Type 0 where
  pub stops : M → Bool
  pub step : M → ℕ → M
  pub held : M → List ℕ
  pub any : M → Bool
  pub start : M → Option Version
  pub holding : M → List ℕ → M
  pub judged : M → Version → List ℕ → Judgement → M
  pub own : (m : M) → holding m (held m) ≡ m
  pub same_stop : (m : M) (bytes : List ℕ) → stops (holding m bytes) ≡ stops m
  pub begun : (m : M) (version : Version) (bytes more : List ℕ) → judged (holding m bytes) version more Begins ≡ holding m more
  pub byte : (m : M) (bytes : List ℕ) (b : ℕ) →
      step (holding m bytes) b ≡ judged (holding m bytes) (version_in (start m) (bytes ++ b ∷ [])) (bytes ++ b ∷ []) (judge (version_in (start m) (bytes ++ b ∷ [])) (any m) (bytes ++ b ∷ []))

-- Bytes that are so judged, and none before the last are: those of a PDU, and those that show a fault
pub record IsJudged (version : Version) (any : Bool) (bytes : List ℕ) (j : Judgement) : Type 0 where
  pub other : j ≡ Begins → ⊥
  pub shortest : IsShortest version any bytes
  pub judged : judge version any bytes ≡ j

pub unit_judged : (version : Version) (any : Bool) (bytes : List ℕ) (u : Unit) → IsRead version any bytes u → IsJudged version any bytes (Whole u)
unit_judged version any bytes u read = record { other = λ e. cc; shortest = read.shortest; judged = reads_judged version any bytes u read.reads }

pub fault_judged : (version : Version) (any : Bool) (bytes : List ℕ) (fault : UnitFault) → IsFaulty version any bytes fault → IsJudged version any bytes (Faulty fault)
fault_judged version any bytes fault faulty = record { other = λ e. cc; shortest = faulty.shortest; judged = shows_judged version any bytes fault faulty.shows }

-- all of a list but its last
abbrev pub but_last : List ℕ → List ℕ
but_last [] = []
but_last (x ∷ []) = []
but_last (x ∷ y ∷ xs) = x ∷ but_last (y ∷ xs)

-- its last
abbrev last_or : ℕ → List ℕ → ℕ
last_or x [] = x
last_or x (y ∷ xs) = last_or y xs

with_last : (x : ℕ) (xs : List ℕ) → x ∷ xs ≡ but_last (x ∷ xs) ++ last_or x xs ∷ []
with_last x [] = refl
with_last x (y ∷ xs) = ap (λ l. x ∷ l) (with_last y xs)

module _ {M : Type 0} (w : ByteMachine M) where
  abbrev pub fed : M → List ℕ → FedPiece M
  fed m piece = feed w.stops w.step m piece

  -- A machine that stops consumes nothing.
  pub none_taken : (m : M) (piece : List ℕ) → w.stops m ≡ true → fed m piece ≡ record { machine = m; rest = piece }
  none_taken m [] stop = refl
  none_taken m (b ∷ piece) stop = stopped w.stops w.step m b piece stop

  -- These bytes are of this version, and so is each beginning of them.
  abbrev pub AreOf : M → Version → List ℕ → Type 0
  AreOf m version bytes = (x y : List ℕ) → bytes ≡ x ++ y → 0 < length x → version ≡ version_in (w.start m) x

  pub are_of : (m : M) (version : Version) (bytes : List ℕ) → version ≡ version_in (w.start m) bytes → AreOf m version bytes
  are_of m version bytes is x y e some = is ∙ ap (version_in (w.start m)) e ∙ version_in-append (w.start m) x y some

  module _ (m : M) (on : w.stops m ≡ false) (version : Version) where
    -- one byte
    byte_taken : (held : List ℕ) (b : ℕ) (piece : List ℕ) (j : Judgement) → version ≡ version_in (w.start m) (held ++ b ∷ []) → judge version (w.any m) (held ++ b ∷ []) ≡ j
        → fed (w.holding m held) (b ∷ piece) ≡ fed (w.judged (w.holding m held) version (held ++ b ∷ []) j) piece
    byte_taken held b piece j of is = search rules

    -- Behind these bytes each beginning of those is one of a PDU.
    abbrev AllBegin : List ℕ → List ℕ → Type 0
    AllBegin held front = (x y : List ℕ) → front ≡ x ++ y → judge version (w.any m) (held ++ x) ≡ Begins

    -- Such bytes are held.
    begin_held : (held front rest : List ℕ) → AreOf m version (held ++ front) → AllBegin held front → fed (w.holding m held) (front ++ rest) ≡ fed (w.holding m (held ++ front)) rest
    begin_held held [] rest of all = ap (λ h. fed (w.holding m h) rest) (sym (append-nil held))
    begin_held held (b ∷ front) rest of all =
        byte_taken held b (front ++ rest) Begins (of (held ++ b ∷ []) front (sym (append_assoc held (b ∷ []) front)) (omega (arith, length-append held (b ∷ [])))) (all (b ∷ []) front refl)
        ∙ ap (λ n. fed n (front ++ rest)) (w.begun m version held (held ++ b ∷ []))
        ∙ begin_held (held ++ b ∷ []) front rest
        (subst (λ x. AreOf m version x) (sym (append_assoc held (b ∷ []) front)) of)
        (λ x y e. ap (judge version (w.any m)) (append_assoc held (b ∷ []) x) ∙ all (b ∷ x) y (ap (λ z. b ∷ z) e))
        ∙ ap (λ h. fed (w.holding m h) rest) (append_assoc held (b ∷ []) front)

    -- what comes before a byte of shortest bytes begins
    fronts_begin : (held front : List ℕ) (b : ℕ) → IsShortest version (w.any m) ((held ++ front) ++ b ∷ []) → AllBegin held front
    fronts_begin held front b shortest x y e =
        (begins_exactly version (w.any m) (held ++ x)).1
        (shortest (held ++ x) (y ++ b ∷ []) (ap (λ z. (held ++ z) ++ b ∷ []) e ∙ ap (λ z. z ++ b ∷ []) (sym (append_assoc held x y)) ∙ append_assoc (held ++ x) y (b ∷ [])) (omega (arith, length-append y (b ∷ []))))

    -- The beginning of a PDU is held,
    pub more_taken : (taken rest : List ℕ) → version ≡ version_in (w.start m) (w.held m ++ taken) → IsPartial version (as_read version (w.any m) (w.held m ++ taken))
        → fed m (taken ++ rest) ≡ fed (w.holding m (w.held m ++ taken)) rest
    more_taken taken rest of part =
        ap (λ n. fed n (taken ++ rest)) (sym (w.own m))
        ∙ begin_held (w.held m) taken rest (are_of m version (w.held m ++ taken) of) (fronts_begin (w.held m) taken 0 (next_shortest version (w.any m) (w.held m ++ taken) 0 part))

    -- and if bytes are judged otherwise, and none before them are, they are consumed to the last.
    pub shown_taken : (taken rest : List ℕ) (j : Judgement) → version ≡ version_in (w.start m) (w.held m ++ taken) → IsPartial version (as_read version (w.any m) (w.held m)) → IsJudged version (w.any m) (w.held m ++ taken) j
        → fed m (taken ++ rest) ≡ fed (w.judged (w.holding m (w.held m ++ but_last taken)) version (w.held m ++ taken) j) rest
    shown_taken [] rest j of part s =
        absurd (s.other (sym s.judged ∙ ap (judge version (w.any m)) (append-nil (w.held m)) ∙ (begins_exactly version (w.any m) (w.held m)).1 part))
    shown_taken (c ∷ taken) rest j of part s =
        let cut : c ∷ taken ≡ but_last (c ∷ taken) ++ last_or c taken ∷ [] = with_last c taken in
        let whole : w.held m ++ c ∷ taken ≡ (w.held m ++ but_last (c ∷ taken)) ++ last_or c taken ∷ [] = ap (λ z. w.held m ++ z) cut ∙ sym (append_assoc (w.held m) (but_last (c ∷ taken)) (last_or c taken ∷ [])) in
        let each : AreOf m version ((w.held m ++ but_last (c ∷ taken)) ++ last_or c taken ∷ []) = subst (λ x. AreOf m version x) whole (are_of m version (w.held m ++ c ∷ taken) of) in
        ap (λ n. fed n (c ∷ taken ++ rest)) (sym (w.own m))
        ∙ ap (λ z. fed (w.holding m (w.held m)) (z ++ rest)) cut
        ∙ ap (fed (w.holding m (w.held m))) (append_assoc (but_last (c ∷ taken)) (last_or c taken ∷ []) rest)
        ∙ begin_held (w.held m) (but_last (c ∷ taken)) (last_or c taken ∷ rest)
        (λ x y e some. each x (y ++ last_or c taken ∷ []) (ap (λ z. z ++ last_or c taken ∷ []) e ∙ append_assoc x y (last_or c taken ∷ [])) some)
        (fronts_begin (w.held m) (but_last (c ∷ taken)) (last_or c taken) (subst (IsShortest version (w.any m)) whole s.shortest))
        ∙ byte_taken (w.held m ++ but_last (c ∷ taken)) (last_or c taken) rest j (of ∙ ap (version_in (w.start m)) whole) (ap (judge version (w.any m)) (sym whole) ∙ s.judged)
        ∙ ap (λ z. fed (w.judged (w.holding m (w.held m ++ but_last (c ∷ taken))) version z j) rest) (sym whole)
