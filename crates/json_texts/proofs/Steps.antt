-- One byte more
use Rattle.std.proofs.Common.{◌≡◌, ◌≢◌, ◌==◌, ℕ, suc, ◌+◌, ◌++◌, cond, Bool, true, false, List, [], ◌∷◌, length, count_by, take, get_or, subst, ◌<◌, ◌≤◌, inl, inr, refl, sym, ap, ◌∙◌, arith}
use Rattle.std.proofs.lemmas.Bool.Decides.{nat_tests}
use Rattle.std.proofs.lemmas.List.{append-nil, append_assoc, length-append, take_more}
use Rattle.std.proofs.lemmas.List.Elements.{All-append, All-cons, All-nil}
use Rattle.std.proofs.lemmas.List.Sums.{sum_by-append, sum_by-cons}
use Rattle.json_texts.specs.Position.{StandsAt, line_feed}

feeds-end : (t : List ℕ) (b : ℕ) → count_by (λ b. b == line_feed) (t ++ b ∷ []) ≡ count_by (λ b. b == line_feed) t + cond (b == line_feed) 1 0
feeds-end t b = omega (arith, sum_by-append (λ b. cond (b == line_feed) 1 0) t (b ∷ []), sum_by-cons (λ b. cond (b == line_feed) 1 0) b [])

pub behind_a_feed : (t : List ℕ) (b l c : ℕ) → b ≡ line_feed → StandsAt t l c → StandsAt (t ++ b ∷ []) (suc l) 1
behind_a_feed t b l c is at =
    let yes : (b == line_feed) ≡ true = grind (arith, nat_tests) in
    let more : ◌≡◌ {A = ℕ} (cond (b == line_feed) 1 0) 1 = ap (λ (x : Bool). cond x 1 0) yes in
    record {
      line_is = omega (arith, at.line_is, feeds-end t b, more);
      before = t ++ b ∷ [];
      last = [];
      parts = sym (append-nil (t ++ b ∷ []));
      begins = inr (t, ap (λ x. t ++ x ∷ []) is);
      no_feed = All-nil (λ b. b ≢ line_feed);
      column_is = refl;
    }

pub behind_another : (t : List ℕ) (b l c : ℕ) → b ≢ line_feed → StandsAt t l c → StandsAt (t ++ b ∷ []) l (suc c)
behind_another t b l c not at =
    let no : (b == line_feed) ≡ false = grind (arith, nat_tests) in
    let none : ◌≡◌ {A = ℕ} (cond (b == line_feed) 1 0) 0 = ap (λ (x : Bool). cond x 1 0) no in
    record {
      line_is = omega (arith, at.line_is, feeds-end t b, none);
      before = at.before;
      last = at.last ++ b ∷ [];
      parts = ap (λ x. x ++ b ∷ []) at.parts ∙ append_assoc at.before at.last (b ∷ []);
      begins = at.begins;
      no_feed = All-append (λ b. b ≢ line_feed) at.last (b ∷ []) at.no_feed (All-cons (λ b. b ≢ line_feed) b [] not (All-nil (λ b. b ≢ line_feed)));
      column_is = omega (arith, at.column_is, length-append at.last (b ∷ []));
    }

pub at_the_start : StandsAt [] 1 1
at_the_start = record { line_is = refl; before = []; last = []; parts = refl; begins = inl refl; no_feed = All-nil (λ b. b ≢ line_feed); column_is = refl }

-- The bytes before one, and that one
pub and_one : (ts : List ℕ) (i l c : ℕ) → i < length ts → StandsAt (take i ts ++ get_or ts i 0 ∷ []) l c → StandsAt (take (i + 1) ts) l c
and_one ts i l c inside at = subst (λ t. StandsAt t l c) (sym (take_more ts i 0 inside)) at

-- A line feed is passed, or another byte
pub passes_feed : (ts : List ℕ) (i l c m d : ℕ) → i < length ts → get_or ts i 0 ≡ line_feed → m ≡ l + 1 → d ≡ 1 → StandsAt (take i ts) l c × (l ≤ suc i) × (c ≤ suc i) → StandsAt (take (i + 1) ts) m d × (m ≤ suc (i + 1)) × (d ≤ suc (i + 1))
passes_feed ts i l c m d inside is line column h =
    let next : m ≡ suc l = omega (arith, line) in (
      subst (λ x. StandsAt (take (i + 1) ts) x d) (sym next) (subst (λ x. StandsAt (take (i + 1) ts) (suc l) x) (sym column) (and_one ts i (suc l) 1 inside (behind_a_feed (take i ts) (get_or ts i 0) l c is h.0))),
      omega (arith, line, h.1),
      omega (arith, column),
    )

pub passes_another : (ts : List ℕ) (i l c m d : ℕ) → i < length ts → get_or ts i 0 ≢ line_feed → m ≡ l → d ≡ c + 1 → StandsAt (take i ts) l c × (l ≤ suc i) × (c ≤ suc i) → StandsAt (take (i + 1) ts) m d × (m ≤ suc (i + 1)) × (d ≤ suc (i + 1))
passes_another ts i l c m d inside not line column h =
    let next : d ≡ suc c = omega (arith, column) in (
      subst (λ x. StandsAt (take (i + 1) ts) x d) (sym line) (subst (λ x. StandsAt (take (i + 1) ts) l x) (sym next) (and_one ts i l (suc c) inside (behind_another (take i ts) (get_or ts i 0) l c not h.0))),
      omega (arith, line, h.1),
      omega (arith, column, h.2),
    )
