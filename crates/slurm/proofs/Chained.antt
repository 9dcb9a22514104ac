-- What a chain of steps gives, and when it gives a value
use Rattle.std.proofs.Common.{◌≡◌, ℕ, ◌==◌, ◌&&◌, ◌||◌, ◌⊎◌, Bool, true, false, Option, Some, None, Result, Ok, Err, IsOk, inl, inr, refl, sym, ap, ◌∙◌, subst, arith}
use Rattle.std.specs.Prelude.{⊤}
use Rattle.std.proofs.lemmas.Bool.Decides.{nat_tests}
use Rattle.slurm.specs.Chains.{After, ◌>>=◌, given, unless}

-- ---- tests

pub both_true : (a b : Bool) → (a && b) ≡ true → (a ≡ true) × (b ≡ true)
both_true true b h = (refl, h)
both_true false b h = let no : false ≡ true = h in absurd (cc)

pub true_both : (a b : Bool) → a ≡ true → b ≡ true → (a && b) ≡ true
true_both true b h k = k
true_both false b h k = let no : false ≡ true = h in absurd (cc)

pub either_true : (a b : Bool) → (a || b) ≡ true → (a ≡ true) ⊎ (b ≡ true)
either_true true b h = inl refl
either_true false b h = inr h

pub true_either : (a b : Bool) → (a ≡ true) ⊎ (b ≡ true) → (a || b) ≡ true
true_either true b h = refl
true_either false b (inl h) = let no : false ≡ true = h in absurd (cc)
true_either false b (inr h) = h

pub is_number : (m n : ℕ) → (m == n) ≡ true → m ≡ n
is_number m n h = grind (arith, nat_tests)

pub number_is : (m n : ℕ) → m ≡ n → (m == n) ≡ true
number_is m n h = grind (arith, nat_tests)

-- ---- steps

pub ok_is : {A E : Type 0} (x y : A) → ◌≡◌ {A = Result A E} (Ok x) (Ok y) → x ≡ y
ok_is x y h = cc

module _ {A B E : Type 0} where
  pub after_ok : (m : Result A E) (P : A → Result B E → Type 0) (y : B) → After m P (Ok y) → (x : A) × (m ≡ Ok x) × P x (Ok y)
  after_ok (Ok x) P y h = (x, refl, h)
  after_ok (Err e) P y h = absurd (cc)

  pub ok_after : (m : Result A E) (P : A → Result B E → Type 0) (x : A) (y : B) → m ≡ Ok x → P x (Ok y) → After m P (Ok y)
  ok_after m P x y is h = subst (λ n. After n P (Ok y)) (sym is) h

module _ {A E : Type 0} where
  pub first_ok : (m : Result ⊤ E) (f : Result A E) (x : A) → (m >>= λ _. f) ≡ Ok x → IsOk m × (f ≡ Ok x)
  first_ok (Ok t) f x h = (refl, h)
  first_ok (Err e) f x h = absurd (cc)

  pub ok_first : (m : Result ⊤ E) (f : Result A E) (x : A) → IsOk m → f ≡ Ok x → (m >>= λ _. f) ≡ Ok x
  ok_first (Ok t) f x h is = is
  ok_first (Err e) f x h is = let no : false ≡ true = h in absurd (cc)

module _ {E : Type 0} (e : E) where
  pub unless_ok : (b : Bool) → IsOk (unless e b) → b ≡ true
  unless_ok true h = refl
  unless_ok false h = let no : false ≡ true = h in absurd (cc)

  pub ok_unless : (b : Bool) → b ≡ true → IsOk (unless e b)
  ok_unless true h = refl
  ok_unless false h = let no : false ≡ true = h in absurd (cc)

  pub given_ok : {A : Type 0} (o : Option A) (x : A) → given e o ≡ Ok x → o ≡ Some x
  given_ok None x h = absurd (cc)
  given_ok (Some y) x h = ap Some (ok_is {E = E} y x h)

-- ---- a value that goes through tests

module _ {A E : Type 0} where
  abbrev pub Through1 : Result A E → Result ⊤ E → Result A E
  Through1 a c = a >>= λ x. c >>= λ _. Ok x

  abbrev pub Through2 : Result A E → Result ⊤ E → Result ⊤ E → Result A E
  Through2 a c d = a >>= λ x. c >>= λ _. d >>= λ _. Ok x

  abbrev pub Through3 : Result A E → Result ⊤ E → Result ⊤ E → Result ⊤ E → Result A E
  Through3 a c d e = a >>= λ x. c >>= λ _. d >>= λ _. e >>= λ _. Ok x

  pub through1_ok : (a : Result A E) (c : Result ⊤ E) (x : A) → Through1 a c ≡ Ok x → (a ≡ Ok x) × IsOk c
  through1_ok (Ok y) c x h = let rest = first_ok c (Ok y) x h in (rest.1, rest.0)
  through1_ok (Err e) c x h = absurd (cc)

  pub through2_ok : (a : Result A E) (c d : Result ⊤ E) (x : A) → Through2 a c d ≡ Ok x → (a ≡ Ok x) × IsOk c × IsOk d
  through2_ok (Ok y) c d x h =
      let one = first_ok c (d >>= λ _. Ok y) x h in let two = first_ok d (Ok y) x one.1 in (two.1, one.0, two.0)
  through2_ok (Err e) c d x h = absurd (cc)

  pub through3_ok : (a : Result A E) (c d e : Result ⊤ E) (x : A) → Through3 a c d e ≡ Ok x → (a ≡ Ok x) × IsOk c × IsOk d × IsOk e
  through3_ok (Ok y) c d e x h =
      let one = first_ok c (d >>= λ _. e >>= λ _. Ok y) x h in
      let two = first_ok d (e >>= λ _. Ok y) x one.1 in
      let three = first_ok e (Ok y) x two.1 in
      (three.1, one.0, two.0, three.0)
  through3_ok (Err f) c d e x h = absurd (cc)

  pub ok_through1 : (a : Result A E) (c : Result ⊤ E) (x : A) → a ≡ Ok x → IsOk c → Through1 a c ≡ Ok x
  ok_through1 a c x is h = ap (λ b. Through1 b c) is ∙ ok_first c (Ok x) x h refl

  pub ok_through2 : (a : Result A E) (c d : Result ⊤ E) (x : A) → a ≡ Ok x → IsOk c → IsOk d → Through2 a c d ≡ Ok x
  ok_through2 a c d x is h k = ap (λ b. Through2 b c d) is ∙ ok_first c (d >>= λ _. Ok x) x h (ok_first d (Ok x) x k refl)

  pub ok_through3 : (a : Result A E) (c d e : Result ⊤ E) (x : A) → a ≡ Ok x → IsOk c → IsOk d → IsOk e → Through3 a c d e ≡ Ok x
  ok_through3 a c d e x is h k l =
      ap (λ b. Through3 b c d e) is ∙ ok_first c (d >>= λ _. e >>= λ _. Ok x) x h (ok_first d (e >>= λ _. Ok x) x k (ok_first e (Ok x) x l refl))
