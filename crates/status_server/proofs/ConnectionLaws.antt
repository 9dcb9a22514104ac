-- The connections of a list of entries.
use Rattle.std.proofs.Common.{◌≡◌, ℕ, ◌+◌, ◌≤◌, zero, suc, Bool, true, false, ◌==◌, cond, List, [], ◌∷◌, length, inl, inr, arith, map, get_or, refl, ap, sym, subst, ◌∙◌, Option, Result, Ok, Err, OnOk, OnErr}
use Rattle.std.specs.Prelude.{⊤}
use Rattle.std.proofs.Math.ListN.{set}
use Rattle.status_server.specs.Connections.{Accepts, AcceptsMany, AcceptsOne, Admits, Each, IsWoken, MakesRoom, wake}
use Rattle.status_server.specs.declared.http_connection.HttpProgress.TheVariants.{Busy}
use Rattle.status_server.specs.declared.http_connections.Entry.{Entry}

-- The first n elements are changed.
module _ {A : Type 0} (f : A → A) where
  pub upto : ℕ → List A → List A
  upto zero xs = xs
  upto (suc n) [] = []
  upto (suc n) (x ∷ xs) = f x ∷ upto n xs

  pub upto-none : (xs : List A) → xs ≡ upto 0 xs
  unfolding upto
  upto-none xs = refl

  next : (n : ℕ) (xs : List A) (d : A) → set (upto n xs) n (f (get_or (upto n xs) n d)) ≡ upto (suc n) xs
  unfolding upto
  next zero [] d = refl
  next zero (x ∷ xs) d = refl
  next (suc n) [] d = refl
  next (suc n) (x ∷ xs) d = ap (λ l. f x ∷ l) (next n xs d)

  pub upto-all : (n : ℕ) (xs : List A) → length xs ≤ n → upto n xs ≡ map f xs
  unfolding upto
  upto-all zero [] h = refl
  upto-all (suc n) [] h = refl
  upto-all zero (x ∷ xs) h = let none : ⊥ = omega arith in elim none [ ]
  upto-all (suc n) (x ∷ xs) h = ap (λ l. f x ∷ l) (upto-all n xs (omega arith))

  -- An element more is changed.
  pub upto-more : (ys xs : List A) (i : ℕ) (e d : A) → ys ≡ upto i xs → e ≡ f (get_or ys i d) → set ys i e ≡ upto (i + 1) xs
  upto-more ys xs i e d h k =
      let one : suc i ≡ i + 1 = omega arith in
      ap (set ys i) k ∙ ap (λ l. set l i (f (get_or l i d))) h ∙ next i xs d ∙ ap (λ n. upto n xs) one

-- The first n connections are related to those in their places, and the others are the same.
module _ {T : Type 0} (r : Entry T → Entry T → Type 0) where
  pub EachUpto : ℕ → List (Entry T) → List (Entry T) → Type 0
  EachUpto zero vs ws = ws ≡ vs
  EachUpto (suc n) [] [] = ⊤
  EachUpto (suc n) [] (w ∷ ws) = ⊥
  EachUpto (suc n) (v ∷ vs) [] = ⊥
  EachUpto (suc n) (v ∷ vs) (w ∷ ws) = r v w × EachUpto n vs ws

  pub each_none : (vs : List (Entry T)) → EachUpto 0 vs vs
  unfolding EachUpto
  each_none vs = refl

  first : (vs : List (Entry T)) (e d : Entry T) → r (get_or vs 0 d) e → EachUpto 1 vs (set vs 0 e)
  unfolding EachUpto
  first [] e d h = tt
  first (v ∷ vs) e d h = (h, refl)

  next_one : (i : ℕ) (vs ws : List (Entry T)) (e d : Entry T) → EachUpto i vs ws → r (get_or ws i d) e → EachUpto (suc i) vs (set ws i e)
  unfolding EachUpto
  next_one zero vs ws e d h k = subst (λ l. EachUpto 1 vs (set l 0 e)) (sym h) (first vs e d (subst (λ l. r (get_or l 0 d) e) h k))
  next_one (suc i) [] [] e d h k = tt
  next_one (suc i) [] (w ∷ ws) e d h k = elim h [ ]
  next_one (suc i) (v ∷ vs) [] e d h k = elim h [ ]
  next_one (suc i) (v ∷ vs) (w ∷ ws) e d h k = (h.0, next_one i vs ws e d h.1 k)

  -- A connection more is related to the one in its place.
  pub each_more : (i : ℕ) (vs ws : List (Entry T)) (e d : Entry T) → EachUpto i vs ws → r (get_or ws i d) e → EachUpto (i + 1) vs (set ws i e)
  each_more i vs ws e d h k =
      let one : suc i ≡ i + 1 = omega arith in
      subst (λ n. EachUpto n vs (set ws i e)) one (next_one i vs ws e d h k)

  pub each_all : (n : ℕ) (vs ws : List (Entry T)) → length ws ≤ n → EachUpto n vs ws → Each r vs ws
  unfolding EachUpto
  each_all zero [] [] h k = tt
  each_all zero [] (w ∷ ws) h k = let none : ⊥ = omega (arith, h) in elim none [ ]
  each_all zero (v ∷ vs) [] h k = let none : ⊥ = cc k in elim none [ ]
  each_all zero (v ∷ vs) (w ∷ ws) h k = let none : ⊥ = omega (arith, h) in elim none [ ]
  each_all (suc n) [] [] h k = tt
  each_all (suc n) [] (w ∷ ws) h k = elim k [ ]
  each_all (suc n) (v ∷ vs) [] h k = elim k [ ]
  each_all (suc n) (v ∷ vs) (w ∷ ws) h k = (k.0, each_all n vs ws (omega (arith, h)) k.1)

pub each_same : {T : Type 0} (r : Entry T → Entry T → Type 0) → ((v : Entry T) → r v v) → (vs : List (Entry T)) → Each r vs vs
each_same r same [] = tt
each_same r same (v ∷ vs) = (same v, each_same r same vs)

pub each_then : {T : Type 0} (r : Entry T → Entry T → Type 0) → ((u v w : Entry T) → r u v → r v w → r u w) → (us vs ws : List (Entry T)) → Each r us vs → Each r vs ws → Each r us ws
each_then r t [] [] [] h k = tt
each_then r t [] [] (w ∷ ws) h k = elim k [ ]
each_then r t [] (v ∷ vs) ws h k = elim h [ ]
each_then r t (u ∷ us) [] ws h k = elim h [ ]
each_then r t (u ∷ us) (v ∷ vs) [] h k = elim k [ ]
each_then r t (u ∷ us) (v ∷ vs) (w ∷ ws) h k = (t u v w h.0 k.0, each_then r t us vs ws h.1 k.1)

pub each_at : {T : Type 0} (r : Entry T → Entry T → Type 0) {us vs us' vs' : List (Entry T)} → us ≡ us' → vs ≡ vs' → Each r us vs → Each r us' vs'
each_at r {us} {vs} {us'} {vs'} h k e = subst (λ l. Each r l vs') h (subst (λ l. Each r us l) k e)

pub woken_same : {T : Type 0} (v : Entry T) → IsWoken v v
woken_same v = inl refl

pub woken_then : {T : Type 0} (u v w : Entry T) → IsWoken u v → IsWoken v w → IsWoken u w
woken_then {T} u v w (inl a) (inl b) = inl (b ∙ a)
woken_then {T} u v w (inr a) (inl b) = inr (b ∙ a)
woken_then {T} u v w (inl a) (inr b) = inr (b ∙ ap {A = Entry T} (λ x. record x { progress = Busy }) a)
woken_then {T} u v w (inr a) (inr b) = inr (b ∙ ap {A = Entry T} (λ x. record x { progress = Busy }) a)

is_woken : {T : Type 0} (v : Entry T) (b : Bool) → IsWoken v (cond b (record v { progress = Busy }) v)
is_woken v true = inr refl
is_woken v false = inl refl

-- A call of wake is one of the steps.
pub each_woken : {T : Type 0} (token : ℕ) (vs : List (Entry T)) → Each IsWoken vs (wake token vs)
each_woken token [] = tt
each_woken token (v ∷ vs) = (is_woken v (v.token == token), each_woken token vs)

pub accepts_none : {T : Type 0} (now : ℕ) (vs : List (Entry T)) → Accepts now vs vs
accepts_none now vs = (zero, refl)

pub accepts_one : {T : Type 0} (now : ℕ) (vs ws : List (Entry T)) → AcceptsOne now vs ws → Accepts now vs ws
accepts_one now vs ws h = (suc zero, (vs, refl, h))

-- as many more were accepted
more_then : {T : Type 0} (now n : ℕ) (us vs ws : List (Entry T)) → Accepts now us vs → AcceptsMany n now vs ws → Accepts now us ws
more_then now zero us vs ws h k = subst (λ l. Accepts now us l) (sym k) h
more_then now (suc n) us vs ws h k = let before = more_then now n us vs k.0 h k.1 in (suc before.0, (k.0, before.1, k.2))

pub accepts_then : {T : Type 0} (now : ℕ) (us vs ws : List (Entry T)) → Accepts now us vs → Accepts now vs ws → Accepts now us ws
accepts_then now us vs ws h k = more_then now k.0 us vs ws h k.1

-- There is no room, so it is closed.
pub turned_away : {T : Type 0} (now : ℕ) (gone : Option T) (vs ws : List (Entry T)) → MakesRoom gone vs ws → AcceptsOne now vs ws
turned_away now gone vs ws h = record { gone = gone; room = ws; made = h; admitted = inl refl }

-- There is room, and it is admitted unless memory runs out.
pub let_in : {T E : Type 0} (now token : ℕ) (stream : T) (gone : Option T) (vs room ws : List (Entry T)) (r : Result ⊤ E)
    → MakesRoom gone vs room → OnOk r (Admits token now stream room ws) → OnErr r (ws ≡ room) → AcceptsOne now vs ws
let_in now token stream gone vs room ws (Ok o) made h k = record { gone = gone; room = room; made = made; admitted = inr (token, stream, h) }
let_in now token stream gone vs room ws (Err e) made h k = record { gone = gone; room = room; made = made; admitted = inl k }
