-- What holds of each router of each world to which a history leads.
use Rattle.rtr_world.proofs.Words.{option_map, ℕ, ◌==◌, List, [], ◌∷◌, map, ◌≡◌, Option, Some, None, if◌then◌else◌, refl, AllByRecursion, zero, suc, ap, ◌∙◌, sym, subst, inl, inr, cases_Bool, option_map_id, eq_of, not_eq_of}
use Rattle.rtr_world.specs.History.{Outcome, Done, Memory, after, side_at}
use Rattle.rtr_world.specs.World.{Side, World, Event, Publish, Restart, On, cache_gone, goes_through, instances, is_refused, new_side, new_sides, on_side, settle, settled, side_refused, side_step}

-- what follows from a fact of each side
pub all_weaker : (P Q : Side → Type 0) (sides : List Side) → ((s : Side) → P s → Q s) → AllByRecursion P sides → AllByRecursion Q sides
all_weaker P Q [] f h = tt
all_weaker P Q (s ∷ sides) f h = (f s h.0, all_weaker P Q sides f h.1)

-- a fact of each side
module _ (P : Side → Type 0) where
  pub all_new : P new_side → (routers : ℕ) → AllByRecursion P (new_sides routers)
  all_new h zero = tt
  all_new h (suc routers) = (h, all_new h routers)

  -- one side changes
  pub all_on_side : (Q : Side → Type 0) (r : ℕ) (f : Side → Side) (sides : List Side) → ((s : Side) → P s → Q s) → ((s : Side) → P s → Q (f s)) → AllByRecursion P sides → AllByRecursion Q (on_side r f sides)
  all_on_side Q r f [] stays goes h = tt
  all_on_side Q zero f (s ∷ sides) stays goes h = (goes s h.0, all_weaker P Q sides stays h.1)
  all_on_side Q (suc r) f (s ∷ sides) stays goes h = (stays s h.0, all_on_side Q r f sides stays goes h.1)

  -- each side changes
  pub all_map : (Q : Side → Type 0) (f : Side → Side) (sides : List Side) → ((s : Side) → P s → Q (f s)) → AllByRecursion P sides → AllByRecursion Q (map f sides)
  all_map Q f [] goes h = tt
  all_map Q f (s ∷ sides) goes h = (goes s h.0, all_map Q f sides goes h.1)

-- two facts of each side are one
pub all_both : (P Q : Side → Type 0) (sides : List Side) → AllByRecursion P sides → AllByRecursion Q sides → AllByRecursion (λ s. P s × Q s) sides
all_both P Q [] h k = tt
all_both P Q (s ∷ sides) h k = ((h.0, k.0), all_both P Q sides h.1 k.1)

pub inside : {A : Type 0} {a b : A} → Some a ≡ Some b → a ≡ b
inside h = cc

-- one of the sides
pub map_there : (r : ℕ) (f : Side → Side) (sides : List Side) → side_at r (map f sides) ≡ option_map f (side_at r sides)
map_there r f [] = refl
map_there zero f (s ∷ sides) = refl
map_there (suc r) f (s ∷ sides) = map_there r f sides

pub on_there : (r : ℕ) (f : Side → Side) (sides : List Side) → side_at r (on_side r f sides) ≡ option_map f (side_at r sides)
on_there r f [] = refl
on_there zero f (s ∷ sides) = refl
on_there (suc r) f (s ∷ sides) = on_there r f sides

-- one that changes, and then all
pub found_on : (r : ℕ) (f g : Side → Side) (sides : List Side) (s : Side) → side_at r sides ≡ Some s → side_at r (map f (on_side r g sides)) ≡ Some (f (g s))
found_on r f g sides s e = map_there r f (on_side r g sides) ∙ ap (option_map f) (on_there r g sides ∙ ap (option_map g) e)

pub elsewhere : (r d : ℕ) (f : Side → Side) (sides : List Side) → ¬ (d ≡ r) → side_at d (on_side r f sides) ≡ side_at d sides
elsewhere r d f [] h = refl
elsewhere zero zero f (s ∷ sides) h = absurd (h refl)
elsewhere zero (suc d) f (s ∷ sides) h = refl
elsewhere (suc r) zero f (s ∷ sides) h = refl
elsewhere (suc r) (suc d) f (s ∷ sides) h = elsewhere r d f sides (λ e. h (ap suc e))

-- What an event makes of the router with this number
abbrev pub side_after : ℕ → Event → Outcome → World → Side → Side
side_after r (On d event) (Done wanting) w s = settle (instances w) (if d == r then side_step w event wanting s else s)
side_after r (On d event) (Memory bytes wanting) w s = settle (instances w) (if d == r then side_refused w event bytes wanting s else s)
side_after r (Publish set) (Done wanting) w s = settle (instances (goes_through (Publish set) wanting w)) s
side_after r (Restart session session0 start) (Done wanting) w s = settle (instances (goes_through (Restart session session0 start) wanting w)) (cache_gone s)
side_after r event outcome w s = s

twice : (f g : Side → Side) (o : Option Side) → option_map f (option_map g o) ≡ option_map (λ s. f (g s)) o
twice f g None = refl
twice f g (Some s) = refl

on_number : (r d : ℕ) (f : Side → Side) (sides : List Side) → side_at r (on_side d f sides) ≡ option_map (λ s. if d == r then f s else s) (side_at r sides)
on_number r d f sides = elim (cases_Bool (d == r)) [
  | inl same ↦ subst (λ n. side_at r (on_side n f sides) ≡ option_map f (side_at r sides)) (sym (eq_of d r same)) (on_there r f sides) ∙ ap (λ b. option_map (λ (s : Side). if b then f s else s) (side_at r sides)) (sym same)
  | inr other ↦ elsewhere d r f sides (λ e. not_eq_of d r other (sym e)) ∙ sym (option_map_id (side_at r sides)) ∙ ap (λ b. option_map (λ (s : Side). if b then f s else s) (side_at r sides)) (sym other)
]

pub after_at : (r : ℕ) (event : Event) (outcome : Outcome) (w : World) → side_at r (after event outcome w).sides ≡ option_map (side_after r event outcome w) (side_at r w.sides)
unfolding goes_through settled is_refused
after_at r (On d event) (Done wanting) w = map_there r _ (on_side d (side_step w event wanting) w.sides) ∙ ap (option_map _) (on_number r d (side_step w event wanting) w.sides) ∙ twice _ _ (side_at r w.sides)
after_at r (On d event) (Memory bytes wanting) w = map_there r _ (on_side d (side_refused w event bytes wanting) w.sides) ∙ ap (option_map _) (on_number r d (side_refused w event bytes wanting) w.sides) ∙ twice _ _ (side_at r w.sides)
after_at r (Publish set) (Done wanting) w = map_there r _ w.sides
after_at r (Restart session session0 start) (Done wanting) w = map_there r _ (map cache_gone w.sides) ∙ ap (option_map _) (map_there r cache_gone w.sides) ∙ twice _ _ (side_at r w.sides)
after_at r event outcome w = sym (option_map_id (side_at r w.sides))
