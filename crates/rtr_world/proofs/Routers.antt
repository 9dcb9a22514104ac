-- There are always as many routers.
use Rattle.rtr_world.proofs.Words.{◌≡◌, ℕ, ◌<◌, List, [], ◌∷◌, length, Option, Some, None, refl, ap, ◌∙◌, subst, arith, zero, suc, length-map, AllByRecursion}
use Rattle.rtr_world.specs.History.{Outcome, Done, Memory, Entry, Made, Leads, after, side_at}
use Rattle.rtr_world.specs.World.{World, Side, Event, Publish, Restart, On, goes_through, is_refused, new_sides, on_side, settled}
use Rattle.rtr_world.proofs.EventCalls.{leads_keep}

on_length : (r : ℕ) (f : Side → Side) (sides : List Side) → length (on_side r f sides) ≡ length sides
on_length r f [] = refl
on_length zero f (s ∷ sides) = refl
on_length (suc r) f (s ∷ sides) = ap suc (on_length r f sides)

new_length : (routers : ℕ) → length (new_sides routers) ≡ routers
new_length zero = refl
new_length (suc routers) = ap suc (new_length routers)

after_length : (event : Event) (outcome : Outcome) (w : World) → length (after event outcome w).sides ≡ length w.sides
unfolding settled goes_through is_refused
after_length (Publish set) (Done wanting) w = length-map w.sides _
after_length (Restart session session0 start) (Done wanting) w = length-map _ _ ∙ length-map w.sides _
after_length (On r event) (Done wanting) w = length-map _ _ ∙ on_length r _ w.sides
after_length (On r event) (Memory bytes wanting) w = length-map _ _ ∙ on_length r _ w.sides
after_length _ _ w = refl

pub routers_stay : (made : Made) (history : List Entry) (w : World) → Leads made history w → length w.sides ≡ made.routers
routers_stay made history w leads =
    leads_keep (λ x. length x.sides ≡ made.routers) (λ event outcome x fits may h. after_length event outcome x ∙ h) _ history w leads.1 (new_length made.routers)

-- A side that is found is there, and a side that is there is found.
pub low_of : (r : ℕ) (sides : List Side) (s : Side) → side_at r sides ≡ Some s → r < length sides
low_of r [] s e = absurd (let k : ◌≡◌ {A = Option Side} None (Some s) = e in cc)
low_of zero (x ∷ sides) s e = omega arith
low_of (suc r) (x ∷ sides) s e = let low = low_of r sides s e in omega (arith, low)

pub low_in : (made : Made) (history : List Entry) (r : ℕ) (w : World) → Leads made history w → (s : Side) → side_at r w.sides ≡ Some s → r < made.routers
low_in made history r w leads s found = let low = low_of r w.sides s found in let size = routers_stay made history w leads in omega (arith, low, size)

pub side_in : (r : ℕ) (sides : List Side) → r < length sides → (s : Side) × (side_at r sides ≡ Some s)
side_in r [] low = absurd (omega (arith, low))
side_in zero (s ∷ sides) low = (s, refl)
side_in (suc r) (s ∷ sides) low = side_in r sides (omega (arith, low))

-- what holds of each
pub each_at : (P : Side → Type 0) (r : ℕ) (sides : List Side) (s : Side) → AllByRecursion P sides → side_at r sides ≡ Some s → P s
each_at P r [] s h e = absurd (let k : ◌≡◌ {A = Option Side} None (Some s) = e in cc)
each_at P zero (x ∷ sides) s h e = let same : x ≡ s = cc in subst P same h.0
each_at P (suc r) (x ∷ sides) s h e = each_at P r sides s h.1 e
