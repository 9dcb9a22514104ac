-- What holds of the code's walk after a call.
use Rattle.std.proofs.Common.{◌≡◌, List, ◌++◌, sym, subst, ◌↔◌, arith, vec_len, vec_items}
use Rattle.std.specs.List.{Contains}
use Rattle.std.specs.declared.cmp.Ordering.{Ordering}
use Rattle.prefixes.specs.Payload.{Payload}
use Rattle.authority_walk.specs.Hierarchy.{Hierarchy, HasDeeper, Lists}
use Rattle.authority_walk.specs.Walks.{Has, HasExactly, SetHas, IsWalk, With}
use Rattle.authority_walk.specs.Stands.{Stands, StandsBefore}
use Rattle.authority_walk.specs.declared.walk.Walk.{Walk}
use Rattle.authority_walk.proofs.Having.{has_none, has_added, contains_added}
use Rattle.authority_walk.proofs.Walking.{visited, lists_exactly, deeper_exactly}

-- one that waited was visited
pub taken : {A V : Type 0} (cmp : A → A → Ordering) (value : A → V) (h : Hierarchy V) (by : V) (old new : Walk A) (issued : List A) (vrps : List Payload) → ((x : V) → SetHas cmp value new.visited x ↔ With (SetHas cmp value old.visited) by x)
    → new.below.items ≡ old.below.items ++ issued → new.vrps.items ≡ old.vrps.items ++ vrps → new.waiting ≡ old.waiting → new.depth ≡ old.depth
    → HasExactly value issued (h.Issues by) → ((p : Payload) → Contains vrps p ↔ h.Validates by p) → StandsBefore cmp value h by old → Stands cmp value h new
taken cmp value h by old new issued vrps marks below lists waiting depth finds validates w =
    subst (λ d. IsWalk h d (SetHas cmp value new.visited) (Has value new.waiting.items) (Has value new.below.items) (Contains new.vrps.items)) (sym depth)
    (subst (λ v. IsWalk h old.depth (SetHas cmp value new.visited) (Has value (vec_items v)) (Has value new.below.items) (Contains new.vrps.items)) (sym waiting)
    (visited h old.depth by (SetHas cmp value old.visited) (SetHas cmp value new.visited) (Has value old.waiting.items) (Has value old.below.items) (Has value new.below.items) (Contains old.vrps.items) (Contains new.vrps.items)
    marks (has_added value old.below.items issued new.below.items (h.Issues by) below finds) (contains_added old.vrps.items vrps new.vrps.items (h.Validates by) lists validates) w))

-- nothing changed
pub kept : {A V : Type 0} (cmp : A → A → Ordering) (value : A → V) (h : Hierarchy V) (by : V) (old new : Walk A) → new.visited.keys ≡ old.visited.keys → new.below.items ≡ old.below.items → new.vrps.items ≡ old.vrps.items → new.waiting ≡ old.waiting
    → new.depth ≡ old.depth → StandsBefore cmp value h by old → StandsBefore cmp value h by new
kept cmp value h by old new keys below vrps waiting depth w =
    subst (λ d. IsWalk h d (SetHas cmp value new.visited) (With (Has value new.waiting.items) by) (Has value new.below.items) (Contains new.vrps.items)) (sym depth)
    (subst (λ v. IsWalk h old.depth (SetHas cmp value new.visited) (With (Has value (vec_items v)) by) (Has value new.below.items) (Contains new.vrps.items)) (sym waiting)
    (subst (λ ps. IsWalk h old.depth (SetHas cmp value new.visited) (With (Has value old.waiting.items) by) (Has value new.below.items) (Contains ps)) (sym vrps)
    (subst (λ xs. IsWalk h old.depth (SetHas cmp value new.visited) (With (Has value old.waiting.items) by) (Has value xs) (Contains old.vrps.items)) (sym below)
    (subst (λ ks. IsWalk h old.depth (SetHas cmp value (record { keys = ks })) (With (Has value old.waiting.items) by) (Has value old.below.items) (Contains old.vrps.items)) (sym keys) w))))

-- ---- after all of the last depth were visited

pub lists : {A V : Type 0} (cmp : A → A → Ordering) (value : A → V) (h : Hierarchy V) (walk : Walk A) → Stands cmp value h walk → walk.depth ≡ 32 → vec_len walk.waiting ≡ 0 → Lists h walk.vrps.items
lists cmp value h walk w deep none =
    lists_exactly h walk.depth (SetHas cmp value walk.visited) (Has value walk.waiting.items) (Has value walk.below.items) (Contains walk.vrps.items) w deep (has_none value walk.waiting.items (omega (arith, walk.waiting.ok.0, none)))

pub deeper : {A V : Type 0} (cmp : A → A → Ordering) (value : A → V) (h : Hierarchy V) (walk : Walk A) → Stands cmp value h walk → walk.depth ≡ 32 → vec_len walk.waiting ≡ 0
    → ((x : V) × Has value walk.below.items x × ¬ (SetHas cmp value walk.visited x)) ↔ HasDeeper h
deeper cmp value h walk w deep none =
    deeper_exactly h walk.depth (SetHas cmp value walk.visited) (Has value walk.waiting.items) (Has value walk.below.items) (Contains walk.vrps.items) w deep (has_none value walk.waiting.items (omega (arith, walk.waiting.ok.0, none)))
