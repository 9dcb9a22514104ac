-- What a call does with a handle's value. A live handle has one value, and an empty one has none.
use Rattle.std.specs.Prelude.{◌≡◌, ℤ, Option, Some, None}
use Rattle.rpkirtr_c.specs.Answers.{number}
use Rattle.rpkirtr_c.specs.declared.call_status.CallStatus.TheVariants.{Done, Empty, Live, NoMemory}

-- An empty handle stays empty, and is answered so. A live handle stays live, and its value makes this step.
abbrev pub On : {X : Type 0} → Option X → Option X → ℤ → (X → X → Type 0) → Type 0
On None None answer Step = answer ≡ number Empty
On (Some s) (Some t) answer Step = Step s t
On None (Some t) answer Step = ⊥
On (Some s) None answer Step = ⊥

-- A value is made in an empty handle, unless memory ran out. A live handle stays as it is, and is answered so.
abbrev pub New : {X : Type 0} → Option X → Option X → ℤ → (X → Type 0) → Type 0
New None (Some t) answer Is = (answer ≡ number Done) × Is t
New None None answer Is = answer ≡ number NoMemory
New (Some s) (Some t) answer Is = (answer ≡ number Live) × (t ≡ s)
New (Some s) None answer Is = ⊥

-- The value of a live handle is freed. The handle is empty then, as it was if it was empty, which is answered so.
abbrev pub Freed : {X : Type 0} → Option X → Option X → ℤ → Type 0
Freed None None answer = answer ≡ number Empty
Freed (Some s) None answer = answer ≡ number Done
Freed None (Some t) answer = ⊥
Freed (Some s) (Some t) answer = ⊥
