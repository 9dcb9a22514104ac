-- What the walks of every handle share: a handle has a value and owns its block, or has none and its address is null.
use Rattle.std.proofs.Common.{◌≡◌, refl, Bool, true, false, not, ◌&&◌, lit<}
use Rattle.std.specs.Prelude.{Option, Some, None, is_none}
use lib.Dec.{T}
use seplogic.Ra.Ura.{Ura}
use mir.Syntax.{ty_ptr, ptr_eq}
use mir.Val.{vbool, vnull, op2_val, has_ty, WT}
use base.Logic.{ent, via, id⊢, never_e}
use base.Fml.{Fml, ftrue}
use types.Logic.{Logic, sem}
use contract.Monad.{fact, fact_i, fact_mono}
use denote.RawPtr.{Ptr, block_ptr, null_ptr, ptr_val, Testable}
use Rattle.rpkirtr_c.specs.Held.{held, is_live}

-- whether an address is null, as the machine tests it
pub tests : (p : Ptr) → op2_val ptr_eq (ptr_val p) vnull ≡ vbool (not (is_live p))
tests (block_ptr b o) = refl
tests null_ptr = refl

pub both : (x y : Bool) → T x → T y → T (x && y)
both true y s t = t
both false y s t = absurd s

pub typed : (p : Ptr) → T (has_ty ty_ptr (ptr_val p)) × WT (ptr_val p)
typed (block_ptr b o) = (tt, tt)
typed null_ptr = (tt, record { fits = lit< tt })

module _ {X : Type 0} where
  -- the value of an option that has one
  pub the : (v : Option X) → is_none v ≡ false → X
  the (Some x) some = x
  the None some = absurd (let e : true ≡ false = some in cc)

  pub the_is : (v : Option X) (some : is_none v ≡ false) → Some (the v some) ≡ v
  unfolding the
  the_is (Some x) some = refl
  the_is None some = absurd (let e : true ≡ false = some in cc)

  pub none_is : (v : Option X) → is_none v ≡ true → v ≡ None
  none_is None empty = refl
  none_is (Some x) empty = absurd (let e : false ≡ true = empty in cc)

  module _ {M : Type 1} {𝓤 : Ura M} (𝓛 : Logic 𝓤) where
    pub live_owns : (p : Ptr) (v : Option X) (F : X → Fml) (some : is_none v ≡ false) → ent 𝓤 (sem 𝓛 (held p v F)) (sem 𝓛 (F (the v some)))
    unfolding the
    live_owns (block_ptr b o) (Some x) F some = id⊢ 𝓤 (sem 𝓛 (F x))
    live_owns null_ptr (Some x) F some = never_e 𝓤 _
    live_owns (block_ptr b o) None F some = absurd (let e : true ≡ false = some in cc)
    live_owns null_ptr None F some = absurd (let e : true ≡ false = some in cc)

    pub owns_live : (p : Ptr) (x : X) (F : X → Fml) → is_live p ≡ true → ent 𝓤 (sem 𝓛 (F x)) (sem 𝓛 (held p (Some x) F))
    owns_live (block_ptr b o) x F on = id⊢ 𝓤 (sem 𝓛 (F x))
    owns_live null_ptr x F on = absurd (let e : false ≡ true = on in cc)

    -- An address whose block shows that it may be tested may be tested, and the test tells whether there is a value.
    pub held_tests : (p : Ptr) (v : Option X) (F : X → Fml) → ((x : X) → ent 𝓤 (sem 𝓛 (F x)) (fact 𝓤 (Testable p)))
        → ent 𝓤 (sem 𝓛 (held p v F)) (fact 𝓤 (Testable p × (not (is_live p) ≡ is_none v)))
    held_tests (block_ptr b o) (Some x) F h = via 𝓤 (fact 𝓤 (Testable (block_ptr b o))) (h x) (fact_mono 𝓤 (Testable (block_ptr b o)) _ (λ may. (may, refl)))
    held_tests (block_ptr b o) None F h = never_e 𝓤 _
    held_tests null_ptr (Some x) F h = never_e 𝓤 _
    held_tests null_ptr None F h = fact_i 𝓤 _ (sem 𝓛 ftrue) (lit< tt, refl)
