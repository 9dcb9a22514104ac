-- `is_empty` tests the address, and leaves the handle as it is.
use Rattle.std.proofs.Common.{◌≡◌, List, [], ◌∷◌, ◌++◌, refl, ap, ◌∙◌, subst, Bool, not}
use Rattle.std.specs.Prelude.{is_none}
use base.Fraction.{full_share}
use mir.Syntax.{Fn, named}
use mir.Val.{Val, vbool, vstruct, vnil, vcons, of_list}
use base.Logic.{SProp, id⊢, via, snd∗, guard_i}
use base.Fml.{Fml, ftrue, flft}
use contract.Monad.{fact_use}
use contract.Running.{tables}
use types.Logic.{sem}
use types.Kit.{‵, ◌⊛◌, given, ◌$◌, ◌∵◌, !, qed, done, move, keep, drop, use1, split, join, learn, rewrite, fsplit, fsplit3, fjoin, fpick, fpack, feq_l, feq_i, suffices, frame, group}
use types.Part.{sub, whole, look_in}
use types.Run.{stop, fld, bin, lit, load, of_opd, returns, enter}
use types.ByLocal.{alloc_all, pass_all, free_all, look_at, get, through, is, sets}
use denote.RattleType.{RattleType, Valss}
use denote.Builtin.{bool}
use denote.Memory.{cell_at}
use denote.Plain.{bool_Makes}
use denote.RawPtr.{RawPtr, Testable, ptr_val, tests_null}
use denote.Ref.{MutRef, mut_vals, mut_Tells}
use denote.Signature.{plain}
use denote.Steps.{nothing, owned, opens, closes}
use denote.Struct.Struct.{within}
use denote.Struct.Owning.{shape, to}
use denote.Triple.Walked.{Stays, stay_ref, Goes-ref, walk_of, says, ends_at}
use Rattle.core.specs.Ptr.{points_to}
use Rattle.core.proofs.alloc.Calls.{token, handle_tells}
use Rattle.std_alloc.proofs.BoxSteps.Form.{Bx, X, R, τ}
use Rattle.std_alloc.specs.Box.Ownership.{box_owns}
use Rattle.std.proofs.GlobalToken.{dealloc_token-Testable}
use Rattle.std.proofs.raw_atomic.Walks.{proved}
use mir.Raw.{raw as bare}
use Rattle.std.specs.contracts.alloc.Global as heap
use Rattle.std.proofs.alloc.Global.TheLaws as heap_laws
use Rattle.std.specs.contracts.impls.GlobalAllocator.TheImpl as heap_impl
use Rattle.rpkirtr_c.specs.contracts.contents.Contents as held
use Rattle.rpkirtr_c.proofs.contents.Contents.TheLaws as held_laws
use Rattle.rpkirtr_c.specs.Held.{held as held_at, is_live}
use Rattle.rpkirtr_c.proofs.Handles.{held_tests, tests, typed}
use Rattle.rpkirtr_c.specs.contracts.manifest.ManifestHandle as handle
use Rattle.rpkirtr_c.specs.contracts.manifest.ManifestHandle.is_empty.{ended, clauses}
use Rattle.rpkirtr_c.specs.contracts.manifest.ManifestHandle.is_empty.Key.{name as #self}
use Rattle.rpkirtr_c.proofs.manifest.ManifestHandle.is_empty.Statement.{statement}
use Rattle.rpkirtr_c.proofs.manifest.ManifestHandle.is_empty.Code as code

abbrev E : Bx
E = record { row = held.the_row; laws = held_laws.the_row_laws; al = record { row = heap.the_row; laws = heap_laws.the_row_laws; g = heap_impl.ghosts; d = heap_impl.dict; drops = heap_impl.dict } }

abbrev From : RattleType
From = handle.the_row

pub is_empty_spec : {M : Type 1} → statement M
is_empty_spec 𝓤 𝓛 𝓜 𝓡 wired =
    let H = 𝓛.H in let En = ended in let c = clauses 𝓛 𝓜.mem 𝓡.returns in let fn : Fn = code.function in let 𝓣 = tables 𝓤 H 𝓜 𝓡 𝓡.env in
    let hs : Stays En.signature.params En.kept = (stay_ref (0 ∷ []) tt (plain (λ _. From)), tt) in
    proved 𝓛 En hs c 𝓜 𝓡 (Goes-ref 𝓛 1 0 tt (plain (λ _. From)), tt) #self fn (code.unfolded 𝓤 H 𝓜 𝓡 wired)
    (λ κs. (mut_vals, tt)) (λ κs. (mut_Tells (named 0) κs.0 From, tt)) (λ κs qs bounds a g are.
    let κ = κs.0 in let q = qs.0 in let r = a.0 in let b = r.ref_ptr.0 in let o = r.ref_ptr.1 in let γ = r.ghost_name in let v = r.now in
    let y : (walk_of 𝓛 En hs c).Ghost = ((κs, qs, bounds, a, (mut_vals r, tt)), tt) in let Post : Val → SProp 𝓤 = (walk_of 𝓛 En hs c).post y in
    let Block : X E → Fml = λ x. box_owns (token E.al v.alloc) (R E) v.at x in
    qed 𝓛 (((‵ (flft κ q) ⊛ ‵ ftrue) ⊛ ‵ ((MutRef (named 0) κ From).own_val r (mut_vals r)) ⊛ ‵ ftrue) ∷ ‵ ftrue ∷ []) ∵ move ! (1 ∷ []) $ drop ! $ split ! $ split ! $ move ! (2 ∷ []) $ split ! $ keep ! (0 ∷ 2 ∷ []) $
    enter ! _ _ _ _ _ $ alloc_all ! (λ l. pass_all ! refl ((tt, tt), tt) $
    fsplit3 ! $ move ! (1 ∷ 2 ∷ 3 ∷ []) $ opens ! tt From b o (λ vs. move ! (1 ∷ []) $
    use1 𝓛 (‵ (From.own_val v vs)) (id⊢ 𝓤 _) $ fsplit ! $ move ! (1 ∷ []) $
    let Learned = Testable v.at × (not (is_live v.at) ≡ is_none v.value) in
    use1 𝓛 (given Learned (‵ (held_at v.at v.value Block)))
    (fact_use 𝓤 Learned (held_tests 𝓛 v.at v.value Block (λ x. via 𝓤 (sem 𝓛 (token E.al v.alloc (bare (τ E)) v.at)) (snd∗ 𝓤 (sem 𝓛 (points_to (R E) v.at x)) (sem 𝓛 (token E.al v.alloc (bare (τ E)) v.at))) (dealloc_token-Testable 𝓛 v.alloc (bare (τ E)) v.at)))
    (λ p. guard_i 𝓤 Learned (sem 𝓛 (held_at v.at v.value Block)) p)) $ learn ! (λ may. move ! (1 ∷ []) $
    fpick ! (λ vss. fsplit ! $ feq_l ! (λ ev. fsplit ! $ feq_l ! (λ ep. fsplit ! $ handle_tells E.al ! v.alloc vss.1.0 (λ h eh fits. move ! (1 ∷ []) $ drop ! $
    let p = ptr_val v.at in let w : Val = vstruct (vcons p (vcons h vnil)) in let t : Bool = is_none v.value in
    let ws : vs ≡ w ∷ [] = subst (λ (us : List Val). vs ≡ vstruct (of_list (p ∷ (us ++ []))) ∷ []) eh (subst (λ (ps : List Val). vs ≡ vstruct (of_list (ps ++ (vss.1.0 ++ []))) ∷ []) ep ev) in
    -- [the allocator; what is held; the cell; the open borrow; its two names]
    rewrite ! 2 (λ (us : List Val). ‵ (cell_at full_share From.mir us b o)) ws refl $
    sets ! (of_opd ! (load ! (through ! refl (fld ! refl (stop !))) (look_in ! 2 (sub ! 0 refl (whole !))))) refl (typed v.at) $
    sets ! (is ! (bin ! (get ! refl) (lit ! tt) (tests_null v.at may.0)) (tests v.at ∙ ap vbool may.1)) refl (tt, tt) $
    nothing ! $ move ! (1 ∷ 0 ∷ []) $ fjoin ! $ feq_i ! (List Val) (ptr_val v.at ∷ []) (ptr_val v.at ∷ []) refl $ fjoin ! $
    feq_i ! (List Val) (w ∷ []) (w ∷ []) refl $ fjoin ! $
    fpack ! (Valss (RawPtr ∷ heap.the_row ∷ [])) (within (shape handle.the_type) (to handle.the_type v) (w ∷ [])) (ptr_val v.at ∷ [], (h ∷ [], tt)) $ fjoin ! $
    use1 𝓛 (‵ ((handle.the_row).own_val v (w ∷ []))) (id⊢ 𝓤 _) $
    move ! (1 ∷ 0 ∷ []) $ closes ! tt From v (w ∷ []) b o $
    returns ! (look_at ! 0 refl) $ free_all ! refl $ keep ! (3 ∷ 0 ∷ 1 ∷ 2 ∷ []) $
    suffices ! _ (ends_at 𝓛 En hs c y (vbool t) t (v, tt) (tt, tt)) $ says ! (refl, refl) $
    group ! 3 $ nothing ! $ move ! (1 ∷ 0 ∷ []) $ join ! $ nothing ! $ move ! (2 ∷ 0 ∷ []) $ join ! $ frame ! $ frame ! $
    owned ! bool _ (bool_Makes 𝓛) t (vbool t ∷ []) refl $ done !))))))))
