-- `looked` tests the address, and hands on what the struct owns.
use Rattle.std.proofs.Common.{◌≡◌, List, [], ◌∷◌, ◌++◌, refl, ap, ◌∙◌, subst, Bool, true, not, ◌&&◌}
use Rattle.std.specs.Prelude.{is_none}
use mir.Syntax.{Fn, ty_ptr}
use mir.Val.{Val, vbool, vstruct, vnil, vcons, of_list, has_ty, WT}
use lib.Dec.{T}
use base.Logic.{SProp, emp, id⊢, via, snd∗, guard_i}
use base.Fml.{Fml, ftrue, feq, fsep}
use prog.Wp.{WpFn}
use contract.Monad.{fact, fact_i, fact_use}
use contract.Running.{tables}
use types.Logic.{sem}
use types.Kit.{‵, raw, ◌⊛◌, given, prop, ◌$◌, ◌∵◌, !, qed, by, move, drop, use0, use1, split, learn, regoal, fsplit, fjoin, fpick, fpack, feq_l, feq_i}
use types.Part.{agg, sub, whole}
use types.Run.{stop, fld, bin, lit, of_opd, no_more, and_then, returns, enter}
use types.ByLocal.{alloc_all, pass_all, free_all, look_at, get, get_in, is, sets}
use denote.RattleType.{owns, Valss}
use denote.Builtin.{bool}
use denote.RawPtr.{RawPtr, ptr_val, Testable, tests_null}
use denote.Signature.{types_at, plain}
use denote.Steps.{nothing}
use denote.Struct.Struct.{within}
use denote.Struct.Owning.{shape, to}
use denote.Triple.Entry.{alive}
use denote.Triple.Walked.{Stays, stay_dropped, walk_of}
use Rattle.core.proofs.alloc.Calls.{Goes-blank, handle_tells, token, α}
use denote.Memory.{lone}
use Rattle.std_alloc.proofs.BoxSteps.Form.{Bx, X, R, τ}
use Rattle.std_alloc.specs.Box.Ownership.{box_owns}
use Rattle.std_alloc.proofs.ResultValues.{and_tt}
use Rattle.std.proofs.raw_atomic.Walks.{proved_at, leaves}
use Rattle.std.specs.contracts.alloc.Global as heap
use Rattle.std.proofs.alloc.Global.TheLaws as heap_laws
use Rattle.std.specs.contracts.impls.GlobalAllocator.TheImpl as heap_impl
use Rattle.rpkirtr_c.specs.contracts.judge.SharedJudge as held
use Rattle.rpkirtr_c.proofs.judge.SharedJudge.TheLaws as held_laws
use Rattle.rpkirtr_c.specs.Held.{held as held_at, is_live}
use Rattle.rpkirtr_c.specs.contracts.index.IndexHandle as handle
use denote.Struct.Tuple.{Tuple}
use denote.Plain.{bool_Makes}
use denote.Steps.{owned}
use Rattle.std.proofs.GlobalToken.{dealloc_token-Testable}
use mir.Raw.{raw as bare}
use Rattle.core.specs.Ptr.{points_to}
use Rattle.rpkirtr_c.proofs.Handles.{both, held_tests, tests, typed}
use Rattle.rpkirtr_c.specs.contracts.index.IndexHandle.looked.{ended, clauses}
use Rattle.rpkirtr_c.specs.contracts.index.IndexHandle.looked.Key.{name as #self}
use Rattle.rpkirtr_c.proofs.index.IndexHandle.looked.Statement.{statement}
use Rattle.rpkirtr_c.proofs.index.IndexHandle.looked.Code as code

abbrev E : Bx
E = record { row = held.the_row; laws = held_laws.the_row_laws; al = record { row = heap.the_row; laws = heap_laws.the_row_laws; g = heap_impl.ghosts; d = heap_impl.dict; drops = heap_impl.dict } }

pub looked_spec : {M : Type 1} → statement M
looked_spec 𝓤 𝓛 𝓜 𝓡 wired =
    let H = 𝓛.H in let En = ended in let c = clauses 𝓛 𝓜.mem 𝓡.returns in let fn : Fn = code.function in let 𝓣 = tables 𝓤 H 𝓜 𝓡 𝓡.env in
    let From = handle.the_row in
    let hs : Stays En.signature.params En.kept = (stay_dropped (plain (λ _. From)) En.kept.0, tt) in
    proved_at 𝓛 En hs c 𝓜 𝓡 (Goes-blank 𝓛 0 (plain (λ _. From)) En.kept.0 (λ κs x f. tt), tt) #self fn (code.unfolded 𝓤 H 𝓜 𝓡 wired) (λ z are.
    let Post : Val → SProp 𝓤 = (walk_of 𝓛 En hs c).post z in let v = z.0.3.0 in
    qed 𝓛 ((raw (alive 𝓛 En.signature z.0.0 z.0.1) ⊛ ‵ (owns (types_at En.signature.params z.0.0) z.0.3 z.0.4)) ∷ ‵ ftrue ∷ []) ∵ move ! (1 ∷ []) $ drop ! $ split ! $ move ! (1 ∷ []) $ fsplit ! $ move ! (1 ∷ []) $ drop ! $
    let Block : X E → Fml = λ x. box_owns (token E.al v.alloc) (R E) v.at x in let Learned = Testable v.at × (not (is_live v.at) ≡ is_none v.value) in
    use1 𝓛 (‵ (From.own_val v z.0.4.0)) (id⊢ 𝓤 _) $ fsplit ! $ move ! (1 ∷ []) $
    use1 𝓛 (given Learned (‵ (held_at v.at v.value Block)))
    (fact_use 𝓤 Learned (held_tests 𝓛 v.at v.value Block (λ x. via 𝓤 (sem 𝓛 (token E.al v.alloc (bare (τ E)) v.at)) (snd∗ 𝓤 (sem 𝓛 (points_to (R E) v.at x)) (sem 𝓛 (token E.al v.alloc (bare (τ E)) v.at))) (dealloc_token-Testable 𝓛 v.alloc (bare (τ E)) v.at)))
    (λ p. guard_i 𝓤 Learned (sem 𝓛 (held_at v.at v.value Block)) p)) $ learn ! (λ may. move ! (1 ∷ []) $
    fpick ! (λ vss. fsplit ! $ feq_l ! (λ ev. fsplit ! $ feq_l ! (λ ep. fsplit ! $ handle_tells E.al ! v.alloc vss.1.0 (λ h eh fits. move ! (1 ∷ []) $ drop ! $
    let p = ptr_val v.at in let w : Val = vstruct (vcons p (vcons h vnil)) in let y : Bool = is_none v.value in let u : Val = vstruct (vcons w (vcons (vbool y) vnil)) in
    let ws : z.0.4.0 ≡ w ∷ [] = subst (λ (us : List Val). z.0.4.0 ≡ vstruct (of_list (p ∷ (us ++ []))) ∷ []) eh (subst (λ (ps : List Val). z.0.4.0 ≡ vstruct (of_list (ps ++ (vss.1.0 ++ []))) ∷ []) ep ev) in
    let good = typed v.at in
    let τh = lone (handle.the_row).mir in let fine : T (has_ty τh w) × WT w = (both (has_ty ty_ptr p) (has_ty (α E.al) h && true) good.0 (and_tt (has_ty (α E.al) h) fits.0), (good.1, (fits.1, tt))) in
    regoal ! (λ (us : List Val). prop (WpFn 𝓤 H 𝓣.C 𝓣.Λ fn (us ++ []) Post)) ws refl $
    enter ! 𝓣.C 𝓣.Λ fn (w ∷ []) Post $ alloc_all ! (λ l. pass_all ! refl (fine, tt) $
    sets ! (of_opd ! (get_in ! (fld ! refl (stop !)) (sub ! 0 refl (whole !)))) refl good $ sets ! (of_opd ! (get_in ! (fld ! refl (stop !)) (sub ! 1 refl (whole !)))) refl fits $
    sets ! (is ! (bin ! (get ! refl) (lit ! tt) (tests_null v.at may.0)) (tests v.at ∙ ap vbool may.1)) refl (tt, tt) $
    sets ! (agg ! (and_then ! (get ! refl) (and_then ! (get ! refl) (no_more !)))) refl fine $
    sets ! (agg ! (and_then ! (get ! refl) (and_then ! (get ! refl) (no_more !)))) refl (and_tt (has_ty τh w) fine.0, (fine.1, (tt, tt))) $
    returns ! (look_at ! 0 refl) $ free_all ! refl $
    nothing ! $ move ! (1 ∷ 0 ∷ []) $ fjoin ! $ feq_i ! (List Val) (ptr_val v.at ∷ []) (ptr_val v.at ∷ []) refl $ fjoin ! $
    feq_i ! (List Val) (w ∷ []) (w ∷ []) refl $ fjoin ! $
    fpack ! (Valss (RawPtr ∷ heap.the_row ∷ [])) (within (shape handle.the_type) (to handle.the_type v) (w ∷ [])) (ptr_val v.at ∷ [], (h ∷ [], tt)) $ fjoin ! $
    use1 𝓛 (‵ ((handle.the_row).own_val v (w ∷ []))) (id⊢ 𝓤 _) $
    nothing ! $ owned ! bool _ (bool_Makes 𝓛) y (vbool y ∷ []) refl $ fjoin ! $ move ! (1 ∷ 0 ∷ []) $ fjoin ! $ feq_i ! (List Val) (u ∷ []) (u ∷ []) refl $ fjoin ! $
    fpack ! (Valss (handle.the_row ∷ bool ∷ [])) (λ vss. fsep (feq (List Val) (u ∷ []) (vstruct (of_list (vss.0 ++ (vss.1.0 ++ []))) ∷ [])) (fsep ((handle.the_row).own_val v vss.0) (fsep (bool.own_val y vss.1.0) ftrue))) (w ∷ [], (vbool y ∷ [], tt)) $
    use1 𝓛 (‵ ((Tuple (handle.the_row ∷ bool ∷ [])).own_val (v, y) (u ∷ []))) (id⊢ 𝓤 _) $
    let Says = (v ≡ v) × (y ≡ is_none v.value) in
    use0 𝓛 (raw (fact 𝓤 Says)) (fact_i 𝓤 Says (emp 𝓤) (refl, refl)) $ nothing ! $ nothing ! $ fjoin ! $ move ! (3 ∷ 0 ∷ 2 ∷ 1 ∷ []) $
    by ! (leaves 𝓛 En hs c z u (v, y) (tt, tt) (tt, tt)))))))))
