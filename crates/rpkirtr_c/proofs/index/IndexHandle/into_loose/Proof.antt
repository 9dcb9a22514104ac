-- `into_loose` hands on what the struct owns: both own the same, at one layout.
use Rattle.std.proofs.Common.{◌≡◌, List, [], ◌∷◌, ◌++◌, refl, false}
use Rattle.std.specs.Prelude.{Some, is_none}
use mir.Syntax.{Fn}
use mir.Val.{Val}
use base.Logic.{SProp, emp, id⊢}
use base.Fml.{Fml}
use prog.Wp.{WpFn}
use contract.Monad.{fact, fact_i}
use contract.Running.{tables}
use types.Kit.{‵, raw, ◌⊛◌, prop, ◌$◌, ◌∵◌, !, qed, by, move, drop, use0, use1, split, regoal, fsplit, fjoin}
use types.Part.{agg, sub, whole}
use types.Run.{stop, fld, of_opd, no_more, and_then, returns, enter}
use types.ByLocal.{alloc_all, pass_all, free_all, look_at, get, get_in, sets}
use denote.RattleType.{owns}
use denote.Signature.{types_at, plain}
use denote.Steps.{nothing, heard}
use denote.Triple.Entry.{alive}
use denote.Triple.Walked.{Stays, stay_dropped, walk_of}
use Rattle.core.proofs.alloc.Calls.{Goes-blank, token}
use Rattle.std_alloc.specs.Box.Ownership.{box_owns}
use Rattle.std_alloc.proofs.BoxSteps.Form.{Bx, X, D, B, R, word, box_typed}
use Rattle.std_alloc.proofs.BoxSteps.Steps.{box_out, box_in}
use Rattle.std.proofs.raw_atomic.Walks.{proved_at, leaves}
use Rattle.std.specs.contracts.alloc.Global as heap
use Rattle.std.proofs.alloc.Global.TheLaws as heap_laws
use Rattle.std.specs.contracts.impls.GlobalAllocator.TheImpl as heap_impl
use Rattle.rpkirtr_c.specs.contracts.judge.SharedJudge as held
use Rattle.rpkirtr_c.proofs.judge.SharedJudge.TheLaws as held_laws
use Rattle.rpkirtr_c.proofs.Handles.{live_owns, the, the_is}
use Rattle.rpkirtr_c.specs.contracts.loose.Loose as loose
use Rattle.rpkirtr_c.specs.contracts.index.IndexHandle as handle
use Rattle.rpkirtr_c.specs.contracts.index.IndexHandle.into_loose.{ended, clauses}
use Rattle.rpkirtr_c.specs.contracts.index.IndexHandle.into_loose.Key.{name as #self}
use Rattle.rpkirtr_c.proofs.index.IndexHandle.into_loose.Statement.{statement}
use Rattle.rpkirtr_c.proofs.index.IndexHandle.into_loose.Code as code

abbrev E : Bx
E = record { row = held.the_row; laws = held_laws.the_row_laws; al = record { row = heap.the_row; laws = heap_laws.the_row_laws; g = heap_impl.ghosts; d = heap_impl.dict; drops = heap_impl.dict } }

pub into_loose_spec : {M : Type 1} → statement M
into_loose_spec 𝓤 𝓛 𝓜 𝓡 wired =
    let H = 𝓛.H in let En = ended in let c = clauses 𝓛 𝓜.mem 𝓡.returns in let fn : Fn = code.function in let 𝓣 = tables 𝓤 H 𝓜 𝓡 𝓡.env in
    let From = handle.the_row in let To = loose.the_row held.the_row heap.the_row heap_impl.ghosts in
    let hs : Stays En.signature.params En.kept = (stay_dropped (plain (λ _. From)) En.kept.0, tt) in
    proved_at 𝓛 En hs c 𝓜 𝓡 (Goes-blank 𝓛 0 (plain (λ _. From)) En.kept.0 (λ κs x f. tt), tt) #self fn (code.unfolded 𝓤 H 𝓜 𝓡 wired) (λ z are.
    let Post : Val → SProp 𝓤 = (walk_of 𝓛 En hs c).post z in let v = z.0.3.0 in
    let Block : X E → Fml = λ x. box_owns (token E.al v.alloc) (R E) v.at x in
    qed 𝓛 ((raw (alive 𝓛 En.signature z.0.0 z.0.1) ⊛ ‵ (owns (types_at En.signature.params z.0.0) z.0.3 z.0.4)) ∷ raw (fact 𝓤 (is_none v.value ≡ false)) ∷ []) ∵ move ! (1 ∷ []) $ heard ! (is_none v.value ≡ false) (λ on. split ! $ move ! (1 ∷ []) $ fsplit ! $ move ! (1 ∷ []) $ drop ! $
    use1 𝓛 (‵ ((handle.the_row).own_val v z.0.4.0)) (id⊢ 𝓤 _) $ fsplit ! $ move ! (1 ∷ []) $ use1 𝓛 (‵ (Block (the v.value on))) (live_owns 𝓛 v.at v.value Block on) $ move ! (1 ∷ []) $ fjoin ! $
    let x : X E = the v.value on in
    let d : D E = record { ptr = v.at; alloc = v.alloc; value = x } in let made : To.Denot = record { at = v.at; alloc = v.alloc; value = x } in
    let Says = Some x ≡ v.value in
    use1 𝓛 (‵ ((B E).own_val d z.0.4.0)) (id⊢ 𝓤 _) $
    box_out E ! d z.0.4.0 (λ b o h e ws fits. box_in E ! d b o x e refl $
    let w : Val = word E h b o in let typed = box_typed E h b o fits in
    regoal ! (λ (us : List Val). prop (WpFn 𝓤 H 𝓣.C 𝓣.Λ fn (us ++ []) Post)) ws refl $
    enter ! 𝓣.C 𝓣.Λ fn (w ∷ []) Post $ alloc_all ! (λ l. pass_all ! refl (typed, tt) $
    sets ! (of_opd ! (get_in ! (fld ! refl (stop !)) (sub ! 0 refl (whole !)))) refl (tt, tt) $ sets ! (of_opd ! (get_in ! (fld ! refl (stop !)) (sub ! 1 refl (whole !)))) refl fits $
    sets ! (of_opd ! (get ! refl)) refl (tt, tt) $ sets ! (agg ! (and_then ! (get ! refl) (and_then ! (get ! refl) (no_more !)))) refl typed $
    returns ! (look_at ! 0 refl) $ free_all ! refl $ use1 𝓛 (‵ (To.own_val made (w ∷ []))) (id⊢ 𝓤 _) $
    use0 𝓛 (raw (fact 𝓤 Says)) (fact_i 𝓤 Says (emp 𝓤) (the_is v.value on)) $ nothing ! $ nothing ! $ fjoin ! $ move ! (3 ∷ 0 ∷ 2 ∷ 1 ∷ []) $
    by ! (leaves 𝓛 En hs c z w made (tt, tt) (tt, tt))))))
