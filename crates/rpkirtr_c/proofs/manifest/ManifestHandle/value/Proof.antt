-- `value` lends the block, and the handle ends with the last value in it.
use Rattle.std.proofs.Common.{◌≡◌, ℕ, List, [], ◌∷◌, refl, ap, false}
use Rattle.std.specs.Prelude.{Some, is_none}
use seplogic.Ra.Ura.{Ura}
use base.Fraction.{full_share}
use mir.Syntax.{Fn, named}
use mir.Val.{Val, vptr}
use base.Logic.{SProp, ent, sep, id⊢}
use base.Fml.{GName, Fml, ftrue, fsep, flft}
use prog.Wp.{Env}
use contract.Monad.{fact}
use contract.Running.{tables}
use types.Logic.{Logic, sem}
use types.Kit.{‵, raw, ◌⊛◌, some, later, at_ret, ◌$◌, ◌∵◌, !, qed, done, move, keep, use1, split, split3, join, rewrite, fsplit, fsplit3, fjoin, fpack, pick, await, suffices, frame, group}
use types.Part.{sub, whole, look_in}
use types.Run.{stop, fld, load, addr, of_opd, first, blocks, exec, returns, enter}
use types.ByLocal.{alloc_all, pass_all, free_all, look_at, get, through, sets, sets_last, env}
use denote.RattleType.{RattleType}
use denote.Follow.{follows, Part, lends_Part}
use denote.Memory.{mem, cell_at, part_at, part_of}
use denote.RawPtr.{block_ptr}
use denote.Ref.{MutRef, mut_vals, mut_Tells}
use denote.Signature.{plain, mut_ref_to}
use denote.Steps.{nothing, opens, heard}
use denote.Triple.Walked.{Stays, stay_dropped, Goes-spent_ref, walk_of, says, ends_at}
use Rattle.core.proofs.alloc.Calls.{token}
use Rattle.std_alloc.proofs.BoxSteps.Form.{Bx, X, D, B, R, τ, word, handle as handled}
use Rattle.std_alloc.proofs.BoxSteps.Steps.{box_out, box_in}
use Rattle.std_alloc.proofs.VecSteps.Shapes.{after}
use Rattle.std_alloc.specs.Box.Ownership.{box_owns}
use Rattle.std.proofs.raw_atomic.Walks.{proved}
use mir.Raw.{raw as bare}
use Rattle.std.specs.contracts.alloc.Global as heap
use Rattle.std.proofs.alloc.Global.TheLaws as heap_laws
use Rattle.std.specs.contracts.impls.GlobalAllocator.TheImpl as heap_impl
use Rattle.rpkirtr_c.specs.contracts.contents.Contents as held
use Rattle.rpkirtr_c.proofs.contents.Contents.TheLaws as held_laws
use Rattle.rpkirtr_c.specs.Held.{held as held_at, is_live}
use Rattle.rpkirtr_c.proofs.Handles.{live_owns, owns_live, the, the_is}
use Rattle.rpkirtr_c.specs.contracts.manifest.ManifestHandle as handle
use Rattle.rpkirtr_c.specs.contracts.manifest.ManifestHandle.value.{ended, clauses}
use Rattle.rpkirtr_c.specs.contracts.manifest.ManifestHandle.value.Key.{name as #self}
use Rattle.rpkirtr_c.proofs.manifest.ManifestHandle.value.Statement.{statement}
use Rattle.rpkirtr_c.proofs.manifest.ManifestHandle.value.Code as code

abbrev E : Bx
E = record { row = held.the_row; laws = held_laws.the_row_laws; al = record { row = heap.the_row; laws = heap_laws.the_row_laws; g = heap_impl.ghosts; d = heap_impl.dict; drops = heap_impl.dict } }

abbrev From : RattleType
From = handle.the_row

module _ {M : Type 1} {𝓤 : Ura M} (𝓛 : Logic 𝓤) (v : From.Denot) (b o pb po : ℕ) (h : Val) where
  -- all of the handle but its value
  abbrev Rest : Fml
  Rest = fsep (fsep (token E.al v.alloc (bare (τ E)) (block_ptr pb po)) (handled E v.alloc h)) (cell_at full_share From.mir (word E h pb po ∷ []) b o)

  abbrev with : X E → From.Denot
  with w = record { at = v.at; alloc = v.alloc; value = Some w }

  back : v.at ≡ block_ptr pb po → (w : X E) → ent 𝓤 (sep 𝓤 (sem 𝓛 ((mem held.the_row).own_at w pb po)) (sem 𝓛 Rest)) (sem 𝓛 ((mem From).own_at (with w) b o))
  unfolding part_of
  back e w =
      let Block : X E → Fml = λ x. box_owns (token E.al v.alloc) (R E) v.at x in let d : D E = record { ptr = v.at; alloc = v.alloc; value = w } in let m : Val = word E h pb po in
      qed 𝓛 (‵ (part_at (R E) full_share w pb po) ∷ ‵ Rest ∷ []) ∵ move ! (1 ∷ []) $ fsplit ! $ fsplit ! $ move ! (3 ∷ []) $
      box_in E ! d pb po w e refl $ fsplit ! $ move ! (1 ∷ []) $ use1 𝓛 (‵ (held_at v.at (Some w) Block)) (owns_live 𝓛 v.at w Block (ap is_live e)) $ move ! (1 ∷ []) $ fjoin ! $
      use1 𝓛 (‵ (From.own_val (with w) (m ∷ []))) (id⊢ 𝓤 _) $ move ! (1 ∷ 0 ∷ []) $ fjoin ! $
      fpack ! (List Val) (λ us. fsep (cell_at full_share From.mir us b o) (From.own_val (with w) us)) (m ∷ []) $ done !

pub value_spec : {M : Type 1} → statement M
value_spec 𝓤 𝓛 𝓜 𝓡 wired =
    let H = 𝓛.H in let En = ended in let c = clauses 𝓛 𝓜.mem 𝓡.returns in let fn : Fn = code.function in let 𝓣 = tables 𝓤 H 𝓜 𝓡 𝓡.env in
    let hs : Stays En.signature.params En.kept = (stay_dropped (mut_ref_to (0 ∷ []) tt (plain (λ _. From))) En.kept.0, tt) in
    proved 𝓛 En hs c 𝓜 𝓡 (Goes-spent_ref 𝓛 1 (0 ∷ []) tt (plain (λ _. From)), tt) #self fn (code.unfolded 𝓤 H 𝓜 𝓡 wired)
    (λ κs. (mut_vals, tt)) (λ κs. (mut_Tells (named 0) κs.0 From, tt)) (λ κs qs bounds a g are.
    let κ = κs.0 in let q = qs.0 in let r = a.0 in let b = r.ref_ptr.0 in let o = r.ref_ptr.1 in let γ = r.ghost_name in let v = r.now in
    let y : (walk_of 𝓛 En hs c).Ghost = ((κs, qs, bounds, a, (mut_vals r, tt)), tt) in let Post : Val → SProp 𝓤 = (walk_of 𝓛 En hs c).post y in
    let Block : X E → Fml = λ x. box_owns (token E.al v.alloc) (R E) v.at x in
    qed 𝓛 (((‵ (flft κ q) ⊛ ‵ ftrue) ⊛ ‵ ((MutRef (named 0) κ From).own_val r (mut_vals r)) ⊛ ‵ ftrue) ∷ raw (fact 𝓤 (is_none v.value ≡ false)) ∷ []) ∵ move ! (1 ∷ []) $ heard ! (is_none v.value ≡ false) (λ on. split ! $ split ! $ move ! (2 ∷ []) $ split ! $ keep ! (0 ∷ 2 ∷ []) $
    enter ! _ _ _ _ _ $ alloc_all ! (λ l. pass_all ! refl ((tt, tt), tt) $
    fsplit3 ! $ move ! (1 ∷ 2 ∷ 3 ∷ []) $ opens ! tt From b o (λ vs. move ! (1 ∷ []) $
    use1 𝓛 (‵ (From.own_val v vs)) (id⊢ 𝓤 _) $ fsplit ! $ move ! (1 ∷ []) $
    use1 𝓛 (‵ (Block (the v.value on))) (live_owns 𝓛 v.at v.value Block on) $ move ! (1 ∷ []) $ fjoin ! $
    let x : X E = the v.value on in let d : D E = record { ptr = v.at; alloc = v.alloc; value = x } in
    use1 𝓛 (‵ ((B E).own_val d vs)) (id⊢ 𝓤 _) $ box_out E ! d vs (λ pb po h e ws fits. move ! (1 ∷ 2 ∷ []) $ fjoin ! $ move ! (1 ∷ []) $
    -- [the value; the rest of the block; the cell; the open borrow; its two names]
    rewrite ! 2 (λ (us : List Val). ‵ (cell_at full_share From.mir us b o)) ws refl $
    let En' : Env 𝓤 H = env fn.locals l in let rest = Rest 𝓛 v b o pb po h in let F = with 𝓛 v b o pb po h in
    first ! $ blocks ! $
    sets ! (of_opd ! (load ! (through ! refl (fld ! refl (stop !))) (look_in ! 2 (sub ! 0 refl (whole !))))) refl (tt, tt) $
    sets ! (of_opd ! (get ! refl)) refl (tt, tt) $ sets_last ! (addr ! (through ! refl (stop !))) refl (tt, tt) $
    exec ! 𝓣.C 𝓣.Λ En' (after 1 fn.body) (at_ret En' Post) $ sets ! (of_opd ! (get ! refl)) refl (tt, tt) $
    move ! (1 ∷ 2 ∷ []) $ fjoin ! $ move ! (2 ∷ 3 ∷ 4 ∷ 1 ∷ 0 ∷ []) $ group ! 5 $
    use1 𝓛 (later (some (λ (γ' : GName). raw (Part 𝓛 From held.the_row F (named 0) κ q b o pb po γ (sem 𝓛 rest) (back 𝓛 v b o pb po h e) x γ'))))
    (lends_Part 𝓛 From held.the_row F (named 0) κ q b o pb po γ (sem 𝓛 rest) (back 𝓛 v b o pb po h e) (From.coded.code v) (From.coded.code v) x) $ await ! tt $ pick ! (λ γ'.
    returns ! (look_at ! 0 refl) $ free_all ! refl $ keep ! (0 ∷ []) $
    use1 𝓛 (‵ ((MutRef (named 0) κ held.the_row).own_val (record { ref_ptr = (pb, po); ghost_name = γ'; now = x }) (vptr pb po ∷ [])) ⊛ ‵ (flft κ q) ⊛ ‵ (follows From held.the_row γ γ' F)) (id⊢ 𝓤 _) $ split3 ! $
    suffices ! _ (ends_at 𝓛 En hs c y (vptr pb po) (record { ref_ptr = (pb, po); ghost_name = γ'; now = x }) (tt, tt) (tt, tt)) $
    nothing ! $ nothing ! $ fjoin ! $ join ! $ nothing ! $ move ! (2 ∷ 0 ∷ []) $ join ! $ join ! $ frame ! $ says ! (the_is v.value on) $ done !))))))
