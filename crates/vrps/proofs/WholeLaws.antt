-- What a log of whole sets keeps.
use Rattle.std.specs.Prelude.{◌≡◌, ℕ, ◌+◌, ◌%◌, ◌^◌, ◌<◌, ◌≤◌, Bool, true, false, ◌==◌, nat_lt, List, [], ◌∷◌, ◌++◌, length, take, get_or, Option, Some, None, if◌then◌else◌, refl}
use Rattle.std.proofs.Common.{sym, ap, ◌∙◌, subst, arith, zero, suc}
use Rattle.std.specs.Option.{option_map}
use Rattle.std.proofs.lemmas.Bool.Decides.{nat_tests}
use Rattle.std.proofs.lemmas.List.{length-append}
use Rattle.std.proofs.Math.Seq.{take-append_seam}
use Rattle.vrps.specs.Change.{between}
use Rattle.vrps.specs.Instance.{Instance, NumberedSet, versions_from, with_serial}
use Rattle.vrps.specs.Wholes.{HoldsSets, IsBehind}
use Rattle.vrps.specs.Serial.{serial_at}
use Rattle.vrps.specs.Store.{Known, Unknown, is_current, published, since, step_from}
use Rattle.vrps.specs.VrpSet.{VrpSet}
use Rattle.prefixes.proofs.Basics.{eq_self}

-- how far behind a version is
abbrev Behind : ℕ → ℕ → ℕ → ℕ → Type 0
Behind start versions serial behind = serial_at start versions ≡ (serial + behind + 1) % 2 ^ 32

other_serial : (a serial behind : ℕ) → a ≡ (serial + suc behind) % 2 ^ 32 → serial < 2 ^ 32 → suc behind < 2 ^ 32 → (a == serial) ≡ false
other_serial a serial behind e low few = differ a serial (λ same. absurd (omega (arith, e, same, low, few)))
  where
    differ : (a b : ℕ) → (a ≡ b → ⊥) → (a == b) ≡ false
    differ a b h = grind (arith, nat_tests, h)

this_serial : (a serial : ℕ) → a ≡ (serial + 0) % 2 ^ 32 → serial < 2 ^ 32 → (a == serial) ≡ true
this_serial a serial e low = let same : a ≡ serial = omega (arith, e, low) in ap (λ x. x == serial) same ∙ eq_self serial

abbrev set_with : ℕ → ℕ → List NumberedSet → Option VrpSet
set_with serial m vs = option_map (λ v. v.set) (with_serial serial (take m vs))

found_at : (start m : ℕ) (sets : List VrpSet) (serial behind : ℕ) (d : VrpSet) → serial < 2 ^ 32 → behind < 2 ^ 32 → Behind start (length sets) serial behind → behind < length (take m sets)
    → set_with serial m (versions_from start sets) ≡ Some (get_or (take m sets) behind d)
found_at start zero sets serial behind d low few is some = absurd (omega (arith, some))
found_at start (suc m) [] serial behind d low few is some = absurd (omega (arith, some))
found_at start (suc m) (x ∷ older) serial zero d low few is some =
    let here : serial_at start (length older) ≡ (serial + 0) % 4294967296 = (let e : (start + suc (length older)) % 4294967296 ≡ (serial + 0 + 1) % 4294967296 = is in omega (arith, e, low)) in
    ap (λ b. option_map (λ v. v.set) (if b then Some (record { serial = serial_at start (length older); set = x }) else with_serial serial (take m (versions_from start older)))) (this_serial (serial_at start (length older)) serial here low)
found_at start (suc m) (x ∷ older) serial (suc behind) d low few is some =
    let e : (start + suc (length older)) % 4294967296 ≡ (serial + suc behind + 1) % 4294967296 = is in
    let here : serial_at start (length older) ≡ (serial + suc behind) % 4294967296 = omega (arith, e, low, few) in
    ap (λ b. option_map (λ v. v.set) (if b then Some (record { serial = serial_at start (length older); set = x }) else with_serial serial (take m (versions_from start older)))) (other_serial (serial_at start (length older)) serial behind here low few)
    ∙ found_at start m older serial behind d low (omega (arith, few)) (omega (arith, here)) (omega (arith, some))

not_found : (start m : ℕ) (sets : List VrpSet) (serial behind : ℕ) → serial < 2 ^ 32 → behind < 2 ^ 32 → Behind start (length sets) serial behind → length (take m sets) ≤ behind
    → with_serial serial (take m (versions_from start sets)) ≡ None
not_found start zero sets serial behind low few is past = refl
not_found start (suc m) [] serial behind low few is past = refl
not_found start (suc m) (x ∷ older) serial zero low few is past = absurd (omega (arith, past))
not_found start (suc m) (x ∷ older) serial (suc behind) low few is past =
    let e : (start + suc (length older)) % 4294967296 ≡ (serial + suc behind + 1) % 4294967296 = is in
    let here : serial_at start (length older) ≡ (serial + suc behind) % 4294967296 = omega (arith, e, low, few) in
    ap (λ b. if b then Some (record { serial = serial_at start (length older); set = x }) else with_serial serial (take m (versions_from start older))) (other_serial (serial_at start (length older)) serial behind here low few)
    ∙ not_found start m older serial behind low (omega (arith, few)) (omega (arith, here)) (omega (arith, past))

-- What is known of a version this far behind the current one
known_by : (now : NumberedSet) (o : Option NumberedSet) (before : VrpSet) → option_map (λ v. v.set) o ≡ Some before → step_from now o ≡ Known (between before now.set)
known_by now None before e = absurd (let h : ◌≡◌ {A = Option VrpSet} None (Some before) = e in cc)
known_by now (Some v) before e = let h : v.set ≡ before = cc in ap (λ s. Known (between s now.set)) h

pub knows : (keep : ℕ) (i : Instance) (session next serial behind : ℕ) (sets : List VrpSet) (now before : VrpSet) → HoldsSets keep i session next sets → IsBehind next serial behind
    → now ≡ get_or sets 0 now → behind < length sets → before ≡ get_or sets behind before → Known (between before now) ≡ since keep serial (versions_from i.start i.sets)
knows keep i session next serial behind sets now before h b first some at =
    by_sets i.sets (sym h.next_is ∙ b.is) (sym h.sets_are)
  where
    by_sets : (all : List VrpSet) → Behind i.start (length all) serial behind → take (suc keep) all ≡ sets → Known (between before now) ≡ since keep serial (versions_from i.start all)
    by_sets [] at_end e = absurd (let none : sets ≡ [] = sym e in let k : length sets ≡ 0 = ap length none in omega (arith, k, some))
    by_sets (x ∷ older) at_end e =
        let newest : now ≡ x = first ∙ ap (λ l. get_or l 0 now) (sym e) in
        let found : set_with serial (suc keep) (versions_from i.start (x ∷ older)) ≡ Some before =
        found_at i.start (suc keep) (x ∷ older) serial behind before b.serial_fits b.fits at_end (subst (λ l. behind < length l) (sym e) some) ∙ ap (λ l. Some (get_or l behind before)) e ∙ ap Some (sym at) in
        ap (λ s. Known (between before s)) newest ∙ sym (known_by (record { serial = serial_at i.start (length older); set = x }) (with_serial serial (take (suc keep) (versions_from i.start (x ∷ older)))) before found)

pub knows_not : (keep : ℕ) (i : Instance) (session next serial behind : ℕ) (sets : List VrpSet) → HoldsSets keep i session next sets → IsBehind next serial behind
    → 0 < length sets → length sets ≤ behind → Unknown ≡ since keep serial (versions_from i.start i.sets)
knows_not keep i session next serial behind sets h b some past = by_sets i.sets (sym h.next_is ∙ b.is) (sym h.sets_are)
  where
    by_sets : (all : List VrpSet) → Behind i.start (length all) serial behind → take (suc keep) all ≡ sets → Unknown ≡ since keep serial (versions_from i.start all)
    by_sets [] at_end e = absurd (let none : sets ≡ [] = sym e in let k : length sets ≡ 0 = ap length none in omega (arith, k, some))
    by_sets (x ∷ older) at_end e =
        sym (ap (step_from (record { serial = serial_at i.start (length older); set = x })) (not_found i.start (suc keep) (x ∷ older) serial behind b.serial_fits b.fits at_end (subst (λ l. length l ≤ behind) (sym e) past)))

-- What is current of an instance is current of the newest sets.
pub current_kept : (keep : ℕ) (sets : List VrpSet) (set : VrpSet) → is_current (take (suc keep) sets) set ≡ is_current sets set
current_kept keep [] set = refl
current_kept keep (now ∷ older) set = refl

-- The oldest set is dropped if there is no room.
less_one : (keep : ℕ) (sets rest : List VrpSet) (oldest : VrpSet) → sets ≡ rest ++ oldest ∷ [] → length sets ≡ suc keep → rest ≡ take keep sets
less_one keep sets rest oldest e full =
    let size : length rest ≡ keep = omega (arith, full, ap length e, length-append rest (oldest ∷ [])) in
    sym (ap (λ l. take keep l) e ∙ ap (λ n. take n (rest ++ oldest ∷ [])) (sym size) ∙ take-append_seam rest (oldest ∷ []))

take_fewer : (keep : ℕ) (sets : List VrpSet) → take keep (take (suc keep) sets) ≡ take keep sets
take_fewer zero sets = refl
take_fewer (suc keep) [] = refl
take_fewer (suc keep) (x ∷ sets) = ap (λ l. x ∷ l) (take_fewer keep sets)

pub publishes : (keep : ℕ) (i : Instance) (session next : ℕ) (sets rest : List VrpSet) (set : VrpSet) → HoldsSets keep i session next sets → rest ≡ take keep sets → is_current i.sets set ≡ false
    → HoldsSets keep (published set i) session ((next + 1) % 2 ^ 32) (set ∷ rest)
publishes keep i session next sets rest set h e other =
    subst (λ b. HoldsSets keep (if b then i else record i { sets = set ∷ i.sets }) session ((next + 1) % 4294967296) (set ∷ rest)) (sym other)
    (record {
      session_is = h.session_is;
      start = h.start;
      next_is = (let n : next ≡ (i.start + length i.sets) % 4294967296 = h.next_is in omega (arith, n));
      sets_are = ap (λ l. set ∷ l) (e ∙ ap (λ l. take keep l) h.sets_are ∙ take_fewer keep i.sets);
    })

pub stays : (keep : ℕ) (i : Instance) (session next : ℕ) (sets : List VrpSet) (set : VrpSet) → HoldsSets keep i session next sets → is_current i.sets set ≡ true → HoldsSets keep (published set i) session next sets
stays keep i session next sets set h same = subst (λ b. HoldsSets keep (if b then i else record i { sets = set ∷ i.sets }) session next sets) (sym same) h

-- what is not below is past
pub past_by : (a b : ℕ) → (a < b → false ≡ true) → b ≤ a
past_by a b h = by_test (nat_lt a b) refl
  where
    by_test : (t : Bool) → nat_lt a b ≡ t → b ≤ a
    by_test true e = let below : a < b = grind (arith, nat_tests, e) in let k : false ≡ true = h below in absurd (cc)
    by_test false e = grind (arith, nat_tests, e)
