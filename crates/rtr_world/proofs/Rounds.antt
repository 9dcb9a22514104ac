-- Events of one router, and a round of them.
use Rattle.rtr_world.proofs.Words.{◌≡◌, ℕ, ◌<◌, Bool, true, false, List, [], ◌∷◌, ◌++◌, Option, Some, None, Result, Ok, Err, refl, ⊤, sym, ap, ◌∙◌, subst, append_assoc, arith, AllByRecursion, append-nil, all_both}
use Rattle.rtr_world.specs.CatchUp.{AreMoves, IsMove, IsMoveOf, stepped}
use Rattle.rtr_world.specs.CaughtUp.{AllWent, AreDone, IsCutOff, IsDone, KeepOpen, KeepsOpen, Lacks, Rounded, all_bytes}
use Rattle.rtr_world.specs.Events.{AnswersOutcome, outcome_fault}
use Rattle.rtr_world.specs.History.{Outcome, Done, Memory, Entry, Made, Leads, MayEnd, Reached, after, refusal, side_at}
use Rattle.rtr_world.specs.Reached.{LeadsTo, ShowsWorld, StepsOnce}
use Rattle.rtr_world.specs.World.{World, Side, SideEvent, RouterSends, CacheGets, CacheSends, RouterGets, Cut, On, cut, instances, is_refused, settle, settled, side_refused, side_step}
use Rattle.rtr_world.specs.declared.event.WorldFault.{WorldFault}
use Rattle.rtr_world.proofs.CatchUpSettling.{settle_off}
use Rattle.rtr_world.proofs.CatchUpSteps.{gives_none, sends_none, stepped_at}
use Rattle.rtr_world.proofs.SideLaws.{found_on}
use Rattle.rtr_world.proofs.Routers.{low_in, low_of, routers_stay, side_in}
use Rattle.rtr_world.proofs.Showing.{leads_on}
use Rattle.rtr_world.proofs.Stepping.{found_router}
use Rattle.rtr_world.specs.declared.world.World as code

-- After an event that was refused because memory ran out the connection is gone.
pub after_refused : (r : ℕ) (event : SideEvent) (bytes : ℕ) (wanting : Option ℕ) (w : World) (s : Side) → side_at r w.sides ≡ Some s → IsCutOff r (after (On r event) (Memory bytes wanting) w)
unfolding is_refused settled side_refused cut
after_refused r event bytes wanting w s e = record {
  side = settle (instances w) (side_refused w event bytes wanting s);
  found = found_on r (settle (instances w)) (side_refused w event bytes wanting) w.sides s e;
  off = settle_off (instances w) (side_refused w event bytes wanting s) refl refl;
}

-- what is said of both lists
pub parted : (P : Entry → Type 0) (xs ys : List Entry) → AllByRecursion P (xs ++ ys) → AllByRecursion P xs × AllByRecursion P ys
parted P [] ys h = (tt, h)
parted P (x ∷ xs) ys h = let k = parted P xs ys h.1 in ((h.0, k.0), k.1)

pub lacks_behind : (r : ℕ) (xs ys : List Entry) (w : World) → Lacks r ys w → Lacks r (xs ++ ys) w
lacks_behind r xs ys w h = record { wanting = λ all. h.wanting (parted (λ e. e.outcome ≡ Done None) xs ys all).1; off = h.off }

-- what the call on one router promises
abbrev pub Promises : ℕ → SideEvent → Result ⊤ WorldFault → code.World → code.World → Type 0
Promises r e result old new = (w : World) → Reached w → ShowsWorld w old → StepsOnce w (On r e) result new

abbrev pub entry_of : ℕ → SideEvent → Outcome → Entry
entry_of r e outcome = record { event = On r e; outcome = outcome }

-- one step from this world
pub record Stepped (made : Made) (history : List Entry) (w : World) (r : ℕ) (e : SideEvent) (result : Result ⊤ WorldFault) (new : code.World) : Type 0 where
  pub outcome : Outcome
  pub answers : AnswersOutcome (outcome_fault outcome) result
  pub may : MayEnd (refusal w (On r e)) w (On r e) outcome
  pub leads : LeadsTo made (history ++ entry_of r e outcome ∷ []) new
  pub is : leads.world ≡ after (On r e) outcome w

pub step_of : (made : Made) (history : List Entry) (old new : code.World) (r : ℕ) (e : SideEvent) (result : Result ⊤ WorldFault) → (l : LeadsTo made history old) → Promises r e result old new → Stepped made history l.world r e result new
step_of made history old new r e result l on =
    let s = on l.world (record { made = made; history = history; leads = l.leads }) l.shows in
    let n : World = after (On r e) s.outcome l.world in
    record { outcome = s.outcome; answers = s.answers; may = s.may; leads = record { world = n; leads = leads_on made history l.world (entry_of r e s.outcome) n l.leads (s.fits, s.may, refl); shows = s.shows }; is = refl }

module _ (r : ℕ) (e : SideEvent) (w : World) (s : Side) (found : side_at r w.sides ≡ Some s) where
  no_refusal : (o : Outcome) → MayEnd (refusal w (On r e)) w (On r e) o → MayEnd None w (On r e) o
  no_refusal o may = subst (λ x. MayEnd x w (On r e) o) (found_router w r e (low_of r w.sides s found)) may

  -- If it failed, memory ran out, and the connection is cut.
  pub lacked : (o : Outcome) (fault : WorldFault) → AnswersOutcome (outcome_fault o) (Err fault) → MayEnd (refusal w (On r e)) w (On r e) o → IsCutOff r (after (On r e) o w) × (o ≡ Done None → ⊥)
  lacked (Done wanting) fault h may = absurd (let k : ◌≡◌ {A = Bool} false true = h in cc)
  lacked (Memory bytes wanting) fault h may = (after_refused r e bytes wanting w s found, λ is. cc)
  lacked o fault h may = absurd (no_refusal o may)

-- A cut leaves nothing, whatever its result.
pub cut_leaves : (r : ℕ) (w : World) (s : Side) → side_at r w.sides ≡ Some s → (o : Outcome) → MayEnd (refusal w (On r (Cut 0))) w (On r (Cut 0)) o → IsCutOff r (after (On r (Cut 0)) o w)
unfolding side_step cut
cut_leaves r w s found (Done wanting) may = record {
  side = settle (instances w) (side_step w (Cut 0) wanting s);
  found = stepped_at r (Cut 0) wanting w s found;
  off = settle_off (instances w) (side_step w (Cut 0) wanting s) refl refl;
}
cut_leaves r w s found (Memory bytes wanting) may = after_refused r (Cut 0) bytes wanting w s found
cut_leaves r w s found o may = absurd (no_refusal r (Cut 0) w s found o may)

module _ (made : Made) (history : List Entry) (w : World) (r : ℕ) (e : SideEvent) (step : Result ⊤ WorldFault) (new : code.World) (t : Stepped made history w r e step new) where
  -- It went through,
  pub record Went : Type 0 where
    pub wanting : Option ℕ
    pub leads : LeadsTo made (history ++ entry_of r e (Done wanting) ∷ []) new
    pub is : leads.world ≡ stepped r e wanting w

  pub went : step ≡ Ok tt → Went
  went ok = by_outcome t.outcome (subst (λ x. AnswersOutcome (outcome_fault t.outcome) x) ok t.answers) t.leads t.is
    where
      by_outcome : (o : Outcome) → AnswersOutcome (outcome_fault o) (Ok tt) → (l : LeadsTo made (history ++ entry_of r e o ∷ []) new) → l.world ≡ after (On r e) o w → Went
      by_outcome (Done wanting) h l is = record { wanting = wanting; leads = l; is = is }
      by_outcome _ h l is = absurd (let k : Err _ ≡ Ok _ = sym h in cc)

  -- or memory ran out, and the connection is cut.
  pub failed : (s : Side) → side_at r w.sides ≡ Some s → (fault : WorldFault) → step ≡ Err fault → Lacks r (entry_of r e t.outcome ∷ []) t.leads.world
  failed s found fault err =
      let k = lacked r e w s found t.outcome fault (subst (λ x. AnswersOutcome (outcome_fault t.outcome) x) err t.answers) t.may in
      record { wanting = λ all. k.1 all.0; off = subst (IsCutOff r) (sym t.is) k.0 }

-- Moves that went through, and the world to which they lead; and what is so if memory did not run out
pub record Along (made : Made) (history : List Entry) (r : ℕ) (x : World) (Wants : Type 0) (new : code.World) : Type 0 where
  pub more : List Entry
  pub moves : AreMoves r more
  pub keep : KeepOpen more
  pub done : AreDone more
  pub leads : LeadsTo made (history ++ more) new
  pub is : leads.world ≡ x
  pub none : AllWent more → Wants

module _ (made : Made) (history : List Entry) (r : ℕ) where
  pub begin : (v : code.World) → (l : LeadsTo made history v) → Along made history r l.world ⊤ v
  begin v l = record {
    more = [];
    moves = tt;
    keep = tt;
    done = tt;
    leads = record { world = l.world; leads = subst (λ h. Leads made h l.world) (sym (append-nil history)) l.leads; shows = l.shows };
    is = refl;
    none = λ all. tt;
  }

  as_world : (x y : World) (P Q : Type 0) (v : code.World) → x ≡ y → (P → Q) → Along made history r x P v → Along made history r y Q v
  as_world x y P Q v e goes a = record { more = a.more; moves = a.moves; keep = a.keep; done = a.done; leads = a.leads; is = a.is ∙ e; none = λ all. goes (a.none all) }

  module _ (x : World) (P : Type 0) (mid new : code.World) (a : Along made history r x P mid) (e : SideEvent) (is : IsMove e) (keeps : KeepsOpen (On r e)) (step : Result ⊤ WorldFault) (on : Promises r e step mid new) where
    s : Stepped made (history ++ a.more) a.leads.world r e step new
    s = step_of made (history ++ a.more) mid new r e step a.leads on

    -- One step more went through,
    onward : step ≡ Ok tt → (wanting : Option ℕ) × Along made history r (stepped r e wanting x) (P × (wanting ≡ None)) new
    onward ok =
        let k = went made (history ++ a.more) a.leads.world r e step new s ok in
        let one : List Entry = entry_of r e (Done k.wanting) ∷ [] in (
          k.wanting,
          record {
            more = a.more ++ entry_of r e (Done k.wanting) ∷ [];
            moves = all_both (λ y. IsMoveOf r y.event) a.more one a.moves ((refl, is), tt);
            keep = all_both (λ y. KeepsOpen y.event) a.more one a.keep (keeps, tt);
            done = all_both (λ y. IsDone y.outcome) a.more one a.done (tt, tt);
            leads = record { world = k.leads.world; leads = subst (λ h. Leads made h k.leads.world) (append_assoc history a.more one) k.leads.leads; shows = k.leads.shows };
            is = k.is ∙ ap (stepped r e k.wanting) a.is;
            none = λ all. let both = parted (λ y. y.outcome ≡ Done None) a.more one all in (a.none both.0, let same : Done k.wanting ≡ Done None = both.1.0 in cc);
          },
        )

    -- or it failed.
    pub stops : r < made.routers → (fault : WorldFault) → step ≡ Err fault → (old : World) (last : WorldFault) → Rounded made history r old (Err last) new
    stops low fault err old last =
        let there = side_in r a.leads.world.sides (let size = routers_stay made (history ++ a.more) a.leads.world a.leads.leads in omega (arith, low, size)) in
        let one : List Entry = entry_of r e s.outcome ∷ [] in
        record {
          more = a.more ++ entry_of r e s.outcome ∷ [];
          moves = all_both (λ y. IsMoveOf r y.event) a.more one a.moves ((refl, is), tt);
          keep = all_both (λ y. KeepsOpen y.event) a.more one a.keep (keeps, tt);
          leads = record { world = s.leads.world; leads = subst (λ h. Leads made h s.leads.world) (append_assoc history a.more one) s.leads.leads; shows = s.leads.shows };
          ends = lacks_behind r a.more one s.leads.world (failed made (history ++ a.more) a.leads.world r e step new s there.0 there.1 fault err);
        }

-- The first three of the four steps of a round
abbrev up : ℕ → World → World
up r w = stepped r (RouterSends all_bytes) None w

abbrev read : ℕ → Option ℕ → World → World
read r n w = stepped r (CacheGets all_bytes) n (up r w)

abbrev down : ℕ → Option ℕ → World → World
down r n w = stepped r (CacheSends all_bytes) None (read r n w)

-- each of which goes through or fails
module _ (made : Made) (history : List Entry) (r : ℕ) (v : code.World) (l : LeadsTo made history v) (side : Side) (found : side_at r l.world.sides ≡ Some side) where
  low : r < made.routers
  low = low_in made history r l.world l.leads side found

  module _ (v1 : code.World) (one : Result ⊤ WorldFault) (sends : Promises r (RouterSends all_bytes) one v v1) where
    pub first_fails : (fault last : WorldFault) → one ≡ Err fault → Rounded made history r l.world (Err last) v1
    first_fails fault last failed = stops made history r l.world ⊤ v v1 (begin made history r v l) (RouterSends all_bytes) tt tt one sends low fault failed l.world last

    module _ (went1 : one ≡ Ok tt) (v2 : code.World) (two : Result ⊤ WorldFault) (gets : Promises r (CacheGets all_bytes) two v1 v2) where
      a1 : Along made history r (up r l.world) ⊤ v1
      a1 = let k = onward made history r l.world ⊤ v v1 (begin made history r v l) (RouterSends all_bytes) tt tt one sends went1 in
          as_world made history r _ (up r l.world) _ ⊤ v1 (sends_none r all_bytes k.0 l.world) (λ p. tt) k.1

      pub second_fails : (fault last : WorldFault) → two ≡ Err fault → Rounded made history r l.world (Err last) v2
      second_fails fault last failed = stops made history r (up r l.world) ⊤ v1 v2 a1 (CacheGets all_bytes) tt tt two gets low fault failed l.world last

      module _ (went2 : two ≡ Ok tt) (v3 : code.World) (three : Result ⊤ WorldFault) (gives : Promises r (CacheSends all_bytes) three v2 v3) where
        a2 : (n : Option ℕ) × Along made history r (read r n l.world) (⊤ × (n ≡ None)) v2
        a2 = onward made history r (up r l.world) ⊤ v1 v2 a1 (CacheGets all_bytes) tt tt two gets went2

        pub third_fails : (fault last : WorldFault) → three ≡ Err fault → Rounded made history r l.world (Err last) v3
        third_fails fault last failed = stops made history r (read r a2.0 l.world) (⊤ × (a2.0 ≡ None)) v2 v3 a2.1 (CacheSends all_bytes) tt tt three gives low fault failed l.world last

        module _ (went3 : three ≡ Ok tt) (v4 : code.World) where
          a3 : Along made history r (down r a2.0 l.world) (a2.0 ≡ None) v3
          a3 = let k = onward made history r (read r a2.0 l.world) (⊤ × (a2.0 ≡ None)) v2 v3 a2.1 (CacheSends all_bytes) tt tt three gives went3 in
              as_world made history r _ (down r a2.0 l.world) _ (a2.0 ≡ None) v3 (gives_none r all_bytes k.0 (read r a2.0 l.world)) (λ p. p.0.1) k.1

          pub ends_so : (four : Result ⊤ WorldFault) → Promises r (RouterGets all_bytes) four v3 v4 → Rounded made history r l.world four v4
          ends_so (Err fault) takes = stops made history r (down r a2.0 l.world) (a2.0 ≡ None) v3 v4 a3 (RouterGets all_bytes) tt tt (Err fault) takes low fault refl l.world fault
          ends_so (Ok tt) takes =
              let k = onward made history r (down r a2.0 l.world) (a2.0 ≡ None) v3 v4 a3 (RouterGets all_bytes) tt tt (Ok tt) takes refl in
              record { more = k.1.more; moves = k.1.moves; keep = k.1.keep; leads = k.1.leads; ends = record { done = k.1.done; at_cache = a2.0; at_router = k.0; is = k.1.is; none = k.1.none } }
