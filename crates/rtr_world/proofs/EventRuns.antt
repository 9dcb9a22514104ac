-- Events in their order.
use Rattle.rtr_world.proofs.Words.{◌≡◌, ℕ, ◌+◌, ◌<◌, ◌≤◌, Bool, true, false, List, [], ◌∷◌, ◌++◌, map, take, length, Option, Some, None, Result, Ok, Err, is_err, cond, slice_index_or, refl, ⊤, sym, ap, ◌∙◌, subst, append_assoc, arith, append-nil, map-append, take_all, take_more}
use mir.Val.{bool_byte}
use Rattle.rtr_world.specs.Claims.{Always}
use Rattle.rtr_world.specs.Events.{AnswersOutcome, counts, event_of, outcome_fault, refused}
use Rattle.rtr_world.specs.History.{Entry, Made}
use Rattle.rtr_world.specs.Reached.{LeadsTo, RunsSo, RunsTo, StepsTo}
use Rattle.rtr_world.specs.World as model
use Rattle.rtr_world.specs.World.{Side, World}
use Rattle.rtr_world.specs.declared.event.Event.{Event}
use Rattle.rtr_world.specs.declared.event.WorldFault.{WorldFault}
use Rattle.rtr_world.specs.declared.world.World as code

refused_more : (entries : List Entry) (e : Entry) → refused (entries ++ e ∷ []) ≡ refused entries + counts (outcome_fault e.outcome)
refused_more [] e = omega arith
refused_more (x ∷ entries) e = ap (λ n. counts (outcome_fault x.outcome) + n) (refused_more entries e) ∙ omega arith

counts_is : (f : Option WorldFault) (result : Result ⊤ WorldFault) → AnswersOutcome f result → cond (is_err result) 1 0 ≡ counts f
counts_is None (Ok x) h = refl
counts_is None (Err e) h = absurd (let x : false ≡ true = h in cc)
counts_is (Some f) result h = ap (λ r. cond (is_err r) 1 0) h

pub none_yet : (made : Made) (history : List Entry) (v : code.World) → LeadsTo made history v → RunsTo made history [] 0 v
none_yet made history v h = record { more = []; events_are = refl; count_is = refl; leads = subst (λ x. LeadsTo made x v) (sym (append-nil history)) h }

-- The next of the events has come.
pub one_more : (made : Made) (history : List Entry) (events : List Event) (i : ℕ) (d : Event) (n count : ℕ) (old new : code.World) (result : Result ⊤ WorldFault) → i < length events → d ≡ slice_index_or events i d → count ≡ cond (is_err result) 1 0
    → RunsTo made history (map event_of (take i events)) n old → ((h : List Entry) → LeadsTo made h old → StepsTo made h (event_of d) result new) → RunsTo made history (map event_of (take (i + 1) events)) (n + count) new
one_more made history events i d n count old new result low is told r step =
    let s : StepsTo made (history ++ r.more) (event_of d) result new = step (history ++ r.more) r.leads in
    let e : Entry = record { event = event_of d; outcome = s.outcome } in
    record {
      more = r.more ++ e ∷ [];
      events_are = map-append (λ x. x.event) r.more (e ∷ []) ∙ (λ j. r.events_are j ++ event_of (is j) ∷ []) ∙ sym (map-append event_of (take i events) (slice_index_or events i d ∷ [])) ∙ ap (map event_of) (sym (take_more events i d low));
      count_is = (λ j. r.count_is j + (told ∙ counts_is (outcome_fault s.outcome) result s.answers) j) ∙ sym (refused_more r.more e);
      leads = subst (λ x. LeadsTo made x new) (append_assoc history r.more (e ∷ [])) s.leads;
    }

pub at_most : (b : Bool) → cond b 1 0 ≤ 1
at_most true = omega arith
at_most false = omega arith

pub bool_is : (b : Bool) (n : ℕ) → n ≡ bool_byte b → n ≡ cond b 1 0
bool_is true n e = e
bool_is false n e = e

-- All have come.
pub all_came : (made : Made) (history : List Entry) (events : List Event) (i n : ℕ) (new : code.World) → length events ≤ i → RunsTo made history (map event_of (take i events)) n new → RunsTo made history (map event_of events) n new
all_came made history events i n new all r = subst (λ x. RunsTo made history (map event_of x) n new) (take_all i events all) r

-- with a law of every world to which a history leads
pub so : (made : Made) (history : List Entry) (all : List model.Event) (n : ℕ) (new : code.World) (Holds : World → Side → Type 0) → Always Holds → RunsTo made history all n new → RunsSo made history all n new Holds
so made history all n new Holds law r = record { runs = r; each = law made (history ++ r.more) r.leads.world r.leads.leads }
