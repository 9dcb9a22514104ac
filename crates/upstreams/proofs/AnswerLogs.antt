-- What the stream of a connection answered, from call to call.
use Rattle.std.specs.Prelude.{◌≡◌, ℕ, ◌+◌, ◌<◌, ◌≤◌, ◌==◌, Bool, true, false, List, [], ◌∷◌, ◌++◌, length, Option, Some, None, if◌then◌else◌, refl}
use Rattle.std.proofs.Common.{sym, ap, ◌∙◌, subst, arith, inl, inr}
use Rattle.std.proofs.lemmas.List.{length-append}
use Rattle.prefixes.proofs.Basics.{eq_of}
use Rattle.rtr_ends.specs.declared.link.End.{End}
use Rattle.rtr_server.specs.Turns.{LastIs}
use Rattle.rtr_server.specs.declared.stream.Call.{Call}
use Rattle.rtr_server.specs.declared.stream.Call.TheVariants as calls
use Rattle.rtr_server.specs.declared.stream.Progress.{Progress}
use Rattle.rtr_server.specs.declared.stream.Progress.TheVariants.{Bytes, Waits, Interrupted, Failed}
use Rattle.rtr_server.proofs.AnswerLogs.{SoFar, logged_both, logged_none}
use Rattle.upstreams.specs.Polls.{AnswersPoll, AnswersStep, FitsBudget, StepTold, ToldSo, after_read, after_write}
use Rattle.upstreams.specs.declared.connection.DisconnectReason.TheVariants.{LinkEnded, PeerClosed, ReadFailed, Stalled, TimedOut, WriteFailed}
use Rattle.upstreams.specs.declared.connection.PollOutcome.{PollOutcome}
use Rattle.upstreams.specs.declared.connection.PollOutcome.TheVariants.{Busy, Disconnected, NotConnected, WaitsToRead, WaitsToWrite}

-- one read, or one write
pub read_told : (moved : Progress) (outcome : Option PollOutcome) → outcome ≡ after_read moved → StepTold outcome (calls.Read moved ∷ [])
read_told moved outcome e = subst (λ o. StepTold o (calls.Read moved ∷ [])) (sym e) (by_moved moved)
  where
    by_zero : (n : ℕ) (b : Bool) → (n == 0) ≡ b → StepTold (if b then Some (Disconnected PeerClosed) else None) (calls.Read (Bytes n) ∷ [])
    by_zero n true is = (omega arith, ap (λ k. calls.Read (Bytes k)) (eq_of n 0 is))
    by_zero n false is = refl

    by_moved : (moved : Progress) → StepTold (after_read moved) (calls.Read moved ∷ [])
    by_moved (Bytes n) = by_zero n (n == 0) refl
    by_moved Waits = (omega arith, refl)
    by_moved Interrupted = refl
    by_moved Failed = (omega arith, refl)

pub write_told : (moved : Progress) (outcome : Option PollOutcome) → outcome ≡ after_write moved → StepTold outcome (calls.Write moved ∷ [])
write_told moved outcome e = subst (λ o. StepTold o (calls.Write moved ∷ [])) (sym e) (by_moved moved)
  where
    by_zero : (n : ℕ) (b : Bool) → (n == 0) ≡ b → StepTold (if b then Some (Disconnected WriteFailed) else None) (calls.Write (Bytes n) ∷ [])
    by_zero n true is = (omega arith, inl (ap (λ k. calls.Write (Bytes k)) (eq_of n 0 is)))
    by_zero n false is = refl

    by_moved : (moved : Progress) → StepTold (after_write moved) (calls.Write moved ∷ [])
    by_moved (Bytes n) = by_zero n (n == 0) refl
    by_moved Waits = (omega arith, refl)
    by_moved Interrupted = refl
    by_moved Failed = (omega arith, inr refl)

-- no call, as the link had ended
pub none_told : (end : End) (x y : Option (List Call)) → y ≡ x → AnswersStep (Some (Disconnected (LinkEnded end))) x y
none_told end x y e = record { since = []; logged = logged_none x y e; told = (omega arith, tt) }

-- no call, and then a step
pub after_none : (outcome : Option PollOutcome) (x y z : Option (List Call)) → y ≡ x → AnswersStep outcome y z → AnswersStep outcome x z
after_none outcome x y z e h = subst (λ a. AnswersStep outcome a z) e h

last_more : (answer : Call) (answers earlier : List Call) → LastIs answer answers → LastIs answer (answers ++ earlier)
last_more answer [] earlier h = absurd h
last_more answer (a ∷ answers) earlier h = h

told_more : (outcome : PollOutcome) (answers earlier : List Call) → ToldSo outcome answers → ToldSo outcome (answers ++ earlier)
told_more NotConnected answers earlier h = tt
told_more WaitsToRead answers earlier h = last_more (calls.Read Waits) answers earlier h
told_more WaitsToWrite answers earlier h = last_more (calls.Write Waits) answers earlier h
told_more Busy answers earlier h = tt
told_more (Disconnected PeerClosed) answers earlier h = last_more (calls.Read (Bytes 0)) answers earlier h
told_more (Disconnected (LinkEnded end)) answers earlier h = tt
told_more (Disconnected Stalled) answers earlier h = tt
told_more (Disconnected TimedOut) answers earlier h = tt
told_more (Disconnected ReadFailed) answers earlier h = last_more (calls.Read Failed) answers earlier h
told_more (Disconnected WriteFailed) answers earlier (inl h) = inl (last_more (calls.Write (Bytes 0)) answers earlier h)
told_more (Disconnected WriteFailed) answers earlier (inr h) = inr (last_more (calls.Write Failed) answers earlier h)

pub one_more : (count next : ℕ) → next ≡ count + 1 → (outcome : Option PollOutcome) → outcome ≡ None → (x y z : Option (List Call)) → SoFar count x y → AnswersStep outcome y z → SoFar next x z
one_more count next is outcome none x y z h a =
    let told = subst (λ o. StepTold o a.since) none a.told in
    record { since = a.since ++ h.since; logged = logged_both h.since a.since x y z h.logged a.logged; counted = length-append a.since h.since ∙ omega (arith, told, h.counted, is) }

pub ends_busy : (budget : ℕ) (x y : Option (List Call)) → SoFar budget x y → AnswersPoll budget Busy x y
ends_busy budget x y h = record { since = h.since; logged = h.logged; fits = h.counted; told = tt }

pub ends_poll : (count budget : ℕ) → count < budget → (outcome : PollOutcome) (x y z : Option (List Call)) → SoFar count x y → AnswersStep (Some outcome) y z → AnswersPoll budget outcome x z
ends_poll count budget low outcome x y z h a = by_outcome outcome a.told
  where
    few : length a.since ≤ 1 → length (a.since ++ h.since) ≤ budget
    few one = let l = length-append a.since h.since in omega (arith, l, one, h.counted, low)

    made : (outcome : PollOutcome) → FitsBudget budget outcome (length (a.since ++ h.since)) → ToldSo outcome a.since → AnswersPoll budget outcome x z
    made outcome fits told = record { since = a.since ++ h.since; logged = logged_both h.since a.since x y z h.logged a.logged; fits = fits; told = told_more outcome a.since h.since told }

    by_outcome : (outcome : PollOutcome) → StepTold (Some outcome) a.since → AnswersPoll budget outcome x z
    by_outcome Busy told = absurd told
    by_outcome NotConnected told = made NotConnected (few told.0) told.1
    by_outcome WaitsToRead told = made WaitsToRead (few told.0) told.1
    by_outcome WaitsToWrite told = made WaitsToWrite (few told.0) told.1
    by_outcome (Disconnected reason) told = made (Disconnected reason) (few told.0) told.1
