-- What a stream answered, from call to call.
use Rattle.std.specs.Prelude.{◌≡◌, ℕ, ◌+◌, ◌<◌, ◌≤◌, ◌==◌, Bool, true, false, List, [], ◌∷◌, ◌++◌, length, Option, Some, None, if◌then◌else◌, refl}
use Rattle.std.proofs.Common.{sym, ap, ◌∙◌, subst, arith, append_assoc, inl, inr}
use Rattle.std.proofs.lemmas.List.{length-append}
use Rattle.prefixes.proofs.Basics.{eq_of}
use Rattle.rtr_server.specs.Streams.{Logged}
use Rattle.rtr_server.specs.Turns.{AnswersStep, AnswersTurn, FitsBudget, LastIs, StepTold, ToldSo, after_read, after_write}
use Rattle.rtr_server.specs.declared.stream.Call.{Call}
use Rattle.rtr_server.specs.declared.stream.Call.TheVariants as calls
use Rattle.rtr_server.specs.declared.stream.Progress.{Progress}
use Rattle.rtr_server.specs.declared.stream.Progress.TheVariants.{Bytes, Waits, Interrupted, Failed}
use Rattle.rtr_server.specs.declared.turn.CloseReason.TheVariants.{CacheEnded, PeerClosed, ReadFailed, Truncated, WriteFailed}
use Rattle.rtr_server.specs.declared.turn.Turn.{Turn}
use Rattle.rtr_server.specs.declared.turn.Turn.TheVariants.{Busy, Gone, WaitsToRead, WaitsToWrite}

-- calls after calls
pub logged_both : (a b : List Call) (x y z : Option (List Call)) → Logged a x y → Logged b y z → Logged (b ++ a) x z
logged_both a b x y None h k = tt
logged_both a b x None (Some z) h k = absurd k
logged_both a b None (Some y) (Some z) h k = absurd h
logged_both a b (Some x) (Some y) (Some z) h k = k ∙ ap (λ l. b ++ l) h ∙ sym (append_assoc b a x)

pub logged_none : (x y : Option (List Call)) → y ≡ x → Logged [] x y
logged_none x None e = tt
logged_none None (Some y) e = absurd (cc)
logged_none (Some x) (Some y) e = cc

-- One read, or one write
pub read_told : (moved : Progress) (within : Bool) (turn : Option Turn) → turn ≡ after_read moved within → StepTold turn (calls.Read moved ∷ [])
read_told moved within turn e = subst (λ o. StepTold o (calls.Read moved ∷ [])) (sym e) (by_moved moved)
  where
    at_end : (n : ℕ) (b : Bool) → n ≡ 0 → StepTold (Some (Gone (if b then Truncated else PeerClosed))) (calls.Read (Bytes n) ∷ [])
    at_end n true is = (omega arith, ap (λ k. calls.Read (Bytes k)) is)
    at_end n false is = (omega arith, ap (λ k. calls.Read (Bytes k)) is)

    by_zero : (n : ℕ) (b : Bool) → (n == 0) ≡ b → StepTold (if b then Some (Gone (if within then Truncated else PeerClosed)) else None) (calls.Read (Bytes n) ∷ [])
    by_zero n true is = at_end n within (eq_of n 0 is)
    by_zero n false is = refl

    by_moved : (moved : Progress) → StepTold (after_read moved within) (calls.Read moved ∷ [])
    by_moved (Bytes n) = by_zero n (n == 0) refl
    by_moved Waits = (omega arith, refl)
    by_moved Interrupted = refl
    by_moved Failed = (omega arith, refl)

pub write_told : (moved : Progress) (turn : Option Turn) → turn ≡ after_write moved → StepTold turn (calls.Write moved ∷ [])
write_told moved turn e = subst (λ o. StepTold o (calls.Write moved ∷ [])) (sym e) (by_moved moved)
  where
    by_zero : (n : ℕ) (b : Bool) → (n == 0) ≡ b → StepTold (if b then Some (Gone WriteFailed) else None) (calls.Write (Bytes n) ∷ [])
    by_zero n true is = (omega arith, inl (ap (λ k. calls.Write (Bytes k)) (eq_of n 0 is)))
    by_zero n false is = refl

    by_moved : (moved : Progress) → StepTold (after_write moved) (calls.Write moved ∷ [])
    by_moved (Bytes n) = by_zero n (n == 0) refl
    by_moved Waits = (omega arith, refl)
    by_moved Interrupted = refl
    by_moved Failed = (omega arith, inr refl)

last_more : (answer : Call) (answers earlier : List Call) → LastIs answer answers → LastIs answer (answers ++ earlier)
last_more answer [] earlier h = absurd h
last_more answer (a ∷ answers) earlier h = h

told_more : (turn : Turn) (answers earlier : List Call) → ToldSo turn answers → ToldSo turn (answers ++ earlier)
told_more WaitsToRead answers earlier h = last_more (calls.Read Waits) answers earlier h
told_more WaitsToWrite answers earlier h = last_more (calls.Write Waits) answers earlier h
told_more Busy answers earlier h = tt
told_more (Gone PeerClosed) answers earlier h = last_more (calls.Read (Bytes 0)) answers earlier h
told_more (Gone Truncated) answers earlier h = last_more (calls.Read (Bytes 0)) answers earlier h
told_more (Gone CacheEnded) answers earlier h = tt
told_more (Gone ReadFailed) answers earlier h = last_more (calls.Read Failed) answers earlier h
told_more (Gone WriteFailed) answers earlier (inl h) = inl (last_more (calls.Write (Bytes 0)) answers earlier h)
told_more (Gone WriteFailed) answers earlier (inr h) = inr (last_more (calls.Write Failed) answers earlier h)

-- What a loop of calls has come to
pub record SoFar (count : ℕ) (before after : Option (List Call)) : Type 0 where
  pub since : List Call
  pub logged : Logged since before after
  pub counted : length since ≡ count

pub none_yet : (x : Option (List Call)) → SoFar 0 x x
none_yet x = record { since = []; logged = logged_none x x refl; counted = refl }

pub one_more : (count next : ℕ) → next ≡ count + 1 → (turn : Option Turn) → turn ≡ None → (x y z : Option (List Call)) → SoFar count x y → AnswersStep turn y z → SoFar next x z
one_more count next is turn none x y z h a =
    let told = subst (λ o. StepTold o a.since) none a.told in
    record { since = a.since ++ h.since; logged = logged_both h.since a.since x y z h.logged a.logged; counted = length-append a.since h.since ∙ omega (arith, told, h.counted, is) }

pub all_made : (count budget : ℕ) → count ≡ budget → (x y : Option (List Call)) → SoFar count x y → SoFar budget x y
all_made count budget is x y h = record { since = h.since; logged = h.logged; counted = h.counted ∙ is }

pub ends_busy : (budget : ℕ) (x y : Option (List Call)) → SoFar budget x y → AnswersTurn budget Busy x y
ends_busy budget x y h = record { since = h.since; logged = h.logged; fits = h.counted; told = tt }

pub ends_turn : (count budget : ℕ) → count < budget → (turn : Turn) (x y z : Option (List Call)) → SoFar count x y → AnswersStep (Some turn) y z → AnswersTurn budget turn x z
ends_turn count budget low turn x y z h a = by_turn turn a.told
  where
    few : length a.since ≤ 1 → length (a.since ++ h.since) ≤ budget
    few one = let l = length-append a.since h.since in omega (arith, l, one, h.counted, low)

    made : (turn : Turn) → FitsBudget budget turn (length (a.since ++ h.since)) → ToldSo turn a.since → AnswersTurn budget turn x z
    made turn fits told = record { since = a.since ++ h.since; logged = logged_both h.since a.since x y z h.logged a.logged; fits = fits; told = told_more turn a.since h.since told }

    by_turn : (turn : Turn) → StepTold (Some turn) a.since → AnswersTurn budget turn x z
    by_turn Busy told = absurd told
    by_turn WaitsToRead told = made WaitsToRead (few told.0) told.1
    by_turn WaitsToWrite told = made WaitsToWrite (few told.0) told.1
    by_turn (Gone how) told = made (Gone how) (few told.0) told.1
