-- What the calls of a stream sent.
use Rattle.std.proofs.Common.{◌≡◌, ◌↔◌, ℕ, ◌+◌, ◌<◌, ◌≤◌, zero, suc, Bool, false, IsTrue, ◌||◌, nat_lt, List, [], length, take, Option, None, Some, Result, Ok, Err, IfOk, OnErr, inl, inr, arith, refl, sym, subst, ap, ◌∙◌}
use Rattle.std.specs.Io.KnownBytes.{Consumes, Keeps}
use Rattle.std.proofs.lemmas.Bool.{false≢true}
use Rattle.std.proofs.lemmas.Bool.Decides.{nat_tests}
use Rattle.std.proofs.lemmas.List.{append-nil, length-append}
use Rattle.http_server.specs.Connection.{history}
use Rattle.http_server.specs.History.{History, IsQuiet, after_read}
use Rattle.status_server.specs.Calls.{Calls, MakesCall, MakesCalls, has_sent, sent_of}
use Rattle.status_server.specs.declared.http_connection.HttpConnection.{HttpConnection}

module _ {T : Type 0} (remaining contents : T → Option (List ℕ)) where
  -- A call takes back no byte.
  pub grows : (v w : HttpConnection T) → MakesCall remaining contents v w → sent_of v ≤ sent_of w
  grows v w (inl (p, k)) =
      let s = ap (λ l. length l) k.sent ∙ length-append (history v.connection).sent (take k.count (history v.connection).pending) in
      omega (arith, s)
  grows v w (inr (inl (p, k))) = let s = ap (λ l. length l) k.sent in omega (arith, s)
  grows v w (inr (inr e)) = let s = ap (λ x. sent_of x) e in omega (arith, s)

  pub all_grow : (n : ℕ) (v w : HttpConnection T) → Calls remaining contents n v w → sent_of v ≤ sent_of w
  all_grow zero v w e = let s = ap (λ x. sent_of x) e in omega (arith, s)
  all_grow (suc n) v w k =
      let a = all_grow n v k.0 k.1 in
      let b = grows k.0 w k.2 in
      omega (arith, a, b)

  pub none_yet : (budget : ℕ) (v : HttpConnection T) → MakesCalls remaining contents budget v v
  none_yet budget v = (0, omega arith, refl)

  -- a call more
  pub one_more : (n : ℕ) (u v w : HttpConnection T) → MakesCalls remaining contents n u v → MakesCall remaining contents v w → MakesCalls remaining contents (n + 1) u w
  one_more n u v w h k = let fits = h.1 in (suc h.0, omega (arith, fits), (v, h.2, k))

  pub within : (n budget : ℕ) (v w : HttpConnection T) → n ≤ budget → MakesCalls remaining contents n v w → MakesCalls remaining contents budget v w
  within n budget v w le h = let fits = h.1 in (h.0, omega (arith, fits, le), h.2)

either_sent : (a b c : ℕ) → a ≤ b → b ≤ c → nat_lt a c ≡ (nat_lt a b || nat_lt b c)
either_sent a b c h k = grind (arith, nat_tests)

-- A byte was sent by the calls so far, or by the next one.
pub sent_on : {T : Type 0} (remaining contents : T → Option (List ℕ)) (n : ℕ) (u v w : HttpConnection T) → MakesCalls remaining contents n u v → MakesCall remaining contents v w → has_sent u w ≡ (has_sent u v || has_sent v w)
sent_on remaining contents n u v w h k = either_sent (sent_of u) (sent_of v) (sent_of w) (all_grow remaining contents h.0 u v h.2) (grows remaining contents v w k)

-- Nothing was read.
keeps_all : (old new : Option (List ℕ)) → Keeps old new → Consumes old new []
keeps_all None new h = tt
keeps_all (Some xs) None h = absurd h
keeps_all (Some xs) (Some ys) h = sym h

pub none_pending : (wants : Bool) (n : ℕ) → wants ≡ false → (IsTrue wants ↔ (0 < n)) → n ≡ 0
none_pending wants zero off h = refl
none_pending wants (suc n) off h = absurd (false≢true (sym off ∙ h.1 (omega arith)))

-- A read, and quiet steps after it, are a call.
pub reads_call : {T E : Type 0} (remaining contents : T → Option (List ℕ)) (v w : HttpConnection T) (between : History) (stream : T) (r : Result ℕ E) → length (history v.connection).pending ≡ 0
    → IfOk r (λ n. (more : List ℕ) × (length more ≡ n) × Consumes (remaining v.stream) (remaining stream) more × (between ≡ after_read (history v.connection) more))
    → OnErr r ((between ≡ history v.connection) × Keeps (remaining v.stream) (remaining stream)) → IsQuiet between (history w.connection) → w.stream ≡ stream → MakesCall remaining contents v w
reads_call remaining contents v w between stream (Ok n) none ok err quiet same = inr (inl (
  none,
  record {
    more = ok.0;
    consumed = subst (λ s. Consumes (remaining v.stream) (remaining s) ok.0) (sym same) ok.2;
    received = quiet.0 ∙ ap (λ h. h.received) ok.3;
    sent = quiet.2 ∙ ap (λ h. h.sent) ok.3;
  },
))
reads_call remaining contents v w between stream (Err e) none ok err quiet same = inr (inl (
  none,
  record {
    more = [];
    consumed = subst (λ s. Consumes (remaining v.stream) (remaining s) []) (sym same) (keeps_all (remaining v.stream) (remaining stream) err.1);
    received = quiet.0 ∙ ap (λ h. h.received) err.0 ∙ sym (append-nil (history v.connection).received);
    sent = quiet.2 ∙ ap (λ h. h.sent) err.0;
  },
))
