-- Clients come, one accept after another.
use Rattle.std.proofs.Common.{◌≡◌, ℕ, ◌⊎◌, inl, inr, refl, subst, sym, ◌∙◌}
use Rattle.std.proofs.lemmas.Bool.{cases_eq}
use Rattle.rtr_daemon.specs.Accepting.{HadAccepted}
use Rattle.rtr_daemon.specs.Known.{known_at}
use Rattle.rtr_daemon.specs.Newcomers.{AddsAccepted, IsNew, MayAdd}
use Rattle.rtr_daemon.specs.Queue.{QueuesBehind}
use Rattle.rtr_daemon.specs.SocketCalls.{Came, SocketCalls}
use Rattle.rtr_daemon.specs.declared.client_table.ClientTable.{ClientTable}
use Rattle.rtr_daemon.proofs.WakeLaws.{still_queued}

pub adds_none : {W : Type 0} (calls : SocketCalls W) (ticks : ℕ → Type 0) (table : ClientTable) → AddsAccepted calls ticks table table
adds_none calls ticks table = λ token. inl refl

-- A client that is not changed, and stays in the queue, is as new as before.
new_on : (ticks : ℕ → Type 0) (a b : ClientTable) (token : ℕ) → known_at b token ≡ known_at a token → QueuesBehind a.queue.items b → IsNew ticks a token → IsNew ticks b token
new_on ticks a b token same behind new = record { client = new.client; ends = new.ends; came = new.came; ticked = new.ticked; known = same ∙ new.known; queued = still_queued a b token same behind new.queued }

pub adds_on : {W : Type 0} (calls : SocketCalls W) (ticks : ℕ → Type 0) (a b c : ClientTable) → AddsAccepted calls ticks a b → AddsAccepted calls ticks b c → QueuesBehind b.queue.items c → AddsAccepted calls ticks a c
adds_on {W} calls ticks a b c first second behind token = by (first token) (second token) where
  Came_as_new : ClientTable → Type 0
  Came_as_new table = (listener : ℕ) × HadAccepted calls listener (Came token) × IsNew ticks table token

  by : (known_at b token ≡ known_at a token) ⊎ Came_as_new b → (known_at c token ≡ known_at b token) ⊎ Came_as_new c → (known_at c token ≡ known_at a token) ⊎ Came_as_new c
  by before (inr new) = inr new
  by (inl same) (inl kept) = inl (kept ∙ same)
  by (inr (listener, had, new)) (inl kept) = inr (listener, had, new_on ticks b c token kept behind new)

-- A connection was accepted, and its client came or not.
pub accepted_one : {W : Type 0} (calls : SocketCalls W) (ticks : ℕ → Type 0) (listener token : ℕ) (old new : ClientTable) → HadAccepted calls listener (Came token) → MayAdd ticks token old new → AddsAccepted calls ticks old new
accepted_one {W} calls ticks listener token old new had adds t = by (cases_eq t token) where
  own : (known_at new token ≡ known_at old token) ⊎ IsNew ticks new token → (known_at new token ≡ known_at old token) ⊎ ((i : ℕ) × HadAccepted calls i (Came token) × IsNew ticks new token)
  own (inl same) = inl same
  own (inr is) = inr (listener, had, is)

  by : (t ≡ token) ⊎ (¬ (t ≡ token)) → (known_at new t ≡ known_at old t) ⊎ ((i : ℕ) × HadAccepted calls i (Came t) × IsNew ticks new t)
  by (inl is) = subst (λ u. (known_at new u ≡ known_at old u) ⊎ ((i : ℕ) × HadAccepted calls i (Came u) × IsNew ticks new u)) (sym is) (own adds.came)
  by (inr different) = inl (adds.others t different)
