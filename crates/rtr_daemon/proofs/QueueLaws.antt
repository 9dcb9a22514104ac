-- The turns of clients, one after another.
use Rattle.std.proofs.Common.{◌≡◌, ℕ, List, [], ◌∷◌, ◌++◌, ◌∙◌, ◌<◌, suc, ap, subst, sym, refl, length, get_or, drop}
use Rattle.std.proofs.Math.Seq.{drop-cons}
use Rattle.std.proofs.lemmas.List.{append_assoc, append-nil}
use Rattle.vrps.specs.Instance.{Instance}
use Rattle.std.specs.Prelude.{Bool, ◌||◌, IfSome, Option, Some, None, option_map}
use Rattle.rtr_server.specs.declared.server.Client.{Client}
use Rattle.rtr_server.specs.Clients.{KeepsOthers, slot_at}
use Rattle.rtr_server.specs.declared.turn.Slot.{Slot}
use Rattle.rtr_daemon.specs.Turns.{ServesClient}
use Rattle.rtr_server.specs.declared.server.Server.{Server}
use Rattle.rtr_server.specs.declared.stream.Call.{Call}
use Rattle.rtr_server.specs.declared.turn.CloseReason.{CloseReason}
use Rattle.rtr_server.specs.declared.turn.Parted.{Parted}
use Rattle.rtr_server.specs.declared.turn.Turn.{Turn}
use Rattle.rtr_daemon.specs.Parting.{has_agreed}
use Rattle.rtr_daemon.specs.declared.client_entry.ClientEntry.{ClientEntry}
use Rattle.rtr_server.specs.declared.turn.Turn.TheVariants.{Busy, Gone, WaitsToRead, WaitsToWrite}
use Rattle.rtr_daemon.specs.Known.{OtherClients, client_at, known_at}
use Rattle.rtr_daemon.specs.Queue.{IsKeptAfter, IsNotedAfter, PartsAfter, QueuesBehind, ServesEach, ServesNext, ServesOne, TakesNext, TurnOf, under}
use Rattle.rtr_daemon.specs.declared.client_table.ClientTable.{ClientTable}
use Rattle.rtr_daemon.specs.declared.daemon.Daemon.{Daemon}

-- A client had its turn, after which only other parts of the daemon change than its server.
pub had_turn : {S T : Type 0} (ticks : ℕ → Type 0) (holds : ℕ → Instance → S → Type 0) (remaining contents : T → Option (List ℕ)) (answers : T → Option (List Call)) (client : Client) (token : ℕ) (turn found : Turn) (old new : Daemon S T) (mid : Server S T) → found ≡ turn → new.service.server ≡ mid
    → ServesClient holds remaining contents answers 8 client.0.0 (Some found) old.service.server mid → KeepsOthers client.0.0 old.service.server.slots.items mid.slots.items
    → IsKeptAfter ticks (Some turn) token (slot_at mid.slots.items client.0.0) old.clients new.clients → PartsAfter (Some turn) (known_at old.clients token) mid.parted old.has_parted new.has_parted
    → TurnOf ticks holds remaining contents answers (Some client) token old new
had_turn ticks holds remaining contents answers client token turn found old new mid found_is same serves others kept parts = (
  record {
    turn = Some turn;
    serves =
        subst (λ s. ServesClient holds remaining contents answers 8 client.0.0 (Some turn) old.service.server s) (sym same)
        (subst (λ t. ServesClient holds remaining contents answers 8 client.0.0 (Some t) old.service.server mid) found_is serves);
    others = subst (λ s. KeepsOthers client.0.0 old.service.server.slots.items s.slots.items) (sym same) others;
  },
  subst (λ s. IsKeptAfter ticks (Some turn) token (slot_at s.slots.items client.0.0) old.clients new.clients) (sym same) kept,
  subst (λ s. PartsAfter (Some turn) (known_at old.clients token) s.parted old.has_parted new.has_parted) (sym same) parts,
)

-- A client has gone.
pub parts_gone : (how : CloseReason) (known : Option ClientEntry) (parted : Option Parted) (was is : Bool) → IfSome known (λ entry. is ≡ (was || has_agreed parted)) → PartsAfter (Some (Gone how)) known parted was is
parts_gone how None parted was is noted = tt
parts_gone how (Some entry) parted was is noted = noted

-- One turn more
pub serves_more : {S T : Type 0} (ticks : ℕ → Type 0) (holds : ℕ → Instance → S → Type 0) (remaining contents : T → Option (List ℕ)) (answers : T → Option (List Call)) (tokens : List ℕ) (token : ℕ) (old between new : Daemon S T)
    → ServesEach ticks holds remaining contents answers tokens old between → ServesOne ticks holds remaining contents answers token between new → ServesEach ticks holds remaining contents answers (tokens ++ token ∷ []) old new
serves_more ticks holds remaining contents answers [] token old between new so_far one = (new, subst (λ d. ServesOne ticks holds remaining contents answers token d new) so_far one, refl)
serves_more ticks holds remaining contents answers (first ∷ tokens) token old between new so_far one = (so_far.0, so_far.1, serves_more ticks holds remaining contents answers tokens token so_far.0 between new so_far.2 one)

-- The turn of the next client of a queue
pub record NextTurn {S T : Type 0} (ticks : ℕ → Type 0) (holds : ℕ → Instance → S → Type 0) (remaining contents : T → Option (List ℕ)) (answers : T → Option (List Call)) (queue : List ℕ) (i : ℕ) (old new : Daemon S T) : Type 0 where
  pub one : ServesOne ticks holds remaining contents answers (get_or queue i 0) old new
  pub behind : QueuesBehind (drop (suc i) queue) new.clients

pub next_turn : {S T : Type 0} (ticks : ℕ → Type 0) (holds : ℕ → Instance → S → Type 0) (remaining contents : T → Option (List ℕ)) (answers : T → Option (List Call)) (queue : List ℕ) (i : ℕ) (old new : Daemon S T) → i < length queue → QueuesBehind (drop i queue) old.clients
    → ServesNext ticks holds remaining contents answers old.clients.queue.items old new → NextTurn ticks holds remaining contents answers queue i old new
next_turn ticks holds remaining contents answers queue i old new less behind serves =
    let front : old.clients.queue.items ≡ get_or queue i 0 ∷ (drop (suc i) queue ++ behind.0) = behind.1 ∙ ap (λ q. q ++ behind.0) (drop-cons queue i 0 less) in
    let one = subst (λ q. ServesNext ticks holds remaining contents answers q old new) front serves in
    let left = one.queue in
    let others : left.0 ≡ drop (suc i) queue ++ behind.0 = tails (get_or queue i 0) (get_or queue i 0) left.0 (drop (suc i) queue ++ behind.0) (sym left.2 ∙ front) in
    record { one = one; behind = (behind.0 ++ left.1, left.3 ∙ ap (λ q. q ++ left.1) others ∙ append_assoc (drop (suc i) queue) behind.0 left.1) }
  where
    tails : (a b : ℕ) (xs ys : List ℕ) → a ∷ xs ≡ b ∷ ys → xs ≡ ys
    tails a b xs ys same = cc

-- What is kept of a client after its turn depends on what was known of it before.
kept_from : {T : Type 0} (ticks : ℕ → Type 0) (turn : Option Turn) (at : ℕ) (slot : Option (Slot T)) (a b c : ClientTable) → known_at b at ≡ known_at a at → IsKeptAfter ticks turn at slot b c → IsKeptAfter ticks turn at slot a c
kept_from ticks None at slot a b c same kept = kept ∙ same
kept_from ticks (Some (Gone how)) at slot a b c same kept = kept
kept_from ticks (Some Busy) at slot a b c same kept = (subst (λ known. IsNotedAfter ticks Busy slot known (known_at c at)) same kept.0, kept.1)
kept_from ticks (Some WaitsToRead) at slot a b c same kept = subst (λ known. IsNotedAfter ticks WaitsToRead slot known (known_at c at)) same kept
kept_from ticks (Some WaitsToWrite) at slot a b c same kept = subst (λ known. IsNotedAfter ticks WaitsToWrite slot known (known_at c at)) same kept

-- The next client had its turn.
pub served_next : {S T : Type 0} (ticks : ℕ → Type 0) (holds : ℕ → Instance → S → Type 0) (remaining contents : T → Option (List ℕ)) (answers : T → Option (List Call)) (queue : List ℕ) (token : ℕ) (client : Client) (old new : Daemon S T) (mid : ClientTable)
    → old.clients.queue.items ≡ queue → TakesNext queue (Some (token, client)) old.clients mid → OtherClients token mid new.clients → QueuesBehind mid.queue.items new.clients
    → TurnOf ticks holds remaining contents answers (Some client) token (record old { clients = mid }) new → ServesNext ticks holds remaining contents answers queue old new
served_next ticks holds remaining contents answers [] token client old new mid queue_is takes others behind turn = absurd (let never : Some (token, client) ≡ None = takes.0 in cc)
served_next {S} {T} ticks holds remaining contents answers (t ∷ queue) token client old new mid queue_is takes others behind turn = by_client (client_at old.clients t) refl takes.0 where
  by_client : (c : Option Client) → client_at old.clients t ≡ c → Some (token, client) ≡ under t c → ServesNext ticks holds remaining contents answers (t ∷ queue) old new
  by_client None none same = absurd (let never : Some (token, client) ≡ None = same in cc)
  by_client (Some c) some_is same =
      let some : ◌≡◌ {A = Option (ℕ × Client)} (Some (token, client)) (Some (t, c)) = same in
      let first : ℕ × Client = (token, client) in
      let second : ℕ × Client = (t, c) in
      let both : first ≡ second = cc in
      let token_is : token ≡ t = ap (λ p. p.0) both in
      let client_is : client ≡ c = ap (λ p. p.1) both in
      let had = turn.0 in
      let kept = kept_from ticks had.turn token (slot_at new.service.server.slots.items client.0.0) old.clients mid new.clients (takes.2 token) turn.1 in
      let parts = subst (λ known. PartsAfter had.turn known new.service.server.parted old.has_parted new.has_parted) (takes.2 token) turn.2 in
      let at_old : TurnOf ticks holds remaining contents answers (Some client) token old new = (had, kept, parts) in
      record {
        turn =
            subst (λ o. TurnOf ticks holds remaining contents answers o t old new) (sym some_is)
            (subst (λ x. TurnOf ticks holds remaining contents answers (Some x) t old new) client_is (subst (λ at. TurnOf ticks holds remaining contents answers (Some client) at old new) token_is at_old));
        others = λ other different. others other (λ e. different (e ∙ token_is)) ∙ takes.2 other;
        queue = (queue, behind.0, queue_is, behind.1 ∙ ap (λ q. q ++ behind.0) takes.1);
      }

-- There was no client under the next token, or no token.
pub nobody_next : {S T : Type 0} (ticks : ℕ → Type 0) (holds : ℕ → Instance → S → Type 0) (remaining contents : T → Option (List ℕ)) (answers : T → Option (List Call)) (queue : List ℕ) (old : Daemon S T) (mid : ClientTable)
    → old.clients.queue.items ≡ queue → TakesNext queue None old.clients mid → ServesNext ticks holds remaining contents answers queue old (record old { clients = mid })
nobody_next ticks holds remaining contents answers [] old mid is takes = (takes.2, refl, refl)
nobody_next {S} {T} ticks holds remaining contents answers (t ∷ queue) old mid is takes = by_client (client_at old.clients t) refl takes.0 where
  by_client : (c : Option Client) → client_at old.clients t ≡ c → None ≡ under t c → ServesNext ticks holds remaining contents answers (t ∷ queue) old (record old { clients = mid })
  by_client None none same = record {
    turn =
        subst (λ o. TurnOf ticks holds remaining contents answers o t old (record old { clients = mid })) (sym none)
        (ap (λ k. option_map (λ entry. entry.client) k) (takes.2 t) ∙ none, refl, refl);
    others = λ other different. takes.2 other;
    queue = (queue, [], is, takes.1 ∙ sym (append-nil queue));
  }
  by_client (Some c) some_is same = absurd (let never : None ≡ Some (t, c) = same in cc)
