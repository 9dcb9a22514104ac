-- The places of clients, and how many of them are in use.
use Rattle.std.specs.Prelude.{◌≡◌, ℕ, zero, suc, ◌+◌, ◌<◌, true, cond, List, [], ◌∷◌, ◌++◌, Box, Option, Some, None, is_some, length, slice_set, refl}
use Rattle.std.proofs.Common.{sym, ap, ◌∙◌, subst, arith, get_or}
use Rattle.std.proofs.lemmas.List.Sums.{sum_by-set, sum_by_push}
use Rattle.std.proofs.lemmas.Option.{slice_get-get_or}
use Rattle.vrps.specs.Instance.{Instance}
use Rattle.rtr_ends.specs.CacheState.{CacheState, ShowsCache, joined, version_at, with_conn}
use Rattle.rtr_ends.specs.declared.cache.Cache.{Cache}
use Rattle.rtr_ends.proofs.TableLaws.{false_true}
use Rattle.prefixes.proofs.Basics.{set_other, set_same}
use Rattle.rtr_server.specs.Clients.{KeepsAll, KeepsOthers, Serves, TakesTurn, Turned, clients_in, is_gone, parted_last, slot_at, slot_value}
use Rattle.rtr_server.specs.declared.stream.Call.{Call}
use Rattle.rtr_server.specs.declared.turn.Parted.{Parted}
use Rattle.rtr_server.specs.declared.turn.Slot.{Slot}
use Rattle.rtr_server.specs.declared.turn.Turn.{Turn}
use Rattle.rtr_server.specs.declared.turn.Turn.TheVariants.{Busy, Gone, WaitsToRead, WaitsToWrite}

-- the client in a place
slot_is : {T A : Type 0} (slots : List (Option (Box (Slot T) A))) (n : ℕ) (cell : Option (Box (Slot T) A)) (b : Box (Slot T) A) → n < length slots → cell ≡ get_or slots n cell → cell ≡ Some b → slot_at slots n ≡ Some b.value
slot_is slots n cell b low at is = ap (λ s. slot_value (joined s)) (slice_get-get_or slots n cell low ∙ ap (λ x. Some x) (sym at ∙ is))

pub slot_set : {T A : Type 0} (slots : List (Option (Box (Slot T) A))) (n : ℕ) (b : Box (Slot T) A) → n < length slots → slot_at (slice_set slots n (Some b)) n ≡ Some b.value
slot_set slots n b low = ap (λ s. slot_value (joined s)) (set_same slots n (Some b) low)

-- A place is set, and no other.
pub set_others : {T A : Type 0} (slots : List (Option (Box (Slot T) A))) (n : ℕ) (b : Box (Slot T) A) → KeepsOthers n slots (slice_set slots n (Some b))
set_others slots n b = λ d other. ap (λ s. slot_value (joined s)) (set_other slots n d (Some b) other)

-- an empty place more
pub push_none : {T A : Type 0} (slots : List (Option (Box (Slot T) A))) → KeepsAll slots (slots ++ None ∷ [])
push_none [] zero = refl
push_none [] (suc d) = refl
push_none (x ∷ slots) zero = refl
push_none (x ∷ slots) (suc d) = push_none slots d

abbrev one : {T A : Type 0} → Option (Box (Slot T) A) → ℕ
one x = cond (is_some x) 1 0

pub count_none : {T A : Type 0} (slots : List (Option (Box (Slot T) A))) → clients_in (slots ++ None ∷ []) ≡ clients_in slots
count_none slots = let e = sum_by_push one slots None in omega (arith, e)

none_read : {T A : Type 0} (slots : List (Option (Box (Slot T) A))) (n : ℕ) → slot_at slots n ≡ None → get_or slots n None ≡ None
none_read [] n e = refl
none_read (None ∷ slots) zero e = refl
none_read (Some b ∷ slots) zero e = absurd (let k : Some b.value ≡ None = e in cc)
none_read (x ∷ slots) (suc n) e = none_read slots n e

-- a client more, if none was
pub count_one : {T A : Type 0} (slots : List (Option (Box (Slot T) A))) (n : ℕ) (b : Box (Slot T) A) → n < length slots → slot_at slots n ≡ None → clients_in (slice_set slots n (Some b)) ≡ clients_in slots + 1
count_one slots n b low none = let e = sum_by-set one slots n (Some b) None low in let k = ap one (none_read slots n none) in omega (arith, e, k)

module _ {S T A : Type 0} (holds : ℕ → Instance → S → Type 0) (remaining contents : T → Option (List ℕ)) (answers : T → Option (List Call)) (budget : ℕ) where
  -- a client in its place had a turn
  pub turns_at : (slots : List (Option (Box (Slot T) A))) (n : ℕ) (cell : Option (Box (Slot T) A)) (b new : Box (Slot T) A) (old : Slot T) (cache after : Cache S) (turn : Turn) → n < length slots → cell ≡ get_or slots n cell → cell ≡ Some b → old ≡ b.value
      → Turned holds remaining contents answers budget old cache turn new.value after
      → TakesTurn holds remaining contents answers budget (slot_at slots n) cache (Some turn) (slot_at (slice_set slots n (Some new)) n) after
  turns_at slots n cell b new old cache after turn low at is same turned =
      subst (λ x. TakesTurn holds remaining contents answers budget x cache (Some turn) (slot_at (slice_set slots n (Some new)) n) after) (sym (slot_is slots n cell b low at is ∙ ap (λ x. Some x) (sym same)))
      (subst (λ y. TakesTurn holds remaining contents answers budget (Some old) cache (Some turn) y after) (sym (slot_set slots n new low)) turned)

  -- a client that went, and whose place is emptied
  pub gone_serves : (c number : ℕ) → number ≡ c → (old mid new : List (Option (Box (Slot T) A))) (cache between after : Cache S) (turn : Option Turn) (before parted : Option Parted) → true ≡ is_gone turn
      → TakesTurn holds remaining contents answers budget (slot_at old number) cache turn (slot_at mid number) between → slot_at new c ≡ None
      → ((m : CacheState) → ShowsCache holds m between → ShowsCache holds (with_conn c None m) after)
      → ((m : CacheState) → ShowsCache holds m between → parted ≡ parted_last (version_at (m.at c)) (slot_at mid c) before)
      → Serves holds remaining contents answers budget c (slot_at old c) cache turn (slot_at new c) after parted
  gone_serves c number e old mid new cache between after turn before parted is turns gone closed counted =
      by_slot (slot_at old c) (slot_at mid c) turn is (subst (λ n. TakesTurn holds remaining contents answers budget (slot_at old n) cache turn (slot_at mid n) between) e turns) counted
    where
      by_slot : (a b : Option (Slot T)) (turn : Option Turn) → true ≡ is_gone turn → TakesTurn holds remaining contents answers budget a cache turn b between
          → ((m : CacheState) → ShowsCache holds m between → parted ≡ parted_last (version_at (m.at c)) b before) → Serves holds remaining contents answers budget c a cache turn (slot_at new c) after parted
      by_slot a b None is h kept = false_true (sym is)
      by_slot None b (Some t) is h kept = absurd h
      by_slot (Some x) None (Some t) is h kept = absurd h
      by_slot (Some x) (Some y) (Some (Gone how)) is h kept = record { last = y; between = between; turned = h; gone = gone; closed = closed; counted = kept }
      by_slot (Some x) (Some y) (Some WaitsToRead) is h kept = false_true (sym is)
      by_slot (Some x) (Some y) (Some WaitsToWrite) is h kept = false_true (sym is)
      by_slot (Some x) (Some y) (Some Busy) is h kept = false_true (sym is)
