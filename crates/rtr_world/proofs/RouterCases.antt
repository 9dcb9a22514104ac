-- What holds of each case of the clock, of a close and of a question holds of the router behind it.
use Rattle.rtr_world.proofs.Words.{counted, by_clock, by_close, Judgement, Begins, ◌≡◌, ℕ, Bool, true, false, [], ◌∷◌, Some, None, refl, if◌then◌else◌, Router, ask, emptied, Noted, asks_if, clocked, close, expired, silent, Link, Closed, Asked, Answering, Ended, is_closed, AskSerial, Asks, choose, is_serial, later, of_version, retry_of, sum_of}
use Rattle.rtr_ends.specs.declared.link.End.TheVariants as ends

-- What has expired is emptied, and the link continues or ends.
pub expired_by : (P : Router → Type 0) (l : Link) (r : Router) → P (emptied r) → P (record (emptied r) { link = Ended ends.Expired; out = [] }) → P (expired l r)
expired_by P (Asked (AskSerial session serial)) r on ended = ended
expired_by P (Answering a) r on ended = by_question (is_serial (Some a.question))
  where
    by_question : (b : Bool) → P (if b then record (emptied r) { link = Ended ends.Expired; out = [] } else emptied r)
    by_question true = ended
    by_question false = on
expired_by P _ r on ended = on

pub clocked_by : (P : Router → Type 0) (now : ℕ) (r : Router) → let k : Router = record r { now = later r.now now } in P k → P (emptied k) → P (record (emptied k) { link = Ended ends.Expired; out = [] }) → P (clocked now r)
clocked_by P now r still on ended = by_clock P now r (λ lasts. still) (λ over goes. on) (λ over live opened. ended)

pub close_by : (P : Router → Type 0) (r : Router) → (is_closed r.link ≡ true → P r) → (is_closed r.link ≡ false → P (record r { link = Closed; agreed = false; session = None; held = []; out = []; due = Some (sum_of r.now (retry_of r.config r.version)) })) → P (close r)
close_by P r same shut = by_close P r same shut

pub asks_by : (P : Noted → Type 0) (b : Bool) (r : Router) → P (record { router = ask r; items = Asks (choose (of_version r.spoken r.version) r.mark) ∷ [] }) → P (silent r) → P (asks_if b r)
asks_by P true r asks stays = asks
asks_by P false r asks stays = stays

-- PDUs are not counted if memory runs out at none.
pub none_counted : (j : Judgement) → counted j None ≡ None
none_counted Begins = refl
none_counted _ = refl
