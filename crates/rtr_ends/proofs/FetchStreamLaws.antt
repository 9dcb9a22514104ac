-- One connection of a router over a reader and a writer, from call to call.
use Rattle.rtr_ends.proofs.Words.{common_steps, ◌≡◌, ℕ, ◌+◌, ◌-◌, ◌*◌, ◌<◌, ◌≤◌, Bool, true, false, not, ◌&&◌, min, List, [], ◌∷◌, ◌++◌, length, take, drop, Option, Some, None, Result, Ok, Err, refl, sym, ap, ◌∙◌, subst, arith, append_assoc, take-add, append-nil, nil_from_length, take_at, length-take, take-append-drop, AllByRecursion, Appends, Consumes, IsAtEnd, Keeps, Appends-nil, Appends-trans, Consumes-kept, Consumes-nil, Consumes-trans, GoesOutInPart, Begins, Whole, Faulty, AreBytes, all_both, false_of_not, not_both, and-true}
use Rattle.rtr_pdu.specs.declared.device.WriteFailed.{WriteFailed as Failed}
use Rattle.rtr_ends.specs.Cache.{is_none}
use Rattle.rtr_ends.specs.Consumed.{came}
use Rattle.rtr_ends.specs.FetchStream.{AllAsked, Awaits, FetchEnds, FetchedAs, IsFetchCall, StillAsks, Taken, TakenPart, is_asking, pulled_by, reached_by, calls_since}
use Rattle.rtr_ends.specs.LinkRules.{Router}
use Rattle.rtr_ends.specs.Router.{RouterCall, Connects, Receives, Pulls, Receiving, clocked, connects_at, played, receives, router_byte, router_pulled, router_stops}
use Rattle.rtr_ends.specs.RouterLink.{Link, Closed, Idle, Ended, is_closed, is_reading}
use Rattle.rtr_ends.specs.RouterShown.{IsShown, CallsLead, LeadsOn, ReceivesSo}
use Rattle.rtr_ends.specs.Transcript.{At}
use Rattle.rtr_ends.specs.declared.fetching.Fetched.{Fetched}
use Rattle.rtr_ends.specs.declared.fetching.Fetched.TheVariants as outcomes
use Rattle.rtr_ends.specs.declared.router.Router as code
use Rattle.rtr_ends.specs.declared.streams.StreamFault.{StreamFault}
use Rattle.rtr_ends.specs.declared.streams.StreamFault.TheVariants.{ReadFailed, WriteFailed}
use Rattle.rtr_ends.proofs.Effects.{by_whole, clocked_keeps, unit_keeps, reading_open_so}
use Rattle.rtr_ends.proofs.FeedingLaws.{none_fed}
use Rattle.rtr_ends.proofs.CallSteps.{BytesKeep, by_piece}
use Rattle.rtr_ends.proofs.ServeStreamLaws.{drop_none, part_after}
use Rattle.rtr_ends.proofs.ByteLists.{no_rest}
use Rattle.rtr_ends.proofs.TableLaws.{false_true, inside}

-- What is pulled into room is at its front.
pub pulled_front : (out room now : List ℕ) (count : ℕ) → (count ≡ min (length room) (length out)) × (now ≡ take (length room) out ++ drop (length out) room) → take count now ≡ take (length room) out
pulled_front out room now count h = ap (take count) h.1 ∙ take_at (take (length room) out) (drop (length out) room) count (length-take (length room) out ∙ sym h.0)

-- A router that has nothing to be pulled, and consumes nothing, puts nothing out, and reads nothing more if there was a piece.
pub none_received : (now : ℕ) (wanting : Option ℕ) (piece : List ℕ) (r : Router) → r.out ≡ [] → 0 ≡ length piece - length (receives now wanting piece r).rest
    → ((receives now wanting piece r).machine.router.out ≡ []) × (0 < length piece → is_reading (receives now wanting piece r).machine.router.link ≡ false)
unfolding receives
none_received now wanting piece r out none =
    let n = none_fed (λ m. router_stops m.router) router_byte (record { router = clocked now r; items = At now ∷ []; wanting = wanting }) piece none in
    let silent = (clocked_keeps now r).out out in
    (ap (λ (m : Receiving). m.router.out) n.0 ∙ silent, λ some. ap (λ (m : Receiving). is_reading m.router.link) n.0 ∙ sym (and-true (is_reading (clocked now r).link)) ∙ false_of_not _ (ap (λ x. not (is_reading (clocked now r).link && is_none x)) (sym silent) ∙ n.1 some))

-- A connection stays open while bytes come.
pub open_link : (l : Link) → is_reading l ≡ true → is_closed l ≡ false
open_link l h = reading_open_so l h

open_after : BytesKeep (λ r items. is_closed r.link ≡ false)
open_after memory bytes r Begins items some live none h = h
open_after memory bytes r (Faulty fault) items some live none h = refl
open_after memory bytes r (Whole u) items some live none h = by_whole (λ n. is_closed n.router.link ≡ false) memory bytes r u refl ((unit_keeps r.link u (record r { held = [] })).connected h)

pub stays_open : (now : ℕ) (calls turns : List RouterCall) → AllByRecursion (IsFetchCall now) turns → is_closed (played (calls_since turns now calls)).router.link ≡ false
unfolding connects_at router_pulled
stays_open now calls [] h = refl
stays_open now calls (Receives at wanting piece ∷ turns) h = by_piece (λ r items. is_closed r.link ≡ false) (λ now r items open_so. (clocked_keeps now r).closed_on ∙ open_so) open_after at wanting piece (played (calls_since turns now calls)).router [] (stays_open now calls turns h.1)
stays_open now calls (Pulls most ∷ turns) h = stays_open now calls turns h.1
stays_open now calls _ h = absurd h.0

-- What router.pull returns
abbrev PullsBytes : (room now : List ℕ) (count : ℕ) → code.Router → Type 0
PullsBytes room now count old = (r : Router) → IsShown r old → (count ≡ min (length room) (length r.out)) × (now ≡ take (length room) r.out ++ drop (length r.out) room)

-- Nothing has happened.
pub starts : (now : ℕ) (calls : List RouterCall) (before : Option (List ℕ)) (v : code.Router) → CallsLead calls v → TakenPart now calls [] before before v
starts now calls before v leads = record { more = []; each = tt; leads = leads; came_is = sym (append-nil (came calls)); sent = []; pulled_is = sym (append-nil (pulled_by calls)); out = Appends-nil before }

module _ (now : ℕ) (calls : List RouterCall) (had has : Option (List ℕ)) (old : code.Router) where
  -- Bytes are pulled, and go out.
  pub pulls_more : (piece : List ℕ) (p : TakenPart now calls piece had has old) (room bytes : List ℕ) (count : ℕ) (written : Option (List ℕ)) (new : code.Router) → LeadsOn (Pulls (length room)) old new → PullsBytes room bytes count old
      → Appends has written (take count bytes) → TakenPart now calls piece had written new
  pulls_more piece p room bytes count written new on tells out = record {
    more = Pulls (length room) ∷ p.more;
    each = (tt, p.each);
    leads = (on (p.more ++ calls) p.leads).leads;
    came_is = append-nil (came (p.more ++ calls)) ∙ p.came_is;
    sent = p.sent ++ take count bytes;
    pulled_is = ap (λ x. x ++ take (length room) (played (p.more ++ calls)).router.out) p.pulled_is
        ∙ append_assoc (pulled_by calls) p.sent (take (length room) (played (p.more ++ calls)).router.out)
        ∙ ap (λ x. pulled_by calls ++ (p.sent ++ x)) (sym (pulled_front (played (p.more ++ calls)).router.out room bytes count (tells (played (p.more ++ calls)).router p.leads)));
    out = Appends-trans had has written p.sent (take count bytes) p.out out;
  }

  -- Nothing is pulled if nothing is pending.
  pub pulls_none : (piece : List ℕ) (p : TakenPart now calls piece had has old) (room bytes : List ℕ) (count : ℕ) (new : code.Router) → LeadsOn (Pulls (length room)) old new → PullsBytes room bytes count old
      → count ≡ 0 → 0 < length room → (q : TakenPart now calls piece had has new) × ((played (q.more ++ calls)).router.out ≡ [])
  unfolding pulls_more router_pulled
  pulls_none piece p room bytes count new on tells none size =
      let told = tells (played (p.more ++ calls)).router p.leads in
      let out = nil_from_length (played (p.more ++ calls)).router.out (omega (arith, told.0, none, size)) in
      (pulls_more piece p room bytes count has new on tells (subst (λ n. Appends has has (take n bytes)) (sym none) (Appends-nil has)), ap (drop (length room)) out ∙ drop_none (length room))

  -- Bytes are received.
  pub receives_more : (piece : List ℕ) (p : TakenPart now calls piece had has old) (slice : List ℕ) (count : ℕ) (new : code.Router) → AreBytes slice → ReceivesSo now slice count old new → TakenPart now calls (piece ++ take count slice) had has new
  receives_more piece p slice count new bytes so =
      let s = so.1 (played (p.more ++ calls)).router p.leads in
      record {
        more = Receives now so.0 slice ∷ p.more;
        each = ((refl, bytes), p.each);
        leads = s.shown;
        came_is = (λ i. p.came_is i ++ take (sym s.count_is i) slice) ∙ append_assoc (came calls) piece (take count slice);
        sent = p.sent;
        pulled_is = p.pulled_is;
        out = p.out;
      }

  -- None of them is consumed.
  pub receives_none : (piece : List ℕ) (p : TakenPart now calls piece had has old) (slice : List ℕ) (count : ℕ) (new : code.Router) → (played (p.more ++ calls)).router.out ≡ [] → AreBytes slice → ReceivesSo now slice count old new → count ≡ 0
      → Taken now calls (piece ++ slice) had has (Ok tt) new
  unfolding receives_more
  receives_none piece p slice count new out bytes so none =
      let q = receives_more piece p slice count new bytes so in
      let s = so.1 (played (p.more ++ calls)).router p.leads in
      let stops = none_received now so.0 slice (played (p.more ++ calls)).router out (sym none ∙ s.count_is) in
      record {
        more = q.more;
        each = q.each;
        leads = q.leads;
        unread = slice;
        came_is = ap (λ x. x ++ slice) (q.came_is ∙ ap (λ n. came calls ++ (piece ++ take n slice)) none ∙ ap (λ x. came calls ++ x) (append-nil piece)) ∙ append_assoc (came calls) piece slice;
        sent = q.sent;
        pulled_is = q.pulled_is;
        takes = (stops.0, stops.1, q.out);
      }

module _ (now : ℕ) (calls : List RouterCall) (had has : Option (List ℕ)) (old mid : code.Router) (piece room bytes : List ℕ) (at count : ℕ) (p : TakenPart now calls (take at piece) had has old) (on : LeadsOn (Pulls (length room)) old mid)
    (tells : PullsBytes room bytes count old) where
  -- The writer failed at bytes that were pulled.
  pub fails_at : (written : Option (List ℕ)) (e : Failed) → GoesOutInPart has written (take count bytes) → Taken now calls piece had written (Err e) mid
  unfolding pulls_more
  fails_at written e part =
      let silent : TakenPart now calls (take at piece) None None old = record { more = p.more; each = p.each; leads = p.leads; came_is = p.came_is; sent = p.sent; pulled_is = p.pulled_is; out = tt } in
      let q = pulls_more now calls None None old (take at piece) silent room bytes count None mid on tells tt in
      record {
        more = q.more;
        each = q.each;
        leads = q.leads;
        unread = drop at piece;
        came_is = ap (λ x. x ++ drop at piece) q.came_is ∙ append_assoc (came calls) (take at piece) (drop at piece) ∙ ap (λ x. came calls ++ x) (take-append-drop at piece);
        sent = q.sent;
        pulled_is = q.pulled_is;
        takes = part_after had has written p.sent (take count bytes) p.out part;
      }

  module _ (none : count ≡ 0) (size : 0 < length room) (slice : List ℕ) (taken : ℕ) (new : code.Router) (are : AreBytes (drop at piece)) (is : slice ≡ drop at piece) (so : ReceivesSo now slice taken mid new) where
    quiet : (q : TakenPart now calls (take at piece) had has mid) × ((played (q.more ++ calls)).router.out ≡ [])
    quiet = pulls_none now calls had has old (take at piece) p room bytes count mid on tells none size

    -- What is left of a piece is received, and this much of it is consumed.
    pub takes_on : TakenPart now calls (take (at + taken) piece) had has new
    takes_on =
        subst (λ x. TakenPart now calls x had has new) (sym (take-add at taken piece))
        (receives_more now calls had has mid (take at piece) quiet.0 (drop at piece) taken new are (subst (λ x. ReceivesSo now x taken mid new) is so))

    -- None of it is consumed.
    pub takes_end : taken ≡ 0 → Taken now calls piece had has (Ok tt) new
    takes_end stop =
        subst (λ x. Taken now calls x had has (Ok tt) new) (take-append-drop at piece)
        (receives_none now calls had has mid (take at piece) quiet.0 (drop at piece) taken new quiet.1 are (subst (λ x. ReceivesSo now x taken mid new) is so) stop)

module _ (now : ℕ) (calls : List RouterCall) (before : Option (List ℕ)) (had : Option (List ℕ)) where
  -- a router that was connected, all of whose bytes so far are consumed, and whose pulled bytes have gone out
  pub record Pending (left : Option (List ℕ)) (reads : ℕ) (has : Option (List ℕ)) (router : code.Router) : Type 0 where
    pub turns : List RouterCall
    pub each : AllByRecursion (IsFetchCall now) turns
    pub leads : CallsLead (calls_since turns now calls) router
    pub consumed : Consumes before left (came (calls_since turns now calls))
    pub few : length (came (calls_since turns now calls)) ≤ 4096 * reads
    pub out : Appends had has (pulled_by (calls_since turns now calls))

  module _ (left : Option (List ℕ)) (reads : ℕ) (has : Option (List ℕ)) (router : code.Router) where
    -- A piece was read and consumed.
    module _ (w : Pending left reads has router) (piece : List ℕ) (after : Option (List ℕ)) (written : Option (List ℕ)) (new : code.Router) (more : ℕ) (read : Consumes left after piece) (size : reads ≤ more) (fits : length piece + 4096 * reads ≤ 4096 * more) where
      came_all : (x : List RouterCall) (unread : List ℕ) → came x ++ unread ≡ came (calls_since w.turns now calls) ++ piece → Consumes before after (came x ++ unread) × (length (came x ++ unread) ≤ 4096 * more)
      came_all x unread is = grind (arith, common_steps)

      -- The writer failed.
      pub fails_there : (e : Failed) → Taken now (calls_since w.turns now calls) piece has written (Err e) new → FetchedAs now calls before after more had written (Err WriteFailed) new
      fails_there e t =
          let joined = sym (append_assoc t.more w.turns (Connects now ∷ calls)) in
          let all = came_all (t.more ++ calls_since w.turns now calls) t.unread t.came_is in (
            record {
              turns = t.more ++ w.turns;
              each = all_both (IsFetchCall now) t.more w.turns t.each w.each;
              unread = t.unread;
              consumed = subst (λ x. Consumes before after (came x ++ t.unread)) joined all.0;
              few = subst (λ x. length (came x ++ t.unread) ≤ 4096 * more) joined all.1;
              ends = subst (λ x. GoesOutInPart had written (pulled_by x)) joined (subst (GoesOutInPart had written) (sym t.pulled_is) (part_after had has written (pulled_by (calls_since w.turns now calls)) t.sent w.out t.takes));
            },
            subst (λ x. CallsLead x new) joined t.leads,
          )

      -- It is consumed.
      pub awaits_on : Taken now (calls_since w.turns now calls) piece has written (Ok tt) new → Awaits now calls before after more had written new
      awaits_on t =
          let joined = sym (append_assoc t.more w.turns (Connects now ∷ calls)) in
          let all = came_all (t.more ++ calls_since w.turns now calls) t.unread t.came_is in
          record {
            turns = t.more ++ w.turns;
            each = all_both (IsFetchCall now) t.more w.turns t.each w.each;
            leads = subst (λ x. CallsLead x new) joined t.leads;
            unread = t.unread;
            consumed = subst (λ x. Consumes before after (came x ++ t.unread)) joined all.0;
            few = subst (λ x. length (came x ++ t.unread) ≤ 4096 * more) joined all.1;
            all_read = subst (λ x. 0 < length t.unread → is_reading (played x).router.link ≡ false) joined t.takes.1;
            asked = subst (λ x. AllAsked x had written) joined
                (t.takes.0, subst (Appends had written) (sym t.pulled_is) (Appends-trans had has written (pulled_by (calls_since w.turns now calls)) t.sent w.out t.takes.2));
          }

    module _ (w : Awaits now calls before left reads had has router) where
      abbrev led_to : Router
      led_to = (played (calls_since w.turns now calls)).router

      ends_after : (after : Option (List ℕ)) (more : ℕ) (result : Result Fetched StreamFault) → reads ≤ more → Consumes before after (came (calls_since w.turns now calls) ++ w.unread) → FetchEnds (calls_since w.turns now calls) w.unread after had has result
          → FetchedAs now calls before after more had has result router
      ends_after after more result most consumed ends = (
        record {
          turns = w.turns;
          each = w.each;
          unread = w.unread;
          consumed = consumed;
          few = (let f = w.few in omega (arith, f, most));
          ends = ends;
        },
        w.leads,
      )

      -- No question is outstanding.
      pub reached_there : (more : ℕ) (fetched : Fetched) → reads ≤ more → ((r : Router) → IsShown r router → Some fetched ≡ reached_by r.link r.no_data) → FetchedAs now calls before left more had has (Ok fetched) router
      reached_there more fetched most told = ends_after left more (Ok fetched) most w.consumed (by_link led_to.link led_to.no_data refl refl (told led_to w.leads))
        where
          by_link : (l : Link) (b : Bool) → led_to.link ≡ l → led_to.no_data ≡ b → Some fetched ≡ reached_by l b → FetchEnds (calls_since w.turns now calls) w.unread left had has (Ok fetched)
          by_link Idle true il ib h = rw (inside h) (w.asked, no_rest w.unread (λ some. not_both (is_reading led_to.link) (ap is_reading il) (w.all_read some)), il, ib)
          by_link Idle false il ib h = rw (inside h) (w.asked, no_rest w.unread (λ some. not_both (is_reading led_to.link) (ap is_reading il) (w.all_read some)), il, ib)
          by_link (Ended end) b il ib h = rw (inside h) (w.asked, il)
          by_link _ b il ib h = absurd (let e : ◌≡◌ {A = Option Fetched} (Some fetched) None = h in cc)

      -- One is.
      module _ (told : (r : Router) → IsShown r router → ◌≡◌ {A = Option Fetched} None (reached_by r.link r.no_data)) where
        asks : is_asking led_to.link ≡ true
        asks = by_link led_to.link led_to.no_data (stays_open now calls w.turns w.each) (told led_to w.leads)
          where
            by_link : (l : Link) (b : Bool) → is_closed l ≡ false → ◌≡◌ {A = Option Fetched} None (reached_by l b) → is_asking l ≡ true
            by_link Closed b open_so h = false_true (sym open_so)
            by_link Idle b open_so h = absurd (let e : ◌≡◌ {A = Option Fetched} None (Some _) = h in cc)
            by_link (Ended end) b open_so h = absurd (let e : ◌≡◌ {A = Option Fetched} None (Some (outcomes.Ended end)) = h in cc)
            by_link _ b open_so h = refl

        asking_reads : (l : Link) → is_asking l ≡ true → is_reading l ≡ true
        asking_reads Closed h = h
        asking_reads (Ended end) h = h
        asking_reads _ h = refl

        pub all_consumed : w.unread ≡ []
        all_consumed = no_rest w.unread (λ some. not_both (is_reading led_to.link) (asking_reads led_to.link asks) (w.all_read some))

        still : StillAsks (calls_since w.turns now calls) w.unread
        still = (all_consumed, asks)

        came_is : came (calls_since w.turns now calls) ++ w.unread ≡ came (calls_since w.turns now calls)
        came_is = ap (λ x. came (calls_since w.turns now calls) ++ x) all_consumed ∙ append-nil (came (calls_since w.turns now calls))

        pub pends : Pending left reads has router
        pends = record {
          turns = w.turns;
          each = w.each;
          leads = w.leads;
          consumed = subst (Consumes before left) came_is w.consumed;
          few = subst (λ x. length x ≤ 4096 * reads) came_is w.few;
          out = w.asked.1;
        }

        -- As many reads were made as were allowed.
        pub limit_there : (more : ℕ) → reads ≤ more → FetchedAs now calls before left more had has (Ok outcomes.Limit) router
        limit_there more most = ends_after left more (Ok outcomes.Limit) most w.consumed (w.asked, still)

        -- The input has ended.
        pub input_ends : (after : Option (List ℕ)) (count more : ℕ) (buf : List ℕ) → count ≡ 0 → reads ≤ more → 0 < length buf → Consumes left after (take count buf) × (count ≡ 0 → 0 < length buf → IsAtEnd after)
            → FetchedAs now calls before after more had has (Ok outcomes.PeerClosed) router
        input_ends after count more buf none most room read =
            ends_after after more (Ok outcomes.PeerClosed) most
            (subst (Consumes before after) (append-nil (came (calls_since w.turns now calls) ++ w.unread)) (Consumes-trans before left after (came (calls_since w.turns now calls) ++ w.unread) [] w.consumed (subst (λ n. Consumes left after (take n buf)) none read.0)))
            (w.asked, still, read.1 none room)

        -- The reader failed.
        pub read_fails_there : (after : Option (List ℕ)) (more : ℕ) → Keeps left after → reads ≤ more → FetchedAs now calls before after more had has (Err ReadFailed) router
        read_fails_there after more kept most = ends_after after more (Err ReadFailed) most (Consumes-kept before left after (came (calls_since w.turns now calls) ++ w.unread) w.consumed kept) (w.asked, still)

-- A router that was connected just now has read nothing.
abbrev pub pends_first : (now : ℕ) (calls : List RouterCall) (before had : Option (List ℕ)) (router : code.Router) → CallsLead (Connects now ∷ calls) router → Pending now calls before had before 0 had router
pends_first now calls before had router leads = record { turns = []; each = tt; leads = leads; consumed = Consumes-nil before; few = omega arith; out = Appends-nil had }
