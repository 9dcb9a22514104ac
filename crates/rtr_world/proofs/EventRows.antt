-- Events of the world, worked out: one router that asks and is answered, a second one, notifies, questions, ticks, restarts, refusals for
-- want of memory, and ends of links. Further steps are played by the scripts of tests/cases/world.py.
use Rattle.rtr_world.proofs.Words.{◌≡◌, ℕ, ◌≤◌, Bool, true, false, List, [], ◌∷◌, ◌++◌, length, take, drop, Some, None, refl, Option, ap, arith, Instance, versions, VrpSet, empty, set_of, listing-set_of, judge, as_read, SerialNotify, SerialQuery, CacheResponse, EndOfData, Prefix, Version, V0, V1, report, sent, sent_all, Conn, new_conn, conn_takes, conn_byte, conn_pulled, conn_notified, Router, new_router, on_unit, router_byte, receives, clocked, closed_at, ticks_at, connects_at, router_pulled, Idle, Asked, Answering, default_intervals, At, Opened, Asks, Refused, Restarts, Shut, Item, AskReset, AskSerial, Committed, Reads, v, v_ascends, cache, with_all_of, reset_bytes, response_bytes, v_bytes, end_bytes, led_none}
use Rattle.rtr_world.specs.CatchUp.{HoldsNewest}
use Rattle.rtr_world.specs.Claims.{OfAnother, told}
use Rattle.rtr_world.specs.SideShown.{held_of}
use Rattle.rtr_world.specs.VersionPlaces.{position_of, version_place_of, VersionPlace}
use Rattle.rtr_world.specs.Events.{outcome_fault}
use Rattle.rtr_world.specs.History.{Done, SessionUsed, TooManyVersions, NoSuchRouter, Memory, Entry, after, refusal, may_refuse, moved, MayEnd, has_connection, is_near, room_for, room_since, readings_at}
use Rattle.rtr_world.specs.World.{Side, World, Event, Publish, Restart, On, RouterRestart, Speak, Connect, RouterSends, CacheGets, CacheSends, RouterGets, Cut, NotifyRouter, Ask, Tick, new_side, connects, cache_gets, cache_sends, router_gets, router_restarts, cut, side_step, side_refused, settle, goes_through, settled, is_refused, router_sends}
use Rattle.rtr_ends.specs.declared.link.End.TheVariants as ends
use Rattle.rtr_world.specs.declared.event.WorldFault.TheVariants as faults

abbrev just_v : VrpSet
just_v = set_of (v ∷ [])

abbrev with_v : Instance
with_v = cache 5 (just_v ∷ [])

abbrev world : List Side → World
world sides = record { keep = 2; past = []; present = with_v; sides = sides }

-- one router connects, and the other does not
abbrev asking : Router
asking = record new_router { link = Asked AskReset }

abbrev opened : List Item
opened = Asks AskReset ∷ Opened V1 ∷ At 0 ∷ []

abbrev open_side : Router → Conn → List ℕ → List ℕ → List Item → Side
open_side r o up down items = record { router = r; conn = Some o; up = up; down = down; home = Some with_v; read_at = None; items = items; endings = []; places = [] }

-- A world of one router, and its side once it has asked
abbrev one : Side → World
one s = world (s ∷ [])

abbrev asked_side : Router → Conn → List ℕ → List ℕ → Side
asked_side r o up down = open_side r o up down opened

query_sent : after (On 0 (RouterSends 8)) (Done None) (after (On 0 Connect) (Done None) (one new_side)) ≡ one (asked_side asking (new_conn with_v) reset_bytes [])
unfolding goes_through settled settle side_step connects connects_at clocked router_sends router_pulled
query_sent = refl

-- The cache reads the query: its answer of 52 bytes is due.
abbrev answer_bytes : List ℕ
answer_bytes = response_bytes ++ v_bytes ++ end_bytes 5

abbrev replied : List ℕ → Conn
replied due = record { state = record { cache = with_v; version = Some V1; ended = false; due = due; notified = false; seen = [] }; held = [] }

query_read : after (On 0 (CacheGets 8)) (Done None) (one (asked_side asking (new_conn with_v) reset_bytes [])) ≡ one (record (asked_side asking (replied answer_bytes) [] []) { read_at = Some with_v })
unfolding goes_through settled settle side_step cache_gets conn_takes conn_byte judge as_read
query_read = ap (λ vs. one (record (asked_side asking (replied (sent_all V1 (with_all_of 5 just_v vs))) [] []) { read_at = Some with_v })) (listing-set_of (v ∷ []) v_ascends)

abbrev later : List VrpSet → Instance
later sets = record { session = 0x2222; session0 = 0x2222; start = 9; sets = sets }

abbrev restarted_world : List VrpSet → Side → World
restarted_world sets s = record { keep = 2; past = with_v ∷ []; present = later sets; sides = s ∷ [] }

abbrev left_side : Side
left_side = record (asked_side asking (replied []) [] answer_bytes) { conn = None }

restarted : after (Restart 0x2222 0x2222 9) (Done None) (one (asked_side asking (replied []) [] answer_bytes)) ≡ restarted_world [] left_side
unfolding goes_through settled settle
restarted = refl

-- Memory can run out at a Serial Query, when its last byte is there, and at no PDU after it.
abbrev query_side : Side
query_side = asked_side asking (new_conn with_v) (0x01 ∷ 0x01 ∷ 0x12 ∷ 0x34 ∷ 0 ∷ 0 ∷ 0 ∷ 0x0c ∷ 0 ∷ 0 ∷ 0 ∷ 0x05 ∷ []) []

wants_memory : readings_at (one query_side) (CacheGets 12) 12 (Some query_side) ≡ true ∷ []
unfolding conn_takes conn_byte judge as_read
wants_memory = refl

too_early : readings_at (one query_side) (CacheGets 11) 11 (Some query_side) ≡ []
unfolding conn_takes conn_byte judge as_read
too_early = refl

-- Then an Internal Error is due in the answer's place, and the connection has ended.
abbrev internal_error : List ℕ
internal_error = 0x01 ∷ 0x0a ∷ 0x00 ∷ 0x01 ∷ 0 ∷ 0 ∷ 0 ∷ 0x10 ∷ 0 ∷ 0 ∷ 0 ∷ 0 ∷ 0 ∷ 0 ∷ 0 ∷ 0 ∷ []

memory_wanted : after (On 0 (CacheGets 12)) (Done (Some 0)) (one query_side)
    ≡ one (record (asked_side asking (record { state = record { cache = with_v; version = Some V1; ended = true; due = internal_error; notified = false; seen = [] }; held = [] }) [] []) { read_at = Some with_v })
unfolding goes_through settled settle side_step cache_gets conn_takes conn_byte judge as_read
memory_wanted = refl

-- a notify is queued
abbrev notified : Conn
notified = record { state = record { cache = with_v; version = None; ended = false; due = sent V1 (SerialNotify 0x1234 5); notified = true; seen = [] }; held = [] }

notifies : after (On 0 NotifyRouter) (Done None) (world (open_side asking (new_conn with_v) [] [] opened ∷ [])) ≡ world (open_side asking notified [] [] opened ∷ [])
unfolding goes_through settled settle side_step conn_notified
notifies = refl

-- an idle router, and one that has asked what changed
abbrev version_5 : Committed
version_5 = record { version = V1; session = 0x1234; serial = 5; moment = 0; intervals = default_intervals }

abbrev idle : Router
idle = record new_router { table = just_v; version = Some version_5; due = Some 3600; link = Idle; agreed = true; session = Some 0x1234 }

abbrev asked_again : Router
asked_again = record idle { link = Asked (AskSerial 0x1234 5); out = sent V1 (SerialQuery 0x1234 5) }

-- The clock advances without a connection: what has expired is emptied.
abbrev closed_side : Router → List Item → Side
closed_side r items = record new_side { router = r; items = items }

abbrev closed : Router
closed = record new_router { table = just_v; version = Some version_5; due = Some 600 }

-- An expiry while a Serial Query is outstanding ends the link. That is noted, and the router is notified in the same event.
expires_asked : after (On 0 (Tick 7201)) (Done None) (world (open_side asked_again (new_conn with_v) [] [] (Asks (AskSerial 0x1234 5) ∷ []) ∷ []))
    ≡ world (record (closed_side (record new_router { due = Some 7801; now = 7201 }) (Shut ∷ At 7201 ∷ At 7201 ∷ Asks (AskSerial 0x1234 5) ∷ [])) {
      endings = record { end = ends.Expired; question = Some (AskSerial 0x1234 5); version = V1; home = Some with_v } ∷ [];
    } ∷ [])
unfolding goes_through settled settle side_step ticks_at clocked closed_at
expires_asked = refl

-- The cache began anew: the router is notified.
abbrev ended_conn : List ℕ → Conn
ended_conn due = record { state = record { cache = with_v; version = Some V1; ended = true; due = due; notified = false; seen = [] }; held = [] }

abbrev other : Router
other = record idle { version = Some (record version_5 { session = 0x2222 }); session = None; agreed = false; link = Asked (AskSerial 0x2222 5) }

abbrev corrupt : List ℕ
corrupt = sent V1 (report 0 (sent V1 (SerialQuery 0x2222 5)))

-- A cache connection that ended is closed at the cache when its last byte is pulled,
last_byte : after (On 0 (CacheSends 99)) (Done None) (world (open_side other (ended_conn corrupt) [] [] (Asks (AskSerial 0x2222 5) ∷ []) ∷ []))
    ≡ world (record (open_side other (new_conn with_v) [] corrupt (Asks (AskSerial 0x2222 5) ∷ [])) { conn = None } ∷ [])
unfolding goes_through settled settle side_step cache_sends conn_pulled
last_byte = refl

abbrev cut_side : Side
cut_side = record (open_side asking (new_conn with_v) [] [] opened) { conn = None }

-- Nothing that the cache still sends is on the wire to a closed link.
sends_to_closed : after (On 0 (CacheSends 99)) (Done None) (world (record (open_side closed notified (1 ∷ []) [] []) { home = None } ∷ []))
    ≡ world (record (open_side closed (record notified { state = record (notified.state) { due = [] } }) (1 ∷ []) [] []) { home = None } ∷ [])
unfolding goes_through settled settle side_step cache_sends conn_pulled
sends_to_closed = refl

-- A router restarts: nothing is left of its connection.
restarts_router : after (On 0 RouterRestart) (Done None) (world (record (open_side (record asking { now = 9 }) notified (take 3 reset_bytes) (7 ∷ []) opened) { read_at = Some with_v } ∷ []))
    ≡ world (closed_side new_router (Restarts ∷ opened) ∷ [])
unfolding goes_through settled settle side_step router_restarts
restarts_router = refl

-- Refused because memory ran out: what came before has moved, the connection is cut with nothing to arrive, and the router is notified.
cut_by_want : after (On 0 (CacheGets 8)) (Memory 3 None) (world (record (open_side (record asking { out = 9 ∷ [] }) (new_conn with_v) reset_bytes (7 ∷ []) opened) { read_at = Some with_v } ∷ []))
    ≡ world (closed_side (record new_router { due = Some 600 }) (Shut ∷ At 0 ∷ Refused ∷ opened) ∷ [])
unfolding is_refused settled settle side_refused cut cache_gets conn_takes conn_byte judge as_read closed_at clocked
cut_by_want = refl

old_stays : after (On 0 RouterRestart) (Memory 0 None) (world (open_side idle (new_conn with_v) [] (7 ∷ []) [] ∷ [])) ≡ world (closed_side (record closed { due = Some 600 }) (Shut ∷ At 0 ∷ Refused ∷ []) ∷ [])
unfolding is_refused settled settle side_refused cut closed_at clocked
old_stays = refl

nothing_published : after (Publish just_v) (Memory 0 None) (world (new_side ∷ [])) ≡ world (new_side ∷ [])
unfolding is_refused
nothing_published = refl

-- which events may be refused so
abbrev connected : World
connected = world (open_side asking (new_conn with_v) reset_bytes [] opened ∷ new_side ∷ [])

refuses : (may_refuse connected (Publish just_v) ≡ true) × (may_refuse connected (Restart 1 1 1) ≡ true) × (may_refuse connected (On 1 RouterRestart) ≡ true) × (may_refuse connected (On 1 Connect) ≡ true)
    × (may_refuse connected (On 0 (RouterSends 0)) ≡ true) × (may_refuse connected (On 0 (CacheGets 0)) ≡ true) × (may_refuse connected (On 0 (CacheSends 0)) ≡ true) × (may_refuse connected (On 0 (RouterGets 0)) ≡ true)
refuses = (refl, refl, refl, refl, refl, refl, refl, refl)

never_refuses : (may_refuse connected (On 0 (Cut 0)) ≡ false) × (may_refuse connected (On 0 NotifyRouter) ≡ false) × (may_refuse connected (On 0 (Speak V0)) ≡ false) × (may_refuse connected (On 0 Ask) ≡ false) × (may_refuse connected (On 0 (Tick 0)) ≡ false)
    × (may_refuse connected (On 1 (RouterSends 9)) ≡ false) × (may_refuse connected (On 1 (CacheGets 9)) ≡ false) × (may_refuse connected (On 1 (CacheSends 9)) ≡ false) × (may_refuse connected (On 1 (RouterGets 9)) ≡ false)
never_refuses = (refl, refl, refl, refl, refl, refl, refl, refl, refl)

-- a router whose link is closed has a connection while one is open at the cache, and one that was not notified yet has one too
still_connected : (has_connection (record new_side { conn = Some (new_conn with_v) }) ≡ true) × (has_connection cut_side ≡ true) × (has_connection new_side ≡ false)
still_connected = (refl, refl, refl)

-- It reports at most the bytes that it would have moved with memory, and a PDU only if that came and allocates memory.
all_of_it : moved connected (On 0 (CacheGets 99)) None ≡ 8
unfolding cache_gets conn_takes conn_byte judge as_read
all_of_it = refl

too_many_bytes : MayEnd (refusal connected (On 0 (CacheGets 99))) connected (On 0 (CacheGets 99)) (Memory 9 None) → ⊥
unfolding refusal cache_gets conn_takes conn_byte judge as_read
too_many_bytes h = let e : 9 ≤ 8 = h.2 in omega (arith, e)

never_came : MayEnd (refusal connected (On 0 (CacheGets 7))) connected (On 0 (CacheGets 7)) (Done (Some 0)) → ⊥
unfolding refusal conn_takes conn_byte judge as_read
never_came h = absurd (let e : ◌≡◌ {A = Option Bool} None (Some true) = h in cc)

no_unit : MayEnd (refusal connected (Restart 1 1 1)) connected (Restart 1 1 1) (Done (Some 0)) → ⊥
unfolding refusal
no_unit h = absurd (let e : ◌≡◌ {A = Option Bool} None (Some true) = h in cc)

-- The cache published {v} after the connection was made. What it reports now is the new version.
abbrev at_first : Instance
at_first = cache 5 (empty ∷ [])

abbrev now_v : Instance
now_v = cache 5 (just_v ∷ empty ∷ [])

abbrev later_world : Conn → List ℕ → World
later_world o up = record { keep = 2; past = []; present = now_v; sides = record (open_side asking o up [] opened) { home = Some at_first } ∷ [] }

abbrev told_now : Option Version → List ℕ → Bool → Conn
told_now version due is_notice = record { state = record { cache = now_v; version = version; ended = false; due = due; notified = is_notice; seen = [] }; held = [] }

abbrev read_now : Conn → World
read_now o = record { keep = 2; past = []; present = now_v; sides = record (open_side asking o [] [] opened) { home = Some at_first; read_at = Some now_v } ∷ [] }

answers_as_now : after (On 0 (CacheGets 8)) (Done None) (later_world (new_conn at_first) reset_bytes) ≡ read_now (told_now (Some V1) (response_bytes ++ v_bytes ++ end_bytes 6) false)
unfolding goes_through settled settle side_step cache_gets conn_takes conn_byte judge as_read
answers_as_now = ap (λ vs. read_now (told_now (Some V1) (sent_all V1 (with_all_of 6 just_v vs)) false)) (listing-set_of (v ∷ []) v_ascends)

-- If a PDU has not come whole none was read, and on a new connection none was.
reads_no_part : after (On 0 (CacheGets 7)) (Done None) (later_world (new_conn at_first) reset_bytes) ≡ later_world (record (new_conn at_first) { held = take 7 reset_bytes }) (drop 7 reset_bytes)
unfolding goes_through settled settle side_step cache_gets conn_takes conn_byte judge as_read
reads_no_part = refl

connects_unread : (connects (world []) (record new_side { read_at = Some with_v })).read_at ≡ None
unfolding connects
connects_unread = refl

-- Too many versions are counted from the one that a router committed under this session, and from the one that was current when its
-- connection was made, or the first. An instance that ended does not count, and a set that is current already is not refused.
counted_so : (sets : List VrpSet) → length sets ≡ 2147483648 → let i = cache 5 sets in
    (is_near i (Some 0) ≡ false) × (is_near i (Some 1) ≡ true)
    × (room_since i (Some (cache 5 [])) ≡ false) × (room_since i (Some (cache 5 (just_v ∷ empty ∷ []))) ≡ true)
    × (room_since i (Some (record (cache 5 []) { session = 0x2222; session0 = 0x2222 })) ≡ true) × (room_since i None ≡ true)
    × (room_for i (Some (record version_5 { session = 0x2222 })) ≡ true) × (room_for i None ≡ true)
counted_so sets count = rw count (refl, refl, refl, refl, refl, refl, refl, refl)

-- What was committed counts under its session in its own version of the protocol: this cache is 0x4321 in version 0.
abbrev of_both : List VrpSet → Instance
of_both sets = record (cache 5 sets) { session0 = 0x4321 }

counted_in_its_version : (sets : List VrpSet) →
    (room_for (of_both sets) (Some (record version_5 { version = V0 })) ≡ true) × (room_for (of_both sets) (Some (record version_5 { session = 0x4321 })) ≡ true)
    × (room_for (of_both sets) (Some (record version_5 { version = V0; session = 0x4321 })) ≡ is_near (of_both sets) (position_of 5 (versions (of_both sets))))
counted_in_its_version sets = (refl, refl, refl)

held_in_its_version : (sets : List VrpSet) → (held_of (of_both sets) (Some (record version_5 { version = V0; session = 0x4321 })) ≡ Some 5) × (held_of (of_both sets) (Some (record version_5 { version = V0 })) ≡ None)
held_in_its_version sets = (refl, refl)

-- So is its place, and the session that a link learns to be another.
placed_in_its_version : (version_place_of (of_both (just_v ∷ []) ∷ []) (Some (record version_5 { version = V0; session = 0x4321 })) ≡ Some (record { instance = 0; position = 0 }))
    × (version_place_of (of_both (just_v ∷ []) ∷ []) (Some (record version_5 { version = V0 })) ≡ None)
placed_in_its_version = (refl, refl)

another_in_version_0 : OfAnother (Some (AskSerial 0x1234 5)) V0 (Some (of_both []))
another_in_version_0 = λ e. absurd (omega (arith, e))

the_same_in_version_0 : OfAnother (Some (AskSerial 0x4321 5)) V0 (Some (of_both [])) → ⊥
the_same_in_version_0 h = h refl

-- A table of the other version may stay if nothing is published.
held_of_the_other : (table : VrpSet) → HoldsNewest V0 0x4321 [] (Some version_5) table
held_of_the_other table = (refl, λ e. absurd (let h : ◌≡◌ {A = Option Committed} (Some version_5) None = e in cc))

-- At most as much is moved as the event says.
no_more_than_said : (moved (world (open_side asking (new_conn with_v) [] (1 ∷ 3 ∷ 5 ∷ []) opened ∷ [])) (On 0 (RouterGets 1)) None ≡ 1)
    × (moved (world (open_side (record asking { out = reset_bytes }) (new_conn with_v) [] [] opened ∷ [])) (On 0 (RouterSends 1)) None ≡ 1)
    × (moved (world (open_side asking notified [] [] opened ∷ [])) (On 0 (CacheSends 1)) None ≡ 1)
unfolding router_gets receives clocked router_byte judge as_read
no_more_than_said = (refl, refl, refl)

-- Memory may run out at a PDU that comes to a router only if that comes whole and allocates memory. An End of Data of the answer does, a
-- Cache Response does not. The outcome names no other PDU, and no other event of the router's names one.
abbrev answering : Router
answering = record new_router { link = Answering (record { question = AskReset; session = 0x1234; withdrawn = []; announced = [] }); agreed = true; session = Some 0x1234 }

abbrev ends_come : World
ends_come = world (open_side answering (new_conn with_v) [] (end_bytes 5) [] ∷ [])

wants_at_an_end : MayEnd (refusal ends_come (On 0 (RouterGets 24))) ends_come (On 0 (RouterGets 24)) (Done (Some 0)) × MayEnd (refusal ends_come (On 0 (RouterGets 24))) ends_come (On 0 (RouterGets 24)) (Done None)
unfolding refusal receives clocked router_byte judge as_read on_unit
wants_at_an_end = (refl, tt)

not_of_a_part : MayEnd (refusal ends_come (On 0 (RouterGets 23))) ends_come (On 0 (RouterGets 23)) (Done (Some 0)) → ⊥
unfolding refusal receives clocked router_byte judge as_read
not_of_a_part h = absurd (let e : ◌≡◌ {A = Option Bool} None (Some true) = h in cc)

not_of_a_second : MayEnd (refusal ends_come (On 0 (RouterGets 24))) ends_come (On 0 (RouterGets 24)) (Done (Some 1)) → ⊥
unfolding refusal receives clocked router_byte judge as_read on_unit
not_of_a_second h = absurd (let e : ◌≡◌ {A = Option Bool} None (Some true) = h in cc)

abbrev response_comes : World
response_comes = world (open_side asking (new_conn with_v) [] (response_bytes ++ end_bytes 5) opened ∷ [])

not_of_a_response : MayEnd (refusal response_comes (On 0 (RouterGets 32))) response_comes (On 0 (RouterGets 32)) (Done (Some 0)) → ⊥
unfolding refusal receives clocked router_byte judge as_read on_unit
not_of_a_response h = absurd (let e : ◌≡◌ {A = Option Bool} (Some false) (Some true) = h in cc)

but_behind_it : MayEnd (refusal response_comes (On 0 (RouterGets 32))) response_comes (On 0 (RouterGets 32)) (Done (Some 1))
unfolding refusal receives clocked router_byte judge as_read on_unit
but_behind_it = refl

not_where_it_sends : MayEnd (refusal response_comes (On 0 (RouterSends 8))) response_comes (On 0 (RouterSends 8)) (Done (Some 0)) → ⊥
unfolding refusal
not_where_it_sends h = absurd (let e : ◌≡◌ {A = Option Bool} None (Some true) = h in cc)

-- Each refusal is reported as its own.
told_as : (bytes : ℕ) (wanting : Option ℕ) → (outcome_fault (Done wanting) ≡ None) × (outcome_fault SessionUsed ≡ Some faults.SessionUsed) × (outcome_fault TooManyVersions ≡ Some faults.TooManyVersions)
    × (outcome_fault NoSuchRouter ≡ Some faults.NoSuchRouter) × (outcome_fault (Memory bytes wanting) ≡ Some faults.Memory)
told_as bytes wanting = (refl, refl, refl, refl, refl)

-- The version set for a router: the last Speak that went through counts, of this router alone, and not one before it restarted.
abbrev went : Event → Entry
went event = record { event = event; outcome = Done None }

told_last : (told 0 [] ≡ V1) × (told 0 (went (On 0 (Speak V0)) ∷ []) ≡ V0) × (told 1 (went (On 0 (Speak V0)) ∷ []) ≡ V1)
    × (told 0 (went (On 0 (Speak V0)) ∷ went (On 0 Connect) ∷ went (On 0 (Speak V1)) ∷ []) ≡ V1) × (told 0 (went (On 0 (Speak V0)) ∷ went (On 1 RouterRestart) ∷ []) ≡ V0)
    × (told 0 (went (On 0 (Speak V0)) ∷ went (On 0 RouterRestart) ∷ []) ≡ V1)
    × (told 0 (went (On 0 (Speak V0)) ∷ record { event = On 0 RouterRestart; outcome = Memory 0 None } ∷ []) ≡ V0)
told_last = (refl, refl, refl, refl, refl, refl, refl)

-- Places of commits, worked out: a second one, one of a later instance, and what a refusal leaves.
-- The cache published {v}, nothing and {v}. The router committed the first, has asked what changed since, and nothing did.
abbrev thrice : Instance
thrice = cache 5 (just_v ∷ empty ∷ just_v ∷ [])

abbrev world_of : Side → World
world_of s = record { keep = 2; past = []; present = thrice; sides = s ∷ [] }

abbrev version_of : ℕ → Committed
version_of serial = record { version = V1; session = 0x1234; serial = serial; moment = 0; intervals = default_intervals }

abbrev served : Instance → Conn
served i = record { state = record { cache = i; version = Some V1; ended = false; due = []; notified = false; seen = [] }; held = [] }

abbrev place : ℕ → ℕ → Option VersionPlace
place instance position = Some (record { instance = instance; position = position })

abbrev asked_since : List Item
asked_since = Asks (AskSerial 0x1234 5) ∷ Reads (EndOfData 0x1234 5 3600 600 7200) ∷ Reads (Prefix true v) ∷ Reads (CacheResponse 0x1234) ∷ At 0 ∷ Asks AskReset ∷ Opened V1 ∷ At 0 ∷ []

abbrev asked : Router
asked = record new_router { table = just_v; version = Some (version_of 5); due = Some 3600; link = Asked (AskSerial 0x1234 5); agreed = true; session = Some 0x1234 }

abbrev waiting_side : List ℕ → Side
waiting_side down = record { router = asked; conn = Some (served thrice); up = []; down = down; home = Some thrice; read_at = None; items = asked_since; endings = []; places = place 0 0 ∷ [] }

abbrev no_change : List ℕ
no_change = response_bytes ++ end_bytes 7

abbrev twice : List Item
twice = Reads (EndOfData 0x1234 7 3600 600 7200) ∷ Reads (CacheResponse 0x1234) ∷ At 0 ∷ asked_since

abbrev committed_twice : VrpSet → Side
committed_twice set = record (waiting_side []) { router = record asked { table = set; before = just_v; version = Some (version_of 7); link = Idle }; items = twice; places = place 0 2 ∷ place 0 0 ∷ [] }

second_commit : after (On 0 (RouterGets 32)) (Done None) (world_of (waiting_side no_change)) ≡ world_of (committed_twice just_v)
unfolding goes_through settled settle side_step router_gets receives clocked router_byte on_unit judge as_read
second_commit = ap (λ s. world_of (committed_twice s)) (led_none just_v)

-- The cache began anew and published nothing; the router restarted, and commits that. Its earlier places stay.
abbrev anew : Instance
anew = record { session = 0x2222; session0 = 0x2222; start = 9; sets = empty ∷ [] }

abbrev anew_world : Side → World
anew_world s = record { keep = 2; past = thrice ∷ []; present = anew; sides = s ∷ [] }

abbrev asked_anew : List Item
asked_anew = Asks AskReset ∷ Opened V1 ∷ At 0 ∷ Restarts ∷ twice

abbrev new_answer : List ℕ
new_answer = sent_all V1 (CacheResponse 0x2222 ∷ EndOfData 0x2222 9 3600 600 7200 ∷ [])

abbrev new_waiting : List ℕ → Side
new_waiting down = record {
  router = record new_router { link = Asked AskReset };
  conn = Some (served anew);
  up = [];
  down = down;
  home = Some anew;
  read_at = None;
  items = asked_anew;
  endings = [];
  places = place 0 2 ∷ place 0 0 ∷ [];
}

abbrev committed_anew : VrpSet → Side
committed_anew set = record (new_waiting []) {
  router = record new_router { table = set; version = Some (record (version_of 9) { session = 0x2222 }); due = Some 3600; link = Idle; agreed = true; session = Some 0x2222 };
  items = Reads (EndOfData 0x2222 9 3600 600 7200) ∷ Reads (CacheResponse 0x2222) ∷ At 0 ∷ asked_anew;
  places = place 1 0 ∷ place 0 2 ∷ place 0 0 ∷ [];
}

third_commit : after (On 0 (RouterGets 99)) (Done None) (anew_world (new_waiting new_answer)) ≡ anew_world (committed_anew empty)
unfolding goes_through settled settle side_step router_gets receives clocked router_byte on_unit judge as_read
third_commit = ap (λ s. anew_world (committed_anew s)) (led_none empty)

-- Refused because memory ran out one byte before the End of Data is whole: nothing is on the wire, the table is the old one, and no place
-- is noted.
abbrev and_notify : List ℕ
and_notify = no_change ++ sent V1 (SerialNotify 0x1234 7)

abbrev holding : VrpSet → ℕ → Router
holding set serial = record new_router { table = set; version = Some (version_of serial); due = Some 600 }

refused_before : after (On 0 (RouterGets 44)) (Memory 31 None) (world_of (waiting_side and_notify))
    ≡ world_of (record new_side { router = holding just_v 5; items = Shut ∷ At 0 ∷ Refused ∷ Reads (CacheResponse 0x1234) ∷ At 0 ∷ asked_since; places = place 0 0 ∷ [] })
unfolding is_refused settled settle side_refused cut router_gets receives clocked router_byte on_unit judge as_read closed_at
refused_before = refl

-- Refused behind it, with a notify still to come: nothing is on the wire, what was committed still_holds, and its place is noted.
abbrev still_holds : VrpSet → World
still_holds set = world_of (record new_side { router = record (holding set 7) { before = just_v }; items = Shut ∷ At 0 ∷ Refused ∷ twice; places = place 0 2 ∷ place 0 0 ∷ [] })

refused_behind : after (On 0 (RouterGets 44)) (Memory 32 None) (world_of (waiting_side and_notify)) ≡ still_holds just_v
unfolding is_refused settled settle side_refused cut router_gets receives clocked router_byte on_unit judge as_read closed_at
refused_behind = ap still_holds (led_none just_v)
