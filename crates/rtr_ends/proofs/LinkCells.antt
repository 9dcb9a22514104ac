-- What no test of a router shows, worked out: tables that are too large, memory, the mark of what is emptied, and transcripts.
use Rattle.rtr_ends.proofs.Words.{Bool, List, None, Some, [], ap, drop, false, if◌then◌else◌, nat_lt, not, refl, take, true, ℕ, ◌&&◌, ◌++◌, ◌||◌, ◌∙◌, ◌∷◌, ◌≡◌, Payload, VrpSet, empty, has, set_of, size, has-empty, judge, as_read, CacheReset, CacheResponse, EndOfData, EndOfData0, Prefix, SerialNotify, V0, V1}
use Rattle.rtr_ends.specs.Answer.{report, sent}
use Rattle.rtr_ends.specs.Configuration.{limit_of}
use Rattle.rtr_ends.specs.LinkRules.{Over, Router, Staged, Stays, Wrong, is_staged, may_lack, new_router, on_unit, stage, staged}
use Rattle.rtr_ends.specs.Router.{Closes, Connects, Noted, Pulls, Receives, Speaks, Ticks, asked_by, called, clocked, closed_at, connects_at, lacks, played, receives, router_byte, router_pulled, ticks_at}
use Rattle.rtr_ends.specs.RouterLaws.{pulled_by, questions_in}
use Rattle.rtr_ends.specs.RouterLink.{Answering, Asked, Closed, Ended, Idle}
use Rattle.rtr_ends.specs.Transcript.{AskReset, AskSerial, Asks, At, Begun, Breaks, Committed, Item, Lacks, Opened, Reads, Shut, base_of, is_among, kept, led_to}
use Rattle.rtr_ends.specs.Timing.{default_intervals}
use Rattle.rtr_ends.proofs.WholeAnswerRows.{end_bytes, reset_bytes, response_bytes, serial_bytes, v, v_bytes}
use Rattle.rtr_ends.proofs.TableLaws.{led_from_empty}
use Rattle.rtr_pdu.specs.declared.unit.UnitFault.TheVariants as faults
use Rattle.rtr_ends.specs.declared.link.End.TheVariants as ends

-- A router has put its first question at 100; v is read in the answer, and committed as serial 5.
abbrev just_v : VrpSet
just_v = set_of (v ∷ [])

abbrev asked_all : Router
asked_all = record new_router { now = 100; link = Asked AskReset }

abbrev nothing_yet : Begun
nothing_yet = record { question = AskReset; session = 0x1234; withdrawn = []; announced = [] }

abbrev answering : Begun → Router
answering a = record asked_all { agreed = true; session = Some 0x1234; link = Answering a }

abbrev v_read : Begun
v_read = record nothing_yet { announced = v ∷ [] }

abbrev committed_at : ℕ → Committed
committed_at now = record { version = V1; session = 0x1234; serial = 5; moment = now; intervals = default_intervals }

abbrev holds_v : Router
holds_v = record (answering v_read) { table = just_v; version = Some (committed_at 100); due = Some 3700; link = Idle }

-- An answer to a Serial Query has begun.
abbrev since_v : Begun
since_v = record { question = AskSerial 0x1234 5; session = 0x1234; withdrawn = []; announced = [] }

abbrev changes : Router
changes = record holds_v { link = Answering since_v }

-- A record too many
over : (base : VrpSet) (a : Begun) (x : Payload) → has base x ≡ false → is_among x a.announced ≡ false → nat_lt 16777215 (size (led_to base a.withdrawn (x ∷ a.announced))) ≡ true → stage 16777215 base a true x ≡ Over
over base a x known once much = λ i. if known i || once i then Wrong 7 else if much i then Over else Stays (record a { announced = x ∷ a.announced })

not_over : (base : VrpSet) (a : Begun) (x : Payload) → has base x ≡ false → is_among x a.announced ≡ false → nat_lt 16777215 (size (led_to base a.withdrawn (x ∷ a.announced))) ≡ false → stage 16777215 base a true x ≡ Stays (record a { announced = x ∷ a.announced })
not_over base a x known once much = λ i. if known i || once i then Wrong 7 else if much i then Over else Stays (record a { announced = x ∷ a.announced })

-- ends the link, and nothing is sent.
abbrev pub by_stage : ℕ → Payload → Bool → Router → Staged → Noted
by_stage now x announce r st =
    let k : Router = staged (Prefix announce x) st r in
    let n : Noted = if is_staged st && false then lacks (Prefix announce x) r else record { router = k; items = asked_by k.link k.out ++ Reads (Prefix announce x) ∷ [] } in
    record { router = n.router; items = n.items ++ At now ∷ [] }

too_many : (a : Begun) → stage 16777215 (base_of a.question just_v) a true v ≡ Over → (called (Receives 100 None v_bytes) (record changes { link = Answering a })).router ≡ record changes { link = Ended ends.TooMany }
unfolding receives router_byte clocked on_unit judge as_read
too_many a h = ap (λ st. (by_stage 100 v true (record changes { link = Answering a }) st).router) h

-- The mark goes with what another session empties.
end_of_other_session : (called (Receives 100 None (sent V1 (EndOfData 0x2222 6 3600 600 7200))) (record changes { mark = true })).router
    ≡ record changes { table = empty; version = None; link = Ended (ends.Reported 0); out = sent V1 (report 0 (sent V1 (EndOfData 0x2222 6 3600 600 7200))) }
unfolding receives router_byte clocked on_unit judge as_read
end_of_other_session = refl

-- An End of Data of the session that answers allocates memory, and so does a record that is staged. No other PDU allocates any.
takes_memory : (may_lack (Answering since_v) (EndOfData 0x1234 6 3600 600 7200) changes ≡ true) × (may_lack (Answering since_v) (EndOfData0 0x1234 6) changes ≡ true)
    × (is_staged (Stays since_v) ≡ true)
takes_memory = (refl, refl, refl)

record_takes : (a : Begun) (announce : Bool) (x : Payload) (r : Router) → may_lack (Answering a) (Prefix announce x) r ≡ is_staged (stage (limit_of r.config) (base_of a.question r.table) a announce x)
record_takes a announce x r = refl

takes_none : (may_lack (Answering since_v) (EndOfData 0x2222 6 3600 600 7200) changes ≡ false) × (may_lack (Answering since_v) (EndOfData0 0x2222 6) changes ≡ false)
    × (is_staged (Wrong 7) ≡ false) × (is_staged Over ≡ false) × (may_lack (Asked AskReset) (CacheResponse 0x1234) asked_all ≡ false)
    × (may_lack (Asked (AskSerial 0x1234 5)) CacheReset holds_v ≡ false) × (may_lack Idle (SerialNotify 0x1234 6) holds_v ≡ false)
takes_none = (refl, refl, refl, refl, refl, refl, refl)

-- It runs out at the second PDU of a piece: nothing is committed, and nothing is sent.
lacks_at_end : (called (Receives 100 (Some 1) (response_bytes ++ end_bytes 5)) asked_all).router ≡ record (answering nothing_yet) { link = Ended ends.Memory }
unfolding receives router_byte clocked on_unit judge as_read
lacks_at_end = refl

-- What a transcript has of each call: of a connection of version 0,
connects_of_0 : (played (Connects 100 ∷ Speaks V0 ∷ [])).items ≡ Asks AskReset ∷ Opened V0 ∷ At 100 ∷ []
unfolding connects_at clocked
connects_of_0 = refl

-- of a PDU, and of one at which memory ran out,
response : called (Receives 100 None response_bytes) asked_all ≡ record { router = answering nothing_yet; items = Reads (CacheResponse 0x1234) ∷ At 100 ∷ [] }
unfolding receives router_byte clocked on_unit judge as_read
response = refl

lacks_memory : called (Receives 100 (Some 0) (end_bytes 5)) (answering v_read) ≡ record { router = record (answering v_read) { link = Ended ends.Memory }; items = Lacks (EndOfData 0x1234 5 3600 600 7200) ∷ At 100 ∷ [] }
unfolding receives router_byte clocked on_unit judge as_read
lacks_memory = refl

-- of a fault,
bad_length : called (Receives 100 None (0x01 ∷ 0x04 ∷ 0 ∷ 0 ∷ 0xff ∷ 0xff ∷ 0xff ∷ 0xff ∷ [])) holds_v
    ≡ record { router = record holds_v { link = Ended (ends.Reported 0); out = 0x01 ∷ 0x0a ∷ 0 ∷ 0 ∷ 0 ∷ 0 ∷ 0 ∷ 0x18 ∷ 0 ∷ 0 ∷ 0 ∷ 0x08 ∷ 0x01 ∷ 0x04 ∷ 0 ∷ 0 ∷ 0xff ∷ 0xff ∷ 0xff ∷ 0xff ∷ 0 ∷ 0 ∷ 0 ∷ 0 ∷ [] }; items = Breaks faults.Length ∷ At 100 ∷ [] }
unfolding receives router_byte clocked judge as_read
bad_length = refl

-- of the clock, and of a close
ticks : called (Ticks 3700) holds_v ≡ record { router = record holds_v { now = 3700; link = Asked (AskSerial 0x1234 5); out = serial_bytes }; items = Asks (AskSerial 0x1234 5) ∷ At 3700 ∷ [] }
unfolding ticks_at clocked
ticks = refl

closes : called (Closes 100) holds_v ≡ record { router = record holds_v { link = Closed; agreed = false; session = None; due = Some 700 }; items = Shut ∷ At 100 ∷ [] }
unfolding closed_at clocked
closes = refl

-- What it keeps
abbrev told_v : List Item
told_v = Reads (EndOfData 0x1234 5 3600 600 7200) ∷ At 100 ∷ Reads (Prefix true v) ∷ At 100 ∷ Reads (CacheResponse 0x1234) ∷ At 100 ∷ Asks AskReset ∷ Opened V1 ∷ At 100 ∷ []

keeps_v : kept told_v ≡ record { version = Some (committed_at 100); table = just_v; before = empty }
keeps_v =
    (λ i. if (not (has-empty v i) && true) && true then record { version = Some (committed_at 100); table = led_to empty [] (v ∷ []); before = empty } else record { version = None; table = empty; before = empty })
    ∙ ap (λ s. record { version = Some (committed_at 100); table = s; before = empty }) (led_from_empty (v ∷ []))

-- What was pulled and what is still pending are the bytes of the question.
pulls_a_part : (pulled_by (Pulls 3 ∷ Connects 100 ∷ []) ≡ take 3 reset_bytes) × ((played (Pulls 3 ∷ Connects 100 ∷ [])).router.out ≡ drop 3 reset_bytes)
    × (questions_in V1 (played (Pulls 3 ∷ Connects 100 ∷ [])).items ≡ reset_bytes)
unfolding connects_at clocked router_pulled
pulls_a_part = (refl, refl, refl)

-- The questions of the latest connection alone count, in their order, and what was pulled on it.
questions_of_latest : questions_in V1 (Asks AskReset ∷ Reads CacheReset ∷ At 100 ∷ Asks (AskSerial 0x1234 5) ∷ Opened V1 ∷ Shut ∷ Asks AskReset ∷ Opened V1 ∷ []) ≡ serial_bytes ++ reset_bytes
questions_of_latest = refl

pulled_of_latest : pulled_by (Connects 200 ∷ Pulls 8 ∷ Connects 100 ∷ []) ≡ []
pulled_of_latest = refl
