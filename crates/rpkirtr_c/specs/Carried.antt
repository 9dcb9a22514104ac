-- What a connection of a router carried, as C has it.
use Rattle.std.specs.Prelude.{◌≡◌, ◌⊎◌, ℕ, ℤ, nat_le, List, [], ◌∷◌, length, take, take_while, replicate, Option, Some, None, is_some}
use Rattle.std.specs.Int.{from_bool}
use Rattle.rtr_pdu.specs.declared.kind.Kind.TheVariants as kinds
use Rattle.rtr_server.specs.Counting.{Counted, count_of}
use Rattle.rtr_server.specs.Reports.{Said}
use Rattle.rtr_server.specs.Turns.{and_read, and_received, and_written}
use Rattle.rtr_server.specs.declared.tally.PdusByKind.{PdusByKind}
use Rattle.rtr_server.specs.declared.turn.Traffic.{Traffic}
use Rattle.rpkirtr_c.specs.Answers.{number}
use Rattle.rpkirtr_c.specs.Texts.{in_room}
use Rattle.rpkirtr_c.specs.declared.call_status.CallStatus.TheVariants.{Done, BadStructure}
use Rattle.rpkirtr_c.specs.declared.traffic.CCarried.{CCarried}
use Rattle.rpkirtr_c.specs.declared.traffic.CTraffic.{CTraffic}

-- These bytes were received and consumed.
abbrev pub and_came : List ℕ → Traffic → Traffic
and_came bytes t = and_received bytes (and_read (length bytes) t)

-- These bytes were sent.
abbrev pub and_sent : List ℕ → Traffic → Traffic
and_sent bytes t = and_written (length bytes) bytes t

-- How many PDUs of each type from 0 to 10 (RFC 6810 section 5, RFC 8210 section 5). Five is no type.
abbrev pub pdus_of : PdusByKind → List ℕ
pdus_of pdus =
    count_of pdus kinds.SerialNotify ∷ count_of pdus kinds.SerialQuery ∷ count_of pdus kinds.ResetQuery ∷ count_of pdus kinds.CacheResponse
    ∷ count_of pdus kinds.Ipv4Prefix ∷ 0 ∷ count_of pdus kinds.Ipv6Prefix ∷ count_of pdus kinds.EndOfData ∷ count_of pdus kinds.CacheReset
    ∷ count_of pdus kinds.RouterKey ∷ count_of pdus kinds.ErrorReport ∷ []

-- The code of an Error Report, if there was one (RFC 8210 section 5.11): 0 if there was none
abbrev pub report_code : Option Said → ℕ
report_code None = 0
report_code (Some said) = said.code

-- The beginning of a text: the octets before the first control character, at most 63
abbrev pub line_of : List ℕ → List ℕ
line_of text = take 63 (take_while (nat_le 32) text)

-- The beginning of the text of an Error Report, if there was one
abbrev pub report_line : Option Said → List ℕ
report_line None = []
report_line (Some said) = line_of said.text

-- What one direction carried: this many bytes, and what is counted of them
abbrev pub carried_of : ℕ → Counted → CCarried
carried_of bytes c = record {
  bytes = bytes;
  pdus = pdus_of c.pdus;
  text = in_room (report_line c.report);
  code = report_code c.report;
  has_report = from_bool (is_some c.report);
  zero_ = replicate 5 0;
}

-- both directions
abbrev pub traffic_of : Traffic → CTraffic
traffic_of t = record { size_ = 344; zero_ = 0; received = carried_of t.carried.read t.received; sent = carried_of t.carried.written t.sent }

-- It is written, if the structure has the size of this header. If it has another size, nothing is written, and the answer says so.
abbrev pub IsTold : Traffic → ℤ → CTraffic → CTraffic → Type 0
IsTold t answer old new = ((old.size_ ≡ 344) × (answer ≡ number Done) × (new ≡ traffic_of t)) ⊎ ((¬ (old.size_ ≡ 344)) × (answer ≡ number BadStructure) × (new ≡ old))
