-- What an Error Report says (RFC 6810 section 5.10, RFC 8210 section 5.11).
use Rattle.std.specs.Prelude.{ℕ, ◌+◌, ◌-◌, ◌==◌, List, [], ◌++◌, length, take, drop, replicate, if◌then◌else◌}
use Rattle.rtr_pdu.specs.Reading.{number_at}

-- its error code, and the beginning of its text: at most 200 bytes
pub record Said : Type 0 where
  pub code : ℕ
  pub text : List ℕ

-- The beginning of the text of a whole Error Report. Behind its header are the length of the PDU that it encapsulates, that PDU, the length
-- of the text, and the text. It is empty if the two lengths and 16 do not add up to that of the Error Report.
abbrev pub report_text : List ℕ → List ℕ
report_text pdu =
    let copy = number_at 4 8 pdu in
    if 16 + copy + number_at 4 (12 + copy) pdu == length pdu then take 200 (drop (16 + copy) pdu) else []

-- what a whole Error Report says
abbrev pub said_in : List ℕ → Said
said_in pdu = record { code = number_at 2 2 pdu; text = report_text pdu }

-- a text in a room of 200 bytes, with zeros behind it
unfoldable pub padded : List ℕ → List ℕ
padded text = text ++ replicate (200 - length text) 0
