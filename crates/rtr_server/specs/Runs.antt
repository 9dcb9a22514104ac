-- Runs of PDUs whose headers are one.
use Rattle.std.specs.Prelude.{ℕ, ◌+◌, ◌/◌, ◌%◌, ◌^◌, List, ◌≡◌}
use Rattle.rtr_pdu.specs.Stream.{length_of, type_of}
use Rattle.rtr_server.specs.Counting.{Counted, and_many, counted_on}

-- the type in a header, by the number of its 64 bits (RFC 8210 section 5.1)
abbrev pub type_in : ℕ → ℕ
type_in head = head / 2 ^ 48 % 256

-- the length in it
abbrev pub length_in : ℕ → ℕ
length_in head = head % 2 ^ 32

-- Bytes show the type and the length of a header.
abbrev pub ShowsHeader : ℕ → List ℕ → Type 0
ShowsHeader head bytes = (type_of bytes ≡ type_in head) × (length_of bytes ≡ length_in head)

-- PDUs of this type are only counted: it is neither End of Data, of which the serial is kept, nor Error Report.
abbrev pub IsOnlyCounted : ℕ → Type 0
IsOnlyCounted type = (¬ (type ≡ 7)) × (¬ (type ≡ 10))

-- What is counted of the bytes is what is counted of the rest, if this many more PDUs of the type were counted before.
abbrev pub PassesMany : ℕ → ℕ → List ℕ → List ℕ → Type 0
PassesMany type count bytes rest = (n : ℕ) (c : Counted) → counted_on (and_many n type c) bytes ≡ counted_on (and_many (n + count) type c) rest
