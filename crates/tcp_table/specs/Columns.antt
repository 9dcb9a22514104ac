-- A line of the system's tables of TCP connections (proc(5): /proc/net/tcp and tcp6). After a number, a colon and a blank the kernel writes columns of
-- hexadecimal digits, by "%08X:%04X %08X:%04X %02X %08X:%08X %02X:.." They are the local address and port, the remote ones, the state, how many bytes
-- are not acknowledged and how many are not read, and the kind of the timer. In tcp6 an address has four words of eight digits.
use Rattle.std.specs.Prelude.{ℕ, ◌+◌, ◌*◌, ◌==◌, ◌&&◌, nat_lt, Bool, List, [], ◌∷◌, length, take, drop, slice_index, Option, Some, None, Result, Ok, Err, if◌then◌else◌}
use Rattle.std.specs.Int.{from_be_bytes, w16, w32}
use Rattle.std.specs.Net.Addr.{ipv4_octets, ipv6_octets}
use Rattle.std.specs.Net.Socket.{socket_ip, socket_port}
use Rattle.std.specs.declared.net.ip_addr.IpAddr.{IpAddr}
use Rattle.std.specs.declared.net.ip_addr.IpAddr.TheVariants.{V4, V6}
use Rattle.std.specs.declared.net.socket_addr.SocketAddr.{SocketAddr}
use Rattle.hex.specs.Hex.{decode_sized}
use Rattle.tcp_table.specs.declared.endpoint.Endpoint.{Endpoint}
use Rattle.tcp_table.specs.declared.line.TcpLine.{TcpLine}

-- the second step, if the first gave a value
abbrev pub and_then : {A B : Type 0} → Option A → (A → Option B) → Option B
and_then None f = None
and_then (Some x) f = f x

abbrev pub value_of : {E : Type 0} → (List ℕ → ℕ) → Result (List ℕ) E → Option ℕ
value_of of (Ok bytes) = Some (of bytes)
value_of of (Err e) = None

-- the value of this many bytes that hexadecimal digits write at a column
abbrev pub value_at : (List ℕ → ℕ) → ℕ → ℕ → List ℕ → Option ℕ
value_at of count column text = value_of of (decode_sized (take (2 * count) (drop column text)) count)

-- the number that eight digits write, that of four, and that of two
abbrev pub word_at : ℕ → List ℕ → Option ℕ
word_at column text = value_at (from_be_bytes w32) 4 column text

abbrev pub port_at : ℕ → List ℕ → Option ℕ
port_at column text = value_at (from_be_bytes w16) 2 column text

abbrev pub byte_at : ℕ → List ℕ → Option ℕ
byte_at column text = value_at (λ bytes. slice_index bytes 0) 1 column text

-- a word of four octets, as a little-endian host reads it
abbrev pub host_word : ℕ → ℕ → ℕ → ℕ → ℕ
host_word a b c d = a + b * 256 + c * 65536 + d * 16777216

abbrev pub word_of : ℕ → List ℕ → ℕ
word_of k octets = host_word (slice_index octets (4 * k)) (slice_index octets (4 * k + 1)) (slice_index octets (4 * k + 2)) (slice_index octets (4 * k + 3))

-- the words of an address; those of an IPv4 address are of its IPv4-mapped IPv6 address, ::ffff:192.0.2.1 (RFC 4291 section 2.5.5.2)
abbrev pub words_of : IpAddr → List ℕ
words_of (V4 ip) = 0 ∷ 0 ∷ 4294901760 ∷ word_of 0 (ipv4_octets ip) ∷ []
words_of (V6 ip) = word_of 0 (ipv6_octets ip) ∷ word_of 1 (ipv6_octets ip) ∷ word_of 2 (ipv6_octets ip) ∷ word_of 3 (ipv6_octets ip) ∷ []

-- the end of a connection at an address
abbrev pub endpoint_of : SocketAddr → Endpoint
endpoint_of address = record { words = words_of (socket_ip address); port = socket_port address }

-- whether two ends are the same
abbrev pub is_same : Endpoint → Endpoint → Bool
is_same a b = slice_index a.words 0 == slice_index b.words 0 && slice_index a.words 1 == slice_index b.words 1 && slice_index a.words 2 == slice_index b.words 2 && slice_index a.words 3 == slice_index b.words 3 && a.port == b.port

-- an end of a connection at a column: a word of 8 digits, a colon, and a port
abbrev pub endpoint4_at : ℕ → List ℕ → Option Endpoint
endpoint4_at column text =
    and_then (word_at column text) (λ word.
    and_then (port_at (column + 9) text) (λ port.
    Some (record { words = 0 ∷ 0 ∷ 4294901760 ∷ word ∷ []; port = port })))

-- the same with four words
abbrev pub endpoint6_at : ℕ → List ℕ → Option Endpoint
endpoint6_at column text =
    and_then (word_at column text) (λ first.
    and_then (word_at (column + 8) text) (λ second.
    and_then (word_at (column + 16) text) (λ third.
    and_then (word_at (column + 24) text) (λ fourth.
    and_then (port_at (column + 33) text) (λ port.
    Some (record { words = first ∷ second ∷ third ∷ fourth ∷ []; port = port }))))))

-- the columns of a line, behind its number
abbrev pub line4 : List ℕ → Option TcpLine
line4 text =
    and_then (endpoint4_at 0 text) (λ local.
    and_then (endpoint4_at 14 text) (λ remote.
    and_then (word_at 31 text) (λ unacknowledged.
    and_then (byte_at 49 text) (λ timer.
    Some (record { local = local; remote = remote; unacknowledged = unacknowledged; timer = timer })))))

abbrev pub line6 : List ℕ → Option TcpLine
line6 text =
    and_then (endpoint6_at 0 text) (λ local.
    and_then (endpoint6_at 38 text) (λ remote.
    and_then (word_at 79 text) (λ unacknowledged.
    and_then (byte_at 97 text) (λ timer.
    Some (record { local = local; remote = remote; unacknowledged = unacknowledged; timer = timer })))))

-- what follows a blank, a space
abbrev pub after_blank : List ℕ → Option (List ℕ)
after_blank [] = None
after_blank (c ∷ text) = if c == 32 then Some text else None

-- what follows the number of a line: the first colon and a blank
abbrev pub after_number : List ℕ → Option (List ℕ)
after_number [] = None
after_number (c ∷ text) = if c == 58 then after_blank text else after_number text

-- the line of an address of one word has a colon behind the eighth digit
abbrev pub line_of : List ℕ → Option TcpLine
line_of text = if nat_lt 8 (length text) && slice_index text 8 == 58 then line4 text else line6 text

-- the connection of a line, if it shows one
abbrev pub line_in : List ℕ → Option TcpLine
line_in text = and_then (after_number text) line_of

-- Bytes of it are sent again: its timer is that of a retransmission, 1, and bytes are not acknowledged. While a window is closed the timer is 4.
abbrev pub is_unanswered : TcpLine → Bool
is_unanswered line = line.timer == 1 && nat_lt 0 line.unacknowledged
