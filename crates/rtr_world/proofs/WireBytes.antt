-- What is on a wire are bytes.
use Rattle.rtr_world.proofs.Words.{◌≡◌, ℕ, zero, suc, ◌+◌, ◌*◌, ◌/◌, ◌%◌, ◌<◌, ◌^◌, nat_lt, Bool, true, false, List, [], ◌∷◌, ◌++◌, drop, take, length, if◌then◌else◌, sym, subst, arith, inl, inr, encodes, scalar, scalars, scalar_cases, and_parts, byte_at, AllByRecursion, IsUtf8, IsPayload, IpPrefix, V4, V6, fixed_len, AreBytes, IsUnit, version_number, Unit, SerialNotify, SerialQuery, ResetQuery, CacheResponse, Prefix, EndOfData, EndOfData0, CacheReset, RouterKey, ErrorReport, Version, is_byte, sent, Sent, bytes_sent, either, take-append-drop}
use Rattle.std.proofs.Math.Utf8.{encode}
use Rattle.rtr_pdu.specs.declared.kind.Kind.TheVariants as kinds
use Rattle.rtr_world.proofs.UnitStreams.{IsSent, Stream}
use Rattle.rtr_world.proofs.Versions.{lt_of}

abbrev pub Low : List ℕ → Type 0
Low bytes = AllByRecursion (λ b. b < 256) bytes

pub low-append : (xs ys : List ℕ) → Low xs → Low ys → Low (xs ++ ys)
low-append [] ys h k = k
low-append (x ∷ xs) ys h k = (h.0, low-append xs ys h.1 k)

pub low_front : (xs ys : List ℕ) → Low (xs ++ ys) → Low xs
low_front [] ys h = tt
low_front (x ∷ xs) ys h = (h.0, low_front xs ys h.1)

pub low_rest : (xs ys : List ℕ) → Low (xs ++ ys) → Low ys
low_rest [] ys h = h
low_rest (x ∷ xs) ys h = low_rest xs ys h.1

pub low_take : (most : ℕ) (xs : List ℕ) → Low xs → Low (take most xs)
low_take most xs h = low_front (take most xs) (drop most xs) (subst (λ x. Low x) (sym (take-append-drop most xs)) h)

pub low_drop : (most : ℕ) (xs : List ℕ) → Low xs → Low (drop most xs)
low_drop most xs h = low_rest (take most xs) (drop most xs) (subst (λ x. Low x) (sym (take-append-drop most xs)) h)

low_bytes : (xs : List ℕ) → AreBytes xs → Low xs
low_bytes [] h = tt
low_bytes (x ∷ xs) h = (h 0, low_bytes xs (λ i. h (suc i)))

-- numbers
modulo : (x : ℕ) → x % 256 < 256
modulo x = omega arith

low_byte : (n x : ℕ) → byte_at n x < 256
low_byte zero x = omega arith
low_byte (suc n) x = modulo (x / 256 ^ suc n)

abbrev pub big_bytes : ℕ → ℕ → List ℕ
big_bytes zero x = []
big_bytes (suc n) x = byte_at n x ∷ big_bytes n x

pub number : (n x : ℕ) → Low (big_bytes n x)
number zero x = tt
number (suc n) x = (low_byte n x, number n x)

-- text
low_char : (c : ℕ) → scalar c ≡ true → Low (encode c)
unfolding encode
low_char c h =
    either Low (nat_lt c 128) _ _ (λ e. let l = lt_of c 128 e in (omega (arith, l), tt))
    (λ n. either Low (nat_lt c 2048) _ _ (λ e. let l = lt_of c 2048 e in (omega (arith, l), (next c, tt)))
    (λ n. either Low (nat_lt c 65536) _ _ (λ e. let l = lt_of c 65536 e in (omega (arith, l), (next (c / 64), (next c, tt)))) (λ n. (omega (arith, high), (next (c / 4096), (next (c / 64), (next c, tt)))))))
  where
    high : c < 1114112
    high = elim (scalar_cases c h) [ inl a ↦ omega (arith, a) | inr a ↦ a.1 ]

    next : (x : ℕ) → 128 + x % 64 < 256
    next x = omega arith

low_chars : (cs : List ℕ) → scalars cs ≡ true → Low (encodes cs)
low_chars [] h = tt
low_chars (c ∷ cs) h = let parts = and_parts (scalar c) (scalars cs) h in low-append (encode c) (encodes cs) (low_char c parts.0) (low_chars cs parts.1)

low_text : (bytes : List ℕ) → IsUtf8 bytes → Low bytes
low_text bytes u = subst (λ x. Low x) u.1.1 (low_chars u.0 u.1.0)

-- PDUs
pub header : (version : Version) (kind field size : ℕ) → kind < 256 → Low (version_number version ∷ kind ∷ big_bytes 2 field ++ big_bytes 4 size)
header version kind field size h = (is_byte version, (h, low-append (big_bytes 2 field) (big_bytes 4 size) (number 2 field) (number 4 size)))

pub headed : (version : Version) (kind field size : ℕ) (more : List ℕ) → kind < 256 → Low more → Low ((version_number version ∷ kind ∷ big_bytes 2 field ++ big_bytes 4 size) ++ more)
headed version kind field size more h k = low-append (version_number version ∷ kind ∷ big_bytes 2 field ++ big_bytes 4 size) more (header version kind field size h) k

low_flag : (b : Bool) → (if b then 1 else 0) + 2 * 0 < 256
low_flag true = omega arith
low_flag false = omega arith

low_prefix : (version : Version) (announce : Bool) (p : IpPrefix) (max_len asn : ℕ) → IsPayload (record { prefix = p; max_len = max_len; asn = asn }) → Low (sent version (Prefix announce (record { prefix = p; max_len = max_len; asn = asn })))
low_prefix version announce (V4 p) max_len asn h =
    headed version 4 0 20 (((if announce then 1 else 0) + 2 * 0) ∷ p.len ∷ max_len ∷ 0 ∷ big_bytes 4 p.addr ++ big_bytes 4 asn) (omega arith)
    (low_flag announce, (omega (arith, h.not_shorter, h.in_family), (omega (arith, h.in_family), (omega arith, low-append (big_bytes 4 p.addr) (big_bytes 4 asn) (number 4 p.addr) (number 4 asn)))))
low_prefix version announce (V6 p) max_len asn h =
    headed version 6 0 32 (((if announce then 1 else 0) + 2 * 0) ∷ p.len ∷ max_len ∷ 0 ∷ big_bytes 16 p.addr ++ big_bytes 4 asn) (omega arith)
    (low_flag announce, (omega (arith, h.not_shorter, h.in_family), (omega (arith, h.in_family), (omega arith, low-append (big_bytes 16 p.addr) (big_bytes 4 asn) (number 16 p.addr) (number 4 asn)))))

low_unit : (version : Version) (u : Unit) → IsUnit u → Low (sent version u)
low_unit version (SerialNotify session serial) h = headed version 0 session 12 (big_bytes 4 serial) (omega arith) (number 4 serial)
low_unit version (SerialQuery session serial) h = headed version 1 session 12 (big_bytes 4 serial) (omega arith) (number 4 serial)
low_unit version ResetQuery h = header version 2 0 8 (omega arith)
low_unit version (CacheResponse session) h = header version 3 session 8 (omega arith)
low_unit version (Prefix announce v) h = low_prefix version announce v.prefix v.max_len v.asn h
low_unit version (EndOfData session serial refresh retry expire) h =
    headed version 7 session (fixed_len version kinds.EndOfData) (big_bytes 4 serial ++ big_bytes 4 refresh ++ big_bytes 4 retry ++ big_bytes 4 expire) (omega arith)
    (low-append (big_bytes 4 serial) (big_bytes 4 refresh ++ big_bytes 4 retry ++ big_bytes 4 expire) (number 4 serial)
    (low-append (big_bytes 4 refresh) (big_bytes 4 retry ++ big_bytes 4 expire) (number 4 refresh) (low-append (big_bytes 4 retry) (big_bytes 4 expire) (number 4 retry) (number 4 expire))))
low_unit version (EndOfData0 session serial) h = headed version 7 session (fixed_len version kinds.EndOfData) (big_bytes 4 serial) (omega arith) (number 4 serial)
low_unit version CacheReset h = header version 8 0 8 (omega arith)
low_unit version (RouterKey k) h = (
  is_byte version,
  (
    omega arith,
    (
      low_flag k.announce,
      (
        omega arith,
        low-append (big_bytes 4 (32 + length k.info)) (k.identifier ++ big_bytes 4 k.asn ++ k.info) (number 4 (32 + length k.info))
            (low-append (k.identifier ++ big_bytes 4 k.asn) k.info (low-append k.identifier (big_bytes 4 k.asn) (low_bytes k.identifier h.3) (number 4 k.asn)) (low_bytes k.info h.4)),
      ),
    ),
  ),
)
low_unit version (ErrorReport r) h =
    headed version 10 r.code (fixed_len version kinds.ErrorReport + length r.copy + length r.text) (big_bytes 4 (length r.copy) ++ ((r.copy ++ big_bytes 4 (length r.text)) ++ r.text)) (omega arith)
    (low-append (big_bytes 4 (length r.copy)) ((r.copy ++ big_bytes 4 (length r.text)) ++ r.text) (number 4 (length r.copy))
    (low-append (r.copy ++ big_bytes 4 (length r.text)) r.text (low-append r.copy (big_bytes 4 (length r.text)) (low_bytes r.copy h.3) (number 4 (length r.text))) (low_text r.text h.2)))

low_units : (units : List Sent) → AllByRecursion IsSent units → Low (bytes_sent units)
low_units [] h = tt
low_units (s ∷ units) h = low-append (sent s.version s.unit) (bytes_sent units) (low_unit s.version s.unit h.0.0) (low_units units h.1)

-- What comes after what is held
pub low_stream : (held after : List ℕ) (units : List Sent) → Stream held after units → Low after
low_stream held after units s = low_rest held after (subst (λ x. Low x) (sym s.whole) (low_units units s.fit))
