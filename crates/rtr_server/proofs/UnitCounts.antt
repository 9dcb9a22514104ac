-- Bytes of PDUs are counted as these PDUs.
use Rattle.std.specs.Prelude.{◌≡◌, ◌⊎◌, ℕ, ◌+◌, ◌<◌, ◌≤◌, ◌^◌, ◌==◌, ◌&&◌, Bool, true, false, List, [], ◌∷◌, ◌++◌, drop, length, max, take, slice_index, slice_set, Option, Some, None, if◌then◌else◌, refl}
use Rattle.std.proofs.Common.{zero, suc, sym, ap, ◌∙◌, subst, arith, append_assoc, inl, inr}
use Rattle.std.proofs.lemmas.Bool.Decides.{nat_tests}
use Rattle.std.proofs.lemmas.List.{append-nil, drop_all, length-append, length-drop, length-set, take_all}
use Rattle.std.proofs.Math.Seq.{drop-append_seam, take-append_seam}
use Rattle.prefixes.proofs.Basics.{eq_of, not_eq_of}
use Rattle.prefixes.specs.declared.prefix.IpPrefix.TheVariants.{V4, V6}
use Rattle.vrps.specs.declared.serial.Serial.{Serial}
use Rattle.rtr_pdu.specs.Kind.{type_number}
use Rattle.rtr_pdu.specs.Stream.{AreRead, IsPartial, IsReport, any_after, as_read, header_fault, is_notify, is_notify_header, length_of, type_of}
use Rattle.rtr_pdu.specs.Version.{version_number}
use Rattle.rtr_pdu.proofs.BodyLaws.{header_most}
use Rattle.rtr_pdu.specs.Unit.{Ignored, IsUnit, Reads, fits, prefix_bytes, spelled}
use Rattle.rtr_pdu.specs.declared.kind.Kind.{Kind}
use Rattle.rtr_pdu.specs.declared.kind.Kind.TheVariants as kinds
use Rattle.rtr_pdu.specs.declared.unit.Unit.{Unit}
use Rattle.rtr_pdu.specs.declared.unit.Unit.TheVariants.{SerialNotify, SerialQuery, ResetQuery, CacheResponse, Prefix, EndOfData, EndOfData0, CacheReset, RouterKey, ErrorReport}
use Rattle.rtr_pdu.specs.declared.version.Version.{Version}
use Rattle.rtr_pdu.specs.declared.version.Version.TheVariants.{V0, V1}
use Rattle.rtr_pdu.proofs.DeviceLaws.{partial_most, strict}
use Rattle.rtr_pdu.proofs.UnitLaws.{back, is_report, opens, unit_in-spelled}
use Rattle.rtr_pdu.proofs.ReadLaws.{number_fits}
use Rattle.rtr_pdu.specs.Judging.{unit_in}
use Rattle.rtr_pdu.specs.Payloads.{Report}
use Rattle.rtr_pdu.specs.Reading.{number_at}
use Rattle.rtr_server.specs.Reports.{Said, said_in}
use Rattle.rtr_server.specs.Counting.{Counted, CountsReports, CountsSplits, CountsUnits, IsBetween, and_pdu, and_whole, capped, count_of, counted, counted_on, end_serial, kind_of, kind_of_prefix, last_report, last_serial, none_counted, report_after, report_of, serial_after, text_in, told_len, units_of}
use Rattle.rtr_server.proofs.CountingLaws.{coming, counted_both, no_report, not_yet, one_more, said_is, tail_of, text_is, whole_counts}

-- The bytes of a PDU show its type,
type_is : (version : Version) (u : Unit) (z : Ignored) (rest : List ℕ) → type_of (spelled version u z ++ rest) ≡ type_number (kind_of u)
type_is version (SerialNotify session serial) z rest = refl
type_is version (SerialQuery session serial) z rest = refl
type_is version ResetQuery z rest = refl
type_is version (CacheResponse session) z rest = refl
type_is version (Prefix a v) z rest =
    elim v.prefix as (λ p. type_of (prefix_bytes version a p v.max_len v.asn z ++ rest) ≡ type_number (kind_of_prefix p)) [ V4 p ↦ refl | V6 p ↦ refl ]
type_is version (EndOfData session serial refresh retry expire) z rest = refl
type_is version (EndOfData0 session serial) z rest = refl
type_is version CacheReset z rest = refl
type_is version (RouterKey k) z rest = refl
type_is version (ErrorReport r) z rest = refl

-- and an End of Data its serial.
abbrev Tells : Version → Unit → Ignored → List ℕ → Option Serial → Type 0
Tells version u z rest last = serial_after (spelled version u z ++ rest) (length (spelled version u z)) last ≡ end_serial u last

end_is : (version : Version) (session serial refresh retry expire : ℕ) (z : Ignored) (rest : List ℕ) (last : Option Serial) → IsUnit (EndOfData session serial refresh retry expire) → fits version (EndOfData session serial refresh retry expire) ≡ true
    → Tells version (EndOfData session serial refresh retry expire) z rest last
end_is V0 session serial refresh retry expire z rest last is own = absurd (let e : false ≡ true = own in cc)
end_is V1 session serial refresh retry expire z rest last is own = ap (λ n. Some (record { 0 = n })) (back 4 serial is.1)

end_0_is : (version : Version) (session serial : ℕ) (z : Ignored) (rest : List ℕ) (last : Option Serial) → IsUnit (EndOfData0 session serial) → fits version (EndOfData0 session serial) ≡ true → Tells version (EndOfData0 session serial) z rest last
end_0_is V0 session serial z rest last is own = ap (λ n. Some (record { 0 = n })) (back 4 serial is.1)
end_0_is V1 session serial z rest last is own = absurd (let e : false ≡ true = own in cc)

serial_is : (version : Version) (u : Unit) (z : Ignored) (rest : List ℕ) (last : Option Serial) → IsUnit u → fits version u ≡ true → Tells version u z rest last
serial_is version (SerialNotify session serial) z rest last is own = refl
serial_is version (SerialQuery session serial) z rest last is own = refl
serial_is version ResetQuery z rest last is own = refl
serial_is version (CacheResponse session) z rest last is own = refl
serial_is version (Prefix a v) z rest last is own =
    elim v.prefix as (λ p. serial_after (prefix_bytes version a p v.max_len v.asn z ++ rest) (length (prefix_bytes version a p v.max_len v.asn z)) last ≡ last) [ V4 p ↦ refl | V6 p ↦ refl ]
serial_is version (EndOfData session serial refresh retry expire) z rest last is own = end_is version session serial refresh retry expire z rest last is own
serial_is version (EndOfData0 session serial) z rest last is own = end_0_is version session serial z rest last is own
serial_is version CacheReset z rest last is own = refl
serial_is version (RouterKey k) z rest last is own = refl
serial_is version (ErrorReport r) z rest last is own = refl

abbrev of_unit : Unit → Said
of_unit (ErrorReport r) = record { code = r.code; text = take 200 r.text }
of_unit u = record { code = 0; text = [] }

same_true : (a b : ℕ) → a ≡ b → (a == b) ≡ true
same_true a b h = grind (arith, nat_tests)

-- An Error Report says its code and the beginning of its text.
said_is_of : (version : Version) (r : Report) (z : Ignored) → IsUnit (ErrorReport r) → fits version (ErrorReport r) ≡ true → said_in (spelled version (ErrorReport r) z) ≡ record { code = r.code; text = take 200 r.text }
said_is_of version r z is own =
    let nothing = append-nil bytes in
    let o = opens version (ErrorReport r) z [] is own in
    let sound : IsReport version bytes = subst (λ x. IsReport version x) nothing (is_report version r z [] is) in
    let len : length_of bytes ≡ length bytes = ap length_of (sym nothing) ∙ o.len in
    let l = length-drop (16 + copy) bytes in
    let found = ap of_unit (sym (ap (unit_in version) nothing) ∙ unit_in-spelled version (ErrorReport r) z [] is own) in
    ap (λ t. record { code = number_at 2 2 bytes; text = if t then take 200 (drop (16 + copy) bytes) else [] }) (same_true (16 + copy + text) (length bytes) (sound.0 ∙ len))
    ∙ ap (λ xs. record { code = number_at 2 2 bytes; text = take 200 xs }) (sym (take_all text (drop (16 + copy) bytes) (omega (arith, l, sound.0, len))))
    ∙ found
  where
    bytes : List ℕ
    bytes = spelled version (ErrorReport r) z

    copy : ℕ
    copy = number_at 4 8 bytes

    text : ℕ
    text = number_at 4 (12 + copy) bytes

abbrev Says : Version → Unit → Ignored → List ℕ → Option Said → Type 0
Says version u z rest last = report_after (spelled version u z ++ rest) (tail_of (spelled version u z)) (length (spelled version u z)) last ≡ report_of u last

report_is : (version : Version) (u : Unit) (z : Ignored) (rest : List ℕ) (last : Option Said) → IsUnit u → fits version u ≡ true → Says version u z rest last
report_is version (SerialNotify session serial) z rest last is own = refl
report_is version (SerialQuery session serial) z rest last is own = refl
report_is version ResetQuery z rest last is own = refl
report_is version (CacheResponse session) z rest last is own = refl
report_is version (Prefix a v) z rest last is own =
    elim v.prefix as (λ p. report_after (prefix_bytes version a p v.max_len v.asn z ++ rest) (tail_of (prefix_bytes version a p v.max_len v.asn z)) (length (prefix_bytes version a p v.max_len v.asn z)) last ≡ last) [ V4 p ↦ refl | V6 p ↦ refl ]
report_is version (EndOfData session serial refresh retry expire) z rest last is own = refl
report_is version (EndOfData0 session serial) z rest last is own = refl
report_is version CacheReset z rest last is own = refl
report_is version (RouterKey k) z rest last is own = refl
report_is version (ErrorReport r) z rest last is own = ap Some (said_is (spelled version (ErrorReport r) z) rest (omega arith) ∙ said_is_of version r z is own)

-- one PDU more
abbrev and_unit : Unit → Counted → Counted
and_unit u c = record { pdus = and_pdu (type_number (kind_of u)) c.pdus; serial = end_serial u c.serial; report = report_of u c.report; front = []; tail = []; came = 0 }

abbrev and_units : List Unit → Counted → Counted
and_units [] c = c
and_units (u ∷ units) c = and_units units (and_unit u c)

eight_most : (n len : ℕ) → n ≡ len → 8 ≤ len → len ≡ max n 8
eight_most n len is long = omega (arith, is, long)

unit_counts : (version : Version) (u : Unit) (bytes rest : List ℕ) (c : Counted) → Reads version u bytes → IsBetween c → length bytes < 2 ^ 64 → counted_on c (bytes ++ rest) ≡ counted_on (and_unit u c) rest
unit_counts version u bytes rest c r between low =
    let pdu = spelled version u r.ignored in
    let all : List ℕ = pdu ++ rest in
    let len = length pdu in
    let o = opens version u r.ignored rest r.fits r.of_version in
    let l = length-append pdu rest in
    let same = ap (λ x. length x) r.bytes_are in
    let of : ℕ → Option Serial → Option Said → Counted = λ type serial report. record { pdus = and_pdu type c.pdus; serial = serial; report = report; front = []; tail = []; came = 0 } in
    ap (λ x. counted_on c (x ++ rest)) r.bytes_are
    ∙ whole_counts c all len between (eight_most (length_of all) len o.len o.eight) (omega (arith, l)) (omega (arith, same, low))
    ∙ (λ i. counted_on (and_whole all (tail_of (take-append_seam pdu rest i)) len c) (drop-append_seam pdu rest i))
    ∙ (λ i. counted_on (of (type_is version u r.ignored rest i) (serial_is version u r.ignored rest c.serial r.fits r.of_version i) (report_is version u r.ignored rest c.report r.fits r.of_version i)) rest)

-- the beginning of a PDU
coming_on : (front bytes : List ℕ) (c : Counted) → length (front ++ bytes) < told_len (front ++ bytes) → length (front ++ bytes) < 2 ^ 64 → counted_on (coming front c) bytes ≡ coming (front ++ bytes) c
coming_on front [] c more low = ap (λ x. coming x c) (sym (append-nil front))
coming_on front (b ∷ bytes) c more low =
    let whole = append_assoc front (b ∷ []) bytes in
    let l = length-append front (b ∷ []) in
    let k = length-append (front ++ b ∷ []) bytes in
    let e = ap (λ x. length x) whole in
    let t = ap told_len whole in
    ap (λ x. counted_on x bytes) (one_more front b c (omega (arith, l, k, e, low)) ∙ not_yet (front ++ b ∷ []) bytes c (omega (arith, k, e, t, more)))
    ∙ coming_on (front ++ b ∷ []) bytes c (omega (arith, e, t, more)) (omega (arith, e, low)) ∙ ap (λ x. coming x c) whole

below : (n len : ℕ) → (len < 8) ⊎ (len < n) → len < max n 8
below n len (inl h) = omega (arith, h)
below n len (inr h) = omega (arith, h)

-- a slot that is set, and another
index_set : (xs : List ℕ) (k v : ℕ) → k < length xs → slice_index (slice_set xs k v) k ≡ v
index_set [] k v low = absurd (omega (arith, low))
index_set (x ∷ xs) zero v low = refl
index_set (x ∷ xs) (suc k) v low = index_set xs k v (omega (arith, low))

index_other : (xs : List ℕ) (k j v : ℕ) → ¬ (k ≡ j) → slice_index (slice_set xs k v) j ≡ slice_index xs j
index_other [] k j v other = refl
index_other (x ∷ xs) zero zero v other = absurd (other refl)
index_other (x ∷ xs) zero (suc j) v other = refl
index_other (x ∷ xs) (suc k) zero v other = refl
index_other (x ∷ xs) (suc k) (suc j) v other = index_other xs k j v (λ e. other (ap (λ n. suc n) e))

low_type : (kind : Kind) → type_number kind < 11
low_type kinds.SerialNotify = omega arith
low_type kinds.SerialQuery = omega arith
low_type kinds.ResetQuery = omega arith
low_type kinds.CacheResponse = omega arith
low_type kinds.Ipv4Prefix = omega arith
low_type kinds.Ipv6Prefix = omega arith
low_type kinds.EndOfData = omega arith
low_type kinds.CacheReset = omega arith
low_type kinds.RouterKey = omega arith
low_type kinds.ErrorReport = omega arith

-- one PDU more among the counts
one_counted : (kind : Kind) (type n : ℕ) (counts : List ℕ) → length counts ≡ 11 → slice_index counts (type_number kind) ≡ capped n → (b : Bool) → (type == type_number kind) ≡ b
    → slice_index (slice_set counts type (capped (slice_index counts type + 1))) (type_number kind) ≡ capped (if b then n + 1 else n)
one_counted kind type n counts len is true same =
    let e = eq_of type (type_number kind) same in
    let low = low_type kind in
    ap (λ k. slice_index (slice_set counts k (capped (slice_index counts k + 1))) (type_number kind)) e ∙ index_set counts (type_number kind) (capped (slice_index counts (type_number kind) + 1)) (omega (arith, low, len))
    ∙ ap (λ k. capped (k + 1)) is ∙ twice n
  where
    twice : (n : ℕ) → capped (capped n + 1) ≡ capped (n + 1)
    twice n = omega arith
one_counted kind type n counts len is false same = index_other counts type (type_number kind) (capped (slice_index counts type + 1)) (not_eq_of type (type_number kind) same) ∙ is

count_after : (kind : Kind) (units : List Unit) (n : ℕ) (c : Counted) → length c.pdus.counts ≡ 11 → count_of c.pdus kind ≡ capped n → count_of (and_units units c).pdus kind ≡ capped (n + units_of kind units)
count_after kind [] n c len is = let e : n ≡ n + 0 = omega arith in is ∙ ap capped e
count_after kind (u ∷ units) n c len is = by_test (type_number (kind_of u) == type_number kind) refl (λ m. count_after kind units m (and_unit u c) kept)
  where
    kept : length (and_unit u c).pdus.counts ≡ 11
    kept = length-set c.pdus.counts (type_number (kind_of u)) (capped (slice_index c.pdus.counts (type_number (kind_of u)) + 1)) ∙ len

    by_test : (b : Bool) → (type_number (kind_of u) == type_number kind) ≡ b → ((m : ℕ) → count_of (and_unit u c).pdus kind ≡ capped m → count_of (and_units units (and_unit u c)).pdus kind ≡ capped (m + units_of kind units))
        → count_of (and_units units (and_unit u c)).pdus kind ≡ capped (n + (if b then suc (units_of kind units) else units_of kind units))
    by_test true same again =
        let e : (n + 1) + units_of kind units ≡ n + suc (units_of kind units) = omega arith in
        again (n + 1) (one_counted kind (type_number (kind_of u)) n c.pdus.counts len is true same) ∙ ap capped e
    by_test false same again = again n (one_counted kind (type_number (kind_of u)) n c.pdus.counts len is false same)

serial_after_units : (units : List Unit) (c : Counted) → (and_units units c).serial ≡ last_serial c.serial units
serial_after_units [] c = refl
serial_after_units (u ∷ units) c = serial_after_units units (and_unit u c)

report_after_units : (units : List Unit) (c : Counted) → (and_units units c).report ≡ last_report c.report units
report_after_units [] c = refl
report_after_units (u ∷ units) c = report_after_units units (and_unit u c)

between_units : (units : List Unit) (c : Counted) → IsBetween c → IsBetween (and_units units c)
between_units [] c h = h
between_units (u ∷ units) c h = between_units units (and_unit u c) (record { no_front = refl; no_tail = refl; none_came = refl })

unit_most : (version : Version) (bytes : List ℕ) → header_fault version bytes ≡ None → 8 ≤ length bytes → length_of bytes ≤ 4096
unit_most version bytes none long =
    let same = strict version bytes in
    subst (λ x. length_of x ≤ 4096) same (header_most version false bytes (ap (λ x. header_fault version x) same ∙ none) long)

unit_low : (version : Version) (u : Unit) (bytes : List ℕ) → Reads version u bytes → length bytes < 2 ^ 64
unit_low version u bytes r =
    let o = opens version u r.ignored [] r.fits r.of_version in
    let same = ap (λ x. length x) r.bytes_are in
    let most = unit_most version (spelled version u r.ignored ++ []) o.fault (let l = length-append (spelled version u r.ignored) [] in omega (arith, l, o.eight)) in
    omega (arith, same, o.len, most)

units_count : (version : Version) (units : List Unit) (front rest : List ℕ) (c : Counted) → AreRead version false units front → IsBetween c → counted_on c (front ++ rest) ≡ counted_on (and_units units c) rest
units_count version [] front rest c read h = ap (λ x. counted_on c (x ++ rest)) read
units_count version (u ∷ units) front rest c read h =
    let r = subst (λ x. Reads version u x) (strict version read.0) read.3 in
    ap (λ x. counted_on c (x ++ rest)) read.2 ∙ ap (counted_on c) (append_assoc read.0 read.1 rest)
    ∙ unit_counts version u read.0 (read.1 ++ rest) c r h (unit_low version u read.0 r)
    ∙ units_count version units read.1 rest (and_unit u c) read.4 (record { no_front = refl; no_tail = refl; none_came = refl })

rest_so : (rest : List ℕ) (c : Counted) → (length rest < 8) ⊎ (length rest < length_of rest) → length rest < 2 ^ 64 → IsBetween c → counted_on c rest ≡ coming rest c
rest_so rest c short low h =
    let start : List ℕ → List ℕ → ℕ → Counted = λ front tail came. record c { front = front; tail = tail; came = came } in
    (λ i. counted_on (start (h.no_front i) (h.no_tail i) (h.none_came i)) rest) ∙ coming_on [] rest c (below (length_of rest) (length rest) short) low

partial_low : (version : Version) (rest : List ℕ) → IsPartial version rest → length rest < 2 ^ 64
partial_low version rest p = let most = partial_most version rest (subst (IsPartial version) (sym (strict version rest)) p) in omega (arith, most)

rest_counts : (version : Version) (rest : List ℕ) (c : Counted) → IsPartial version rest → IsBetween c → counted_on c rest ≡ coming rest c
rest_counts version rest c p h = rest_so rest c p.1 (partial_low version rest p) h

none_of_type : (kind : Kind) → count_of none_counted.pdus kind ≡ capped 0
none_of_type kinds.SerialNotify = refl
none_of_type kinds.SerialQuery = refl
none_of_type kinds.ResetQuery = refl
none_of_type kinds.CacheResponse = refl
none_of_type kinds.Ipv4Prefix = refl
none_of_type kinds.Ipv6Prefix = refl
none_of_type kinds.EndOfData = refl
none_of_type kinds.CacheReset = refl
none_of_type kinds.RouterKey = refl
none_of_type kinds.ErrorReport = refl

pub counts_units : CountsUnits
counts_units version units front rest read partial =
    let b : IsBetween none_counted = record { no_front = refl; no_tail = refl; none_came = refl } in
    let both = units_count version units front rest none_counted read b ∙ rest_counts version rest (and_units units none_counted) partial (between_units units none_counted b) in (
      λ kind. ap (λ (c : Counted). count_of c.pdus kind) both ∙ count_after kind units 0 none_counted refl (none_of_type kind) ∙ (let e : 0 + units_of kind units ≡ units_of kind units = omega arith in ap capped e),
      ap (λ (c : Counted). c.serial) both ∙ serial_after_units units none_counted,
      ap (λ (c : Counted). c.report) both ∙ report_after_units units none_counted,
    )

-- ---- a Serial Notify of any version, before a router has agreed on one

both_true : (p q : Bool) → (p && q) ≡ true → (p ≡ true) × (q ≡ true)
both_true true q h = (refl, h)
both_true false q h = absurd (let no : false ≡ true = h in cc)

-- The version of a PDU that is no Error Report is not counted.
other_version : (x y a k : ℕ) (g : List ℕ) (c : Counted) → IsBetween c → a ≡ 0 → length_of (y ∷ a ∷ g) ≡ suc k → 8 ≤ suc k → suc k ≤ length (y ∷ a ∷ g) → suc k < 2 ^ 64
    → counted_on c (x ∷ a ∷ g) ≡ counted_on c (y ∷ a ∷ g)
other_version x y a k g c between type told eight within low = as_one x ∙ sym (as_one y)
  where
    other : ¬ (a ≡ 10)
    other ten = absurd (omega (arith, type, ten))

    as_one : (z : ℕ) → counted_on c (z ∷ a ∷ g) ≡ counted_on (and_whole (y ∷ a ∷ g) [] (suc k) c) (drop k (a ∷ g))
    as_one z =
        whole_counts c (z ∷ a ∷ g) (suc k) between (eight_most (length_of (z ∷ a ∷ g)) (suc k) told eight) within low
        ∙ ap (λ now. counted_on now (drop k (a ∷ g))) (no_report (z ∷ a ∷ g) (tail_of (take (suc k) (z ∷ a ∷ g))) (suc k) c other)

notify_counts : (version : Version) (u : Unit) (front rest : List ℕ) (c : Counted) → is_notify_header front ≡ true → Reads version u (version_number version ∷ drop 1 front) → IsBetween c → counted_on c (front ++ rest) ≡ counted_on (and_unit u c) rest
notify_counts version u [] rest c h r between = absurd (let no : false ≡ true = h in cc)
notify_counts version u (x ∷ []) rest c h r between = absurd (let no : false ≡ true = h in cc)
notify_counts version u (x ∷ a ∷ f) rest c h r between =
    let y = version_number version in
    let low = unit_low version u (y ∷ a ∷ f) r in
    let o = opens version u r.ignored rest r.fits r.of_version in
    let long = ap (λ z. length z) r.bytes_are in
    let l = length-append f rest in
    let eight : 8 ≤ length (y ∷ a ∷ f) = omega (arith, long, o.eight) in
    let within : length (y ∷ a ∷ f) ≤ length (y ∷ a ∷ (f ++ rest)) = omega (arith, l) in
    let type = eq_of a 0 (both_true _ _ (both_true _ _ h).1).0 in
    other_version x y a (length (a ∷ f)) (f ++ rest) c between type (ap (λ z. length_of (z ++ rest)) r.bytes_are ∙ o.len ∙ sym long) eight within low
    ∙ unit_counts version u (y ∷ a ∷ f) rest c r between low

any_unit_counts : (version : Version) (any : Bool) (u : Unit) (front rest : List ℕ) (c : Counted) → Reads version u (as_read version any front) → IsBetween c → counted_on c (front ++ rest) ≡ counted_on (and_unit u c) rest
unfolding as_read
any_unit_counts version any u front rest c r between = by_test (any && is_notify_header front) refl r
  where
    by_test : (b : Bool) → (any && is_notify_header front) ≡ b → Reads version u (if b then version_number version ∷ drop 1 front else front) → counted_on c (front ++ rest) ≡ counted_on (and_unit u c) rest
    by_test true is read = notify_counts version u front rest c (both_true any (is_notify_header front) is).1 read between
    by_test false is read = unit_counts version u front rest c read between (unit_low version u front read)

any_units_count : (version : Version) (any : Bool) (units : List Unit) (front rest : List ℕ) (c : Counted) → AreRead version any units front → IsBetween c → counted_on c (front ++ rest) ≡ counted_on (and_units units c) rest
any_units_count version any [] front rest c read h = ap (λ x. counted_on c (x ++ rest)) read
any_units_count version any (u ∷ units) front rest c read h =
    ap (λ x. counted_on c (x ++ rest)) read.2 ∙ ap (counted_on c) (append_assoc read.0 read.1 rest)
    ∙ any_unit_counts version any u read.0 (read.1 ++ rest) c read.3 h
    ∙ any_units_count version (any && is_notify u) units read.1 rest (and_unit u c) read.4 (record { no_front = refl; no_tail = refl; none_came = refl })

any_rest_counts : (version : Version) (any : Bool) (rest : List ℕ) (c : Counted) → IsPartial version (as_read version any rest) → IsBetween c → counted_on c rest ≡ coming rest c
unfolding as_read
any_rest_counts version any rest c p h = by_test (any && is_notify_header rest) refl rest p
  where
    by_test : (b : Bool) → (any && is_notify_header rest) ≡ b → (bytes : List ℕ) → IsPartial version (if b then version_number version ∷ drop 1 bytes else bytes) → counted_on c bytes ≡ coming bytes c
    by_test false is bytes p = rest_counts version bytes c p h
    by_test true is [] p = rest_so [] c (inl (omega arith)) (omega arith) h
    by_test true is (x ∷ f) p = rest_so (x ∷ f) c p.1 (partial_low version (version_number version ∷ f) p) h

pub counts_splits : CountsSplits
counts_splits version any stream units rest s kind =
    let b : IsBetween none_counted = record { no_front = refl; no_tail = refl; none_came = refl } in
    let both = any_units_count version any units s.front rest none_counted s.read b ∙ any_rest_counts version (any_after any units) rest (and_units units none_counted) s.after (between_units units none_counted b) in
    let e : 0 + units_of kind units ≡ units_of kind units = omega arith in
    ap (λ x. count_of (counted x).pdus kind) s.whole ∙ ap (λ (c : Counted). count_of c.pdus kind) both ∙ count_after kind units 0 none_counted refl (none_of_type kind) ∙ ap capped e

-- An Error Report that comes whole
pub counts_reports : CountsReports
counts_reports bytes pdu are_bytes between is whole =
    let c = counted bytes in
    let small = number_fits pdu are_bytes 4 4 in
    let low : length pdu < 2 ^ 64 = omega (arith, small, whole) in
    let all = take_all (length pdu) pdu (omega arith) in
    let none = drop_all (length pdu) pdu (omega arith) in
    ap (λ (x : Counted). x.report) (counted_both none_counted bytes pdu ∙ whole_counts c pdu (length pdu) between (sym whole) (omega arith) low ∙ (λ i. counted_on (and_whole pdu (tail_of (all i)) (length pdu) c) (none i)))
    ∙ ap (λ t. if t then Some (record { code = number_at 2 2 pdu; text = text_in pdu (tail_of pdu) (length pdu) }) else c.report) is
    ∙ ap (λ xs. Some (record { code = number_at 2 2 pdu; text = xs })) (text_is pdu)
