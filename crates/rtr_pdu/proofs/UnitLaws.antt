-- No bytes are read as two PDUs, and no PDU's bytes begin another's.
use Rattle.std.specs.Prelude.{◌≡◌, ℕ, ◌+◌, ◌-◌, ◌*◌, ◌%◌, ◌<◌, ◌≤◌, ◌^◌, Bool, true, false, ◌==◌, List, [], ◌++◌, length, take, drop, Some, None, if◌then◌else◌, refl, not, ◌||◌, nat_lt, nat_le}
use Rattle.std.proofs.Common.{sym, ap, ◌∙◌, subst, arith, append_assoc}
use Rattle.std.proofs.Math.Seq.{take-append_seam, drop-append_seam, drop-append-add}
use Rattle.byteorder.specs.Endian.{big_bytes, big_number}
use Rattle.byteorder.specs.Numbers.{big_number-reads_back}
use Rattle.prefixes.specs.Payload.{Payload, IsPayload}
use Rattle.prefixes.specs.declared.prefix.IpPrefix.TheVariants.{V4, V6}
use Rattle.rtr_pdu.specs.Version.{version_number}
use Rattle.rtr_pdu.specs.declared.version.Version.{Version}
use Rattle.rtr_pdu.specs.declared.version.Version.TheVariants.{V0, V1}
use Rattle.rtr_pdu.specs.Judging.{unit_in}
use Rattle.rtr_pdu.specs.Payloads.{Report}
use Rattle.rtr_pdu.specs.Reading.{number_at, is_odd}
use Rattle.rtr_pdu.proofs.ModeLaws.{not_short}
use Rattle.rtr_pdu.specs.declared.unit.Unit.{Unit}
use Rattle.rtr_pdu.specs.declared.unit.Unit.TheVariants.{SerialNotify, SerialQuery, ResetQuery, CacheResponse, Prefix, EndOfData, EndOfData0, CacheReset, RouterKey, ErrorReport}
use Rattle.rtr_pdu.specs.Unit.{Ignored, header, prefix_bytes, IsUnit, fits, spelled, flag}
use Rattle.rtr_pdu.specs.Stream.{type_of, length_of, version_of, header_fault, IsReport}
use Rattle.rtr_pdu.specs.Kind.{is_type, has_length}
use Rattle.rtr_pdu.specs.declared.unit.UnitFault.TheVariants as faults
use Rattle.std.specs.Str.{IsUtf8}
use Rattle.std.proofs.lemmas.List.{append-nil, length-append}
use Rattle.std.proofs.lemmas.Bool.Decides.{nat_tests}

-- a number, back from its bytes
pub back : (n x : ℕ) → x < 256 ^ n → big_number n (big_bytes n x) ≡ x
back n x h = ap (big_number n) (sym (append-nil (big_bytes n x))) ∙ big_number-reads_back n x [] h

-- a flag, back from its byte
odd_flag : (a : Bool) (k : ℕ) → is_odd (flag a + 2 * k) ≡ a
odd_flag true k = let e : (1 + 2 * k) % 2 ≡ 1 = omega arith in ap (λ n. n == 1) e
odd_flag false k = let e : (0 + 2 * k) % 2 ≡ 0 = omega arith in ap (λ n. n == 1) e

-- what the tests of a header say of the lengths of PDUs
not_long : (n : ℕ) → n ≤ 4096 → nat_lt 4096 n ≡ false
not_long n h = grind (arith, nat_tests)

-- the test of a least length
enough : (k n : ℕ) → k ≤ n → nat_le k n ≡ true
enough k n h = grind (arith, nat_tests)

-- a version is itself
same_version : (n : ℕ) → (n == n) ≡ true
same_version n = grind (arith, nat_tests)

-- three lists in a row
module _ (xs ys zs rest : List ℕ) where
  -- one after the other
  in_row : ((xs ++ ys) ++ zs) ++ rest ≡ xs ++ (ys ++ (zs ++ rest))
  in_row = append_assoc (xs ++ ys) zs rest ∙ append_assoc xs ys (zs ++ rest)

  -- the first
  first_of_row : (n : ℕ) → length xs ≡ n → take n (((xs ++ ys) ++ zs) ++ rest) ≡ xs
  first_of_row n e = ap (take n) in_row ∙ ap (λ k. take k (xs ++ (ys ++ (zs ++ rest)))) (sym e) ∙ take-append_seam xs (ys ++ (zs ++ rest))

  -- what follows the first
  after_first : (n : ℕ) → length xs ≡ n → drop n (((xs ++ ys) ++ zs) ++ rest) ≡ ys ++ (zs ++ rest)
  after_first n e = ap (drop n) in_row ∙ ap (λ k. drop k (xs ++ (ys ++ (zs ++ rest)))) (sym e) ∙ drop-append_seam xs (ys ++ (zs ++ rest))

  -- what follows the second
  after_second : (n : ℕ) → length xs + length ys ≡ n → drop n (((xs ++ ys) ++ zs) ++ rest) ≡ zs ++ rest
  after_second n e =
      ap (drop n) in_row ∙ ap (λ k. drop k (xs ++ (ys ++ (zs ++ rest)))) (sym e)
      ∙ drop-append-add xs (ys ++ (zs ++ rest)) (length ys) ∙ drop-append_seam ys (zs ++ rest)

  -- the third
  third_of_row : (n k : ℕ) → length xs + length ys ≡ n → length zs ≡ k → take k (drop n (((xs ++ ys) ++ zs) ++ rest)) ≡ zs
  third_of_row n k e f = ap (take k) (after_second n e) ∙ ap (λ m. take m (zs ++ rest)) (sym f) ∙ take-append_seam zs rest

-- The header of a PDU has no fault, and gives its length.
pub record Opens (version : Version) (front bytes : List ℕ) : Type 0 where
  pub fault : header_fault version bytes ≡ None
  pub len : length_of bytes ≡ length front
  pub eight : 8 ≤ length front

-- an End of Data with intervals, in version 1 alone
module _ (session serial refresh retry expire : ℕ) (z : Ignored) (rest : List ℕ) where
  in_end : (version : Version) → IsUnit (EndOfData session serial refresh retry expire) → fits version (EndOfData session serial refresh retry expire) ≡ true
      → unit_in version (spelled version (EndOfData session serial refresh retry expire) z ++ rest) ≡ EndOfData session serial refresh retry expire
  in_end V0 fits own = absurd (let e : false ≡ true = own in cc)
  in_end V1 fits own = λ i. EndOfData (back 2 session fits.0 i) (back 4 serial fits.1 i) (back 4 refresh fits.2 i) (back 4 retry fits.3 i) (back 4 expire fits.4 i)

-- one without, in version 0 alone
module _ (session serial : ℕ) (z : Ignored) (rest : List ℕ) where
  in_end_0 : (version : Version) → IsUnit (EndOfData0 session serial) → fits version (EndOfData0 session serial) ≡ true
      → unit_in version (spelled version (EndOfData0 session serial) z ++ rest) ≡ EndOfData0 session serial
  in_end_0 V0 fits own = λ i. EndOfData0 (back 2 session fits.0 i) (back 4 serial fits.1 i)
  in_end_0 V1 fits own = absurd (let e : false ≡ true = own in cc)

module _ (version : Version) where
  in_prefix : (a : Bool) (v : Payload) (z : Ignored) (rest : List ℕ) → IsPayload v → unit_in version (spelled version (Prefix a v) z ++ rest) ≡ Prefix a v
  in_prefix a v z rest fits =
      elim v.prefix as (λ p. IsPayload (record v { prefix = p }) → unit_in version (spelled version (Prefix a (record v { prefix = p })) z ++ rest) ≡ Prefix a (record v { prefix = p })) [
        | V4 p ↦ λ fits i. Prefix (odd_flag a z.flags i) (record { prefix = V4 (record { addr = back 4 p.addr fits.prefix.address i; len = p.len }); max_len = v.max_len; asn = back 4 v.asn fits.asn i })
        | V6 p ↦ λ fits i. Prefix (odd_flag a z.flags i) (record { prefix = V6 (record { addr = back 16 p.addr fits.prefix.address i; len = p.len }); max_len = v.max_len; asn = back 4 v.asn fits.asn i })
      ] fits

  -- the parts of an Error Report, as they are found
  module _ (r : Report) (z : Ignored) (rest : List ℕ) (fits : IsUnit (ErrorReport r)) where
    abbrev report_bytes : List ℕ
    report_bytes = spelled version (ErrorReport r) z ++ rest

    abbrev report_front : List ℕ
    report_front = header version 10 r.code (16 + length r.copy + length r.text) ++ big_bytes 4 (length r.copy)

    abbrev report_row : List ℕ
    report_row = ((r.copy ++ big_bytes 4 (length r.text)) ++ r.text) ++ rest

    copy_len : number_at 4 8 report_bytes ≡ length r.copy
    copy_len = back 4 (length r.copy) (omega (arith, fits.1))

    text_at : drop (12 + number_at 4 8 report_bytes) report_bytes ≡ big_bytes 4 (length r.text) ++ (r.text ++ rest)
    text_at =
        ap (λ n. drop (12 + n) report_bytes) copy_len ∙ drop-append-add report_front report_row (length r.copy)
        ∙ after_first r.copy (big_bytes 4 (length r.text)) r.text rest (length r.copy) refl

    text_len : number_at 4 (12 + number_at 4 8 report_bytes) report_bytes ≡ length r.text
    text_len = ap (big_number 4) text_at ∙ big_number-reads_back 4 (length r.text) (r.text ++ rest) (omega (arith, fits.1))

    text_is : drop (16 + number_at 4 8 report_bytes) report_bytes ≡ r.text ++ rest
    text_is =
        let skipped : 16 + number_at 4 8 report_bytes ≡ 12 + (length r.copy + 4) = omega (arith, copy_len) in
        ap (λ n. drop n report_bytes) skipped ∙ drop-append-add report_front report_row (length r.copy + 4)
        ∙ after_second r.copy (big_bytes 4 (length r.text)) r.text rest (length r.copy + 4) refl

    text_found : take (number_at 4 (12 + number_at 4 8 report_bytes) report_bytes) (drop (16 + number_at 4 8 report_bytes) report_bytes) ≡ r.text
    text_found = (λ i. take (text_len i) (text_is i)) ∙ take-append_seam r.text rest

    report_len : length_of report_bytes ≡ 16 + length r.copy + length r.text
    report_len = back 4 (16 + length r.copy + length r.text) (omega (arith, fits.1))

    pub is_report : IsReport version report_bytes
    is_report = (omega (arith, copy_len, text_len, report_len), subst (λ t. IsUtf8 t) (sym text_found) fits.2)

  pub unit_in-spelled : (u : Unit) (z : Ignored) (rest : List ℕ) → IsUnit u → fits version u ≡ true → unit_in version (spelled version u z ++ rest) ≡ u
  unit_in-spelled (SerialNotify session serial) z rest fits own = λ i. SerialNotify (back 2 session fits.0 i) (back 4 serial fits.1 i)
  unit_in-spelled (SerialQuery session serial) z rest fits own = λ i. SerialQuery (back 2 session fits.0 i) (back 4 serial fits.1 i)
  unit_in-spelled ResetQuery z rest fits own = refl
  unit_in-spelled (CacheResponse session) z rest fits own = ap CacheResponse (back 2 session fits)
  unit_in-spelled (Prefix a v) z rest fits own = in_prefix a v z rest fits
  unit_in-spelled (EndOfData session serial refresh retry expire) z rest fits own = in_end session serial refresh retry expire z rest version fits own
  unit_in-spelled (EndOfData0 session serial) z rest fits own = in_end_0 session serial z rest version fits own
  unit_in-spelled CacheReset z rest fits own = refl
  unit_in-spelled (RouterKey k) z rest fits own =
      let len : length_of (spelled version (RouterKey k) z ++ rest) ≡ 32 + length k.info = back 4 (32 + length k.info) (omega (arith, fits.2)) in
      let info_len : length k.info ≡ length_of (spelled version (RouterKey k) z ++ rest) - 32 = omega (arith, len) in
      let asn : big_number 4 (drop 20 (((k.identifier ++ big_bytes 4 k.asn) ++ k.info) ++ rest)) ≡ k.asn =
      ap (big_number 4) (after_first k.identifier (big_bytes 4 k.asn) k.info rest 20 fits.0) ∙ big_number-reads_back 4 k.asn (k.info ++ rest) fits.1 in
      let row : length k.identifier + 4 ≡ 24 = omega (arith, fits.0) in
      λ i. RouterKey (record {
        announce = odd_flag k.announce z.flags i;
        identifier = first_of_row k.identifier (big_bytes 4 k.asn) k.info rest 20 fits.0 i;
        asn = asn i;
        info = third_of_row k.identifier (big_bytes 4 k.asn) k.info rest 24 _ row info_len i;
      })
  unit_in-spelled (ErrorReport r) z rest fits own = λ i. ErrorReport (record {
    code = back 2 r.code fits.0 i;
    copy = first_of_row r.copy (big_bytes 4 (length r.text)) r.text rest _ (sym (copy_len r z rest fits)) i;
    text = text_found r z rest fits i;
  })

  sound : (bytes : List ℕ) → 8 ≤ length bytes → (version_of bytes == version_number version) ≡ true → is_type version (type_of bytes) ≡ true → has_length version (type_of bytes) (length_of bytes) ≡ true → length_of bytes ≤ 4096 → header_fault version bytes ≡ None
  sound bytes eight version kind len long =
      λ i. if not_short (length bytes) eight i then None
      else if not (version i) then Some faults.Version
      else if not (kind i) then Some faults.«Type»
      else if not (len i) then Some faults.Length
      else if not_long (length_of bytes) long i then Some faults.TooLong
      else None

  -- the same of a PDU whose bytes are before others
  opens_with : (front rest : List ℕ) → 8 ≤ length front → (version_of (front ++ rest) == version_number version) ≡ true → is_type version (type_of (front ++ rest)) ≡ true
      → has_length version (type_of (front ++ rest)) (length_of (front ++ rest)) ≡ true → length_of (front ++ rest) ≡ length front → length front ≤ 4096 → Opens version front (front ++ rest)
  opens_with front rest eight version kind has len long = record {
    fault = sound (front ++ rest) (omega (arith, length-append front rest)) version kind has (omega (arith, len));
    len = len;
    eight = eight;
  }

-- End of Data
module _ (session serial refresh retry expire : ℕ) (z : Ignored) (rest : List ℕ) where
  opens_end : (version : Version) → fits version (EndOfData session serial refresh retry expire) ≡ true
      → Opens version (spelled version (EndOfData session serial refresh retry expire) z) (spelled version (EndOfData session serial refresh retry expire) z ++ rest)
  opens_end V0 own = absurd (let e : false ≡ true = own in cc)
  opens_end V1 own = opens_with V1 (spelled V1 (EndOfData session serial refresh retry expire) z) rest (omega arith) refl refl refl refl (omega arith)

-- and without intervals
module _ (session serial : ℕ) (z : Ignored) (rest : List ℕ) where
  opens_end_0 : (version : Version) → fits version (EndOfData0 session serial) ≡ true
      → Opens version (spelled version (EndOfData0 session serial) z) (spelled version (EndOfData0 session serial) z ++ rest)
  opens_end_0 V0 own = opens_with V0 (spelled V0 (EndOfData0 session serial) z) rest (omega arith) refl refl refl refl (omega arith)
  opens_end_0 V1 own = absurd (let e : false ≡ true = own in cc)

module _ (version : Version) where
  pub opens : (u : Unit) (z : Ignored) (rest : List ℕ) → IsUnit u → fits version u ≡ true → Opens version (spelled version u z) (spelled version u z ++ rest)
  opens (SerialNotify session serial) z rest fits own = opens_with version (spelled version (SerialNotify session serial) z) rest (omega arith) (same_version (version_number version)) refl refl refl (omega arith)
  opens (SerialQuery session serial) z rest fits own = opens_with version (spelled version (SerialQuery session serial) z) rest (omega arith) (same_version (version_number version)) refl refl refl (omega arith)
  opens ResetQuery z rest fits own = opens_with version (spelled version ResetQuery z) rest (omega arith) (same_version (version_number version)) refl refl refl (omega arith)
  opens (CacheResponse session) z rest fits own = opens_with version (spelled version (CacheResponse session) z) rest (omega arith) (same_version (version_number version)) refl refl refl (omega arith)
  opens (Prefix a v) z rest fits own =
      elim v.prefix as (λ p. Opens version (prefix_bytes version a p v.max_len v.asn z) (prefix_bytes version a p v.max_len v.asn z ++ rest)) [
        | V4 p ↦ opens_with version (prefix_bytes version a (V4 p) v.max_len v.asn z) rest (omega arith) (same_version (version_number version)) refl refl refl (omega arith)
        | V6 p ↦ opens_with version (prefix_bytes version a (V6 p) v.max_len v.asn z) rest (omega arith) (same_version (version_number version)) refl refl refl (omega arith)
      ]
  opens (EndOfData session serial refresh retry expire) z rest fits own = opens_end session serial refresh retry expire z rest version own
  opens (EndOfData0 session serial) z rest fits own = opens_end_0 session serial z rest version own
  opens CacheReset z rest fits own = opens_with version (spelled version CacheReset z) rest (omega arith) (same_version (version_number version)) refl refl refl (omega arith)
  opens (RouterKey k) z rest fits own =
      let bytes = spelled version (RouterKey k) z ++ rest in
      let len : length_of bytes ≡ 32 + length k.info = back 4 (32 + length k.info) (omega (arith, fits.2)) in
      let size : length ((k.identifier ++ big_bytes 4 k.asn) ++ k.info) ≡ 24 + length k.info =
      length-append (k.identifier ++ big_bytes 4 k.asn) k.info ∙ ap (λ n. n + length k.info) (length-append k.identifier (big_bytes 4 k.asn) ∙ ap (λ n. n + 4) fits.0) in
      record {
        fault = sound version bytes (omega arith) (same_version (version_number version)) (ap (λ b. b || false) own) (ap (has_length version 9) len ∙ ap (λ b. b || false) (enough 32 (32 + length k.info) (omega arith))) (omega (arith, len, fits.2));
        len = len ∙ (omega (arith, size));
        eight = omega arith;
      }
  opens (ErrorReport r) z rest fits own =
      let bytes = spelled version (ErrorReport r) z ++ rest in
      let len = report_len version r z rest fits in
      let size : length ((r.copy ++ big_bytes 4 (length r.text)) ++ r.text) ≡ length r.copy + 4 + length r.text =
      length-append (r.copy ++ big_bytes 4 (length r.text)) r.text ∙ ap (λ n. n + length r.text) (length-append r.copy (big_bytes 4 (length r.text))) in
      record {
        fault = sound version bytes (omega arith) (same_version (version_number version)) refl (ap (has_length version 10) len ∙ ap (λ b. b || false) (enough 16 (16 + length r.copy + length r.text) (omega arith))) (omega (arith, len, fits.1));
        len = len ∙ (omega (arith, size));
        eight = omega arith;
      }
