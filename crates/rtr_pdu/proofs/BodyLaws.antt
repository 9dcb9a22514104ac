-- Whole PDUs, as a reader reads them.
use Rattle.std.specs.Prelude.{◌≡◌, ℕ, ◌<◌, ◌≤◌, Bool, true, false, ◌&&◌, ◌==◌, List, [], ◌∷◌, length, drop, slice_index, None, if◌then◌else◌, refl}
use Rattle.std.proofs.Common.{sym, ap, ◌∙◌, subst, arith, inl, inr, zero, suc}
use Rattle.std.proofs.lemmas.Bool.Decides.{nat_tests}
use Rattle.byteorder.specs.Endian.{big_number}
use Rattle.prefixes.specs.Payload.{Payload}
use Rattle.rtr_pdu.specs.Version.{version_number}
use Rattle.rtr_pdu.specs.declared.version.Version.{Version}
use Rattle.rtr_pdu.specs.Payloads.{AreBytes, Report, Key}
use Rattle.rtr_pdu.specs.declared.unit.Unit.{Unit}
use Rattle.rtr_pdu.specs.declared.unit.Unit.TheVariants.{SerialNotify, SerialQuery, ResetQuery, CacheResponse, Prefix, CacheReset, RouterKey, ErrorReport}
use Rattle.rtr_pdu.specs.declared.unit.UnitFault.{UnitFault}
use Rattle.rtr_pdu.specs.declared.unit.UnitFault.TheVariants as faults
use Rattle.rtr_pdu.specs.Unit.{Reads}
use Rattle.rtr_pdu.specs.Kind.{is_type}
use Rattle.rtr_pdu.specs.Judging.{end_of_data_in}
use Rattle.rtr_pdu.proofs.VersionLaws.{has_keys}
use Rattle.rtr_pdu.specs.Stream.{as_read, is_notify_header, version_of, type_of, length_of, fault_of, header_fault, IsWhole, IsRecord, IsReport, Shows, IsShortest}
use Rattle.rtr_pdu.proofs.ModeLaws.{length-as_read, eight_le, not_short}
use Rattle.rtr_pdu.specs.Reading.{number_at, is_odd, v4_in, v6_in, key_in, report_in, IsSized, IsBody}
use Rattle.rtr_pdu.proofs.ReadLaws.{IsFrame, reads_0, reads_1, reads_2, reads_3, reads_4, reads_6, reads_7, reads_8, reads_9, reads_10}
use Rattle.rtr_pdu.proofs.JudgeLaws.{header_sized, is_header}
use Rattle.rtr_pdu.proofs.SplitLaws.{AreBytes-as_read, shortest_whole}
use Rattle.rtr_pdu.specs.Reader.{fault_size, IsFaulty, IsRead}

module _ (version : Version) where
  -- what follows the version is read as it is
  changed_drop : (b : Bool) (bytes : List ℕ) (i : ℕ) → drop (suc i) (if b then version_number version ∷ drop 1 bytes else bytes) ≡ drop (suc i) bytes
  changed_drop false bytes i = refl
  changed_drop true [] zero = refl
  changed_drop true [] (suc i) = refl
  changed_drop true (x ∷ xs) i = refl

  -- the same for one byte
  changed_index : (b : Bool) (bytes : List ℕ) (i : ℕ) → slice_index (if b then version_number version ∷ drop 1 bytes else bytes) (suc i) ≡ slice_index bytes (suc i)
  changed_index false bytes i = refl
  changed_index true [] i = refl
  changed_index true (x ∷ xs) i = refl

  -- what is read behind the version is what is there
  pub drop-as_read : (any : Bool) (bytes : List ℕ) (i : ℕ) → drop (suc i) (as_read version any bytes) ≡ drop (suc i) bytes
  unfolding as_read
  drop-as_read any bytes i = changed_drop (any && is_notify_header bytes) bytes i

  -- the same for one byte
  pub index-as_read : (any : Bool) (bytes : List ℕ) (i : ℕ) → slice_index (as_read version any bytes) (suc i) ≡ slice_index bytes (suc i)
  unfolding as_read
  index-as_read any bytes i = changed_index (any && is_notify_header bytes) bytes i

  -- the version that is read
  abbrev pub version_read : Bool → List ℕ → ℕ
  version_read any bytes = if any && (type_of bytes == 0 && length_of bytes == 12) then version_number version else version_of bytes

  -- the version of changed bytes
  changed_version : (b : Bool) (bytes : List ℕ) → version_of (if b then version_number version ∷ drop 1 bytes else bytes) ≡ (if b then version_number version else version_of bytes)
  changed_version true bytes = refl
  changed_version false bytes = refl

  -- the version of a whole header, as it is read
  version-as_read : (any : Bool) (bytes : List ℕ) → 8 ≤ length bytes → version_of (as_read version any bytes) ≡ version_read any bytes
  unfolding as_read
  version-as_read any bytes h =
      changed_version (any && is_notify_header bytes) bytes
      ∙ ap (λ b. if any && (b && (type_of bytes == 0 && length_of bytes == 12)) then version_number version else version_of bytes) (eight_le (length bytes) h)

  -- The fault of a whole header, as it is read, is the one of the version that is read.
  pub header-as_read : (any : Bool) (bytes : List ℕ) → 8 ≤ length bytes → header_fault version (as_read version any bytes) ≡ fault_of version (version_read any bytes) (type_of bytes) (length_of bytes)
  header-as_read any bytes h =
      let short = not_short (length (as_read version any bytes)) (omega (arith, length-as_read version any bytes, h)) in
      let kind : type_of (as_read version any bytes) ≡ type_of bytes = index-as_read any bytes 0 in
      let len : length_of (as_read version any bytes) ≡ length_of bytes = ap (λ x. big_number 4 x) (drop-as_read any bytes 3) in
      ap (λ b. if b then None else fault_of version (version_of (as_read version any bytes)) (type_of (as_read version any bytes)) (length_of (as_read version any bytes))) short
      ∙ (λ i. fault_of version (version-as_read any bytes h i) (kind i) (len i))

  -- A whole PDU has the size of its type.
  pub is_body : (any : Bool) (bytes : List ℕ) → IsWhole version (as_read version any bytes) → length bytes ≡ length_of (as_read version any bytes) → IsBody version any bytes
  is_body any bytes whole exact =
      let sized = header_sized version (as_read version any bytes) whole.1 whole.0 in
      let type_is : type_of (as_read version any bytes) ≡ type_of bytes = index-as_read any bytes 0 in
      record { whole = whole; exact = exact; sized = subst (λ l. IsSized version (type_of bytes) l) (sym exact) (subst (λ t. IsSized version t (length_of (as_read version any bytes))) type_is sized) }

  -- A PDU of another type is read as it is.
  module _ (any : Bool) (bytes : List ℕ) (each : AreBytes bytes) (b : IsBody version any bytes) where
    -- it is a frame of its type
    pub frame : (kind : ℕ) → type_of bytes ≡ kind → IsFrame version kind (as_read version any bytes)
    frame kind e = record {
      each = AreBytes-as_read version any bytes each;
      version_is = (is_header version (as_read version any bytes) b.whole.1 b.whole.0).version_is;
      type_is = index-as_read any bytes 0 ∙ e;
      size = length-as_read version any bytes ∙ b.exact;
      eight = b.whole.1;
    }

    -- it has as many bytes as are there
    len : (n : ℕ) → length bytes ≡ n → length (as_read version any bytes) ≡ n
    len n e = length-as_read version any bytes ∙ e

    -- no shorter beginning of it ends a PDU or shows a fault
    short : IsShortest version any bytes
    short = shortest_whole version any bytes b.whole.0 (omega (arith, b.exact))

    -- a number behind the version is read as it is
    at_place : (n i : ℕ) → number_at n (suc i) (as_read version any bytes) ≡ number_at n (suc i) bytes
    at_place n i = ap (λ x. big_number n x) (drop-as_read any bytes i)

    -- a PDU, determined by its parts
    is_read : (u v : Unit) → Reads version u (as_read version any bytes) → u ≡ v → IsRead version any bytes v
    is_read u v r e = record { reads = subst (λ w. Reads version w (as_read version any bytes)) e r; shortest = short }

    -- a Serial Notify, determined by its parts
    pub read_0 : (session serial : ℕ) → type_of bytes ≡ 0 → session ≡ number_at 2 2 bytes → serial ≡ number_at 4 8 bytes → IsRead version any bytes (SerialNotify session serial)
    read_0 session serial k s n =
        is_read _ _ (reads_0 version (as_read version any bytes) (frame 0 k) (len 12 (b.sized.at_notify k))) (λ i. SerialNotify ((at_place 2 1 ∙ sym s) i) ((at_place 4 7 ∙ sym n) i))

    -- a Serial Query
    pub read_1 : (session serial : ℕ) → type_of bytes ≡ 1 → session ≡ number_at 2 2 bytes → serial ≡ number_at 4 8 bytes → IsRead version any bytes (SerialQuery session serial)
    read_1 session serial k s n =
        is_read _ _ (reads_1 version (as_read version any bytes) (frame 1 k) (len 12 (b.sized.at_query k))) (λ i. SerialQuery ((at_place 2 1 ∙ sym s) i) ((at_place 4 7 ∙ sym n) i))

    -- a Reset Query
    pub read_2 : type_of bytes ≡ 2 → IsRead version any bytes ResetQuery
    read_2 k = record { reads = reads_2 version (as_read version any bytes) (frame 2 k) (len 8 (b.sized.at_reset_query k)); shortest = short }

    -- a Cache Reset
    pub read_8 : type_of bytes ≡ 8 → IsRead version any bytes CacheReset
    read_8 k = record { reads = reads_8 version (as_read version any bytes) (frame 8 k) (len 8 (b.sized.at_cache_reset k)); shortest = short }

    -- a Cache Response
    pub read_3 : (session : ℕ) → type_of bytes ≡ 3 → session ≡ number_at 2 2 bytes → IsRead version any bytes (CacheResponse session)
    read_3 session k s = is_read _ _ (reads_3 version (as_read version any bytes) (frame 3 k) (len 8 (b.sized.at_response k))) (ap CacheResponse (at_place 2 1 ∙ sym s))

    -- bytes of a PDU that is no notify
    same_changed : (c : Bool) → (c ≡ true → ⊥) → (if c then version_number version ∷ drop 1 bytes else bytes) ≡ bytes
    same_changed true h = absurd (h refl)
    same_changed false h = refl

    -- bytes of another type are no header of a notify
    no_notify : (a : Bool) → (0 < type_of bytes) → (a && is_notify_header bytes) ≡ true → ⊥
    no_notify true p h = grind (arith, nat_tests)
    no_notify false p h = let e : false ≡ true = h in cc

    -- bytes of another type are read as they are
    pub as_it_is : 0 < type_of bytes → as_read version any bytes ≡ bytes
    unfolding as_read
    as_it_is p = same_changed (any && is_notify_header bytes) (no_notify any p)

    -- they are a frame of their type
    plain : (kind : ℕ) → type_of bytes ≡ kind → 0 < kind → IsFrame version kind bytes
    plain kind k p = subst (λ x. IsFrame version kind x) (as_it_is (omega (arith, k, p))) (frame kind k)

    -- a PDU of them is a PDU
    back : (u : Unit) → 0 < type_of bytes → Reads version u bytes → IsRead version any bytes u
    back u p r = record { reads = subst (λ x. Reads version u x) (sym (as_it_is p)) r; shortest = short }

    -- a fault of them is a fault
    bad : (fault : UnitFault) → 0 < type_of bytes → Shows version bytes fault → fault_size fault (as_read version any bytes) ≡ length_of (as_read version any bytes) → IsFaulty version any bytes fault
    bad fault p h e = record { shows = subst (λ x. Shows version x fault) (sym (as_it_is p)) h; shortest = short; size = b.exact ∙ sym e }

    -- they are whole
    whole_plain : 0 < type_of bytes → IsWhole version bytes
    whole_plain p = subst (λ x. IsWhole version x) (as_it_is p) b.whole

    -- an IPv4 Prefix
    pub read_4 : (announce : Bool) (v : Payload) → type_of bytes ≡ 4 → announce ≡ is_odd (slice_index bytes 8) → v ≡ v4_in bytes → IsRecord 32 bytes → IsRead version any bytes (Prefix announce v)
    read_4 announce v k a e sound =
        is_read _ _ (subst (λ x. Reads version (Prefix (is_odd (slice_index bytes 8)) (v4_in bytes)) x) (sym (as_it_is (omega (arith, k)))) (reads_4 version bytes (plain 4 k (omega arith)) (b.sized.at_v4 k) sound)) (λ i. Prefix (sym a i) (sym e i))

    -- an IPv6 Prefix
    pub read_6 : (announce : Bool) (v : Payload) → type_of bytes ≡ 6 → announce ≡ is_odd (slice_index bytes 8) → v ≡ v6_in bytes → IsRecord 128 bytes → IsRead version any bytes (Prefix announce v)
    read_6 announce v k a e sound =
        is_read _ _ (subst (λ x. Reads version (Prefix (is_odd (slice_index bytes 8)) (v6_in bytes)) x) (sym (as_it_is (omega (arith, k)))) (reads_6 version bytes (plain 6 k (omega arith)) (b.sized.at_v6 k) sound)) (λ i. Prefix (sym a i) (sym e i))

    -- an End of Data
    pub read_7 : type_of bytes ≡ 7 → IsRead version any bytes (end_of_data_in version bytes)
    read_7 k = back (end_of_data_in version bytes) (omega (arith, k)) (reads_7 version bytes (plain 7 k (omega arith)) (b.sized.at_end_of_data k))

    -- a Router Key
    pub read_9 : (x : Key) → type_of bytes ≡ 9 → x ≡ key_in bytes → IsRead version any bytes (RouterKey x)
    read_9 x k e = is_read _ _ (subst (λ y. Reads version (RouterKey (key_in bytes)) y) (sym (as_it_is (omega (arith, k)))) (reads_9 version bytes (plain 9 k (omega arith)) (has_keys version (ap (is_type version) (sym k) ∙ b.sized.known)) (b.sized.at_key k) b.sized.most)) (ap RouterKey (sym e))

    -- an Error Report
    pub read_10 : (r : Report) → type_of bytes ≡ 10 → r ≡ report_in bytes → IsReport version bytes → IsRead version any bytes (ErrorReport r)
    read_10 r k e sound =
        is_read _ _ (subst (λ y. Reads version (ErrorReport (report_in bytes)) y) (sym (as_it_is (omega (arith, k)))) (reads_10 version bytes (plain 10 k (omega arith)) (b.sized.at_report k) b.sized.most sound)) (ap ErrorReport (sym e))

    -- an IPv4 Prefix without a payload
    pub bad_4 : type_of bytes ≡ 4 → ¬ (IsRecord 32 bytes) → IsFaulty version any bytes faults.Record
    bad_4 k h = bad faults.Record (omega (arith, k)) (whole_plain (omega (arith, k)), inl (k, h)) refl

    -- an IPv6 Prefix without a payload
    pub bad_6 : type_of bytes ≡ 6 → ¬ (IsRecord 128 bytes) → IsFaulty version any bytes faults.Record
    bad_6 k h = bad faults.Record (omega (arith, k)) (whole_plain (omega (arith, k)), inr (k, h)) refl

    -- an Error Report without a report
    pub bad_10 : type_of bytes ≡ 10 → ¬ (IsReport version bytes) → IsFaulty version any bytes faults.ErrorReport
    bad_10 k h = bad faults.ErrorReport (omega (arith, k)) (whole_plain (omega (arith, k)), k, h) refl

    -- they are as long as they say
    pub exact_plain : 0 < type_of bytes → length bytes ≡ length_of bytes
    exact_plain p = b.exact ∙ ap (λ x. length_of x) (as_it_is p)

  -- the length of a PDU, at its header
  pub header_size : (any : Bool) (bytes : List ℕ) → number_at 4 4 bytes ≡ length_of (as_read version any bytes)
  header_size any bytes = ap (λ x. big_number 4 x) (sym (drop-as_read any bytes 3))

  -- a length without a fault is at most 4,096
  pub header_most : (any : Bool) (bytes : List ℕ) → header_fault version (as_read version any bytes) ≡ None → 8 ≤ length bytes → length_of (as_read version any bytes) ≤ 4096
  header_most any bytes none eight = (is_header version (as_read version any bytes) (omega (arith, length-as_read version any bytes, eight)) none).high

  -- a length without a fault is at least 8
  pub header_least : (any : Bool) (bytes : List ℕ) → header_fault version (as_read version any bytes) ≡ None → 8 ≤ length bytes → 8 ≤ length_of (as_read version any bytes)
  header_least any bytes none eight = (header_sized version (as_read version any bytes) (omega (arith, length-as_read version any bytes, eight)) none).eight
