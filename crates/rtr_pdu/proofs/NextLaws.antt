-- What the bytes of a PDU are judged to be, one after the other.
use Rattle.std.specs.Prelude.{◌≡◌, ◌⊎◌, ℕ, ◌+◌, ◌<◌, ◌≤◌, Bool, true, false, ◌&&◌, List, [], ◌∷◌, ◌++◌, length, drop, None, if◌then◌else◌, refl}
use Rattle.std.proofs.Common.{sym, ap, ◌∙◌, subst, arith, inl, inr}
use Rattle.std.proofs.lemmas.Bool.{cases_lt}
use Rattle.std.proofs.lemmas.List.{append-nil, length-append}
use Rattle.prefixes.specs.declared.prefix.IpPrefix.TheVariants.{V4, V6}
use Rattle.rtr_pdu.specs.Version.{version_number}
use Rattle.rtr_pdu.specs.declared.version.Version.{Version}
use Rattle.rtr_pdu.specs.declared.unit.Unit.{Unit}
use Rattle.rtr_pdu.specs.declared.unit.Unit.TheVariants.{SerialNotify, SerialQuery, ResetQuery, CacheResponse, Prefix, EndOfData, EndOfData0, CacheReset, RouterKey, ErrorReport}
use Rattle.rtr_pdu.specs.Judging.{Begins, Whole, judge}
use Rattle.rtr_pdu.specs.Stream.{as_read, length_of, is_notify_header, header_fault, IsPartial, IsWhole, IsShortest}
use Rattle.rtr_pdu.specs.Unit.{Ignored, zeros, IsUnit, fits, spelled, prefix_bytes, Reads, unit_bytes}
use Rattle.rtr_pdu.proofs.JudgeLaws.{header_fault-append, header_sized, short_none}
use Rattle.rtr_pdu.proofs.JudgingLaws.{begins_exactly, reads_judged}
use Rattle.rtr_pdu.proofs.ModeLaws.{length-as_read, as_read-append, length_of-append}
use Rattle.rtr_pdu.proofs.SplitLaws.{shortest_8, shortest_whole}
use Rattle.rtr_pdu.proofs.StreamLaws.{written_is_read}
use Rattle.rtr_pdu.proofs.UnitLaws.{opens}

module _ (version : Version) where
  -- What is read of bytes of the expected version is what is there.
  own_version : (any : Bool) (rest : List ℕ) → as_read version any (version_number version ∷ rest) ≡ version_number version ∷ rest
  unfolding as_read
  own_version any rest = either (any && is_notify_header (version_number version ∷ rest))
    where
      either : (b : Bool) → (if b then version_number version ∷ rest else (version_number version ∷ rest)) ≡ version_number version ∷ rest
      either true = refl
      either false = refl

  pub none_as_read : (any : Bool) → as_read version any [] ≡ []
  unfolding as_read
  none_as_read true = refl
  none_as_read false = refl

  -- the first byte of a PDU
  begins_with : (u : Unit) (z : Ignored) → spelled version u z ≡ version_number version ∷ drop 1 (spelled version u z)
  begins_with (SerialNotify session serial) z = refl
  begins_with (SerialQuery session serial) z = refl
  begins_with ResetQuery z = refl
  begins_with (CacheResponse session) z = refl
  begins_with (Prefix announce v) z = elim v.prefix as (λ p. prefix_bytes version announce p v.max_len v.asn z ≡ version_number version ∷ drop 1 (prefix_bytes version announce p v.max_len v.asn z)) [ V4 p ↦ refl | V6 p ↦ refl ]
  begins_with (EndOfData session serial refresh retry expire) z = refl
  begins_with (EndOfData0 session serial) z = refl
  begins_with CacheReset z = refl
  begins_with (RouterKey k) z = refl
  begins_with (ErrorReport r) z = refl

  -- A PDU that is sent is judged that PDU, at a cache and at a router.
  pub judge_sent : (any : Bool) (u : Unit) → IsUnit u → fits version u ≡ true → judge version any (unit_bytes version u) ≡ Whole u
  judge_sent any u fits own =
      let is : as_read version any (unit_bytes version u) ≡ unit_bytes version u =
      ap (as_read version any) (begins_with u zeros) ∙ own_version any (drop 1 (unit_bytes version u)) ∙ sym (begins_with u zeros) in
      reads_judged version any (unit_bytes version u) u (subst (λ x. Reads version u x) (sym is) (written_is_read version u fits own))

  -- A PDU has a byte.
  pub some_sent : (u : Unit) → unit_bytes version u ≡ [] → ⊥
  some_sent u e = let h : [] ≡ version_number version ∷ drop 1 (unit_bytes version u) = sym e ∙ begins_with u zeros in cc

  -- A PDU has at most 4,096 bytes.
  pub sent_most : (u : Unit) → IsUnit u → fits version u ≡ true → length (unit_bytes version u) ≤ 4096
  sent_most u fits own =
      let o = opens version u zeros [] fits own in
      let whole : spelled version u zeros ++ [] ≡ spelled version u zeros = append-nil (spelled version u zeros) in
      let sized = header_sized version (spelled version u zeros ++ []) (omega (arith, ap length whole, o.eight)) o.fault in
      omega (arith, sized.most, o.len)

  -- what is before a byte of a PDU is the beginning of one
  part_of : (u : Unit) (part rest : List ℕ) (b : ℕ) → IsUnit u → fits version u ≡ true → part ++ b ∷ rest ≡ unit_bytes version u → IsPartial version part
  part_of u part rest b fits own e =
      let o = opens version u zeros [] fits own in
      let whole : spelled version u zeros ++ [] ≡ part ++ b ∷ rest = append-nil (spelled version u zeros) ∙ sym e in
      let size = length-append part (b ∷ rest) in
      let len : length_of (part ++ b ∷ rest) ≡ length (part ++ b ∷ rest) = ap (λ x. length_of x) (sym whole) ∙ o.len ∙ ap length (sym e) in
      elim (cases_lt (length part) 8) [
        | inl short ↦ (short_none version part short, inl short)
        | inr long ↦ (
          sym (header_fault-append version part (b ∷ rest) long) ∙ ap (λ x. header_fault version x) (sym whole) ∙ o.fault,
          inr (let same = length_of-append part (b ∷ rest) long in omega (arith, same, len, size)),
        )
      ]

  part_as_read : (any : Bool) (u : Unit) (part rest : List ℕ) (b : ℕ) → part ++ b ∷ rest ≡ unit_bytes version u → as_read version any part ≡ part
  part_as_read any u [] rest b e = none_as_read any
  part_as_read any u (x ∷ part) rest b e =
      let first : x ≡ version_number version = (let h : x ∷ (part ++ b ∷ rest) ≡ version_number version ∷ drop 1 (unit_bytes version u) = e ∙ begins_with u zeros in cc) in
      ap (λ v. as_read version any (v ∷ part)) first ∙ own_version any part ∙ ap (λ v. v ∷ part) (sym first)

  -- So it is judged.
  pub judge_part : (any : Bool) (u : Unit) (part rest : List ℕ) (b : ℕ) → IsUnit u → fits version u ≡ true → part ++ b ∷ rest ≡ unit_bytes version u → judge version any part ≡ Begins
  judge_part any u part rest b fits own e =
      (begins_exactly version any part).1 (subst (λ x. IsPartial version x) (sym (part_as_read any u part rest b e)) (part_of u part rest b fits own e))

  -- One byte more of a beginning: no fewer bytes are judged anything else,
  pub next_shortest : (any : Bool) (held : List ℕ) (b : ℕ) → IsPartial version (as_read version any held) → IsShortest version any (held ++ b ∷ [])
  next_shortest any held b part =
      let size = length-append held (b ∷ []) in
      let same = length-as_read version any held in
      elim (cases_lt (length held) 8) [
        | inl short ↦ shortest_8 version any (held ++ b ∷ []) (omega (arith, size, short))
        | inr long ↦ (
            let read : as_read version any (held ++ b ∷ []) ≡ as_read version any held ++ b ∷ [] = as_read-append version any held (b ∷ []) long in
            let eight : 8 ≤ length (as_read version any held) = omega (arith, same, long) in
            let none : header_fault version (as_read version any (held ++ b ∷ [])) ≡ None = ap (λ x. header_fault version x) read ∙ header_fault-append version (as_read version any held) (b ∷ []) eight ∙ part.0 in
            let len : length_of (as_read version any (held ++ b ∷ [])) ≡ length_of (as_read version any held) = ap (λ x. length_of x) read ∙ length_of-append (as_read version any held) (b ∷ []) eight in
            shortest_whole version any (held ++ b ∷ []) none (room (length (as_read version any held)) part.1 eight len same size))
      ]
    where
      room : (n : ℕ) → (n < 8) ⊎ (n < length_of (as_read version any held)) → 8 ≤ n → length_of (as_read version any (held ++ b ∷ [])) ≡ length_of (as_read version any held) → n ≡ length held
          → length (held ++ b ∷ []) ≡ length held + 1 → length (held ++ b ∷ []) ≤ length_of (as_read version any (held ++ b ∷ []))
      room n (inl short) eight len same size = absurd (omega (arith, short, eight))
      room n (inr less) eight len same size = omega (arith, less, len, same, size)

  -- and what is whole then has the length in its header.
  pub next_size : (any : Bool) (held : List ℕ) (b : ℕ) → IsPartial version (as_read version any held) → IsWhole version (as_read version any (held ++ b ∷ [])) → length (held ++ b ∷ []) ≡ length_of (as_read version any (held ++ b ∷ []))
  next_size any held b part w =
      let size = length-append held (b ∷ []) in
      let same = length-as_read version any held in
      let more = length-as_read version any (held ++ b ∷ []) in
      elim (cases_lt (length held) 8) [
        | inl short ↦ (let eight = (header_sized version (as_read version any (held ++ b ∷ [])) w.1 w.0).eight in omega (arith, size, short, more, w.1, w.2, eight))
        | inr long ↦ (
            let read : as_read version any (held ++ b ∷ []) ≡ as_read version any held ++ b ∷ [] = as_read-append version any held (b ∷ []) long in
            let eight : 8 ≤ length (as_read version any held) = omega (arith, same, long) in
            let len : length_of (as_read version any (held ++ b ∷ [])) ≡ length_of (as_read version any held) = ap (λ x. length_of x) read ∙ length_of-append (as_read version any held) (b ∷ []) eight in
            room (length (as_read version any held)) part.1 eight len same size more)
      ]
    where
      room : (n : ℕ) → (n < 8) ⊎ (n < length_of (as_read version any held)) → 8 ≤ n → length_of (as_read version any (held ++ b ∷ [])) ≡ length_of (as_read version any held) → n ≡ length held
          → length (held ++ b ∷ []) ≡ length held + 1 → length (as_read version any (held ++ b ∷ [])) ≡ length (held ++ b ∷ []) → length (held ++ b ∷ []) ≡ length_of (as_read version any (held ++ b ∷ []))
      room n (inl short) eight len same size more = absurd (omega (arith, short, eight))
      room n (inr less) eight len same size more = omega (arith, less, len, same, size, more, w.2)
