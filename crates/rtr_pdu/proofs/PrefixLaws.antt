-- If no Prefix is whole at the front of bytes.
use Rattle.std.specs.Prelude.{◌≡◌, ◌⊎◌, ℕ, ◌<◌, ◌≤◌, Bool, List, ◌++◌, length, take, drop, slice_index, Option, Some, None, refl}
use Rattle.std.specs.Option.{is_some}
use Rattle.std.proofs.Common.{sym, ap, ◌∙◌, subst, arith, inl, inr}
use Rattle.std.proofs.lemmas.List.{length-append, length-take, take-append-drop}
use Rattle.std.proofs.Math.Seq.{take-append_seam}
use Rattle.prefixes.specs.Payload.{Payload}
use Rattle.prefixes.specs.declared.prefix.IpPrefix.TheVariants.{V4, V6}
use Rattle.rtr_pdu.specs.declared.kind.Kind.{Kind}
use Rattle.rtr_pdu.specs.declared.kind.Kind.TheVariants as kinds
use Rattle.rtr_pdu.specs.declared.version.Version.{Version}
use Rattle.rtr_pdu.specs.declared.unit.Unit.{Unit}
use Rattle.rtr_pdu.specs.declared.unit.Unit.TheVariants.{Prefix}
use Rattle.rtr_pdu.specs.declared.unit.UnitFault.{UnitFault}
use Rattle.rtr_pdu.specs.declared.unit.UnitFault.TheVariants as faults
use Rattle.rtr_pdu.specs.Judging.{Faulty, Whole}
use Rattle.rtr_pdu.specs.Reader.{IsFaulty}
use Rattle.rtr_pdu.specs.Reading.{IsBody}
use Rattle.rtr_pdu.specs.Stream.{as_read, header_fault, length_of, type_of, IsKind, IsWhole}
use Rattle.rtr_pdu.specs.Unit.{Reads, prefix_bytes, spelled}
use Rattle.rtr_pdu.proofs.BodyLaws.{index-as_read}
use Rattle.rtr_pdu.proofs.JudgeLaws.{header_fault-append, none_some}
use Rattle.rtr_pdu.proofs.JudgingLaws.{reads_judged, shows_judged}
use Rattle.rtr_pdu.proofs.ModeLaws.{as_read-append, length-as_read, length_of-append}
use Rattle.rtr_pdu.proofs.UnitLaws.{opens}

module _ (version : Version) (any : Bool) where
  -- the type of a Prefix
  prefix_type : (bytes : List ℕ) (announce : Bool) (v : Payload) → Reads version (Prefix announce v) (as_read version any bytes) → (type_of bytes ≡ 4) ⊎ (type_of bytes ≡ 6)
  prefix_type bytes announce v r =
      elim v.prefix as (λ p. as_read version any bytes ≡ prefix_bytes version announce p v.max_len v.asn r.ignored → (type_of bytes ≡ 4) ⊎ (type_of bytes ≡ 6)) [
        | V4 p ↦ λ e. inl (sym (index-as_read version any bytes 0) ∙ ap (λ x. slice_index x 1) e)
        | V6 p ↦ λ e. inr (sym (index-as_read version any bytes 0) ∙ ap (λ x. slice_index x 1) e)
      ] r.bytes_are

  -- Bytes whose record is at fault are no Prefix,
  pub no_record : (bytes : List ℕ) (announce : Bool) (v : Payload) → IsFaulty version any bytes faults.Record → Reads version (Prefix announce v) (as_read version any bytes) → ⊥
  no_record bytes announce v faulty r =
      let e : Faulty faults.Record ≡ Whole (Prefix announce v) = sym (shows_judged version any bytes faults.Record faulty.shows) ∙ reads_judged version any bytes (Prefix announce v) r in
      cc

  -- and those of another type neither.
  pub other_type : (bytes : List ℕ) (kind : Kind) (announce : Bool) (v : Payload) → IsKind kind bytes → (kind ≡ kinds.Ipv4Prefix → ⊥) → (kind ≡ kinds.Ipv6Prefix → ⊥)
      → Reads version (Prefix announce v) (as_read version any bytes) → ⊥
  other_type bytes kind announce v is not_4 not_6 r = by kind is not_4 not_6 (prefix_type bytes announce v r)
    where
      by : (k : Kind) → IsKind k bytes → (k ≡ kinds.Ipv4Prefix → ⊥) → (k ≡ kinds.Ipv6Prefix → ⊥) → (type_of bytes ≡ 4) ⊎ (type_of bytes ≡ 6) → ⊥
      by kinds.SerialNotify is not_4 not_6 t = elim t [ inl a ↦ omega (arith, is, a) | inr b ↦ omega (arith, is, b) ]
      by kinds.SerialQuery is not_4 not_6 t = elim t [ inl a ↦ omega (arith, is, a) | inr b ↦ omega (arith, is, b) ]
      by kinds.ResetQuery is not_4 not_6 t = elim t [ inl a ↦ omega (arith, is, a) | inr b ↦ omega (arith, is, b) ]
      by kinds.CacheResponse is not_4 not_6 t = elim t [ inl a ↦ omega (arith, is, a) | inr b ↦ omega (arith, is, b) ]
      by kinds.Ipv4Prefix is not_4 not_6 t = not_4 refl
      by kinds.Ipv6Prefix is not_4 not_6 t = not_6 refl
      by kinds.EndOfData is not_4 not_6 t = elim t [ inl a ↦ omega (arith, is, a) | inr b ↦ omega (arith, is, b) ]
      by kinds.CacheReset is not_4 not_6 t = elim t [ inl a ↦ omega (arith, is, a) | inr b ↦ omega (arith, is, b) ]
      by kinds.RouterKey is not_4 not_6 t = elim t [ inl a ↦ omega (arith, is, a) | inr b ↦ omega (arith, is, b) ]
      by kinds.ErrorReport is not_4 not_6 t = elim t [ inl a ↦ omega (arith, is, a) | inr b ↦ omega (arith, is, b) ]

  -- ---- bytes that begin with a whole PDU

  front_read : (bytes : List ℕ) → 8 ≤ length bytes → as_read version any bytes ≡ as_read version any (take 8 bytes) ++ drop 8 bytes
  front_read bytes long =
      ap (λ x. as_read version any x) (sym (take-append-drop 8 bytes)) ∙ as_read-append version any (take 8 bytes) (drop 8 bytes) (omega (arith, length-take 8 bytes, long))

  eight_read : (bytes : List ℕ) → 8 ≤ length bytes → 8 ≤ length (as_read version any (take 8 bytes))
  eight_read bytes long = let same = length-as_read version any (take 8 bytes) in omega (arith, same, length-take 8 bytes, long)

  pub not_short : (bytes : List ℕ) → length bytes < 8 → IsWhole version (as_read version any bytes) → ⊥
  not_short bytes short w = let same = length-as_read version any bytes in omega (arith, same, w.1, short)

  pub not_bad : (bytes : List ℕ) (o : Option UnitFault) → 8 ≤ length bytes → is_some o ≡ Bool.true → o ≡ header_fault version (as_read version any (take 8 bytes)) → IsWhole version (as_read version any bytes) → ⊥
  not_bad bytes None long some is w = absurd (cc)
  not_bad bytes (Some fault) long some is w =
      none_some (header_fault version (as_read version any bytes)) fault w.0
      (ap (λ x. header_fault version x) (front_read bytes long) ∙ header_fault-append version (as_read version any (take 8 bytes)) (drop 8 bytes) (eight_read bytes long) ∙ sym is)

  pub not_cut : (bytes : List ℕ) (size : ℕ) → 8 ≤ length bytes → size ≡ length_of (as_read version any (take 8 bytes)) → length bytes < size → IsWhole version (as_read version any bytes) → ⊥
  not_cut bytes size long is cut w =
      let same = length-as_read version any bytes in
      let told : length_of (as_read version any bytes) ≡ length_of (as_read version any (take 8 bytes)) =
      ap (λ x. length_of x) (front_read bytes long) ∙ length_of-append (as_read version any (take 8 bytes)) (drop 8 bytes) (eight_read bytes long) in
      omega (arith, same, told, is, cut, w.2)

  -- what is read at the front of bytes is whole,
  front_whole : (u : Unit) (front rest : List ℕ) → Reads version u (as_read version any front) → IsWhole version (as_read version any (front ++ rest)) × (length_of (as_read version any (front ++ rest)) ≡ length front)
  front_whole u front rest r =
      let o = opens version u r.ignored rest r.fits r.of_version in
      let size : length front ≡ length (spelled version u r.ignored) = sym (length-as_read version any front) ∙ ap length r.bytes_are in
      let is : as_read version any (front ++ rest) ≡ spelled version u r.ignored ++ rest = as_read-append version any front rest (omega (arith, size, o.eight)) ∙ ap (λ x. x ++ rest) r.bytes_are in
      let more = length-append (spelled version u r.ignored) rest in
      (subst (λ x. IsWhole version x) (sym is) (o.fault, omega (arith, more, o.eight), omega (arith, more, o.len)), ap (λ x. length_of x) is ∙ o.len ∙ sym size)

  pub whole_front : (u : Unit) (bytes front rest : List ℕ) → bytes ≡ front ++ rest → Reads version u (as_read version any front) → IsWhole version (as_read version any bytes)
  whole_front u bytes front rest is r = subst (λ x. IsWhole version (as_read version any x)) (sym is) (front_whole u front rest r).0

  -- and is the whole PDU that its header announces.
  pub same_front : (u : Unit) (bytes front rest : List ℕ) (size : ℕ) → bytes ≡ front ++ rest → Reads version u (as_read version any front) → size ≤ length bytes → IsBody version any (take size bytes) → front ≡ take size bytes
  same_front u bytes front rest size is r fits body =
      let len : length (take size bytes) ≡ size = omega (arith, length-take size bytes, fits) in
      let told : length_of (as_read version any bytes) ≡ length_of (as_read version any (take size bytes)) =
      ap (λ x. length_of (as_read version any x)) (sym (take-append-drop size bytes)) ∙ ap (λ x. length_of x) (as_read-append version any (take size bytes) (drop size bytes) (omega (arith, body.sized.eight)))
      ∙ length_of-append (as_read version any (take size bytes)) (drop size bytes) (let same = length-as_read version any (take size bytes) in omega (arith, same, body.sized.eight)) in
      let here : length_of (as_read version any bytes) ≡ length front = ap (λ x. length_of (as_read version any x)) is ∙ (front_whole u front rest r).1 in
      let size_is : size ≡ length front = omega (arith, len, told, here, body.exact) in
      sym (ap (λ n. take n bytes) size_is ∙ ap (λ x. take (length front) x) is ∙ take-append_seam front rest)
