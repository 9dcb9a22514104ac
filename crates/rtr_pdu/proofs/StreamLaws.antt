-- A stream is split into PDUs in one way.
use Rattle.std.specs.Prelude.{◌≡◌, ◌⊎◌, ℕ, ◌+◌, ◌-◌, ◌%◌, ◌≤◌, ◌^◌, Bool, true, false, ◌&&◌, ◌||◌, ◌==◌, List, [], ◌∷◌, ◌++◌, length, drop, Option, Some, None, MatchOption, refl}
use Rattle.std.proofs.Common.{sym, ap, ◌∙◌, subst, arith, append_assoc, inl, inr}
use Rattle.std.proofs.Math.Seq.{drop-append_seam}
use Rattle.std.proofs.lemmas.List.{length-append}
use Rattle.prefixes.specs.Payload.{Payload, IsPayload}
use Rattle.prefixes.specs.declared.prefix.IpPrefix.TheVariants.{V4, V6}
use Rattle.rtr_pdu.specs.declared.version.Version.{Version}
use Rattle.rtr_pdu.specs.declared.unit.Unit.{Unit}
use Rattle.rtr_pdu.specs.declared.unit.Unit.TheVariants.{SerialNotify, SerialQuery, ResetQuery, CacheResponse, Prefix, EndOfData, EndOfData0, CacheReset, RouterKey, ErrorReport}
use Rattle.rtr_pdu.specs.declared.unit.UnitFault.{UnitFault}
use Rattle.rtr_pdu.specs.declared.unit.UnitFault.TheVariants as faults
use Rattle.rtr_pdu.specs.Unit.{Ignored, zeros, IsUnit, fits, spelled, prefix_bytes, Reads}
use Rattle.rtr_pdu.proofs.JudgeLaws.{none_some, false_true}
use Rattle.rtr_pdu.proofs.ModeLaws.{length-as_read, as_read-append}
use Rattle.rtr_pdu.specs.Stream.{as_read, is_notify, any_after, AreRead, type_of, length_of, header_fault, IsPartial, IsWhole, IsRecord, IsReport, Shows, SameSplit, OneSplit, WrittenIsRead, NoBeginning}
use Rattle.rtr_pdu.specs.Judging.{unit_in}
use Rattle.rtr_pdu.proofs.UnitLaws.{unit_in-spelled, opens, is_report, back}

-- The body of a PDU has no fault.
record IsSound (version : Version) (bytes : List ℕ) : Type 0 where
  v4 : type_of bytes ≡ 4 → IsRecord 32 bytes
  v6 : type_of bytes ≡ 6 → IsRecord 128 bytes
  report : type_of bytes ≡ 10 → IsReport version bytes

-- a PDU of another type has no body that may have a fault
abbrev may_fault : ℕ → Bool
may_fault kind = kind == 4 || (kind == 6 || kind == 10)

-- so it has none
no_fault : (version : Version) (bytes : List ℕ) (kind : ℕ) → type_of bytes ≡ kind → may_fault kind ≡ false → IsSound version bytes
no_fault version bytes kind e none =
    let other : (n : ℕ) → may_fault n ≡ true → type_of bytes ≡ n → ⊥ = λ n may h. false_true (sym none ∙ ap (λ k. may_fault k) (sym e ∙ h) ∙ may) in
    record { v4 = λ h. absurd (other 4 refl h); v6 = λ h. absurd (other 6 refl h); report = λ h. absurd (other 10 refl h) }

module _ (version : Version) where
  -- a PDU of a type whose body may have a fault has none
  sound_prefix : (a : Bool) (v : Payload) (z : Ignored) (rest : List ℕ) → IsPayload v → IsSound version (spelled version (Prefix a v) z ++ rest)
  sound_prefix a v z rest fits =
      elim v.prefix as (λ p. IsPayload (record v { prefix = p }) → IsSound version (prefix_bytes version a p v.max_len v.asn z ++ rest)) [
        | V4 p ↦ λ fits. record {
          v4 = λ e. (fits.not_shorter, fits.in_family, ap (λ n. n % 2 ^ (32 - p.len)) (back 4 p.addr fits.prefix.address) ∙ fits.prefix.no_host_bits);
          v6 = λ e. absurd (omega (arith, e));
          report = λ e. absurd (omega (arith, e));
        }
        | V6 p ↦ λ fits. record {
          v4 = λ e. absurd (omega (arith, e));
          v6 = λ e. (fits.not_shorter, fits.in_family, ap (λ n. n % 2 ^ (128 - p.len)) (back 16 p.addr fits.prefix.address) ∙ fits.prefix.no_host_bits);
          report = λ e. absurd (omega (arith, e));
        }
      ] fits

  -- no PDU has a fault in its body
  sound_unit : (u : Unit) (z : Ignored) (rest : List ℕ) → IsUnit u → IsSound version (spelled version u z ++ rest)
  sound_unit (Prefix a v) z rest fits = sound_prefix a v z rest fits
  sound_unit (ErrorReport r) z rest fits =
      record { v4 = λ e. absurd (omega (arith, e)); v6 = λ e. absurd (omega (arith, e)); report = λ e. is_report version r z rest fits }
  sound_unit (SerialNotify s n) z rest fits = no_fault version (spelled version (SerialNotify s n) z ++ rest) 0 refl refl
  sound_unit (SerialQuery s n) z rest fits = no_fault version (spelled version (SerialQuery s n) z ++ rest) 1 refl refl
  sound_unit ResetQuery z rest fits = no_fault version (spelled version ResetQuery z ++ rest) 2 refl refl
  sound_unit (CacheResponse s) z rest fits = no_fault version (spelled version (CacheResponse s) z ++ rest) 3 refl refl
  sound_unit (EndOfData s n a b c) z rest fits = no_fault version (spelled version (EndOfData s n a b c) z ++ rest) 7 refl refl
  sound_unit (EndOfData0 s n) z rest fits = no_fault version (spelled version (EndOfData0 s n) z ++ rest) 7 refl refl
  sound_unit CacheReset z rest fits = no_fault version (spelled version CacheReset z ++ rest) 8 refl refl
  sound_unit (RouterKey k) z rest fits = no_fault version (spelled version (RouterKey k) z ++ rest) 9 refl refl

  -- A fault of the header, or one behind a header without a fault
  abbrev InBody : List ℕ → UnitFault → Type 0
  InBody bytes fault =
      IsWhole version bytes × (((fault ≡ faults.Record) × (((type_of bytes ≡ 4) × ¬ (IsRecord 32 bytes)) ⊎ ((type_of bytes ≡ 6) × ¬ (IsRecord 128 bytes))))
      ⊎ ((fault ≡ faults.ErrorReport) × (type_of bytes ≡ 10) × ¬ (IsReport version bytes)))

  -- each fault is one of these
  kinds : (bytes : List ℕ) (fault : UnitFault) → Shows version bytes fault → (header_fault version bytes ≡ Some fault) ⊎ InBody bytes fault
  kinds bytes faults.Record h = inr (h.0, inl (refl, h.1))
  kinds bytes faults.ErrorReport h = inr (h.0, inr (refl, h.1, h.2))
  kinds bytes faults.Truncated h = absurd h
  kinds bytes faults.Version h = inl h
  kinds bytes faults.«Type» h = inl h
  kinds bytes faults.Length h = inl h
  kinds bytes faults.TooLong h = inl h

  -- Bytes that begin with a PDU show no fault, and are no beginning of one.
  pub not_shown : (u : Unit) (z : Ignored) (rest : List ℕ) → IsUnit u → fits version u ≡ true → (fault : UnitFault) → Shows version (spelled version u z ++ rest) fault → ⊥
  not_shown u z rest fits own fault h =
      elim (kinds (spelled version u z ++ rest) fault h) [
        | inl head ↦ none_some _ fault (opens version u z rest fits own).fault head
        | inr body ↦ elim body.1 [
          | inl wrong ↦ elim wrong.1 [ inl four ↦ four.1 ((sound_unit u z rest fits).v4 four.0) | inr six ↦ six.1 ((sound_unit u z rest fits).v6 six.0) ]
          | inr report ↦ report.2 ((sound_unit u z rest fits).report report.1)
        ]
      ]

  -- a PDU is no beginning of one
  pub not_partial : (u : Unit) (z : Ignored) (rest : List ℕ) → IsUnit u → fits version u ≡ true → IsPartial version (spelled version u z ++ rest) → ⊥
  not_partial u z rest fits own h =
      let o = opens version u z rest fits own in
      let size : length (spelled version u z ++ rest) ≡ length (spelled version u z) + length rest = length-append (spelled version u z) rest in
      elim h.1 [ inl short ↦ absurd (omega (arith, o.eight, size, short)) | inr less ↦ absurd (omega (arith, o.len, size, less)) ]

  -- what follows the last PDU
  abbrev After : List ℕ → Option UnitFault → Type 0
  After rest fault = MatchOption fault (IsPartial version rest) (Shows version rest)

  -- so what follows the last PDU begins with none
  no_unit : (u : Unit) (z : Ignored) (bytes : List ℕ) → IsUnit u → fits version u ≡ true → (fault : Option UnitFault) → After (spelled version u z ++ bytes) fault → ⊥
  no_unit u z bytes fits own None h = not_partial u z bytes fits own h
  no_unit u z bytes fits own (Some fault) h = not_shown u z bytes fits own fault h

  -- a beginning of a PDU shows no fault
  pub not_both : (rest : List ℕ) (fault : UnitFault) → IsPartial version rest → Shows version rest fault → ⊥
  not_both rest fault part h =
      elim (kinds rest fault h) [
        | inl head ↦ none_some _ fault part.0 head
        | inr body ↦ elim part.1 [ inl short ↦ absurd (omega (arith, body.0.1, short)) | inr less ↦ absurd (omega (arith, body.0.2, less)) ]
      ]

  -- one fault shows
  one_fault : (rest : List ℕ) (a b : UnitFault) → Shows version rest a → Shows version rest b → a ≡ b
  one_fault rest a b g h =
      elim (kinds rest a g) [
        | inl x ↦ elim (kinds rest b h) [ inl y ↦ (let e : Some a ≡ Some b = sym x ∙ y in cc) | inr y ↦ absurd (none_some _ a y.0.0 x) ]
        | inr x ↦ elim (kinds rest b h) [
          | inl y ↦ absurd (none_some _ b x.0.0 y)
          | inr y ↦ elim x.1 [
            | inl p ↦ elim y.1 [
              | inl q ↦ p.0 ∙ sym q.0
              | inr q ↦ absurd (elim p.1 [ inl four ↦ absurd (omega (arith, four.0, q.1)) | inr six ↦ absurd (omega (arith, six.0, q.1)) ])
            ]
            | inr p ↦ elim y.1 [
              | inl q ↦ absurd (elim q.1 [ inl four ↦ absurd (omega (arith, four.0, p.1)) | inr six ↦ absurd (omega (arith, six.0, p.1)) ])
              | inr q ↦ p.0 ∙ sym q.0
            ]
          ]
        ]
      ]

  -- what follows the last PDU has one fault, or none
  same_after : (rest : List ℕ) (a b : Option UnitFault) → After rest a → After rest b → a ≡ b
  same_after rest None None g h = refl
  same_after rest None (Some b) g h = absurd (not_both rest b g h)
  same_after rest (Some a) None g h = absurd (not_both rest a h g)
  same_after rest (Some a) (Some b) g h = ap Some (one_fault rest a b g h)

  -- two PDUs at the front of one stream
  same_front : (u v : Unit) (f g s t : List ℕ) → Reads version u f → Reads version v g → f ++ s ≡ g ++ t → (u ≡ v) × (s ≡ t)
  same_front u v f g s t a b e =
      let first : spelled version u a.ignored ++ s ≡ spelled version v b.ignored ++ t = ap (λ x. x ++ s) (sym a.bytes_are) ∙ e ∙ ap (λ x. x ++ t) b.bytes_are in
      let lengths : length (spelled version u a.ignored) ≡ length (spelled version v b.ignored) =
      sym (opens version u a.ignored s a.fits a.of_version).len ∙ ap (λ x. length_of x) first ∙ (opens version v b.ignored t b.fits b.of_version).len in (
        sym (unit_in-spelled version u a.ignored s a.fits a.of_version) ∙ ap (λ x. unit_in version x) first ∙ unit_in-spelled version v b.ignored t b.fits b.of_version,
        sym (drop-append_seam (spelled version u a.ignored) s) ∙ (λ i. drop (lengths i) (first i)) ∙ drop-append_seam (spelled version v b.ignored) t,
      )

  -- the same, as a router reads them
  pub long_front : (any : Bool) (u : Unit) (f : List ℕ) → Reads version u (as_read version any f) → 8 ≤ length f
  long_front any u f a =
      let eight : 8 ≤ length (as_read version any f) = subst (λ x. 8 ≤ length x) (sym a.bytes_are) (opens version u a.ignored [] a.fits a.of_version).eight in
      omega (arith, length-as_read version any f, eight)

  -- bytes that begin with a PDU, as a router reads them
  pub front_as_read : (any : Bool) (u : Unit) (f s : List ℕ) (a : Reads version u (as_read version any f)) → as_read version any (f ++ s) ≡ spelled version u a.ignored ++ s
  front_as_read any u f s a = as_read-append version any f s (long_front any u f a) ∙ ap (λ x. x ++ s) a.bytes_are

  -- two PDUs at the front of one stream, as a router reads them
  same_read : (any : Bool) (u v : Unit) (f g s t : List ℕ) → Reads version u (as_read version any f) → Reads version v (as_read version any g) → f ++ s ≡ g ++ t → (u ≡ v) × (s ≡ t)
  same_read any u v f g s t a b e =
      same_front u v (as_read version any f) (as_read version any g) s t a b
      (sym (as_read-append version any f s (long_front any u f a)) ∙ ap (as_read version any) e ∙ as_read-append version any g t (long_front any v g b))

  -- what follows the last PDU, as a router reads it
  abbrev Later : Bool → List ℕ → Option UnitFault → Type 0
  Later any rest fault = After (as_read version any rest) fault

  -- two splits, PDU by PDU
  same_split : (any : Bool) (us vs : List Unit) (f g rest left : List ℕ) (a b : Option UnitFault) → f ++ rest ≡ g ++ left → AreRead version any us f → AreRead version any vs g → Later (any_after any us) rest a → Later (any_after any vs) left b → SameSplit us vs rest left a b
  same_split any [] [] f g rest left a b e h k p q =
      let rests : rest ≡ left = ap (λ x. x ++ rest) (sym h) ∙ e ∙ ap (λ x. x ++ left) k in
      record { units_are = refl; rests_are = rests; faults_are = same_after (as_read version any left) a b (subst (λ x. Later any x a) rests p) q }
  same_split any [] (v ∷ vs) f g rest left a b e h k p q =
      let is : rest ≡ k.0 ++ (k.1 ++ left) =
      ap (λ x. x ++ rest) (sym h) ∙ e ∙ ap (λ x. x ++ left) k.2 ∙ append_assoc k.0 k.1 left in
      absurd (no_unit v k.3.ignored (k.1 ++ left) k.3.fits k.3.of_version a (subst (λ x. After x a) (ap (as_read version any) is ∙ front_as_read any v k.0 (k.1 ++ left) k.3) p))
  same_split any (u ∷ us) [] f g rest left a b e h k p q =
      let is : left ≡ h.0 ++ (h.1 ++ rest) =
      ap (λ x. x ++ left) (sym k) ∙ sym e ∙ ap (λ x. x ++ rest) h.2 ∙ append_assoc h.0 h.1 rest in
      absurd (no_unit u h.3.ignored (h.1 ++ rest) h.3.fits h.3.of_version b (subst (λ x. After x b) (ap (as_read version any) is ∙ front_as_read any u h.0 (h.1 ++ rest) h.3) q))
  same_split any (u ∷ us) (v ∷ vs) f g rest left a b e h k p q =
      let both : h.0 ++ (h.1 ++ rest) ≡ k.0 ++ (k.1 ++ left) =
      sym (append_assoc h.0 h.1 rest) ∙ ap (λ x. x ++ rest) (sym h.2) ∙ e ∙ ap (λ x. x ++ left) k.2 ∙ append_assoc k.0 k.1 left in
      let front = same_read any u v h.0 k.0 (h.1 ++ rest) (k.1 ++ left) h.3 k.3 both in
      let read : AreRead version (any && is_notify u) vs k.1 = subst (λ x. AreRead version (any && is_notify x) vs k.1) (sym front.0) k.4 in
      let later : Later (any_after (any && is_notify u) vs) left b = subst (λ x. Later (any_after (any && is_notify x) vs) left b) (sym front.0) q in
      let more = same_split (any && is_notify u) us vs h.1 k.1 rest left a b front.1 h.4 read p later in
      record { units_are = λ i. front.0 i ∷ more.units_are i; rests_are = more.rests_are; faults_are = more.faults_are }

-- The split of a stream is unique, wherever the stream was cut on its way.
pub one_split : OneSplit
one_split version any stream units others rest left fault other s t =
    same_split version any units others s.front t.front rest left fault other (sym s.whole ∙ t.whole) s.read t.read s.after t.after

-- No PDU's spelling begins another's.
pub no_beginning : NoBeginning
no_beginning = same_front

-- What was encoded is read again.
pub written_is_read : WrittenIsRead
written_is_read version u fits own =
    record { of_version = own; fits = fits; ignored = zeros; bits = record { header = omega arith; flags = omega arith; byte = omega arith }; bytes_are = refl }
