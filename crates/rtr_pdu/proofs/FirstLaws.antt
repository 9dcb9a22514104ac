-- What is read of a stream is the first PDU or fault of its split.
use Rattle.std.specs.Prelude.{◌≡◌, ℕ, ◌<◌, false, List, [], ◌∷◌, ◌++◌, length, Option, Some, None, Ok, Err, refl}
use Rattle.std.proofs.Common.{sym, ap, ◌∙◌, subst, arith, append_assoc}
use Rattle.std.proofs.lemmas.List.{append-nil}
use Rattle.rtr_pdu.specs.declared.version.Version.{Version}
use Rattle.rtr_pdu.specs.declared.unit.UnitFault.{UnitFault}
use Rattle.rtr_pdu.specs.declared.unit.UnitFault.TheVariants as faults
use Rattle.rtr_pdu.specs.declared.device.ReadFault.TheVariants as read_faults
use Rattle.rtr_pdu.specs.Stream.{as_read, IsPartial, Splits, end_fault}
use Rattle.rtr_pdu.specs.Reader.{IsFaulty}
use Rattle.rtr_pdu.specs.Device.{SaysOfSplit, TellsFirst}
use Rattle.rtr_pdu.proofs.RunLaws.{later_shows}

-- bytes that end within a PDU
some_left : (bytes : List ℕ) → 0 < length bytes → end_fault bytes None ≡ Some faults.Truncated
some_left [] h = absurd (omega (arith, h))
some_left (b ∷ bytes) h = refl

module _ (version : Version) where
  -- A fault of a PDU is that of a split without a PDU.
  shown : (bytes left : List ℕ) (fault : UnitFault) → IsFaulty version false bytes fault → SaysOfSplit version bytes left (Err (read_faults.Fault fault))
  shown bytes left fault bad =
      (Some fault, record { front = []; whole = refl; read = refl; after = later_shows version false bytes left fault bad.shows }, refl)

  truncated : (bytes : List ℕ) → IsPartial version (as_read version false bytes) → 0 < length bytes → SaysOfSplit version bytes [] (Err (read_faults.Fault faults.Truncated))
  truncated bytes part some =
      subst (λ x. (shown : Option UnitFault) × Splits version false x [] x shown × (end_fault x shown ≡ Some faults.Truncated)) (sym (append-nil bytes))
      (None, record { front = []; whole = refl; read = refl; after = part }, some_left bytes some)

pub tells_first : TellsFirst
tells_first version bytes left (Ok (Some u)) h = λ units rest fault s. record {
  front = bytes ++ s.front;
  whole = ap (λ x. bytes ++ x) s.whole ∙ sym (append_assoc bytes s.front rest);
  read = (bytes, s.front, refl, h.reads, s.read);
  after = s.after;
}
tells_first version bytes left (Ok None) h = ap (λ x. x ++ left) h.0 ∙ h.1
tells_first version bytes left (Err (read_faults.Fault faults.Truncated)) h =
    subst (λ x. SaysOfSplit version bytes x (Err (read_faults.Fault faults.Truncated))) (sym h.2) (truncated version bytes h.0 h.1)
tells_first version bytes left (Err (read_faults.Fault faults.Version)) h = shown version bytes left faults.Version h
tells_first version bytes left (Err (read_faults.Fault faults.«Type»)) h = shown version bytes left faults.«Type» h
tells_first version bytes left (Err (read_faults.Fault faults.Length)) h = shown version bytes left faults.Length h
tells_first version bytes left (Err (read_faults.Fault faults.TooLong)) h = shown version bytes left faults.TooLong h
tells_first version bytes left (Err (read_faults.Fault faults.Record)) h = shown version bytes left faults.Record h
tells_first version bytes left (Err (read_faults.Fault faults.ErrorReport)) h = shown version bytes left faults.ErrorReport h
tells_first version bytes left (Err read_faults.ReadFailed) h = tt
