-- Streams and faults of reading, worked out.
use Rattle.std.proofs.Common.{ℕ, true, List, [], ◌∷◌, ◌++◌, Some, refl, arith, inl}
use Rattle.rtr_pdu.specs.declared.version.Version.TheVariants.{V1}
use Rattle.rtr_pdu.specs.Stream.{Shows, Splits, as_read}
use Rattle.rtr_pdu.specs.Unit.{Reads, zeros}
use Rattle.rtr_pdu.specs.declared.unit.Unit.TheVariants.{CacheResponse, SerialNotify}
use Rattle.rtr_pdu.specs.declared.unit.UnitFault.TheVariants as faults

-- An announcement of 192.0.2.0/24 with maximum 23
abbrev low_maximum : List ℕ
low_maximum = 0x01 ∷ 0x04 ∷ 0 ∷ 0 ∷ 0 ∷ 0 ∷ 0 ∷ 0x14 ∷ 0x01 ∷ 0x18 ∷ 0x17 ∷ 0 ∷ 0xc0 ∷ 0 ∷ 0x02 ∷ 0 ∷ 0 ∷ 0 ∷ 0xfb ∷ 0xf0 ∷ []

shows_record : Shows V1 low_maximum faults.Record
shows_record = ((refl, omega arith, omega arith), inl (refl, λ h. absurd (omega (arith, h.0))))

-- An Error Report that says a copy of one byte, and has none
abbrev no_copy : List ℕ
no_copy = 0x01 ∷ 0x0a ∷ 0 ∷ 0x02 ∷ 0 ∷ 0 ∷ 0 ∷ 0x10 ∷ 0 ∷ 0 ∷ 0 ∷ 0x01 ∷ 0 ∷ 0 ∷ 0 ∷ 0 ∷ []

shows_report : Shows V1 no_copy faults.ErrorReport
shows_report = ((refl, omega arith, omega arith), refl, λ h. absurd (omega (arith, h.0)))

-- One whose lengths add up to its own modulo 2^32 alone
abbrev wrapped_sum : List ℕ
wrapped_sum = 0x01 ∷ 0x0a ∷ 0 ∷ 0x02 ∷ 0 ∷ 0 ∷ 0 ∷ 0x10 ∷ 0xff ∷ 0xff ∷ 0xff ∷ 0xf0 ∷ 0 ∷ 0 ∷ 0 ∷ 0x10 ∷ []

shows_wrapped_sum : Shows V1 wrapped_sum faults.ErrorReport
shows_wrapped_sum = ((refl, omega arith, omega arith), refl, λ h. absurd (omega (arith, h.0)))

-- A Serial Notify of version 2
abbrev notify : List ℕ
notify = 0x02 ∷ 0 ∷ 0x12 ∷ 0x34 ∷ 0 ∷ 0 ∷ 0 ∷ 0x0c ∷ 0 ∷ 0 ∷ 0 ∷ 0x05 ∷ []

abbrev response : List ℕ
response = 0x01 ∷ 0x03 ∷ 0x12 ∷ 0x34 ∷ 0 ∷ 0 ∷ 0 ∷ 0x08 ∷ []

reads_notify : Reads V1 (SerialNotify 0x1234 5) (as_read V1 true notify)
unfolding as_read
reads_notify = record { of_version = refl; fits = (omega arith, omega arith); ignored = zeros; bits = record { header = omega arith; flags = omega arith; byte = omega arith }; bytes_are = refl }

reads_response : Reads V1 (CacheResponse 0x1234) (as_read V1 true response)
unfolding as_read
reads_response = record { of_version = refl; fits = omega arith; ignored = zeros; bits = record { header = omega arith; flags = omega arith; byte = omega arith }; bytes_are = refl }

-- A router reads such a notify before it has agreed on a version, and after that no longer.
across_agreement : Splits V1 true (notify ++ response ++ notify) (SerialNotify 0x1234 5 ∷ CacheResponse 0x1234 ∷ []) notify (Some faults.Version)
unfolding as_read
across_agreement = record {
  front = notify ++ response;
  whole = refl;
  read = (notify, response, refl, reads_notify, (response, [], refl, reads_response, refl));
  after = refl;
}
