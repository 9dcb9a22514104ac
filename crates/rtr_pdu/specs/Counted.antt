-- Readers and writers whose calls and failures are counted.
use Rattle.std.specs.Prelude.{◌≡◌, ◌⊎◌, ℕ, ◌+◌, ◌-◌, ◌^◌, Bool, true, ◌&&◌, ◌==◌, nat_lt, List, length, Result, Ok, Err, is_err, if◌then◌else◌}
use Rattle.rtr_pdu.specs.declared.counted.Counted.{Counted}

-- The device itself
abbrev pub device_of : {D : Type 0} → Counted D → D
device_of c = c.device

-- How often it was called
abbrev pub calls_of : {D : Type 0} → Counted D → ℕ
calls_of c = c.calls

-- How often a call failed
abbrev pub failures_of : {D : Type 0} → Counted D → ℕ
failures_of c = c.failures

-- No call is left to count.
abbrev pub IsSpent : {D : Type 0} → Counted D → Type 0
IsSpent c = calls_of c ≡ 2 ^ 64 - 1

-- A read fails if it answers Err. That it gives no byte is the end of the input.
abbrev pub read_fails : {E : Type 0} → Result ℕ E → Bool
read_fails answer = is_err answer

-- A write fails if it answers Err, or writes no byte although there are some.
abbrev pub write_fails : {E : Type 0} → Result ℕ E → List ℕ → Bool
write_fails (Ok n) bytes = n == 0 && nat_lt 0 (length bytes)
write_fails (Err e) bytes = true

-- A call was counted, and its failure if it failed.
abbrev pub IsCounted : {D : Type 0} → Counted D → Counted D → Bool → Type 0
IsCounted old new fails = (calls_of new ≡ calls_of old + 1) × (failures_of new ≡ failures_of old + (if fails then 1 else 0))

-- One call failed since, or the device is spent and no call was counted as failed.
abbrev pub HasFailed : {D : Type 0} → Counted D → Counted D → Type 0
HasFailed old new = (failures_of new ≡ failures_of old + 1) ⊎ (IsSpent new × (failures_of new ≡ failures_of old))
