-- The codes of faults, and the PDUs at which memory may run out at a cache, worked out.
use Rattle.rtr_ends.proofs.Words.{Bool, None, Some, [], false, refl, true, ℕ, ◌≡◌, ◌∷◌, Payload, Instance, VrpSet, Key, Report, Unit, CacheReset, CacheResponse, EndOfData, EndOfData0, ErrorReport, Prefix, ResetQuery, RouterKey, SerialNotify, SerialQuery, UnitFault, Version, V0, V1}
use Rattle.rtr_ends.specs.Connection.{agreed_version, fault_code, takes_memory}
use Rattle.rtr_ends.proofs.WholeAnswerRows.{cache}
use Rattle.rtr_pdu.specs.declared.unit.UnitFault.TheVariants as faults

-- The code of each fault before a version is agreed on, and if version 0 or version 1 is
abbrev Codes : UnitFault → ℕ → ℕ → ℕ → Type 0
Codes fault before in_0 in_1 = (fault_code None fault ≡ before) × (fault_code (Some V0) fault ≡ in_0) × (fault_code (Some V1) fault ≡ in_1)

codes : Codes faults.Version 4 4 8 × Codes faults.«Type» 5 5 5 × Codes faults.Length 0 0 0 × Codes faults.TooLong 0 0 0 × Codes faults.Record 0 0 0
    × Codes faults.ErrorReport 0 0 0 × Codes faults.Truncated 0 0 0
codes = ((refl, refl, refl), (refl, refl, refl), (refl, refl, refl), (refl, refl, refl), (refl, refl, refl), (refl, refl, refl), (refl, refl, refl))

codes_agreed : (version : Version) → (agreed_version false version ≡ None) × (agreed_version true version ≡ Some version)
codes_agreed version = (refl, refl)

-- If something is published, memory may run out at a Serial Query of its session, but not at one of another session.
takes_some : (version : Version) (set : VrpSet) → (takes_memory version (cache 5 (set ∷ [])) (SerialQuery 0x1234 5) ≡ true) × (takes_memory version (cache 5 (set ∷ [])) (SerialQuery 0x2222 5) ≡ false)
takes_some V0 set = (refl, refl)
takes_some V1 set = (refl, refl)

-- Memory never runs out if nothing is published, nor for a PDU that is no Serial Query.
takes_none : (version : Version) (i : Instance) (start serial : ℕ) → (takes_memory version i ResetQuery ≡ false) × (takes_memory version (cache start []) (SerialQuery 0x1234 serial) ≡ false)
takes_none V0 i start serial = (refl, refl)
takes_none V1 i start serial = (refl, refl)

abbrev TakesNone : Version → Instance → Unit → Type 0
TakesNone version i u = takes_memory version i u ≡ false

takes_none_else : (version : Version) (i : Instance) (announce : Bool) (x : Payload) (key : Key) (r : Report) (session serial refresh retry expire : ℕ)
    → TakesNone version i (SerialNotify session serial) × TakesNone version i (CacheResponse session) × TakesNone version i (Prefix announce x)
    × TakesNone version i (EndOfData session serial refresh retry expire) × TakesNone version i (EndOfData0 session serial) × TakesNone version i CacheReset
    × TakesNone version i (RouterKey key) × TakesNone version i (ErrorReport r)
takes_none_else version i announce x key r session serial refresh retry expire = (refl, refl, refl, refl, refl, refl, refl, refl)
