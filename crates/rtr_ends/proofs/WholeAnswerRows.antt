-- PDUs and answers, byte by byte, and a history of a connection.
use Rattle.rtr_ends.proofs.Words.{List, [], arith, inl, map, refl, true, ℕ, ◌++◌, ◌∷◌, ◌≡◌, Payload, vrp_cmp, V4, Instance, IsInstance, VrpSet, set_of, V1, Reads, zeros, Unit, Prefix, ResetQuery}
use Rattle.std.specs.List.Sorted.{IsStrictlySortedBy}
use Rattle.rtr_ends.specs.Answer.{response}
use Rattle.rtr_ends.specs.Connection.{IsHistory, IsLater, Pull, Read, Wanting, opened, replies}
use Rattle.rtr_ends.specs.Timing.{default_intervals}

-- 192.0.2.0/24 maximum 24 AS64496, and 198.51.100.0/24 maximum 24 AS64497
abbrev pub v : Payload
v = record { prefix = V4 (record { addr = 0xc0000200; len = 24 }); max_len = 24; asn = 64496 }

abbrev pub w : Payload
w = record { prefix = V4 (record { addr = 0xc6336400; len = 24 }); max_len = 24; asn = 64497 }

-- a cache of session 0x1234 with these sets, the newest first
abbrev pub cache : ℕ → List VrpSet → Instance
cache start sets = record { session = 0x1234; session0 = 0x1234; start = start; sets = sets }

pub v_ascends : IsStrictlySortedBy vrp_cmp (v ∷ [])
unfolding IsStrictlySortedBy
v_ascends = (tt, tt)

abbrev pub reset_bytes : List ℕ
reset_bytes = 0x01 ∷ 0x02 ∷ 0 ∷ 0 ∷ 0 ∷ 0 ∷ 0 ∷ 0x08 ∷ []

abbrev pub serial_bytes : List ℕ
serial_bytes = 0x01 ∷ 0x01 ∷ 0x12 ∷ 0x34 ∷ 0 ∷ 0 ∷ 0 ∷ 0x0c ∷ 0 ∷ 0 ∷ 0 ∷ 0x05 ∷ []

abbrev pub response_bytes : List ℕ
response_bytes = 0x01 ∷ 0x03 ∷ 0x12 ∷ 0x34 ∷ 0 ∷ 0 ∷ 0 ∷ 0x08 ∷ []

abbrev pub v_bytes : List ℕ
v_bytes = 0x01 ∷ 0x04 ∷ 0 ∷ 0 ∷ 0 ∷ 0 ∷ 0 ∷ 0x14 ∷ 0x01 ∷ 0x18 ∷ 0x18 ∷ 0 ∷ 0xc0 ∷ 0 ∷ 0x02 ∷ 0 ∷ 0 ∷ 0 ∷ 0xfb ∷ 0xf0 ∷ []

abbrev pub end_bytes : ℕ → List ℕ
end_bytes serial = 0x01 ∷ 0x07 ∷ 0x12 ∷ 0x34 ∷ 0 ∷ 0 ∷ 0 ∷ 0x18 ∷ 0 ∷ 0 ∷ 0 ∷ serial ∷ 0 ∷ 0 ∷ 0x0e ∷ 0x10 ∷ 0 ∷ 0 ∷ 0x02 ∷ 0x58 ∷ 0 ∷ 0 ∷ 0x1c ∷ 0x20 ∷ []

-- what is answered with all of these records
abbrev pub with_all_of : ℕ → VrpSet → List Payload → List Unit
with_all_of serial set records = response V1 0x1234 default_intervals (record { serial = serial; set = set }) (map (λ x. Prefix true x) records)

-- out of memory
wanted : replies 2 default_intervals (Wanting V1 (cache 5 (set_of (v ∷ []) ∷ [])) ResetQuery reset_bytes ∷ []) ≡ 0x01 ∷ 0x0a ∷ 0 ∷ 0x01 ∷ 0 ∷ 0 ∷ 0 ∷ 0x10 ∷ 0 ∷ 0 ∷ 0 ∷ 0 ∷ 0 ∷ 0 ∷ 0 ∷ 0 ∷ []
wanted = refl

-- A history: a query, its report pulled in two parts, and another query
two_queries : IsInstance (cache 5 []) → IsHistory 2 default_intervals (opened (cache 5 []))
    (Read V1 (cache 5 []) ResetQuery reset_bytes ∷ Pull 10 ∷ Pull 14 ∷ Read V1 (cache 5 []) ResetQuery reset_bytes ∷ []) (reset_bytes ++ reset_bytes)
two_queries is =
    ((refl, refl, is, stays, (refl, reads)), (reset_bytes, refl, (omega arith, (reset_bytes, refl, (omega arith, (reset_bytes, refl, ((refl, refl, is, stays, (refl, reads)), ([], refl, ((refl, inl (omega arith)), inl refl)))))))))
  where
    stays : IsLater (cache 5 []) (cache 5 [])
    stays = record { session = refl; session0 = refl; start = refl; more = []; sets = refl }

    reads : Reads V1 ResetQuery reset_bytes
    reads = record { of_version = refl; fits = tt; ignored = zeros; bits = record { header = omega arith; flags = omega arith; byte = omega arith }; bytes_are = refl }
