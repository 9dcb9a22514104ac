-- What is counted of bytes, worked out.
use Rattle.std.specs.Prelude.{◌≡◌, ℕ, ◌+◌, true, false, List, [], ◌∷◌, ◌++◌, take, Some, None, refl}
use Rattle.std.proofs.Common.{arith}
use Rattle.rtr_pdu.specs.Unit.{unit_bytes}
use Rattle.rtr_pdu.specs.declared.kind.Kind.TheVariants as kinds
use Rattle.rtr_pdu.specs.declared.unit.Unit.TheVariants.{SerialNotify, SerialQuery, ResetQuery, CacheReset, EndOfData, EndOfData0}
use Rattle.rtr_pdu.specs.declared.version.Version.TheVariants.{V0, V1}
use Rattle.rtr_server.specs.Counting.{asks, capped, count_of, counted, has_query}
use Rattle.rtr_server.specs.Runs.{PassesMany, ShowsHeader, length_in, type_in}
use Rattle.rtr_server.specs.declared.tally.PdusByKind.{PdusByKind}
use Rattle.rtr_server.proofs.CountingLaws.{passes_one}

-- the counts of types 0 to 4 and 6 to 10
abbrev these : List ℕ → PdusByKind
these counts = record { counts = counts }

-- An End of Data of version 1 has 24 bytes, and its serial follows the header.
end_of_data : counted (unit_bytes V1 (EndOfData 0x1234 5 3600 600 7200)) ≡ record { pdus = these (0 ∷ 0 ∷ 0 ∷ 0 ∷ 0 ∷ 0 ∷ 0 ∷ 1 ∷ 0 ∷ 0 ∷ 0 ∷ []); serial = Some (record { 0 = 5 }); report = None; front = []; tail = []; came = 0 }
end_of_data = refl

-- One of version 0 has 12.
end_of_data_0 : counted (unit_bytes V0 (EndOfData0 0x1234 0xfffffffe)) ≡ record { pdus = these (0 ∷ 0 ∷ 0 ∷ 0 ∷ 0 ∷ 0 ∷ 0 ∷ 1 ∷ 0 ∷ 0 ∷ 0 ∷ []); serial = Some (record { 0 = 0xfffffffe }); report = None; front = []; tail = []; came = 0 }
end_of_data_0 = refl

-- A PDU is counted at its last byte. Its first twelve are kept until then, and those that would be behind a copy of five bytes in an Error Report.
cut_off : counted (take 23 (unit_bytes V1 (EndOfData 0x1234 5 3600 600 7200))) ≡ record { pdus = these (0 ∷ 0 ∷ 0 ∷ 0 ∷ 0 ∷ 0 ∷ 0 ∷ 0 ∷ 0 ∷ 0 ∷ 0 ∷ []); serial = None; report = None; front = 1 ∷ 7 ∷ 0x12 ∷ 0x34 ∷ 0 ∷ 0 ∷ 0 ∷ 24 ∷ 0 ∷ 0 ∷ 0 ∷ 5 ∷ []; tail = 0 ∷ 2 ∷ 88 ∷ 0 ∷ 0 ∷ 28 ∷ []; came = 23 }
cut_off = refl

-- The last End of Data gives the serial; a Serial Notify gives none.
three : counted (unit_bytes V0 (EndOfData0 7 5) ++ unit_bytes V0 (SerialNotify 7 6) ++ unit_bytes V0 (EndOfData0 7 9)) ≡ record { pdus = these (1 ∷ 0 ∷ 0 ∷ 0 ∷ 0 ∷ 0 ∷ 0 ∷ 2 ∷ 0 ∷ 0 ∷ 0 ∷ []); serial = Some (record { 0 = 9 }); report = None; front = []; tail = []; came = 0 }
three = refl

-- A number above ten is no type and is not counted; as many bytes as its header announces are skipped. A header that announces less than a
-- header is skipped alone.
no_types : (counted (1 ∷ 11 ∷ 0 ∷ 0 ∷ 0 ∷ 0 ∷ 0 ∷ 9 ∷ 2 ∷ [])).pdus ≡ these (0 ∷ 0 ∷ 0 ∷ 0 ∷ 0 ∷ 0 ∷ 0 ∷ 0 ∷ 0 ∷ 0 ∷ 0 ∷ [])
no_types = refl

short : (counted (1 ∷ 2 ∷ 0 ∷ 0 ∷ 0 ∷ 0 ∷ 0 ∷ 0 ∷ 1 ∷ 2 ∷ 0 ∷ 0 ∷ 0 ∷ 0 ∷ 0 ∷ 8 ∷ [])).pdus ≡ these (0 ∷ 0 ∷ 2 ∷ 0 ∷ 0 ∷ 0 ∷ 0 ∷ 0 ∷ 0 ∷ 0 ∷ 0 ∷ [])
short = refl

-- A query is one at its last byte, in both versions; the header of a Serial Query is none, nor is another PDU (RFC 8210 sections 5.3 and 5.4).
queries : (has_query (counted (unit_bytes V1 ResetQuery)).pdus ≡ true) × (has_query (counted (unit_bytes V0 (SerialQuery 0x1234 5))).pdus ≡ true) × (has_query (counted (unit_bytes V0 ResetQuery ++ 0 ∷ 1 ∷ [])).pdus ≡ true)
queries = (refl, refl, refl)

no_queries : (has_query (counted []).pdus ≡ false) × (has_query (counted (take 7 (unit_bytes V1 ResetQuery))).pdus ≡ false) × (has_query (counted (take 8 (unit_bytes V1 (SerialQuery 0x1234 5)))).pdus ≡ false)
    × (has_query (counted (take 11 (unit_bytes V0 (SerialQuery 0x1234 5)))).pdus ≡ false) × (has_query (counted (unit_bytes V1 CacheReset ++ unit_bytes V1 (SerialNotify 0x1234 5))).pdus ≡ false)
no_queries = (refl, refl, refl, refl, refl)

asked : (asks (CacheReset ∷ SerialQuery 0x1234 5 ∷ []) ≡ true) × (asks (ResetQuery ∷ []) ≡ true) × (asks (SerialNotify 0x1234 5 ∷ CacheReset ∷ []) ≡ false) × (asks [] ≡ false)
asked = (refl, refl, refl, refl)

-- Counts stop at the greatest number of 64 bits.
stops : (capped (18446744073709551615 + 1) ≡ 18446744073709551615) × (capped 18446744073709551615 ≡ 18446744073709551615) × (capped (2 + 1) ≡ 3)
stops = (refl, refl, refl)

places : count_of (these (10 ∷ 11 ∷ 12 ∷ 13 ∷ 14 ∷ 15 ∷ 16 ∷ 17 ∷ 18 ∷ 19 ∷ 20 ∷ [])) kinds.Ipv6Prefix ≡ 16
places = refl

-- The header of an IPv4 Prefix has type 4 and a length of 20 bytes (RFC 8210 section 5.6). That of an End of Data has type 7 and a length
-- of 24 bytes (section 5.8).
headers : (type_in 0x0104000000000014 ≡ 4) × (length_in 0x0104000000000014 ≡ 20) × (type_in 0x0107123400000018 ≡ 7) × (length_in 0x0107123400000018 ≡ 24)
headers = (refl, refl, refl, refl)

shown : ShowsHeader 0x0107123400000018 (unit_bytes V1 (EndOfData 0x1234 5 3600 600 7200))
shown = (refl, refl)

-- A Reset Query is one of a run of its type.
one_passes : PassesMany 2 1 (unit_bytes V1 ResetQuery ++ 1 ∷ []) (1 ∷ [])
one_passes = λ n c. passes_one (unit_bytes V1 ResetQuery ++ 1 ∷ []) 0x0102000000000008 8 n c refl (λ e. absurd (omega (arith, e)), λ e. absurd (omega (arith, e))) (omega arith) (refl, refl)
