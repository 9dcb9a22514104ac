-- What Error Reports say, worked out (RFC 8210 section 5.11).
use Rattle.std.specs.Prelude.{◌≡◌, ℕ, false, List, [], ◌∷◌, ◌++◌, take, drop, replicate, Some, None, option_map, refl}
use Rattle.std.proofs.Common.{ap, arith}
use Rattle.rtr_pdu.specs.Unit.{unit_bytes}
use Rattle.rtr_pdu.specs.declared.unit.Unit.{Unit}
use Rattle.rtr_pdu.specs.declared.unit.Unit.TheVariants.{ErrorReport, ResetQuery}
use Rattle.rtr_pdu.specs.declared.version.Version.TheVariants.{V0, V1}
use Rattle.rtr_server.specs.Clients.{parted_of}
use Rattle.rtr_server.specs.Counting.{counted, counted_on, is_whole, last_report, report_of, tail_at}
use Rattle.rtr_server.specs.Reports.{Said, padded, report_text, said_in}
use Rattle.rtr_server.specs.Runs.{IsOnlyCounted}
use Rattle.rtr_server.specs.declared.turn.Slot.{Slot}

-- "no" in UTF-8
abbrev no_text : List ℕ
no_text = 110 ∷ 111 ∷ []

-- No data is there (code 2): a report with no copy and no text
abbrev plain : Unit
plain = ErrorReport (record { code = 2; copy = []; text = [] })

-- an invalid request (code 3), with a copy of a Reset Query and a text
abbrev full : Unit
full = ErrorReport (record { code = 3; copy = unit_bytes V1 ResetQuery; text = no_text })

abbrev says : ℕ → List ℕ → Said
says code text = record { code = code; text = text }

-- a report with a copy and a text, and one without, in both versions
full_says : ((counted (unit_bytes V1 full)).report ≡ Some (says 3 no_text)) × (report_text (unit_bytes V1 full) ≡ no_text) × (said_in (unit_bytes V1 full) ≡ says 3 no_text)
full_says = (refl, refl, refl)

plain_says : ((counted (unit_bytes V0 plain)).report ≡ Some (says 2 [])) × (report_text (unit_bytes V0 plain) ≡ [])
plain_says = (refl, refl)

-- A report that is split anywhere says the same once it is whole, and nothing before. Here it is split inside the copy, in the length of
-- the text, and before its last byte.
in_pieces : ((counted_on (counted (take 15 (unit_bytes V1 full))) (drop 15 (unit_bytes V1 full))).report ≡ Some (says 3 no_text)) × ((counted_on (counted (take 22 (unit_bytes V1 full))) (drop 22 (unit_bytes V1 full))).report ≡ Some (says 3 no_text))
    × ((counted (take 25 (unit_bytes V1 full))).report ≡ None)
in_pieces = (refl, refl, refl)

-- Of one that has not come whole, the length of the text and the text are kept, as far as they came.
kept : ((counted (take 25 (unit_bytes V1 full))).tail ≡ 0 ∷ 0 ∷ 0 ∷ 2 ∷ 110 ∷ []) × ((counted (take 20 (unit_bytes V1 full))).tail ≡ []) × (tail_at (take 12 (unit_bytes V1 full)) ≡ 20) × (is_whole (counted (take 25 (unit_bytes V1 full))) ≡ false)
kept = (refl, refl, refl, refl)

-- The last report counts, and it stays if other PDUs follow.
last : ((counted (unit_bytes V1 full ++ unit_bytes V1 plain)).report ≡ Some (says 2 [])) × ((counted (unit_bytes V1 full ++ unit_bytes V1 ResetQuery)).report ≡ Some (says 3 no_text))
last = (refl, refl)

last_of : (last_report None (full ∷ plain ∷ ResetQuery ∷ []) ≡ Some (says 2 [])) × (last_report None (ResetQuery ∷ []) ≡ None) × (report_of full None ≡ Some (says 3 no_text))
last_of = (refl, refl, refl)

-- A text of 300 bytes is cut at 200.
long_says : report_of (ErrorReport (record { code = 1; copy = []; text = replicate 300 97 })) None ≡ Some (says 1 (replicate 200 97))
long_says = refl

long_is_cut : (counted (unit_bytes V1 (ErrorReport (record { code = 1; copy = []; text = replicate 300 97 })))).report ≡ Some (says 1 (replicate 200 97))
long_is_cut = refl

-- A report of 18 bytes that announces a text of 3 with 2 left, one that announces 1, and one that announces a copy of 9 with 6 left. Each
-- has its code and no text. One of 8 bytes too.
false_lengths : ((counted (1 ∷ 10 ∷ 0 ∷ 4 ∷ 0 ∷ 0 ∷ 0 ∷ 18 ∷ 0 ∷ 0 ∷ 0 ∷ 0 ∷ 0 ∷ 0 ∷ 0 ∷ 3 ∷ no_text)).report ≡ Some (says 4 [])) × ((counted (1 ∷ 10 ∷ 0 ∷ 4 ∷ 0 ∷ 0 ∷ 0 ∷ 18 ∷ 0 ∷ 0 ∷ 0 ∷ 0 ∷ 0 ∷ 0 ∷ 0 ∷ 1 ∷ no_text)).report ≡ Some (says 4 []))
    × ((counted (1 ∷ 10 ∷ 0 ∷ 4 ∷ 0 ∷ 0 ∷ 0 ∷ 18 ∷ 0 ∷ 0 ∷ 0 ∷ 9 ∷ 0 ∷ 0 ∷ 0 ∷ 2 ∷ no_text)).report ≡ Some (says 4 [])) × ((counted (1 ∷ 10 ∷ 0 ∷ 4 ∷ 0 ∷ 0 ∷ 0 ∷ 8 ∷ [])).report ≡ Some (says 4 []))
false_lengths = (refl, refl, refl, refl)

-- A text is put into its room with zeros behind it.
in_room : padded no_text ≡ 110 ∷ 111 ∷ replicate 198 0
unfolding padded
in_room = refl

-- Of a Serial Notify nothing is kept but that it went; of an Error Report more is.
only_counted : IsOnlyCounted 0 × (¬ (IsOnlyCounted 10))
only_counted = ((λ e. absurd (omega (arith, e)), λ e. absurd (omega (arith, e))), λ only. only.1 refl)

-- Of the last report that was sent, the code is kept.
sent_code : {T : Type 0} (slot : Slot T) → slot.traffic.sent.report ≡ Some (says 2 no_text) → (parted_of None slot).sent_report ≡ Some 2
sent_code slot is = ap (option_map (λ (said : Said). said.code)) is
