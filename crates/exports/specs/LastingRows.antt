-- How long payloads count, worked out.
use Rattle.std.specs.Prelude.{◌≡◌, ℕ, [], ◌∷◌, Some, None, refl}
use Rattle.prefixes.specs.Payload.{Payload}
use Rattle.prefixes.specs.declared.prefix.IpPrefix.TheVariants.{V4}
use Rattle.exports.specs.Entry.{current}
use Rattle.exports.specs.Lasting.{counting, last_at, last_second, last_seconds}
use Rattle.exports.specs.declared.entry.ExportEntry.{ExportEntry}

-- 10.0.0.0/8 of this AS
abbrev of_as : ℕ → Payload
of_as n = record { prefix = V4 (record { addr = 167772160; len = 8 }); max_len = 8; asn = n }

-- an entry of it, with an expiry and without
abbrev ends : ℕ → ℕ → ExportEntry
ends n t = record { payload = of_as n; expires = Some t }

abbrev stays : ℕ → ExportEntry
stays n = record { payload = of_as n; expires = None }

-- ---- the last second of an entry

before_its_expiry : last_second (Some 101) ≡ 100
before_its_expiry = refl

without_expiry : last_second None ≡ 18446744073709551615
without_expiry = refl

greatest_expiry : last_second (Some 18446744073709551615) ≡ 18446744073709551614
greatest_expiry = refl

-- of three entries at 100 the first has expired
those_that_count : last_seconds 100 (ends 1 100 ∷ ends 2 101 ∷ stays 3 ∷ []) ≡ 100 ∷ 18446744073709551615 ∷ []
those_that_count = refl

second_of_two : last_at (100 ∷ 200 ∷ []) 1 ≡ 200
second_of_two = refl

past_the_last : last_at (100 ∷ 200 ∷ []) 2 ≡ 18446744073709551615
past_the_last = refl

-- ---- both sides of an expiry at 101

still_counts : counting 100 (of_as 2 ∷ of_as 3 ∷ []) (100 ∷ 18446744073709551615 ∷ []) ≡ of_as 2 ∷ of_as 3 ∷ []
still_counts = refl

counts_no_more : counting 101 (of_as 2 ∷ of_as 3 ∷ []) (100 ∷ 18446744073709551615 ∷ []) ≡ of_as 3 ∷ []
counts_no_more = refl

-- as the entries say
as_listed : (current 100 (ends 2 101 ∷ stays 3 ∷ []) ≡ of_as 2 ∷ of_as 3 ∷ []) × (current 101 (ends 2 101 ∷ stays 3 ∷ []) ≡ of_as 3 ∷ [])
as_listed = (refl, refl)

-- What does not end counts at the last second of all.
at_the_last_second : counting 18446744073709551615 (of_as 2 ∷ of_as 3 ∷ []) (18446744073709551614 ∷ 18446744073709551615 ∷ []) ≡ of_as 3 ∷ []
at_the_last_second = refl

-- ---- two entries with the same payload

-- of which the later counts
later_of_two : (current 150 (ends 1 101 ∷ ends 1 201 ∷ []) ≡ of_as 1 ∷ []) × (counting 150 (of_as 1 ∷ []) (200 ∷ []) ≡ of_as 1 ∷ [])
later_of_two = (refl, refl)

none_of_two : (current 201 (ends 1 101 ∷ ends 1 201 ∷ []) ≡ []) × (counting 201 (of_as 1 ∷ []) (200 ∷ []) ≡ [])
none_of_two = (refl, refl)

-- or that without an end
endless_of_two : (current 201 (ends 1 101 ∷ stays 1 ∷ []) ≡ of_as 1 ∷ []) × (counting 201 (of_as 1 ∷ []) (18446744073709551615 ∷ []) ≡ of_as 1 ∷ [])
endless_of_two = (refl, refl)
