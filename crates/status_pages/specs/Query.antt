-- Requests for the validity of a route: the query `asn=NUMBER&prefix=PREFIX`, and the path `NUMBER/PREFIX`.
use Rattle.std.specs.Prelude.{◌≡◌, ◌⊎◌, ℕ, ◌^◌, ◌<◌, ◌==◌, Bool, List, [], ◌∷◌, length, map, Some, Result, Ok, Err, codes, ⊤}
use Rattle.std.specs.List.{before_first, after_first, position_or_len}
use Rattle.std.specs.Str.Lossy.{utf8_lossy}
use Rattle.form_urlencoded.specs.Form.{decode, raw_pairs}
use Rattle.prefix_texts.specs.AsnText.{AsnText, IsNoAsn}
use Rattle.prefixes.specs.Text.{PrefixText, ReadsAs}
use Rattle.prefixes.specs.declared.route.Route.{Route}
use Rattle.status_pages.specs.declared.query_fault.QueryFault.{QueryFault}
use Rattle.status_pages.specs.declared.query_fault.QueryFault.TheVariants as fault

-- the decoded text of a name or a value (the URL Standard, section 5.1)
abbrev pub text_of : List ℕ → List ℕ
text_of bytes = utf8_lossy (decode bytes)

-- the names of a query with their values, in order
abbrev pub pairs_of : List ℕ → List (List ℕ × List ℕ)
pairs_of query = map (λ (name, value). (text_of name, text_of value)) (raw_pairs query)

-- The pairs have these two values and no others: `asn` and `prefix` occur once each, in either order.
abbrev pub HasValues : List (List ℕ × List ℕ) → List ℕ → List ℕ → Type 0
HasValues pairs asn prefix = (pairs ≡ (codes "asn", asn) ∷ (codes "prefix", prefix) ∷ []) ⊎ (pairs ≡ (codes "prefix", prefix) ∷ (codes "asn", asn) ∷ [])

-- The route of two texts, or their first fault. The AS is judged first, then the prefix.
abbrev pub FindsRoute : List ℕ → List ℕ → Result Route QueryFault → Type 0
FindsRoute asn prefix (Ok r) = ((n : ℕ) × (n < 2 ^ 32) × AsnText n asn × (r.origin ≡ Some n)) × PrefixText r.prefix prefix
FindsRoute asn prefix (Err fault.Asn) = IsNoAsn asn
FindsRoute asn prefix (Err (fault.Prefix why)) = ((n : ℕ) × (n < 2 ^ 32) × AsnText n asn) × ReadsAs prefix (Err why)
FindsRoute asn prefix (Err fault.Keys) = ⊥
FindsRoute asn prefix (Err fault.Path) = ⊥
FindsRoute asn prefix (Err fault.Memory) = ⊥

-- The route of pairs, or their first fault. The keys are judged first.
pub record FindsByValues (pairs : List (List ℕ × List ℕ)) (found : Result Route QueryFault) : Type 0 where
  pub asn : List ℕ
  pub prefix : List ℕ
  pub values : HasValues pairs asn prefix
  pub route : FindsRoute asn prefix found

abbrev pub FindsIn : List (List ℕ × List ℕ) → Result Route QueryFault → Type 0
FindsIn pairs (Ok r) = FindsByValues pairs (Ok r)
FindsIn pairs (Err fault.Keys) = (asn prefix : List ℕ) → ¬ (HasValues pairs asn prefix)
FindsIn pairs (Err fault.Asn) = FindsByValues pairs (Err fault.Asn)
FindsIn pairs (Err (fault.Prefix why)) = FindsByValues pairs (Err (fault.Prefix why))
FindsIn pairs (Err fault.Path) = ⊥
FindsIn pairs (Err fault.Memory) = ⊤

-- the result for a query
abbrev pub Finds : List ℕ → Result Route QueryFault → Type 0
Finds query found = FindsIn (pairs_of query) found

-- the byte of a slash
abbrev pub is_slash : ℕ → Bool
is_slash b = b == 47

-- the result for the end of a path: the AS number is before its first slash, and the prefix is after it
abbrev pub FindsInPath : List ℕ → Result Route QueryFault → Type 0
FindsInPath path (Ok r) = FindsRoute (text_of (before_first is_slash path)) (text_of (after_first is_slash path)) (Ok r)
FindsInPath path (Err fault.Keys) = ⊥
FindsInPath path (Err fault.Asn) = FindsRoute (text_of (before_first is_slash path)) (text_of (after_first is_slash path)) (Err fault.Asn)
FindsInPath path (Err (fault.Prefix why)) = FindsRoute (text_of (before_first is_slash path)) (text_of (after_first is_slash path)) (Err (fault.Prefix why))
FindsInPath path (Err fault.Path) = position_or_len is_slash path ≡ length path
FindsInPath path (Err fault.Memory) = ⊤
