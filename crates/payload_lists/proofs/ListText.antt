-- The text of a list, entry by entry.
use Rattle.std.proofs.Common.{◌≡◌, ◌==◌, false, ne_eqb, ◌<◌, ◌+◌, ℕ, List, [], ◌∷◌, ◌++◌, length, map, take, get_or, ap, sym, refl, ◌∙◌, append_assoc, if◌then◌else◌, arith}
use Rattle.std.proofs.lemmas.List.{length-map, length-take-le, take_more}
use Rattle.std.specs.List.{join_with_byte}
use Rattle.prefixes.specs.Payload.{Payload}
use Rattle.payload_lists.specs.PayloadList.{entry_text, list_text, whole_at}
use Rattle.std.specs.Prelude.{codes, Float, None, Some}
use Rattle.std.specs.Fmt.{digits}
use Rattle.prefixes.specs.declared.prefix.IpPrefix.{IpPrefix}
use Rattle.prefixes.specs.Text.{written_text}
use Rattle.serde_json.specs.Data.{object, member, no_members, number, float, unsigned}
use Rattle.payload_lists.specs.ListFaults.{list_fault_number}
use Rattle.payload_lists.specs.declared.listing.ListFault.TheVariants.{NoList, Memory}

row_empty : list_text [] ≡ codes "[]"
row_empty = refl

-- a compact entry, its keys in order, and two entries with a comma between them
row_entry : (p : IpPrefix) → entry_text (record { prefix = p; max_len = 24; asn = 64496 }) ≡ codes "{\"asn\":64496,\"maxLength\":24,\"prefix\":\"" ++ (written_text p ++ codes "\"}")
unfolding digits
row_entry p = refl

row_two : (v w : Payload) → list_text (v ∷ w ∷ []) ≡ 91 ∷ ((entry_text v ++ (44 ∷ entry_text w)) ++ (93 ∷ []))
row_two v w = refl

-- a number that is no whole one is none, as 24.0
row_float : (x : Float) → whole_at (codes "asn") (object (member (codes "asn") (number (float x)) no_members)) ≡ None
row_float x = refl

row_whole : whole_at (codes "maxLength") (object (member (codes "maxLength") (number (unsigned 24)) no_members)) ≡ Some 24
row_whole = refl

row_numbers : (list_fault_number NoList ≡ 1) × (list_fault_number Memory ≡ 2)
row_numbers = (refl, refl)

-- what is before a piece that follows these
abbrev separator : ℕ → List (List ℕ) → List ℕ
separator c [] = []
separator c (x ∷ xs) = c ∷ []

above_zero : (n : ℕ) → 0 < n → (n == 0) ≡ false
above_zero n h = ne_eqb n 0 (omega arith)

separator_is : (c : ℕ) (xs : List (List ℕ)) → separator c xs ≡ (if length xs == 0 then [] else c ∷ [])
separator_is c [] = refl
separator_is c (x ∷ xs) = ap (λ b. if b then [] else c ∷ []) (sym (above_zero (length (x ∷ xs)) (omega arith)))

-- one piece more
join-append : (c : ℕ) (xs : List (List ℕ)) (y : List ℕ) → join_with_byte c (xs ++ y ∷ []) ≡ join_with_byte c xs ++ (separator c xs ++ y)
join-append c [] y = refl
join-append c (x ∷ []) y = refl
join-append c (x ∷ z ∷ xs) y = ap (λ t. x ++ (c ∷ t)) (join-append c (z ∷ xs) y) ∙ sym (append_assoc x (c ∷ join_with_byte c (z ∷ xs)) (c ∷ y))

map-snoc : (vs : List Payload) (v : Payload) → map entry_text (vs ++ v ∷ []) ≡ map entry_text vs ++ entry_text v ∷ []
map-snoc [] v = refl
map-snoc (w ∷ vs) v = ap (λ xs. entry_text w ∷ xs) (map-snoc vs v)

pub entries-more : (vs : List Payload) (i : ℕ) (v : Payload) → i < length vs → v ≡ get_or vs i v
    → join_with_byte 44 (map entry_text (take (i + 1) vs)) ≡ join_with_byte 44 (map entry_text (take i vs)) ++ ((if i == 0 then [] else 44 ∷ []) ++ entry_text v)
entries-more vs i v h e =
    let cut : take (i + 1) vs ≡ take i vs ++ v ∷ [] = take_more vs i v h ∙ ap (λ x. take i vs ++ x ∷ []) (sym e) in
    let count : length (map entry_text (take i vs)) ≡ i = length-map (take i vs) entry_text ∙ length-take-le i vs (omega (arith, h)) in
    ap (λ xs. join_with_byte 44 (map entry_text xs)) cut ∙ ap (join_with_byte 44) (map-snoc (take i vs) v) ∙ join-append 44 (map entry_text (take i vs)) (entry_text v)
    ∙ ap (λ t. join_with_byte 44 (map entry_text (take i vs)) ++ (t ++ entry_text v)) (separator_is 44 (map entry_text (take i vs)))
    ∙ ap (λ n. join_with_byte 44 (map entry_text (take i vs)) ++ ((if n == 0 then [] else 44 ∷ []) ++ entry_text v)) count

-- the text behind one entry more
pub text-more : (vs : List Payload) (i : ℕ) (v : Payload) (old mid new : List ℕ) → i < length vs → v ≡ get_or vs i v → old ≡ 91 ∷ join_with_byte 44 (map entry_text (take i vs))
    → mid ≡ old ++ (if i == 0 then [] else 44 ∷ []) → new ≡ mid ++ entry_text v → new ≡ 91 ∷ join_with_byte 44 (map entry_text (take (i + 1) vs))
text-more vs i v old mid new h e was comma entry =
    entry ∙ ap (λ t. t ++ entry_text v) (comma ∙ ap (λ t. t ++ (if i == 0 then [] else 44 ∷ [])) was)
    ∙ append_assoc (91 ∷ join_with_byte 44 (map entry_text (take i vs))) (if i == 0 then [] else 44 ∷ []) (entry_text v)
    ∙ ap (λ t. 91 ∷ t) (sym (entries-more vs i v h e))
