-- Bytes that are counted, PDU by PDU and byte by byte.
use Rattle.std.specs.Prelude.{◌≡◌, ◌⊎◌, ℕ, zero, suc, ◌-◌, ◌+◌, ◌*◌, ◌<◌, ◌≤◌, ◌^◌, ◌==◌, Bool, true, false, nat_le, nat_lt, ◌&&◌, List, [], ◌∷◌, ◌++◌, length, take, drop, max, slice_index, slice_set, Option, Some, if◌then◌else◌, refl}
use Rattle.std.proofs.Common.{sym, ap, ◌∙◌, arith, append_assoc, inl, inr}
use Rattle.std.proofs.lemmas.Bool.{cases_lt}
use Rattle.byteorder.specs.Numbers.{big_from-append}
use Rattle.std.proofs.lemmas.List.{drop-take, drop_all, length-append, length-take, length-take-le, take-append-drop, take-append-le, take_all, take_more_set, drop-append-le, drop-drop, length-drop}
use Rattle.std.proofs.Math.Seq.{take-append_seam}
use Rattle.std.proofs.lemmas.Bool.Decides.{nat_tests}
use Rattle.prefixes.proofs.Basics.{eq_of}
use Rattle.rtr_pdu.specs.Reading.{number_at}
use Rattle.byteorder.specs.Endian.{big_number}
use Rattle.rtr_pdu.specs.Stream.{is_kind, length_of, type_of}
use Rattle.rtr_pdu.proofs.ModeLaws.{length_of-append, type_of-append}
use Rattle.rtr_pdu.specs.declared.kind.Kind.TheVariants as kinds
use Rattle.vrps.specs.declared.serial.Serial.{Serial}
use Rattle.rtr_server.specs.declared.tally.PdusByKind.{PdusByKind}
use Rattle.rtr_server.specs.Reports.{Said, report_text, said_in}
use Rattle.rtr_server.specs.Counting.{Counted, IsBetween, and_byte, and_many, and_pdu, and_pdus, and_tail, and_whole, capped, counted_on, grown, report_after, serial_after, tail_at, text_in, told_len}
use Rattle.rtr_server.specs.Runs.{IsOnlyCounted, ShowsHeader, length_in, type_in}

-- a room of this many bytes, with the next one in it or behind it
room_put : (room next : ℕ) (xs : List ℕ) (at b : ℕ) → length xs ≡ room → (at < room → next ≡ at + 1) → (room ≤ at → room ≤ next) → take next (if nat_lt at room then slice_set xs at b else xs) ≡ take room (take at xs ++ b ∷ [])
room_put room next xs at b len low_next high_next = by_test (nat_lt at room) refl
  where
    by_test : (t : Bool) → nat_lt at room ≡ t → take next (if t then slice_set xs at b else xs) ≡ take room (take at xs ++ b ∷ [])
    by_test true is =
        let low : at < room = grind (arith, nat_tests) in
        let l = length-append (take at xs) (b ∷ []) in
        let k = length-take-le at xs (omega (arith, low, len)) in
        ap (λ n. take n (slice_set xs at b)) (low_next low) ∙ take_more_set xs at b (omega (arith, low, len)) ∙ sym (take_all room (take at xs ++ b ∷ []) (omega (arith, l, k, low)))
    by_test false is =
        let high : room ≤ at = grind (arith, nat_tests) in
        let all = take_all at xs (omega (arith, high, len)) in
        take_all next xs (let h = high_next high in omega (arith, h, len)) ∙ sym (take-append_seam xs (b ∷ [])) ∙ ap (λ n. take n (xs ++ b ∷ [])) len ∙ ap (λ ys. take room (ys ++ b ∷ [])) (sym all)

-- the first bytes, with the next one among them or behind them
front_put : (front : List ℕ) (came b : ℕ) → length front ≡ 12 → take (capped (came + 1)) (if nat_lt came 12 then slice_set front came b else front) ≡ take 12 (take came front ++ b ∷ [])
front_put front came b len = room_put 12 (capped (came + 1)) front came b len (λ low. omega (arith, low)) (λ high. omega (arith, high))

lt_true : (a b : ℕ) → a < b → nat_lt a b ≡ true
lt_true a b h = grind (arith, nat_tests)

not_lt : (a b : ℕ) → b ≤ a → nat_lt a b ≡ false
not_lt a b h = grind (arith, nat_tests)

take_zero : (n : ℕ) (xs : List ℕ) → n ≡ 0 → take n xs ≡ []
take_zero n xs none = ap (λ k. take k xs) none

-- those behind an encapsulated PDU, likewise, if it ends at this place
tail_put : (at came b : ℕ) (tail : List ℕ) → length tail ≡ 204 → at < 2 ^ 33
    → take (capped (came + 1) - at) (if nat_lt came at then tail else if nat_lt (came - at) 204 then slice_set tail (came - at) b else tail)
    ≡ (if nat_lt at (capped (came + 1)) then take 204 (take (came - at) tail ++ b ∷ []) else take (came - at) tail)
tail_put at came b tail len low = by_test (nat_lt came at) refl
  where
    now : List ℕ
    now = if nat_lt (came - at) 204 then slice_set tail (came - at) b else tail

    grows : List ℕ
    grows = take 204 (take (came - at) tail ++ b ∷ [])

    by_test : (t : Bool) → nat_lt came at ≡ t → take (capped (came + 1) - at) (if t then tail else now) ≡ (if nat_lt at (capped (came + 1)) then grows else take (came - at) tail)
    by_test true is =
        let before : came < at = grind (arith, nat_tests) in
        take_zero (capped (came + 1) - at) tail (omega (arith, before)) ∙ sym (take_zero (came - at) tail (omega (arith, before)))
        ∙ ap (λ t. if t then grows else take (came - at) tail) (sym (not_lt at (capped (came + 1)) (omega (arith, before))))
    by_test false is =
        let behind : at ≤ came = grind (arith, nat_tests) in
        room_put 204 (capped (came + 1) - at) tail (came - at) b len (λ few. omega (arith, few, behind, low)) (λ many. omega (arith, many, behind, low))
        ∙ ap (λ t. if t then grows else take (came - at) tail) (sym (lt_true at (capped (came + 1)) (omega (arith, behind, low))))

-- A byte more came.
pub grows : (pdus : PdusByKind) (serial : Option Serial) (report : Option Said) (front new tail behind : List ℕ) (at came next b : ℕ) (now : Counted)
    → record { pdus = pdus; serial = serial; report = report; front = take came front; tail = take (came - tail_at front) tail; came = came } ≡ now → length front ≡ 12 → length tail ≡ 204
    → new ≡ (if nat_lt came 12 then slice_set front came b else front) → at ≡ tail_at new → at < 2 ^ 33
    → behind ≡ (if nat_lt came at then tail else if nat_lt (came - at) 204 then slice_set tail (came - at) b else tail) → next ≡ capped (came + 1)
    → record { pdus = pdus; serial = serial; report = report; front = take next new; tail = take (next - tail_at new) behind; came = next } ≡ grown now b
grows pdus serial report front new tail behind at came next b now view len room put at_is low put_behind more =
    let of : List ℕ → List ℕ → ℕ → Counted = λ xs ys n. record { pdus = pdus; serial = serial; report = report; front = xs; tail = ys; came = n } in
    let came_more : ℕ = capped (came + 1) in
    let new_front : take next new ≡ take 12 (take came front ++ b ∷ []) = (λ i. take (more i) (put i)) ∙ front_put front came b len in
    let new_tail : take (next - tail_at new) behind ≡ and_tail (take 12 (take came front ++ b ∷ [])) came_more (take (came - tail_at front) tail) b =
    (λ i. take (more i - sym at_is i) (put_behind i)) ∙ tail_put at came b tail room low ∙ same_tail (cases_lt came 12) in
    (λ i. of (new_front i) (new_tail i) (more i)) ∙ ap (λ c. grown c b) view
  where
    more_tail : ℕ → List ℕ → List ℕ
    more_tail n xs = if nat_lt n (capped (came + 1)) then take 204 (xs ++ b ∷ []) else xs

    same_tail : (came < 12) ⊎ (12 ≤ came) → more_tail at (take (came - at) tail) ≡ more_tail (tail_at (take 12 (take came front ++ b ∷ []))) (take (came - tail_at front) tail)
    same_tail (inl few) =
        let at_low : 12 ≤ at = omega (arith, at_is) in
        let none = take_zero (came - at) tail (omega (arith, at_low, few)) in
        let none_too = take_zero (came - tail_at front) tail (omega (arith, few)) in
        ap (λ t. if t then take 204 (take (came - at) tail ++ b ∷ []) else take (came - at) tail) (not_lt at (capped (came + 1)) (omega (arith, at_low, few)))
        ∙ none ∙ sym none_too
        ∙ ap (λ t. if t then take 204 (take (came - tail_at front) tail ++ b ∷ []) else take (came - tail_at front) tail) (sym (not_lt (tail_at (take 12 (take came front ++ b ∷ []))) (capped (came + 1)) (omega (arith, few))))
    same_tail (inr many) =
        let kept : new ≡ front = put ∙ ap (λ t. if t then slice_set front came b else front) (not_lt came 12 many) in
        let all : take 12 (take came front ++ b ∷ []) ≡ front = ap (λ xs. take 12 (xs ++ b ∷ [])) (take_all came front (omega (arith, many, len))) ∙ ap (λ n. take n (front ++ b ∷ [])) (sym len) ∙ take-append_seam front (b ∷ []) in
        let one : at ≡ tail_at front = at_is ∙ ap tail_at kept in
        (λ i. more_tail (one i) (take (came - one i) tail)) ∙ ap (λ xs. more_tail (tail_at xs) (take (came - tail_at front) tail)) (sym all)

-- if nothing came
pub none_came : (pdus : PdusByKind) (serial : Option Serial) (report : Option Said) (front tail : List ℕ) (came : ℕ) (now : Counted)
    → record { pdus = pdus; serial = serial; report = report; front = take came front; tail = take (came - tail_at front) tail; came = came } ≡ now → came ≡ 0 → IsBetween now
none_came pdus serial report front tail came now view none = record {
  no_front = ap (λ (x : Counted). x.front) (sym view) ∙ ap (λ n. take n front) none;
  no_tail = ap (λ (x : Counted). x.tail) (sym view) ∙ take_zero (came - tail_at front) tail (omega (arith, none));
  none_came = ap (λ (x : Counted). x.came) (sym view) ∙ none;
}

-- bytes after bytes
pub counted_both : (c : Counted) (a b : List ℕ) → counted_on c (a ++ b) ≡ counted_on (counted_on c a) b
counted_both c [] b = refl
counted_both c (x ∷ a) b = counted_both (and_byte c x) a b

le_true : (a b : ℕ) → a ≤ b → nat_le a b ≡ true
le_true a b h = grind (arith, nat_tests)

not_le : (a b : ℕ) → b < a → nat_le a b ≡ false
not_le a b h = grind (arith, nat_tests)

eight : (n len : ℕ) → max n 8 ≡ len → 8 ≤ len
eight n len e = omega (arith, e)

-- the first bytes, with one more
more_front : (room : ℕ) (front : List ℕ) (b : ℕ) → take room (take room front ++ b ∷ []) ≡ take room (front ++ b ∷ [])
more_front room front b = elim (cases_lt room (length front)) [
  | inl more ↦
      let l = length-take-le room front (omega (arith, more)) in
      take-append-le room (take room front) (b ∷ []) (omega (arith, l)) ∙ take_all room (take room front) (omega (arith, l)) ∙ sym (take-append-le room front (b ∷ []) (omega (arith, more)))
  | inr few ↦ ap (λ xs. take room (xs ++ b ∷ [])) (take_all room front few)
]

-- The byte at a place is the same, whatever follows.
number_same : (n i : ℕ) (front more : List ℕ) → i + n ≤ length front → number_at n i (front ++ more) ≡ number_at n i front
number_same n i front more h =
    let enough : n ≤ length (drop i front) = omega (arith, length-drop i front, h) in
    ap (big_number n) (drop-append-le i front more (omega (arith, h))) ∙ big_from-append n (drop i front) more enough

-- The first twelve bytes determine the same as all of them.
twelve : (A : Type 0) (f : List ℕ → A) (k : ℕ) → k ≤ 12 → ((front more : List ℕ) → k ≤ length front → f (front ++ more) ≡ f front) → (front rest : List ℕ) → k ≤ length front → f (take 12 front) ≡ f (front ++ rest)
twelve A f k low same front rest h =
    let l = length-take 12 front in
    sym (same (take 12 front) (drop 12 front) (omega (arith, l, h, low))) ∙ ap f (take-append-drop 12 front) ∙ sym (same front rest h)

at_same : (front more : List ℕ) → 12 ≤ length front → tail_at (front ++ more) ≡ tail_at front
at_same front more h = ap (λ n. 12 + n) (number_same 4 8 front more h)

-- the bytes that are kept of a PDU of which these came, behind an encapsulated one
abbrev pub tail_of : List ℕ → List ℕ
tail_of front = take 204 (drop (tail_at front) front)

no_tail : (front : List ℕ) → length front ≤ tail_at front → tail_of front ≡ []
no_tail front few = ap (take 204) (drop_all (tail_at front) front few)

more_tail : (front : List ℕ) (b : ℕ) → and_tail (take 12 (front ++ b ∷ [])) (length (front ++ b ∷ [])) (tail_of front) b ≡ tail_of (front ++ b ∷ [])
more_tail front b = by_test (nat_lt at (length all)) refl
  where
    all : List ℕ
    all = front ++ b ∷ []

    at : ℕ
    at = tail_at (take 12 all)

    len : length all ≡ length front + 1
    len = length-append front (b ∷ [])

    -- if twelve came
    same : 12 ≤ length front → at ≡ tail_at front
    same long = ap tail_at (take-append-le 12 front (b ∷ []) long) ∙ twelve ℕ tail_at 12 (omega arith) at_same front [] long ∙ at_same front [] long

    by_test : (t : Bool) → nat_lt at (length all) ≡ t → (if t then take 204 (tail_of front ++ b ∷ []) else tail_of front) ≡ tail_of all
    by_test true is =
        let low : at < length all = grind (arith, nat_tests) in
        let long : 12 ≤ length front = omega (arith, low, len) in
        let one = same long in
        more_front 204 (drop (tail_at front) front) b
        ∙ ap (take 204) (sym (drop-append-le (tail_at front) front (b ∷ []) (omega (arith, low, len, one))))
        ∙ ap (λ n. take 204 (drop n all)) (sym (at_same front (b ∷ []) long))
    by_test false is =
        let high : length all ≤ at = grind (arith, nat_tests) in
        no_tail front (by_length (cases_lt (length front) 12)) ∙ sym (no_tail all (all_by_length (cases_lt (length all) 12)))
      where
        by_length : (length front < 12) ⊎ (12 ≤ length front) → length front ≤ tail_at front
        by_length (inl few) = omega (arith, few)
        by_length (inr long) = let one = same long in let high : length all ≤ at = grind (arith, nat_tests) in omega (arith, one, high, len)

        all_by_length : (length all < 12) ⊎ (12 ≤ length all) → length all ≤ tail_at all
        all_by_length (inl few) = omega (arith, few)
        all_by_length (inr long) =
            let one = twelve ℕ tail_at 12 (omega arith) at_same all [] long ∙ at_same all [] long in
            let high : length all ≤ at = grind (arith, nat_tests) in
            omega (arith, one, high)

told_same : (front rest : List ℕ) → 8 ≤ length front → told_len (take 12 front) ≡ told_len (front ++ rest)
told_same front rest h = ap (λ n. max n 8) (twelve ℕ length_of 8 (omega arith) length_of-append front rest h)

abbrev told : List ℕ → Option Serial
told xs = Some (record { 0 = number_at 4 8 xs })

serial_same : (front rest : List ℕ) (last : Option Serial) → 8 ≤ length front → serial_after (take 12 front) (length front) last ≡ serial_after (front ++ rest) (length front) last
serial_same front rest last h = by_test (nat_le 12 (length front)) refl
  where
    kind_same : is_kind kinds.EndOfData (take 12 front) ≡ is_kind kinds.EndOfData (front ++ rest)
    kind_same = ap (λ t. t == 7) (twelve ℕ type_of 8 (omega arith) type_of-append front rest h)

    either : (b : Bool) (x y : Option Serial) → x ≡ y → (if b && true then x else last) ≡ (if b && true then y else last)
    either true x y e = e
    either false x y e = refl

    neither : (b d : Bool) (x y : Option Serial) → (if b && false then x else last) ≡ (if d && false then y else last)
    neither true true x y = refl
    neither true false x y = refl
    neither false true x y = refl
    neither false false x y = refl

    by_test : (t : Bool) → nat_le 12 (length front) ≡ t → (if is_kind kinds.EndOfData (take 12 front) && nat_le 12 (length front) then told (take 12 front) else last) ≡ (if is_kind kinds.EndOfData (front ++ rest) && nat_le 12 (length front) then told (front ++ rest) else last)
    by_test true is =
        let long : 12 ≤ length front = grind (arith, nat_tests) in
        ap (λ t. if is_kind kinds.EndOfData (take 12 front) && t then told (take 12 front) else last) is
        ∙ either (is_kind kinds.EndOfData (take 12 front)) (told (take 12 front)) (told (front ++ rest)) (ap (λ n. Some (record { 0 = n })) (twelve ℕ (number_at 4 8) 12 (omega arith) (number_same 4 8) front rest long))
        ∙ ap (λ k. if k && true then told (front ++ rest) else last) kind_same ∙ ap (λ t. if is_kind kinds.EndOfData (front ++ rest) && t then told (front ++ rest) else last) (sym is)
    by_test false is =
        ap (λ t. if is_kind kinds.EndOfData (take 12 front) && t then told (take 12 front) else last) is
        ∙ neither (is_kind kinds.EndOfData (take 12 front)) (is_kind kinds.EndOfData (front ++ rest)) (told (take 12 front)) (told (front ++ rest))
        ∙ ap (λ t. if is_kind kinds.EndOfData (front ++ rest) && t then told (front ++ rest) else last) (sym is)

not_same : (a b : ℕ) → b < a → (a == b) ≡ false
not_same a b h = grind (arith, nat_tests)

-- A PDU that ends before its text has none.
no_text : (front tail : List ℕ) (len : ℕ) → len < tail_at front + 4 → text_in front tail len ≡ []
no_text front tail len few = ap (λ t. if t then drop 4 tail else []) (not_same (tail_at front + 4 + number_at 4 0 tail) len (omega (arith, few)))

text_same : (front rest tail : List ℕ) → text_in (take 12 front) tail (length front) ≡ text_in (front ++ rest) tail (length front)
text_same front rest tail = elim (cases_lt (length front) 12) [
  | inl few ↦ no_text (take 12 front) tail (length front) (omega (arith, few)) ∙ sym (no_text (front ++ rest) tail (length front) (omega (arith, few)))
  | inr long ↦ ap (λ n. if n + 4 + number_at 4 0 tail == length front then drop 4 tail else []) (twelve ℕ tail_at 12 (omega arith) at_same front rest long)
]

report_same : (front rest tail : List ℕ) (last : Option Said) → 8 ≤ length front → report_after (take 12 front) tail (length front) last ≡ report_after (front ++ rest) tail (length front) last
report_same front rest tail last h =
    let type = twelve ℕ type_of 8 (omega arith) type_of-append front rest h in
    let code = twelve ℕ (number_at 2 2) 8 (omega arith) code_same front rest h in
    let text = text_same front rest tail in
    λ i. if type i == 10 then Some (record { code = code i; text = text i }) else last
  where
    code_same : (front more : List ℕ) → 8 ≤ length front → number_at 2 2 (front ++ more) ≡ number_at 2 2 front
    code_same front more h = number_same 2 2 front more (omega (arith, h))

-- Of a PDU that is whole, what was kept of its bytes says what all of them do.
pub text_is : (pdu : List ℕ) → text_in pdu (tail_of pdu) (length pdu) ≡ report_text pdu
text_is pdu = by_length (cases_lt (length pdu) (at + 4))
  where
    at : ℕ
    at = tail_at pdu

    behind : List ℕ
    behind = drop at pdu

    by_length : (length pdu < at + 4) ⊎ (at + 4 ≤ length pdu) → text_in pdu (tail_of pdu) (length pdu) ≡ report_text pdu
    by_length (inl few) =
        no_text pdu (tail_of pdu) (length pdu) few
        ∙ ap (λ t. if t then take 200 (drop (16 + number_at 4 8 pdu) pdu) else []) (sym (not_same (16 + number_at 4 8 pdu + number_at 4 at pdu) (length pdu) (omega (arith, few))))
    by_length (inr many) =
        let l = length-drop at pdu in
        let k = length-take 204 behind in
        let four : 4 ≤ length (take 204 behind) = omega (arith, l, k, many) in
        let text : number_at 4 0 (take 204 behind) ≡ number_at 4 at pdu = sym (big_from-append 4 (take 204 behind) (drop 204 behind) four) ∙ ap (big_number 4) (take-append-drop 204 behind) in
        let sum : at + 4 ≡ 16 + number_at 4 8 pdu = omega arith in
        (λ i. if sum i + text i == length pdu then (drop-take 4 200 behind ∙ ap (take 200) (drop-drop 4 at pdu ∙ ap (λ n. drop n pdu) sum)) i else [])

text_front : (front rest tail : List ℕ) → text_in (front ++ rest) tail (length front) ≡ text_in front tail (length front)
text_front front rest tail = elim (cases_lt (length front) 12) [
  | inl few ↦ no_text (front ++ rest) tail (length front) (omega (arith, few)) ∙ sym (no_text front tail (length front) (omega (arith, few)))
  | inr long ↦ ap (λ n. if n + 4 + number_at 4 0 tail == length front then drop 4 tail else []) (at_same front rest long)
]

-- It says so whatever follows.
pub said_is : (pdu rest : List ℕ) → 8 ≤ length pdu → record { code = number_at 2 2 (pdu ++ rest); text = text_in (pdu ++ rest) (tail_of pdu) (length pdu) } ≡ said_in pdu
said_is pdu rest long =
    let code = number_same 2 2 pdu rest (omega (arith, long)) in
    λ i. record { code = code i; text = (text_front pdu rest (tail_of pdu) ∙ text_is pdu) i }

whole_same : (front rest tail : List ℕ) (c : Counted) → 8 ≤ length front → and_whole (take 12 front) tail (length front) c ≡ and_whole (front ++ rest) tail (length front) c
whole_same front rest tail c h =
    let counts : ℕ → Option Serial → Option Said → Counted = λ type serial report. record { pdus = and_pdu type c.pdus; serial = serial; report = report; front = []; tail = []; came = 0 } in
    λ i. counts (twelve ℕ type_of 8 (omega arith) type_of-append front rest h i) (serial_same front rest c.serial h i) (report_same front rest tail c.report h i)

-- a PDU of which the front came
abbrev pub coming : List ℕ → Counted → Counted
coming front c = record c { front = take 12 front; tail = tail_of front; came = length front }

abbrev pub comes_to : List ℕ → List ℕ → ℕ → Counted → Counted
comes_to front tail came c = if nat_le 8 came && nat_le (told_len front) came then and_whole front tail came c else record c { front = front; tail = tail; came = came }

-- the next byte of it
pub one_more : (front : List ℕ) (b : ℕ) (c : Counted) → length front + 1 < 2 ^ 64 → and_byte (coming front c) b ≡ comes_to (take 12 (front ++ b ∷ [])) (tail_of (front ++ b ∷ [])) (length (front ++ b ∷ [])) c
one_more front b c low =
    let l = length-append front (b ∷ []) in
    let n : capped (length front + 1) ≡ length (front ++ b ∷ []) = omega (arith, l, low) in
    (λ i. comes_to (more_front 12 front b i) (and_tail (more_front 12 front b i) (n i) (tail_of front) b) (n i) c)
    ∙ ap (λ tail. comes_to (take 12 (front ++ b ∷ [])) tail (length (front ++ b ∷ [])) c) (more_tail front b)

pub not_yet : (front rest : List ℕ) (c : Counted) → length front < told_len (front ++ rest) → comes_to (take 12 front) (tail_of front) (length front) c ≡ coming front c
not_yet front rest c low = by_test (nat_le 8 (length front)) refl
  where
    ends : Bool → Counted
    ends t = if t then and_whole (take 12 front) (tail_of front) (length front) c else coming front c

    by_test : (t : Bool) → nat_le 8 (length front) ≡ t → ends (t && nat_le (told_len (take 12 front)) (length front)) ≡ coming front c
    by_test false is = refl
    by_test true is =
        let long : 8 ≤ length front = grind (arith, nat_tests) in
        let told = told_same front rest long in
        let more : nat_le (told_len (take 12 front)) (length front) ≡ false = ap (λ n. nat_le n (length front)) told ∙ not_le (told_len (front ++ rest)) (length front) low in
        ap ends more

whole_now : (front rest : List ℕ) (c : Counted) → told_len (front ++ rest) ≡ length front → comes_to (take 12 front) (tail_of front) (length front) c ≡ and_whole (front ++ rest) (tail_of front) (length front) c
whole_now front rest c is =
    let long : 8 ≤ length front = eight (length_of (front ++ rest)) (length front) is in
    let told = told_same front rest long in
    let ends : Bool → Counted = λ t. if t then and_whole (take 12 front) (tail_of front) (length front) c else coming front c in
    ap (λ t. ends (t && nat_le (told_len (take 12 front)) (length front))) (le_true 8 (length front) long)
    ∙ ap ends (ap (λ n. nat_le n (length front)) (told ∙ is) ∙ le_true (length front) (length front) (omega arith))
    ∙ whole_same front rest (tail_of front) c long

-- The bytes of a PDU, behind those that arrived of it
whole_on : (front bytes rest : List ℕ) (c : Counted) → told_len (front ++ (bytes ++ rest)) ≡ length front + length bytes → length front + length bytes < 2 ^ 64 → 0 < length bytes
    → counted_on (coming front c) (bytes ++ rest) ≡ counted_on (and_whole (front ++ (bytes ++ rest)) (tail_of (front ++ bytes)) (length front + length bytes) c) rest
whole_on front [] rest c told low some = absurd (omega (arith, some))
whole_on front (b ∷ []) rest c told low some =
    let l = length-append front (b ∷ []) in
    let whole = append_assoc front (b ∷ []) rest in
    let len : length (front ++ b ∷ []) ≡ length front + 1 = l in
    ap (λ k. counted_on k rest) (one_more front b c (omega (arith, low)) ∙ whole_now (front ++ b ∷ []) rest c (ap told_len whole ∙ told ∙ sym len) ∙ (λ i. and_whole (whole i) (tail_of (front ++ b ∷ [])) (len i) c))
whole_on front (b ∷ d ∷ bytes) rest c told low some =
    let l = length-append front (b ∷ []) in
    let whole = append_assoc front (b ∷ []) (d ∷ bytes ++ rest) in
    let pdu = append_assoc front (b ∷ []) (d ∷ bytes) in
    let len : length (front ++ b ∷ []) + length (d ∷ bytes) ≡ length front + length (b ∷ d ∷ bytes) = omega (arith, l) in
    ap (λ k. counted_on k (d ∷ bytes ++ rest)) (one_more front b c (omega (arith, low)) ∙ not_yet (front ++ b ∷ []) (d ∷ bytes ++ rest) c (let t = ap told_len whole ∙ told in omega (arith, t, l)))
    ∙ whole_on (front ++ b ∷ []) (d ∷ bytes) rest c (ap told_len whole ∙ told ∙ sym len) (omega (arith, len, low)) (omega arith)
    ∙ ap (λ k. counted_on k rest) (λ i. and_whole (whole i) (tail_of (pdu i)) (len i) c)

-- A PDU that is whole in front
pub whole_counts : (c : Counted) (piece : List ℕ) (len : ℕ) → IsBetween c → len ≡ told_len piece → len ≤ length piece → len < 2 ^ 64 → counted_on c piece ≡ counted_on (and_whole piece (tail_of (take len piece)) len c) (drop len piece)
whole_counts c piece len between told fits low =
    let l = length-take-le len piece fits in
    let whole = take-append-drop len piece in
    let sum : length (take len piece) ≡ 0 + length (take len piece) = omega arith in
    let is : told_len (take len piece ++ drop len piece) ≡ 0 + length (take len piece) = ap told_len whole ∙ sym told ∙ sym l ∙ sum in
    let long = eight (length_of piece) len (sym told) in
    let start : List ℕ → List ℕ → ℕ → Counted = λ front tail came. record c { front = front; tail = tail; came = came } in
    let count : ℕ → Counted = λ n. counted_on (and_whole (take len piece ++ drop len piece) (tail_of (take len piece)) n c) (drop len piece) in
    (λ i. counted_on (start (between.no_front i) (between.no_tail i) (between.none_came i)) piece) ∙ ap (counted_on (start [] [] 0)) (sym whole)
    ∙ whole_on [] (take len piece) (drop len piece) c is (omega (arith, l, low)) (omega (arith, l, long))
    ∙ ap count (sym sum ∙ l) ∙ ap (λ xs. counted_on (and_whole xs (tail_of (take len piece)) len c) (drop len piece)) whole

-- what is behind this many bytes
pub behind : (n : ℕ) (xs : List ℕ) → take (length xs - n) (drop n xs) ≡ drop n xs
behind n xs = let l = length-drop n xs in take_all (length xs - n) (drop n xs) (omega (arith, l))

-- it is shorter
pub shorter : (piece : List ℕ) (len : ℕ) → len ≡ told_len piece → len ≤ length piece → length (take (length piece - len) (drop len piece)) + 8 ≤ length piece
shorter piece len told fits =
    let l = ap (λ x. length x) (behind len piece) in
    let k = length-drop len piece in
    let e = eight (length_of piece) len (sym told) in
    omega (arith, l, k, e, fits)

-- no End of Data
other_serial : (bytes : List ℕ) (len : ℕ) (last : Option Serial) → ¬ (type_of bytes ≡ 7) → serial_after bytes len last ≡ last
other_serial bytes len last other = by_test (type_of bytes == 7) refl
  where
    by_test : (t : Bool) → (type_of bytes == 7) ≡ t → (if (type_of bytes == 7) && nat_le 12 len then told bytes else last) ≡ last
    by_test true is = absurd (other (eq_of (type_of bytes) 7 is))
    by_test false is = ap (λ t. if t && nat_le 12 len then told bytes else last) is

-- no Error Report
other_report : (bytes tail : List ℕ) (len : ℕ) (last : Option Said) → ¬ (type_of bytes ≡ 10) → report_after bytes tail len last ≡ last
other_report bytes tail len last other = by_test (type_of bytes == 10) refl
  where
    by_test : (t : Bool) → (type_of bytes == 10) ≡ t → (if t then Some (record { code = number_at 2 2 bytes; text = text_in bytes tail len }) else last) ≡ last
    by_test true is = absurd (other (eq_of (type_of bytes) 10 is))
    by_test false is = refl

-- A PDU that is none is counted, whatever is kept of its bytes.
pub no_report : (bytes tail : List ℕ) (len : ℕ) (c : Counted) → ¬ (type_of bytes ≡ 10) → and_whole bytes tail len c ≡ and_whole bytes [] len c
no_report bytes tail len c other =
    let of : Option Said → Counted = λ report. record { pdus = and_pdu (type_of bytes) c.pdus; serial = serial_after bytes len c.serial; report = report; front = []; tail = []; came = 0 } in
    ap of (other_report bytes tail len c.report other ∙ sym (other_report bytes [] len c.report other))

-- one more, if this many were counted
set_more : (xs : List ℕ) (k n : ℕ) → slice_set (slice_set xs k (capped (slice_index xs k + n))) k (capped (slice_index (slice_set xs k (capped (slice_index xs k + n))) k + 1)) ≡ slice_set xs k (capped (slice_index xs k + (n + 1)))
set_more [] k n = refl
set_more (x ∷ xs) zero n = let e : capped (capped (x + n) + 1) ≡ capped (x + (n + 1)) = omega arith in ap (λ y. y ∷ xs) e
set_more (x ∷ xs) (suc k) n = ap (λ ys. x ∷ ys) (set_more xs k n)

many_more : (bytes tail : List ℕ) (len n type : ℕ) (c : Counted) → type_of bytes ≡ type → IsOnlyCounted type → and_whole bytes tail len (and_many n type c) ≡ and_many (n + 1) type c
many_more bytes tail len n type c is other =
    let of : List ℕ → Option Serial → Option Said → Counted = λ counts serial report. record { pdus = record { counts = counts }; serial = serial; report = report; front = []; tail = []; came = 0 } in
    let counts : ℕ → List ℕ = λ k. (and_pdu k (and_pdus n type c.pdus)).counts in
    let serial = other_serial bytes len c.serial (λ e. other.0 (sym is ∙ e)) in
    let report = other_report bytes tail len c.report (λ e. other.1 (sym is ∙ e)) in
    let more = ap counts is ∙ set_more c.pdus.counts type n in
    λ i. of (more i) (serial i) (report i)

-- a run of one
pub one_run : (c : Counted) (piece : List ℕ) (len : ℕ) → IsBetween c → len ≡ told_len piece → len ≤ length piece → len < 2 ^ 64 → IsOnlyCounted (type_of piece)
    → counted_on c piece ≡ counted_on (and_many 1 (type_of piece) c) (drop len piece)
one_run c piece len between is fits low other =
    let of : Option Serial → Option Said → Counted = λ serial report. record { pdus = and_pdus 1 (type_of piece) c.pdus; serial = serial; report = report; front = []; tail = []; came = 0 } in
    whole_counts c piece len between is fits low ∙ (λ i. counted_on (of (other_serial piece len c.serial other.0 i) (other_report piece (tail_of (take len piece)) len c.report other.1 i)) (drop len piece))

-- one more of a run, at a place
pub passes_at : (bytes : List ℕ) (head len from to n more : ℕ) (c : Counted) → len ≡ max (length_in head) 8 → IsOnlyCounted (type_in head) → to ≡ from + len → to ≤ length bytes → more ≡ n + 1 → ShowsHeader head (drop from bytes)
    → counted_on (and_many n (type_in head) c) (drop from bytes) ≡ counted_on (and_many more (type_in head) c) (drop to bytes)
passes_at bytes head len from to n more c told other next fits one shows =
    let l = length-drop from bytes in
    let told_here : len ≡ told_len (drop from bytes) = told ∙ ap (λ k. max k 8) (sym shows.1) in
    whole_counts (and_many n (type_in head) c) (drop from bytes) len (record { no_front = refl; no_tail = refl; none_came = refl }) told_here (omega (arith, l, next, fits)) (omega (arith, told))
    ∙ ap (λ x. counted_on x (drop len (drop from bytes))) (many_more (drop from bytes) (tail_of (take len (drop from bytes))) len n (type_in head) c shows.0 other)
    ∙ ap (counted_on (and_many (n + 1) (type_in head) c)) (drop-drop len from bytes)
    ∙ (λ i. counted_on (and_many (sym one i) (type_in head) c) (drop (sym next i) bytes))

pub passes_one : (bytes : List ℕ) (head len n : ℕ) (c : Counted) → len ≡ max (length_in head) 8 → IsOnlyCounted (type_in head) → len ≤ length bytes → ShowsHeader head bytes
    → counted_on (and_many n (type_in head) c) bytes ≡ counted_on (and_many (n + 1) (type_in head) c) (drop len bytes)
passes_one bytes head len n c told other fits shows = passes_at bytes head len 0 len n (n + 1) c told other (omega arith) fits refl shows

pub passes_four : (bytes : List ℕ) (head len n : ℕ) (c : Counted) → len ≡ max (length_in head) 8 → IsOnlyCounted (type_in head) → 4 * len ≤ length bytes
    → ShowsHeader head bytes → ShowsHeader head (drop len bytes) → ShowsHeader head (drop (2 * len) bytes) → ShowsHeader head (drop (3 * len) bytes)
    → counted_on (and_many n (type_in head) c) bytes ≡ counted_on (and_many (n + 4) (type_in head) c) (drop (4 * len) bytes)
passes_four bytes head len n c told other fits first second third fourth =
    passes_at bytes head len 0 len n (n + 1) c told other (omega arith) (omega (arith, fits)) refl first
    ∙ passes_at bytes head len len (2 * len) (n + 1) (n + 2) c told other (omega arith) (omega (arith, fits)) (omega arith) second
    ∙ passes_at bytes head len (2 * len) (3 * len) (n + 2) (n + 3) c told other (omega arith) (omega (arith, fits)) (omega arith) third
    ∙ passes_at bytes head len (3 * len) (4 * len) (n + 3) (n + 4) c told other (omega arith) fits (omega arith) fourth

-- Two equal numbers are one header, and two equal lists show one.
pub shows_as : (head other : ℕ) (bytes same : List ℕ) → head ≡ other → bytes ≡ same → ShowsHeader head bytes → ShowsHeader other same
shows_as head other bytes same heads is shows = (ap type_of (sym is) ∙ shows.0 ∙ ap type_in heads, ap length_of (sym is) ∙ shows.1 ∙ ap length_in heads)
