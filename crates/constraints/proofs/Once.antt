-- No text says two things.
use Rattle.std.proofs.Common.{◌≡◌, ◌≢◌, ℕ, ◌+◌, ◌^◌, ◌<◌, ◌≤◌, Bool, true, false, List, [], ◌∷◌, ◌++◌, Option, None, Ok, Err, Result, inl, inr, refl, sym, ap, subst, ◌∙◌, arith, codes}
use Rattle.std.specs.Bool.{MatchBool}
use Rattle.std.specs.Fmt.{decimal}
use Rattle.std.specs.Char.{is_ascii_digit}
use Rattle.std.specs.List.{list_all}
use Rattle.std.specs.Str.Lines.{lines}
use Rattle.std.proofs.lemmas.Fmt.{decimal_injective}
use Rattle.prefixes.specs.Address.{HasNoHostBits}
use Rattle.prefixes.specs.Payload.{block_of, width_of}
use Rattle.prefixes.specs.declared.prefix.IpPrefix.{IpPrefix}
use Rattle.prefixes.specs.declared.prefix.IpPrefix.TheVariants.{V4, V6}
use Rattle.prefix_texts.specs.MixedText.{SaysText, SpellsPrefix}
use Rattle.prefix_texts.proofs.Sayings.{one_saying}
use Rattle.resources.specs.declared.kind.ResourceKind.{ResourceKind}
use Rattle.resources.specs.declared.kind.ResourceKind.TheVariants.{Ipv4, Ipv6, As}
use Rattle.constraints.specs.declared.fault.ConstraintFaultKind.{ConstraintFaultKind}
use Rattle.constraints.specs.declared.fault.ConstraintFaultKind.TheVariants.{NoValue, SecondValue, Value, TooLong, HostBits, AsNumber}
use Rattle.constraints.specs.declared.fault.ConstraintsError.{ConstraintsError}
use Rattle.constraints.specs.declared.fault.ConstraintsError.TheVariants.{At, Memory}
use Rattle.constraints.specs.declared.constraint.Constraint.{Constraint}
use Rattle.constraints.specs.declared.entry.Entry.{Entry}
use Rattle.constraints.specs.Words.{uncommented, words}
use Rattle.constraints.specs.Values.{Then, OfAscii, ReadsNumber, SpellsAddress, ReadsAddress, as_end, ReadsEnd, range_from, ReadsRange, addresses_of, ReadsAddresses, as_alone, ReadsOne, is_dash, ReadsRangeTo, ReadsValue}
use Rattle.constraints.specs.Entries.{action_of, entry_of, ReadsWords, ReadsLine}
use Rattle.constraints.specs.Files.{before, ReadsLines, ReadsFile}
use Rattle.constraints.specs.Laws.{OneReading}

-- what is read is one thing
abbrev One : {A : Type 0} → (Result A ConstraintFaultKind → Type 0) → Type 0
One {A} reads = (r s : Result A ConstraintFaultKind) → reads r → reads s → r ≡ s

-- one part after the other
then_once : {A B : Type 0} (first : Result A ConstraintFaultKind → Type 0) (next : A → Result B ConstraintFaultKind → Type 0) → One first → ((a : A) → One (next a)) → One (Then first next)
then_once first next one more r s (inl (f, h, e)) (inl (g, k, d)) = let same = one (Err f) (Err g) h k in let t : f ≡ g = cc in e ∙ ap Err t ∙ sym d
then_once first next one more r s (inl (f, h, e)) (inr (b, k, d)) = absurd (let same = one (Err f) (Ok b) h k in cc)
then_once first next one more r s (inr (a, h, e)) (inl (g, k, d)) = absurd (let same = one (Ok a) (Err g) h k in cc)
then_once {A} first next one more r s (inr (a, h, e)) (inr (b, k, d)) =
    let same = one (Ok a) (Ok b) h k in let t : a ≡ b = cc in more b r s (subst (λ (x : A). next x r) t e) d

-- an equation says one thing
is_once : {A : Type 0} (x : Result A ConstraintFaultKind) → One (λ r. r ≡ x)
is_once x r s h k = h ∙ sym k

ascii_once : {A : Type 0} (word : List ℕ) (reads : Result A ConstraintFaultKind → Type 0) → One reads → One (OfAscii word reads)
ascii_once word reads one r s (inl h) (inl k) = one r s h.1 k.1
ascii_once word reads one r s (inl h) (inr k) = absurd (omega (arith, h.0 k.0.0, k.0.1))
ascii_once word reads one r s (inr h) (inl k) = absurd (omega (arith, k.0 h.0.0, h.0.1))
ascii_once word reads one r s (inr h) (inr k) = h.1 ∙ sym k.1

match_once : {A : Type 0} (b : Bool) (P Q : Result A ConstraintFaultKind → Type 0) → One P → One Q → One (λ r. MatchBool b (P r) (Q r))
match_once true P Q p q r s h k = p r s h k
match_once false P Q p q r s h k = q r s h k

-- ---- words

number_fault : (text : List ℕ) (f : ConstraintFaultKind) → ReadsNumber text (Err f) → (f ≡ AsNumber) × ((n : ℕ) → n < 2 ^ 32 → ¬ (text ≡ decimal n))
number_fault text AsNumber h = (refl, h)
number_fault text f h = absurd h

number_once : (text : List ℕ) → One (ReadsNumber text)
number_once text (Ok m) (Ok n) h k = ap Ok (decimal_injective m n (omega (arith, h.0)) (omega (arith, k.0)) (sym h.1 ∙ k.1))
number_once text (Ok m) (Err f) h k = absurd ((number_fault text f k).1 m h.0 h.1)
number_once text (Err f) (Ok n) h k = absurd ((number_fault text f h).1 n k.0 k.1)
number_once text (Err f) (Err g) h k = ap Err ((number_fault text f h).0 ∙ sym (number_fault text g k).0)

-- a text of an address, as one of a prefix
as_prefix : ResourceKind → ℕ → IpPrefix
as_prefix Ipv4 n = V4 (record { addr = n; len = 0 })
as_prefix Ipv6 n = V6 (record { addr = n; len = 0 })
as_prefix As n = V4 (record { addr = n; len = 0 })

address_says : (kind : ResourceKind) (n : ℕ) (text : List ℕ) → SpellsAddress kind n text → SaysText (as_prefix kind n) (text ++ codes "/" ++ decimal 0)
unfolding as_prefix
address_says Ipv4 n text h = record { address = text; is_address = h; three_digits = omega arith; text_is = refl }
address_says Ipv6 n text (small, inl h) = inl (record { address = text; is_address = (small, h); three_digits = omega arith; text_is = refl })
address_says Ipv6 n text (small, inr h) = inr (record { address = text; small = small; is_address = h; three_digits = omega arith; text_is = refl })
address_says As n text h = absurd h

one_address : (text : List ℕ) (kind other : ResourceKind) (m n : ℕ) → SpellsAddress kind m text → SpellsAddress other n text → (kind ≡ other) × (m ≡ n)
unfolding as_prefix
one_address text kind other m n h k = by kind other h k (one_saying (text ++ codes "/" ++ decimal 0) (as_prefix kind m) (as_prefix other n) (address_says kind m text h) (address_says other n text k))
  where
    by : (kind other : ResourceKind) → SpellsAddress kind m text → SpellsAddress other n text → as_prefix kind m ≡ as_prefix other n → (kind ≡ other) × (m ≡ n)
    by Ipv4 Ipv4 h k e = (refl, ap (λ p. (block_of p).addr) e)
    by Ipv6 Ipv6 h k e = (refl, ap (λ p. (block_of p).addr) e)
    by Ipv4 Ipv6 h k e = absurd cc
    by Ipv6 Ipv4 h k e = absurd cc
    by As other h k e = absurd h
    by Ipv4 As h k e = absurd k
    by Ipv6 As h k e = absurd k

address_fault : (text : List ℕ) (f : ConstraintFaultKind) → ReadsAddress text (Err f) → (f ≡ Value) × ((kind : ResourceKind) (n : ℕ) → ¬ (SpellsAddress kind n text))
address_fault text Value h = (refl, h)
address_fault text f h = absurd h

address_once : (text : List ℕ) → One (ReadsAddress text)
address_once text (Ok a) (Ok b) h k = let e = one_address text a.kind b.kind a.number b.number h k in λ i. Ok (record { kind = e.0 i; number = e.1 i })
address_once text (Ok a) (Err f) h k = absurd ((address_fault text f k).1 a.kind a.number h)
address_once text (Err f) (Ok b) h k = absurd ((address_fault text f h).1 b.kind b.number k)
address_once text (Err f) (Err g) h k = ap Err ((address_fault text f h).0 ∙ sym (address_fault text g k).0)

end_once : (word : List ℕ) → One (ReadsEnd word)
end_once word =
    ascii_once word (λ r. MatchBool (list_all is_ascii_digit word) (Then (ReadsNumber word) (λ n q. q ≡ Ok (as_end n)) r) (ReadsAddress word r))
    (match_once (list_all is_ascii_digit word) (Then (ReadsNumber word) (λ n q. q ≡ Ok (as_end n))) (ReadsAddress word)
    (then_once (ReadsNumber word) (λ n q. q ≡ Ok (as_end n)) (number_once word) (λ n. is_once (Ok (as_end n)))) (address_once word))

range_once : (begin end : List ℕ) → One (ReadsRange begin end)
range_once begin end =
    then_once (ReadsEnd begin) (λ low. Then (ReadsEnd end) (λ high r. r ≡ range_from low high)) (end_once begin)
    (λ low. then_once (ReadsEnd end) (λ high r. r ≡ range_from low high) (end_once end) (λ high. is_once (range_from low high)))

-- why a text is no prefix, by the fault
as_value : (text : List ℕ) (g : ConstraintFaultKind) → ReadsAddresses text (Err Value) → ReadsAddresses text (Err g) → Value ≡ g
as_value text Value h k = refl
as_value text TooLong h k = absurd (h k.0 k.1)
as_value text HostBits h k = absurd (h k.0 k.1)
as_value text g h k = absurd k

as_long : (text : List ℕ) (g : ConstraintFaultKind) → ReadsAddresses text (Err TooLong) → ReadsAddresses text (Err g) → TooLong ≡ g
as_long text Value h k = absurd (k h.0 h.1)
as_long text TooLong h k = refl
as_long text HostBits h k = let e = one_saying text h.0 k.0 h.1 k.1 in let fits = subst (λ (p : IpPrefix). (block_of p).len ≤ width_of p) (sym e) k.2 in absurd (omega (arith, h.2, fits))
as_long text g h k = absurd k

as_host : (text : List ℕ) (g : ConstraintFaultKind) → ReadsAddresses text (Err HostBits) → ReadsAddresses text (Err g) → HostBits ≡ g
as_host text Value h k = absurd (k h.0 h.1)
as_host text HostBits h k = refl
as_host text TooLong h k = let e = one_saying text h.0 k.0 h.1 k.1 in let fits = subst (λ (p : IpPrefix). (block_of p).len ≤ width_of p) e h.2 in absurd (omega (arith, k.2, fits))
as_host text g h k = absurd k

faulty : (text : List ℕ) (f g : ConstraintFaultKind) → ReadsAddresses text (Err f) → ReadsAddresses text (Err g) → f ≡ g
faulty text Value g h k = as_value text g h k
faulty text TooLong g h k = as_long text g h k
faulty text HostBits g h k = as_host text g h k
faulty text f g h k = absurd h

no_fault : (text : List ℕ) (p : IpPrefix) (f : ConstraintFaultKind) → SpellsPrefix p text → ReadsAddresses text (Err f) → ⊥
no_fault text p Value h k = k p h.says
no_fault text p TooLong h k = let e = one_saying text k.0 p k.1 h.says in let fits = subst (λ (q : IpPrefix). (block_of q).len ≤ width_of q) (sym e) h.is_prefix.in_family in omega (arith, k.2, fits)
no_fault text p HostBits h k = let e = one_saying text k.0 p k.1 h.says in k.3 (subst (λ (q : IpPrefix). HasNoHostBits (width_of q) (block_of q).addr (block_of q).len) (sym e) h.is_prefix.no_host_bits)
no_fault text p f h k = k

addresses_once : (text : List ℕ) → One (ReadsAddresses text)
addresses_once text (Ok a) (Ok b) (p, h, e) (q, k, d) = ap Ok (e ∙ ap addresses_of (one_saying text p q h.says k.says) ∙ sym d)
addresses_once text (Ok a) (Err f) (p, h, e) k = absurd (no_fault text p f h k)
addresses_once text (Err f) (Ok b) h (q, k, d) = absurd (no_fault text q f k h)
addresses_once text (Err f) (Err g) h k = ap Err (faulty text f g h k)

one_once : (word : List ℕ) → One (ReadsOne word)
one_once word =
    ascii_once word (λ r. MatchBool (list_all is_ascii_digit word) (Then (ReadsNumber word) (λ n q. q ≡ Ok (as_alone n)) r) (ReadsAddresses word r))
    (match_once (list_all is_ascii_digit word) (Then (ReadsNumber word) (λ n q. q ≡ Ok (as_alone n))) (ReadsAddresses word)
    (then_once (ReadsNumber word) (λ n q. q ≡ Ok (as_alone n)) (number_once word) (λ n. is_once (Ok (as_alone n)))) (addresses_once word))

range_to_once : (begin : List ℕ) (more : List (List ℕ)) → One (ReadsRangeTo begin more)
range_to_once begin [] = is_once (Err NoValue)
range_to_once begin (end ∷ []) = range_once begin end
range_to_once begin (end ∷ second ∷ more) = is_once (Err SecondValue)

value_once : (more : List (List ℕ)) → One (ReadsValue more)
value_once [] = is_once (Err NoValue)
value_once (value ∷ []) = one_once value
value_once (value ∷ next ∷ more) = match_once (is_dash next) (ReadsRangeTo value more) (λ r. r ≡ Err SecondValue) (range_to_once value more) (is_once (Err SecondValue))

words_once : (all : List (List ℕ)) → One (ReadsWords all)
words_once [] = is_once (Ok None)
words_once (word ∷ more) =
    then_once (λ q. q ≡ action_of word) (λ action. Then (ReadsValue more) (λ numbers q. q ≡ Ok (entry_of action numbers))) (is_once (action_of word))
    (λ action. then_once (ReadsValue more) (λ numbers q. q ≡ Ok (entry_of action numbers)) (value_once more) (λ numbers. is_once (Ok (entry_of action numbers))))

line_once : (line : List ℕ) → One (ReadsLine line)
line_once line = words_once (words (uncommented line))

-- ---- files

lines_once : (n : ℕ) (all : List (List ℕ)) (r s : Result (List Constraint) ConstraintsError) → ReadsLines n all r → ReadsLines n all s → r ≡ s
lines_once n [] r s h k = h ∙ sym k
lines_once n (line ∷ more) r s (inl (f, h, e)) (inl (g, k, d)) = let same = line_once line (Err f) (Err g) h k in let t : f ≡ g = cc in e ∙ ap (λ (x : ConstraintFaultKind). Err (At x n)) t ∙ sym d
lines_once n (line ∷ more) r s (inl (f, h, e)) (inr (o, q, k, l, d)) = absurd (let same = line_once line (Err f) (Ok o) h k in cc)
lines_once n (line ∷ more) r s (inr (o, q, k, l, d)) (inl (f, h, e)) = absurd (let same = line_once line (Ok o) (Err f) k h in cc)
lines_once n (line ∷ more) r s (inr (o, q, k, l, d)) (inr (p, t, h, m, e)) =
    let same = line_once line (Ok o) (Ok p) k h in
    let entry : o ≡ p = cc in
    let rest : q ≡ t = lines_once (n + 1) more q t l m in
    d ∙ ap (λ (x : Option Entry). before n x q) entry ∙ ap (before n p) rest ∙ sym e

of_file : (bytes : List ℕ) (r : Result (List Constraint) ConstraintsError) → r ≢ Err Memory → ReadsFile bytes r → ReadsLines 1 (lines bytes) r
of_file bytes (Ok es) some h = h
of_file bytes (Err (At f n)) some h = h
of_file bytes (Err Memory) some h = absurd (some refl)

pub one_reading : OneReading
one_reading bytes r s some other h k = lines_once 1 (lines bytes) r s (of_file bytes r some h) (of_file bytes s other k)
