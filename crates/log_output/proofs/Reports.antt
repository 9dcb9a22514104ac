-- The report of dropped lines, as bytes come and go.
use Rattle.std.proofs.Common.{◌≡◌, ℕ, zero, suc, ◌+◌, ◌-◌, ◌≤◌, ◌<◌, nat_lt, Bool, true, false, if◌then◌else◌, List, [], ◌∷◌, ◌++◌, length, take, drop, Option, Some, None, refl, sym, ap, ◌∙◌, arith, cond, append_assoc}
use Rattle.std.specs.Prelude.{slice_get}
use Rattle.std.proofs.lemmas.Bool.Decides.{nat_tests}
use Rattle.std.proofs.lemmas.List.{drop-drop, length-append}
use Rattle.std.proofs.lemmas.List.Sums.{sum_by-cons}
use Rattle.log_output.specs.Buffers.{Buffered, after_written, buffered, is_newline, is_torn_after, lines_in, report_behind, report_of, report_within, reported_within, reports_behind}
use Rattle.log_output.specs.Logs.{EndsLine, reports_given_up}
use Rattle.log_output.specs.declared.report.WaitingReport.{WaitingReport}
use Rattle.log_output.proofs.OneLine.{newline}
use Rattle.log_output.proofs.Torn.{get-at, get-drop, get-more, get-take, take_on, torn-append}

-- ---- some bytes after others

same_parts : (lost : ℕ) (b₁ b₂ : List ℕ) (d₁ d₂ : ℕ) (r₁ r₂ : Option WaitingReport) (t₁ t₂ : Bool)
    → b₁ ≡ b₂ → d₁ ≡ d₂ → r₁ ≡ r₂ → t₁ ≡ t₂ → buffered b₁ lost d₁ r₁ t₁ ≡ buffered b₂ lost d₂ r₂ t₂
same_parts lost b₁ b₂ d₁ d₂ r₁ r₂ t₁ t₂ p q r t =
    ap (λ x. buffered x lost d₁ r₁ t₁) p ∙ ap (λ x. buffered b₂ lost x r₁ t₁) q ∙ ap (λ x. buffered b₂ lost d₂ x t₁) r ∙ ap (λ x. buffered b₂ lost d₂ r₂ x) t

pub none_written : (b : Buffered) → after_written 0 b ≡ b
none_written b =
    same_parts b.lost b.bytes b.bytes _ b.dropped _ b.report b.torn b.torn refl (lines b.report) (report b.report) refl
  where
    lines : (r : Option WaitingReport) → b.dropped - reported_within 0 r ≡ b.dropped
    lines None = omega arith
    lines (Some r) =
        let later : nat_lt r.last 0 ≡ false = grind (arith, nat_tests) in
        rw later (omega arith)

    report : (r : Option WaitingReport) → report_behind 0 r ≡ r
    report None = refl
    report (Some r) =
        let later : nat_lt r.last 0 ≡ false = grind (arith, nat_tests) in
        let place : r.last - 0 ≡ r.last = omega arith in
        rw later (ap (λ n. Some (report_of r.lines n)) place)

-- a place behind n bytes, judged by the bytes that follow
later_place : (i n m : ℕ) → nat_lt i n ≡ false → nat_lt (i - n) m ≡ nat_lt i (n + m)
later_place i n m h = by (nat_lt i (n + m)) refl
  where
    by : (t : Bool) → nat_lt i (n + m) ≡ t → nat_lt (i - n) m ≡ t
    by true e = grind (arith, nat_tests)
    by false e = grind (arith, nat_tests)

sooner_place : (i n m : ℕ) → nat_lt i n ≡ true → nat_lt i (n + m) ≡ true
sooner_place i n m h = grind (arith, nat_tests)

lines_on : (n m d : ℕ) (r : Option WaitingReport) → d - reported_within n r - reported_within m (report_behind n r) ≡ d - reported_within (n + m) r
lines_on n m d None = omega arith
lines_on n m d (Some r) = by (nat_lt r.last n) refl
  where
    by : (t : Bool) → nat_lt r.last n ≡ t
        → d - reported_within n (Some r) - reported_within m (report_behind n (Some r)) ≡ d - reported_within (n + m) (Some r)
    by true e = rw (e, sooner_place r.last n m e) (omega arith)
    by false e = rw (e, later_place r.last n m e) (omega arith)

report_on : (n m : ℕ) (r : Option WaitingReport) → report_behind m (report_behind n r) ≡ report_behind (n + m) r
report_on n m None = refl
report_on n m (Some r) = by (nat_lt r.last n) refl
  where
    by : (t : Bool) → nat_lt r.last n ≡ t → report_behind m (report_behind n (Some r)) ≡ report_behind (n + m) (Some r)
    by true e = rw (e, sooner_place r.last n m e) refl
    by false e =
        let place : r.last - n - m ≡ r.last - (n + m) = omega arith in
        rw (e, later_place r.last n m e, place) refl

pub written_on : (n m : ℕ) (b : Buffered) → after_written m (after_written n b) ≡ after_written (n + m) b
written_on n m b =
    same_parts b.lost _ _ _ _ _ _ _ _ (drop-drop m n b.bytes) (lines_on n m b.dropped b.report) (report_on n m b.report)
    (sym (torn-append b.torn (take n b.bytes) (take m (drop n b.bytes))) ∙ ap (is_torn_after b.torn) (sym (take_on n m b.bytes)))

-- ---- a report ends a line

pub ends_behind : (n : ℕ) (r : Option WaitingReport) (bytes : List ℕ) → EndsLine r bytes → EndsLine (report_behind n r) (drop n bytes)
ends_behind n None bytes ends = tt
ends_behind n (Some r) bytes ends = by (nat_lt r.last n) refl
  where
    by : (t : Bool) → nat_lt r.last n ≡ t → EndsLine (if t then None else Some (report_of r.lines (r.last - n))) (drop n bytes)
    by true e = tt
    by false e = let past : n ≤ r.last = grind (arith, nat_tests) in ap is_newline (get-drop n bytes r.last past) ∙ ends

pub ends_within : (n : ℕ) (r : Option WaitingReport) (bytes : List ℕ) → EndsLine r bytes → EndsLine (report_within n r) (take n bytes)
ends_within n None bytes ends = tt
ends_within n (Some r) bytes ends = by (nat_lt r.last n) refl
  where
    by : (t : Bool) → nat_lt r.last n ≡ t → EndsLine (if t then Some r else None) (take n bytes)
    by true e = let before : r.last < n = grind (arith, nat_tests) in ap is_newline (get-take n bytes r.last before) ∙ ends
    by false e = tt

pub ends_more : (r : Option WaitingReport) (bytes line : List ℕ) → EndsLine r bytes → EndsLine r (bytes ++ line)
ends_more None bytes line ends = tt
ends_more (Some r) bytes line ends = get-more bytes line r.last ends

-- the last byte of a line behind others
pub ends_last : (bytes body line : List ℕ) → line ≡ body ++ 10 ∷ [] → is_newline (slice_get (bytes ++ line) (length bytes + length line - 1)) ≡ true
ends_last bytes body line e =
    let place : length bytes + length line - 1 ≡ length (bytes ++ body) =
    omega (arith, ap length e, length-append body (10 ∷ []), length-append bytes body) in
    ap (λ i. is_newline (slice_get (bytes ++ line) i)) place
    ∙ ap (λ l. is_newline (slice_get (bytes ++ l) (length (bytes ++ body)))) e
    ∙ ap (λ l. is_newline (slice_get l (length (bytes ++ body)))) (sym (append_assoc bytes body (10 ∷ [])))
    ∙ ap is_newline (get-at (bytes ++ body) 10)

-- ---- a report that is given up

some_line : (xs : List ℕ) (i : ℕ) → is_newline (slice_get xs i) ≡ true → 1 ≤ lines_in xs
some_line [] i h = absurd (apart h)
  where
    apart : false ≡ true → ⊥
    apart e = cc
some_line (x ∷ xs) zero h =
    let one : newline x ≡ 1 = ap (λ (t : Bool). cond {A = ℕ} t 1 0) h in
    omega (arith, sum_by-cons newline x xs, one)
some_line (x ∷ xs) (suc i) h = omega (arith, sum_by-cons newline x xs, some_line xs i h)

-- It is one of the lines behind the first bytes.
pub behind_counted : (n : ℕ) (r : Option WaitingReport) (bytes : List ℕ) → EndsLine r bytes → reports_behind n r ≤ lines_in (drop n bytes)
behind_counted n None bytes ends = omega arith
behind_counted n (Some r) bytes ends = by (nat_lt r.last n) refl
  where
    by : (t : Bool) → nat_lt r.last n ≡ t → (if t then 0 else 1) ≤ lines_in (drop n bytes)
    by true e = omega arith
    by false e =
        let past : n ≤ r.last = grind (arith, nat_tests) in
        some_line (drop n bytes) (r.last - n) (ap is_newline (get-drop n bytes r.last past) ∙ ends)

pub none_given_up : (n : ℕ) (r : Option WaitingReport) → reports_given_up n r (report_behind n r) ≡ 0
none_given_up n None = refl
none_given_up n (Some r) = by (nat_lt r.last n) refl
  where
    by : (t : Bool) → nat_lt r.last n ≡ t → reports_given_up n (Some r) (if t then None else Some (report_of r.lines (r.last - n))) ≡ 0
    by true e = ap (λ (t : Bool). cond {A = ℕ} t 0 1) e
    by false e = refl

pub given_up : (n kept : ℕ) (r : Option WaitingReport) → reports_given_up n r (report_within kept (report_behind n r)) ≡ reports_behind kept (report_behind n r)
given_up n kept None = refl
given_up n kept (Some r) = by (nat_lt r.last n) refl
  where
    later : WaitingReport
    later = report_of r.lines (r.last - n)

    again : (u : Bool) → nat_lt r.last n ≡ false → reports_given_up n (Some r) (if u then Some later else None) ≡ (if u then 0 else 1)
    again true e = refl
    again false e = ap (λ (t : Bool). cond {A = ℕ} t 0 1) e

    by : (t : Bool) → nat_lt r.last n ≡ t
        → reports_given_up n (Some r) (report_within kept (if t then None else Some later)) ≡ reports_behind kept (if t then None else Some later)
    by true e = ap (λ (t : Bool). cond {A = ℕ} t 0 1) e
    by false e = again (nat_lt (r.last - n) kept) e
