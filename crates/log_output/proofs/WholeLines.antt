-- The output, and the bytes that wait behind it, are whole lines.
use Rattle.std.proofs.Common.{◌≡◌, ℕ, suc, ◌+◌, ◌==◌, ◌⊎◌, inl, inr, not, Bool, true, false, if◌then◌else◌, List, [], ◌∷◌, ◌++◌, length, take, drop, get_or, refl, sym, ap, ◌∙◌, arith, cond, append-nil, append_assoc, length-append}
use Rattle.std.specs.List.{concat}
use Rattle.std.proofs.lemmas.List.{take-append-drop, take_at}
use Rattle.std.proofs.lemmas.List.Sums.{sum_by-cons}
use Rattle.event_log.specs.declared.line.LogFormat.{LogFormat}
use Rattle.log_output.specs.Buffers.{Buffered, after_loss, after_written, and_line, and_lost, and_report, is_torn_after, kept_bytes, line_length}
use Rattle.log_output.specs.Logs.{AreEventLines, IsEventLine, IsWhole}
use Rattle.log_output.proofs.OneLine.{Ended, Unbroken, ended_line, newline}
use Rattle.log_output.proofs.Reports.{ends_behind, ends_last, ends_more, ends_within}
use Rattle.log_output.proofs.Torn.{torn-append}

closed : (format : LogFormat) (line : List ℕ) → IsEventLine format line → Ended line
closed format line is = ended_line format is.seconds is.event line is.is

-- ---- a place in a list of lines

-- the first byte of what has no newline, and the others
record Parts (x : ℕ) (xs : List ℕ) : Type 0 where
  other : (x == 10) ≡ false
  others : Unbroken xs

parts : (x : ℕ) (xs : List ℕ) → Unbroken (x ∷ xs) → Parts x xs
parts x xs u = by (x == 10) refl
  where
    by : (t : Bool) → (x == 10) ≡ t → Parts x xs
    by true e =
        let one : newline x ≡ 1 = ap (λ (t : Bool). cond {A = ℕ} t 1 0) e in
        absurd (omega (arith, u, sum_by-cons newline x xs, one))
    by false e =
        let none : newline x ≡ 0 = ap (λ (t : Bool). cond {A = ℕ} t 1 0) e in
        record { other = e; others = omega (arith, u, sum_by-cons newline x xs, none) }

length_of : (body rest : List ℕ) → Unbroken body → line_length (body ++ 10 ∷ rest) ≡ length body + 1
length_of [] rest u = refl
length_of (x ∷ xs) rest u =
    let p = parts x xs u in
    let one_more : suc (length xs + 1) ≡ suc (length xs) + 1 = omega arith in
    ap (λ (t : Bool). if t then 1 else suc (line_length (xs ++ 10 ∷ rest))) p.other ∙ ap suc (length_of xs rest p.others) ∙ one_more

-- The bytes begin behind the line,
record Passed (body rest out bytes : List ℕ) : Type 0 where
  later : List ℕ
  out_is : out ≡ body ++ 10 ∷ later
  bytes_are : later ++ bytes ≡ rest

-- or in it: then they begin with what is left of it.
record Inside (body rest out bytes : List ℕ) : Type 0 where
  left : List ℕ
  line_is : out ++ left ≡ body ++ 10 ∷ []
  bytes_are : bytes ≡ left ++ rest
  long : line_length bytes ≡ length left
  torn : is_torn_after true out ≡ true

place : (body rest out bytes : List ℕ) → Unbroken body → out ++ bytes ≡ body ++ 10 ∷ rest → Passed body rest out bytes ⊎ Inside body rest out bytes
place [] rest [] bytes u e = inr (record { left = 10 ∷ []; line_is = refl; bytes_are = e; long = ap line_length e; torn = refl })
place [] rest (c ∷ out) bytes u e =
    inl (record { later = out; out_is = ap (λ z. z ∷ out) (ap (λ l. get_or l 0 0) e); bytes_are = ap (λ l. drop 1 l) e })
place (x ∷ body) rest [] bytes u e = inr (record {
  left = x ∷ body ++ 10 ∷ [];
  line_is = refl;
  bytes_are = e ∙ sym (append_assoc (x ∷ body) (10 ∷ []) rest);
  long = ap line_length e ∙ length_of (x ∷ body) rest u ∙ sym (length-append (x ∷ body) (10 ∷ []));
  torn = refl;
})
place (x ∷ body) rest (c ∷ out) bytes u e = by (place body rest out bytes p.others (ap (λ l. drop 1 l) e))
  where
    p : Parts x body
    p = parts x body u

    same : c ≡ x
    same = ap (λ l. get_or l 0 0) e

    by : Passed body rest out bytes ⊎ Inside body rest out bytes → Passed (x ∷ body) rest (c ∷ out) bytes ⊎ Inside (x ∷ body) rest (c ∷ out) bytes
    by (inl q) = inl (record {
      later = q.later;
      out_is = ap (λ z. z ∷ out) same ∙ ap (λ l. x ∷ l) q.out_is;
      bytes_are = q.bytes_are;
    })
    by (inr q) = inr (record {
      left = q.left;
      line_is = ap (λ z. z ∷ (out ++ q.left)) same ∙ ap (λ l. x ∷ l) q.line_is;
      bytes_are = q.bytes_are;
      long = q.long;
      torn = ap (λ z. is_torn_after (not (z == 10)) out) same ∙ ap (λ (t : Bool). is_torn_after (not t) out) p.other ∙ q.torn;
    })

-- ---- the rest of a torn line is kept

-- what is kept of the bytes behind an output
abbrev kept_of : Bool → List ℕ → List ℕ
kept_of torn bytes = take (if torn then line_length bytes else 0) bytes

record Kept (format : LogFormat) (out bytes : List ℕ) : Type 0 where
  lines : List (List ℕ)
  each : AreEventLines format lines
  joins : out ++ kept_of (is_torn_after false out) bytes ≡ concat lines

kept_inside : (format : LogFormat) (line : List ℕ) (is : IsEventLine format line) (body rest out bytes : List ℕ)
    → line ≡ body ++ 10 ∷ [] → Inside body rest out bytes → Kept format out bytes
kept_inside format line is body rest [] bytes e p = record { lines = []; each = tt; joins = refl }
kept_inside format line is body rest (c ∷ out) bytes e p = record {
  lines = line ∷ [];
  each = (is, tt);
  joins =
      ap (λ (t : Bool). c ∷ out ++ kept_of t bytes) p.torn
      ∙ ap (λ n. c ∷ out ++ take n bytes) p.long
      ∙ ap (λ l. c ∷ out ++ take (length p.left) l) p.bytes_are
      ∙ ap (λ l. c ∷ out ++ l) (take_at p.left rest (length p.left) refl)
      ∙ p.line_is
      ∙ sym e
      ∙ sym (append-nil line);
}

kept_behind : (format : LogFormat) (line : List ℕ) (is : IsEventLine format line) (body rest out bytes : List ℕ)
    → line ≡ body ++ 10 ∷ [] → (p : Passed body rest out bytes) → Kept format p.later bytes → Kept format out bytes
kept_behind format line is body rest out bytes e p more =
    let kept = kept_of (is_torn_after false p.later) bytes in
    record {
      lines = line ∷ more.lines;
      each = (is, more.each);
      joins =
          ap (λ (t : Bool). out ++ kept_of t bytes) (ap (is_torn_after false) p.out_is ∙ torn-append false body (10 ∷ p.later))
          ∙ ap (λ o. o ++ kept) p.out_is
          ∙ append_assoc body (10 ∷ p.later) kept
          ∙ ap (λ x. body ++ 10 ∷ x) more.joins
          ∙ sym (append_assoc body (10 ∷ []) (concat more.lines))
          ∙ ap (λ x. x ++ concat more.lines) (sym e);
    }

kept_by : (format : LogFormat) (line : List ℕ) (is : IsEventLine format line) (body rest out bytes : List ℕ)
    → line ≡ body ++ 10 ∷ [] → ((later : List ℕ) → later ++ bytes ≡ rest → Kept format later bytes)
    → Passed body rest out bytes ⊎ Inside body rest out bytes → Kept format out bytes
kept_by format line is body rest out bytes e more (inl p) = kept_behind format line is body rest out bytes e p (more p.later p.bytes_are)
kept_by format line is body rest out bytes e more (inr p) = kept_inside format line is body rest out bytes e p

kept_lines : (format : LogFormat) (lines : List (List ℕ)) (out bytes : List ℕ) → AreEventLines format lines → out ++ bytes ≡ concat lines → Kept format out bytes
kept_lines format [] [] bytes each e = record { lines = []; each = tt; joins = refl }
kept_lines format [] (c ∷ out) bytes each e = absurd (omega (arith, ap length e))
kept_lines format (line ∷ lines) out bytes each e =
    let ended = closed format line each.0 in
    kept_by format line each.0 ended.body (concat lines) out bytes ended.ends (λ later h. kept_lines format lines later bytes each.1 h)
    (place ended.body (concat lines) out bytes ended.unbroken (e ∙ ap (λ x. x ++ concat lines) ended.ends ∙ append_assoc ended.body (10 ∷ []) (concat lines)))

-- ---- each step keeps it

pub whole_written : (format : LogFormat) (output : List ℕ) (n : ℕ) (b : Buffered) → IsWhole format output b → IsWhole format (output ++ take n b.bytes) (after_written n b)
whole_written format output n b w = record {
  lines = w.lines;
  each = w.each;
  joined = append_assoc output (take n b.bytes) (drop n b.bytes) ∙ ap (λ l. output ++ l) (take-append-drop n b.bytes) ∙ w.joined;
  torn = ap (λ (t : Bool). is_torn_after t (take n b.bytes)) w.torn ∙ sym (torn-append false output (take n b.bytes));
  report = ends_behind n b.report b.bytes w.report;
}

pub whole_loss : (format : LogFormat) (output : List ℕ) (b : Buffered) → IsWhole format output b → IsWhole format output (after_loss b)
whole_loss format output b w =
    let kept = kept_lines format w.lines output b.bytes w.each w.joined in
    record {
      lines = kept.lines;
      each = kept.each;
      joined = ap (λ (t : Bool). output ++ kept_of t b.bytes) w.torn ∙ kept.joins;
      torn = w.torn;
      report = ends_within (kept_bytes b) b.report b.bytes w.report;
    }

pub whole_lost : (format : LogFormat) (output : List ℕ) (n : ℕ) (b : Buffered) → IsWhole format output b → IsWhole format output (and_lost n b)
whole_lost format output n b w = record { lines = w.lines; each = w.each; joined = w.joined; torn = w.torn; report = w.report }

each-push : (format : LogFormat) (lines : List (List ℕ)) (line : List ℕ) → AreEventLines format lines → IsEventLine format line → AreEventLines format (lines ++ line ∷ [])
each-push format [] line each is = (is, tt)
each-push format (l ∷ lines) line each is = (each.0, each-push format lines line each.1 is)

concat-push : (lines : List (List ℕ)) (line : List ℕ) → concat (lines ++ line ∷ []) ≡ concat lines ++ line
concat-push [] line = append-nil line
concat-push (l ∷ lines) line = ap (λ x. l ++ x) (concat-push lines line) ∙ sym (append_assoc l (concat lines) line)

joined_by : (output bytes line : List ℕ) (lines : List (List ℕ)) → output ++ bytes ≡ concat lines → output ++ (bytes ++ line) ≡ concat (lines ++ line ∷ [])
joined_by output bytes line lines e = sym (append_assoc output bytes line) ∙ ap (λ x. x ++ line) e ∙ sym (concat-push lines line)

pub whole_line : (format : LogFormat) (output line : List ℕ) (b : Buffered) → IsEventLine format line → IsWhole format output b → IsWhole format output (and_line line b)
whole_line format output line b is w = record {
  lines = w.lines ++ line ∷ [];
  each = each-push format w.lines line w.each is;
  joined = joined_by output b.bytes line w.lines w.joined;
  torn = w.torn;
  report = ends_more b.report b.bytes line w.report;
}

pub whole_report : (format : LogFormat) (output line : List ℕ) (b : Buffered) → IsEventLine format line → IsWhole format output b → IsWhole format output (and_report line b)
whole_report format output line b is w =
    let ended = closed format line is in
    record {
      lines = w.lines ++ line ∷ [];
      each = each-push format w.lines line w.each is;
      joined = joined_by output b.bytes line w.lines w.joined;
      torn = w.torn;
      report = ends_last b.bytes ended.body line ended.ends;
    }
