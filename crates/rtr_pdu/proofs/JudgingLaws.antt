-- What bytes are judged to be is what they are.
use Rattle.std.specs.Prelude.{◌≡◌, ◌⊎◌, ◌↔◌, ℕ, ◌<◌, ◌≤◌, Bool, true, false, not, ◌&&◌, ◌==◌, nat_lt, nat_le, List, [], ◌++◌, length, Option, Some, None, if◌then◌else◌, refl}
use Rattle.std.proofs.Common.{sym, ap, ◌∙◌, subst, arith, inl, inr}
use Rattle.std.proofs.lemmas.Bool.{and_parts, cases_lt}
use Rattle.std.proofs.lemmas.Bool.Decides.{nat_tests}
use Rattle.std.proofs.lemmas.List.{append-nil, length-append}
use Rattle.std.proofs.lemmas.Str.{IsUtf8-from_is_utf8, is_utf8-from_IsUtf8}
use Rattle.rtr_pdu.specs.Version.{version_number}
use Rattle.rtr_pdu.specs.declared.version.Version.{Version}
use Rattle.rtr_pdu.specs.declared.unit.Unit.{Unit}
use Rattle.rtr_pdu.specs.declared.unit.UnitFault.{UnitFault}
use Rattle.rtr_pdu.specs.declared.unit.UnitFault.TheVariants as faults
use Rattle.rtr_pdu.specs.Judging.{unit_in, has_record, has_report, body_fault, Judgement, Begins, Whole, Faulty, by_body, by_header, judge}
use Rattle.rtr_pdu.specs.Payloads.{AreBytes}
use Rattle.rtr_pdu.specs.Kind.{is_type, has_length}
use Rattle.rtr_pdu.specs.Stream.{as_read, version_of, type_of, length_of, header_fault, IsPartial, IsWhole, IsRecord, IsReport, Shows}
use Rattle.rtr_pdu.specs.Unit.{spelled, Reads}
use Rattle.rtr_pdu.proofs.JudgeLaws.{chain, false_true, judged, IsJudged}
use Rattle.rtr_pdu.proofs.ModeLaws.{length-as_read}
use Rattle.rtr_pdu.proofs.SplitLaws.{AreBytes-as_read}
use Rattle.rtr_pdu.proofs.StreamLaws.{not_shown}
use Rattle.rtr_pdu.proofs.UnitLaws.{unit_in-spelled, opens}

-- tests of numbers
lt_true : (a b : ℕ) → a < b → nat_lt a b ≡ true
lt_true a b h = grind (arith, nat_tests)

lt_false : (a b : ℕ) → b ≤ a → nat_lt a b ≡ false
lt_false a b h = grind (arith, nat_tests)

le_true : (a b : ℕ) → a ≤ b → nat_le a b ≡ true
le_true a b h = grind (arith, nat_tests)

le_of : (a b : ℕ) → nat_le a b ≡ true → a ≤ b
le_of a b h = grind (arith, nat_tests)

eq_true : (a b : ℕ) → a ≡ b → (a == b) ≡ true
eq_true a b h = grind (arith, nat_tests)

eq_of : (a b : ℕ) → (a == b) ≡ true → a ≡ b
eq_of a b h = grind (arith, nat_tests)

-- a test that is not passed
not_passed : (b : Bool) → (b ≡ true → ⊥) → b ≡ false
not_passed true h = absurd (h refl)
not_passed false h = refl

-- the tests of records and reports
record_of : (width : ℕ) (bytes : List ℕ) → has_record width bytes ≡ true → IsRecord width bytes
record_of width bytes h =
    let first = and_parts _ _ h in
    let second = and_parts _ _ first.1 in
    (le_of _ _ first.0, le_of _ _ second.0, eq_of _ _ second.1)

record_true : (width : ℕ) (bytes : List ℕ) → IsRecord width bytes → has_record width bytes ≡ true
record_true width bytes h = λ i. le_true _ _ h.0 i && (le_true _ _ h.1 i && eq_true _ _ h.2 i)

record_false : (width : ℕ) (bytes : List ℕ) → ¬ (IsRecord width bytes) → has_record width bytes ≡ false
record_false width bytes h = not_passed (has_record width bytes) (λ t. h (record_of width bytes t))

report_of : (version : Version) (bytes : List ℕ) → has_report version bytes ≡ true → IsReport version bytes
report_of version bytes h = let parts = and_parts _ _ h in (eq_of _ _ parts.0, IsUtf8-from_is_utf8 _ parts.1)

report_true : (version : Version) (bytes : List ℕ) → IsReport version bytes → has_report version bytes ≡ true
report_true version bytes h = λ i. eq_true _ _ h.0 i && is_utf8-from_IsUtf8 _ h.1 i

report_false : (version : Version) (bytes : List ℕ) → ¬ (IsReport version bytes) → has_report version bytes ≡ false
report_false version bytes h = not_passed (has_report version bytes) (λ t. h (report_of version bytes t))

-- the fault of a body, by its tests
abbrev by_tests : Bool → Bool → Bool → Bool → Bool → Bool → Option UnitFault
by_tests a b c d e f =
    if a && not b then Some faults.Record else if c && not d then Some faults.Record else if e && not f then Some faults.ErrorReport else None

-- which fault that is
data BodyCase (a b c d e f : Bool) (o : Option UnitFault) : Type 0 where
  no_bad : o ≡ None → BodyCase a b c d e f o
  bad_v4 : o ≡ Some faults.Record → a ≡ true → b ≡ false → BodyCase a b c d e f o
  bad_v6 : o ≡ Some faults.Record → c ≡ true → d ≡ false → BodyCase a b c d e f o
  bad_report : o ≡ Some faults.ErrorReport → e ≡ true → f ≡ false → BodyCase a b c d e f o

third_case : (a b c d e f : Bool) → BodyCase a b c d e f (if e && not f then Some faults.ErrorReport else None)
third_case a b c d true false = bad_report refl refl refl
third_case a b c d true true = no_bad refl
third_case a b c d false f = no_bad refl

second_case : (a b c d e f : Bool) → BodyCase a b c d e f (if c && not d then Some faults.Record else if e && not f then Some faults.ErrorReport else None)
second_case a b true false e f = bad_v6 refl refl refl
second_case a b true true e f = third_case a b true true e f
second_case a b false d e f = third_case a b false d e f

body_case : (a b c d e f : Bool) → BodyCase a b c d e f (by_tests a b c d e f)
body_case true false c d e f = bad_v4 refl refl refl
body_case true true c d e f = second_case true true c d e f
body_case false b c d e f = second_case false b c d e f

same_fault : (a b : UnitFault) → Some a ≡ Some b → a ≡ b
same_fault a b h = cc

none_is : (a : UnitFault) → None ≡ Some a → ⊥
none_is a h = let e : ◌≡◌ {A = Option UnitFault} None (Some a) = h in cc

module _ (version : Version) where
  -- a fault of a header shows
  header_shows : (seen : List ℕ) (a b c d e : Bool) (fault : UnitFault) → header_fault version seen ≡ chain a b c d e → chain a b c d e ≡ Some fault → Shows version seen fault
  header_shows seen true b c d e fault is h = absurd (none_is fault h)
  header_shows seen false false c d e fault is h = subst (λ f. Shows version seen f) (same_fault faults.Version fault h) is
  header_shows seen false true false d e fault is h = subst (λ f. Shows version seen f) (same_fault faults.«Type» fault h) is
  header_shows seen false true true false e fault is h = subst (λ f. Shows version seen f) (same_fault faults.Length fault h) is
  header_shows seen false true true true true fault is h = subst (λ f. Shows version seen f) (same_fault faults.TooLong fault h) is
  header_shows seen false true true true false fault is h = absurd (none_is fault h)

  shows_header : (seen : List ℕ) (fault : UnitFault) → header_fault version seen ≡ Some fault → Shows version seen fault
  shows_header seen fault h =
      header_shows seen (nat_lt (length seen) 8) (version_of seen == version_number version) (is_type version (type_of seen)) (has_length version (type_of seen) (length_of seen)) (nat_lt 4096 (length_of seen)) fault refl h

  -- a fault of a body shows
  shows_body : (seen : List ℕ) (fault : UnitFault) → IsWhole version seen → body_fault version seen ≡ Some fault → Shows version seen fault
  shows_body seen fault w h =
      elim (body_case (type_of seen == 4) (has_record 32 seen) (type_of seen == 6) (has_record 128 seen) (type_of seen == 10) (has_report version seen)) [
        | no_bad e ↦ absurd (none_is fault (sym e ∙ h))
        | bad_v4 e kind bad ↦ subst (λ f. Shows version seen f) (same_fault faults.Record fault (sym e ∙ h)) (w, inl (eq_of _ _ kind, λ good. false_true (sym bad ∙ record_true 32 seen good)))
        | bad_v6 e kind bad ↦ subst (λ f. Shows version seen f) (same_fault faults.Record fault (sym e ∙ h)) (w, inr (eq_of _ _ kind, λ good. false_true (sym bad ∙ record_true 128 seen good)))
        | bad_report e kind bad ↦ subst (λ f. Shows version seen f) (same_fault faults.ErrorReport fault (sym e ∙ h)) (w, eq_of _ _ kind, λ good. false_true (sym bad ∙ report_true version seen good))
      ]

  -- what has not come whole is judged a beginning
  partial_begins : (seen : List ℕ) → IsPartial version seen → by_header version seen (header_fault version seen) ≡ Begins
  partial_begins seen h = ap (by_header version seen) h.0 ∙ short (nat_lt (length seen) 8) (nat_lt (length seen) (length_of seen)) (elim h.1 [ inl less ↦ inl (lt_true _ _ less) | inr less ↦ inr (lt_true _ _ less) ])
    where
      short : (a b : Bool) → (a ≡ true) ⊎ (b ≡ true) → (if a then Begins else if b then Begins else by_body version seen (body_fault version seen)) ≡ Begins
      short true b h = refl
      short false true h = refl
      short false false (inl h) = absurd (false_true h)
      short false false (inr h) = absurd (false_true h)

  -- what has come whole is judged by its body
  whole_judged : (seen : List ℕ) → IsWhole version seen → by_header version seen (header_fault version seen) ≡ by_body version seen (body_fault version seen)
  whole_judged seen w =
      ap (by_header version seen) w.0 ∙ (λ i. if lt_false (length seen) 8 w.1 i then Begins else if lt_false (length seen) (length_of seen) w.2 i then Begins else by_body version seen (body_fault version seen))

  -- either is the case behind a header without a fault
  sizes : (seen : List ℕ) → header_fault version seen ≡ None → IsPartial version seen ⊎ IsWhole version seen
  sizes seen none =
      elim (cases_lt (length seen) 8) [
        | inl short ↦ inl (none, inl short)
        | inr long ↦ elim (cases_lt (length seen) (length_of seen)) [ inl less ↦ inl (none, inr less) | inr all ↦ inr (none, long, all) ]
      ]

  -- what is judged, case by case
  pub data Case (seen : List ℕ) (j : Judgement) : Type 0 where
    begins : j ≡ Begins → IsPartial version seen → Case seen j
    shows : (fault : UnitFault) → j ≡ Faulty fault → Shows version seen fault → Case seen j
    whole : j ≡ Whole (unit_in version seen) → IsWhole version seen → body_fault version seen ≡ None → Case seen j

  by_body_case : (seen : List ℕ) (o : Option UnitFault) → body_fault version seen ≡ o → IsWhole version seen → by_header version seen (header_fault version seen) ≡ by_body version seen o → Case seen (by_header version seen (header_fault version seen))
  by_body_case seen None h w is = whole is w h
  by_body_case seen (Some fault) h w is = shows fault is (shows_body seen fault w h)

  by_size_case : (seen : List ℕ) → IsPartial version seen ⊎ IsWhole version seen → Case seen (by_header version seen (header_fault version seen))
  by_size_case seen (inl part) = begins (partial_begins seen part) part
  by_size_case seen (inr w) = by_body_case seen (body_fault version seen) refl w (whole_judged seen w)

  header_case : (seen : List ℕ) (o : Option UnitFault) → header_fault version seen ≡ o → Case seen (by_header version seen (header_fault version seen))
  header_case seen None h = by_size_case seen (sizes seen h)
  header_case seen (Some fault) h = shows fault (ap (by_header version seen) h) (shows_header seen fault h)

  pub judge_case : (any : Bool) (bytes : List ℕ) → Case (as_read version any bytes) (judge version any bytes)
  unfolding judge
  judge_case any bytes = header_case (as_read version any bytes) (header_fault version (as_read version any bytes)) refl

  -- a fault that shows is judged
  pub shows_judged : (any : Bool) (bytes : List ℕ) (fault : UnitFault) → Shows version (as_read version any bytes) fault → judge version any bytes ≡ Faulty fault
  unfolding judge
  shows_judged any bytes faults.Version h = ap (by_header version (as_read version any bytes)) h
  shows_judged any bytes faults.«Type» h = ap (by_header version (as_read version any bytes)) h
  shows_judged any bytes faults.Length h = ap (by_header version (as_read version any bytes)) h
  shows_judged any bytes faults.TooLong h = ap (by_header version (as_read version any bytes)) h
  shows_judged any bytes faults.Truncated h = absurd h
  shows_judged any bytes faults.Record h = whole_judged (as_read version any bytes) h.0 ∙ ap (by_body version (as_read version any bytes)) (in_record (as_read version any bytes) h.1)
    where
      second : (a b c d e f : Bool) → c ≡ true → d ≡ false → by_tests a b c d e f ≡ Some faults.Record
      second true true c d e f p q = λ i. if p i && not (q i) then Some faults.Record else if e && not f then Some faults.ErrorReport else None
      second true false c d e f p q = refl
      second false b c d e f p q = λ i. if p i && not (q i) then Some faults.Record else if e && not f then Some faults.ErrorReport else None

      in_record : (seen : List ℕ) → ((type_of seen ≡ 4) × ¬ (IsRecord 32 seen)) ⊎ ((type_of seen ≡ 6) × ¬ (IsRecord 128 seen)) → body_fault version seen ≡ Some faults.Record
      in_record seen (inl four) = λ i. by_tests (eq_true _ _ four.0 i) (record_false 32 seen four.1 i) (type_of seen == 6) (has_record 128 seen) (type_of seen == 10) (has_report version seen)
      in_record seen (inr six) = second (type_of seen == 4) (has_record 32 seen) (type_of seen == 6) (has_record 128 seen) (type_of seen == 10) (has_report version seen) (eq_true _ _ six.0) (record_false 128 seen six.1)
  shows_judged any bytes faults.ErrorReport h =
      whole_judged (as_read version any bytes) h.0
      ∙ (λ i. by_body version (as_read version any bytes) (by_tests (h.1 i == 4) (has_record 32 (as_read version any bytes)) (h.1 i == 6) (has_record 128 (as_read version any bytes)) (h.1 i == 10) (report_false version (as_read version any bytes) h.2 i)))

  pub begins_exactly : (any : Bool) (bytes : List ℕ) → (judge version any bytes ≡ Begins) ↔ IsPartial version (as_read version any bytes)
  unfolding judge
  begins_exactly any bytes = (
    λ e. elim (judge_case any bytes) [
      | begins is part ↦ part
      | shows fault is h ↦ absurd (not_faulty fault (sym e ∙ is))
      | whole is w h ↦ absurd (not_whole (unit_in version (as_read version any bytes)) (sym e ∙ is))
    ],
    back,
  )
    where
      not_faulty : (fault : UnitFault) → Begins ≡ Faulty fault → ⊥
      not_faulty fault e = cc

      not_whole : (u : Unit) → Begins ≡ Whole u → ⊥
      not_whole u e = cc

      back : IsPartial version (as_read version any bytes) → judge version any bytes ≡ Begins
      back part = partial_begins (as_read version any bytes) part

  pub faulty_exactly : (any : Bool) (bytes : List ℕ) (fault : UnitFault) → (judge version any bytes ≡ Faulty fault) ↔ Shows version (as_read version any bytes) fault
  faulty_exactly any bytes fault = (
    λ e. elim (judge_case any bytes) [
      | begins is part ↦ absurd (not_begins (sym is ∙ e))
      | shows other is h ↦ subst (λ f. Shows version (as_read version any bytes) f) (same other (sym is ∙ e)) h
      | whole is w h ↦ absurd (not_whole (unit_in version (as_read version any bytes)) (sym is ∙ e))
    ],
    shows_judged any bytes fault,
  )
    where
      not_begins : Begins ≡ Faulty fault → ⊥
      not_begins e = cc

      not_whole : (u : Unit) → Whole u ≡ Faulty fault → ⊥
      not_whole u e = cc

      same : (other : UnitFault) → Faulty other ≡ Faulty fault → other ≡ fault
      same other e = cc

  -- a PDU that is read is judged
  pub reads_judged : (any : Bool) (bytes : List ℕ) (u : Unit) → Reads version u (as_read version any bytes) → judge version any bytes ≡ Whole u
  unfolding judge
  reads_judged any bytes u r =
      let o = opens version u r.ignored [] r.fits r.of_version in
      let is : as_read version any bytes ≡ spelled version u r.ignored ++ [] = r.bytes_are ∙ sym (append-nil (spelled version u r.ignored)) in
      let seen : List ℕ = spelled version u r.ignored ++ [] in
      let w : IsWhole version (spelled version u r.ignored ++ []) = (o.fault, omega (arith, o.eight, length-append (spelled version u r.ignored) []), omega (arith, o.len, length-append (spelled version u r.ignored) [])) in
      ap (λ x. by_header version x (header_fault version x)) is ∙ whole_judged (spelled version u r.ignored ++ []) w
      ∙ sound (body_fault version (spelled version u r.ignored ++ [])) w refl ∙ ap Whole (unit_in-spelled version u r.ignored [] r.fits r.of_version)
    where
      sound : (f : Option UnitFault) → IsWhole version (spelled version u r.ignored ++ []) → body_fault version (spelled version u r.ignored ++ []) ≡ f → by_body version (spelled version u r.ignored ++ []) (body_fault version (spelled version u r.ignored ++ [])) ≡ Whole (unit_in version (spelled version u r.ignored ++ []))
      sound None w e = ap (by_body version (spelled version u r.ignored ++ [])) e
      sound (Some fault) w e = absurd (not_shown version u r.ignored [] r.fits r.of_version fault (shows_body (spelled version u r.ignored ++ []) fault w e))

  pub whole_exactly : (any : Bool) (bytes : List ℕ) (u : Unit) → AreBytes bytes → length bytes ≡ length_of (as_read version any bytes) → (judge version any bytes ≡ Whole u) ↔ Reads version u (as_read version any bytes)
  whole_exactly any bytes u each size = (
    λ e. elim (judge_case any bytes) [
      | begins is part ↦ absurd (not_begins (sym is ∙ e))
      | shows fault is h ↦ absurd (not_faulty fault (sym is ∙ e))
      | whole is w h ↦ of_judged e (judged version (as_read version any bytes) (AreBytes-as_read version any bytes each) w (length-as_read version any bytes ∙ size))
    ],
    reads_judged any bytes u,
  )
    where
      not_begins : Begins ≡ Whole u → ⊥
      not_begins e = cc

      not_faulty : (fault : UnitFault) → Faulty fault ≡ Whole u → ⊥
      not_faulty fault e = cc

      same : (v : Unit) → Whole v ≡ Whole u → v ≡ u
      same v e = cc

      of_judged : judge version any bytes ≡ Whole u → IsJudged version (as_read version any bytes) → Reads version u (as_read version any bytes)
      of_judged e (inl bad) = absurd (not_faulty bad.0 (sym (shows_judged any bytes bad.0 bad.1) ∙ e))
      of_judged e (inr good) = subst (λ v. Reads version v (as_read version any bytes)) (same good.0 (sym (reads_judged any bytes good.0 good.1) ∙ e)) good.1
