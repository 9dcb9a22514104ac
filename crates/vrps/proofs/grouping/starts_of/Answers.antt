use Rattle.std.proofs.Common.{◌≡◌, ◌∙◌, ℕ, ◌+◌, ◌-◌, ◌<◌, Bool, true, false, List, [], ◌∷◌, ◌++◌, length, get_or, ap, sym, subst, arith}
use Rattle.std.proofs.lemmas.List.{get_or_read}
use Rattle.prefixes.specs.Payload.{Payload}
use Rattle.vrps.specs.Groups.{same_prefix}
use Rattle.vrps.proofs.Starts.{AreGroupsTo, Counts, above_all, all_groups, counts_first, counts_other, counts_same, is_one, new_group, same_group}
use Rattle.vrps.proofs.grouping.starts_of.Goals as goal
use Rattle.vrps.proofs.grouping.starts_of.Goals.{then-index-eq0+in_ok-push, then-index-eq0-via-then-index-eq0, then-index-eq0-via-else-index-eq0+then-not-is_same_prefix, else-index-eq0+else-not-is_same_prefix}

-- the prefixes of two records that were read
compared : (records : List Payload) (end : ℕ) (b : Bool) → 0 < end → end < length records → (x y : Payload) → x ≡ get_or records end x → y ≡ get_or records (end - 1) y → same_prefix x.prefix y.prefix ≡ b
    → (d : Payload) → same_prefix (get_or records end d).prefix (get_or records (end - 1) d).prefix ≡ b
compared records end b some within x y read before is d =
    (λ i. same_prefix (sym (get_or_read records end x within read d) i).prefix (sym (get_or_read records (end - 1) y (omega (arith, within)) before d) i).prefix) ∙ is

pub loop-index-preserved : goal.loop-index-preserved
loop-index-preserved c =
    let records = c.args.records.now in
    let starts = c.loop-index.starts.items in
    let i = c.loop-index.invariant in
    let end = c.loop-index.index in
    let within : end < length records = c.loop-index-test.true in
    elim c.if-index-eq0.branch [
      | then-index-eq0+in_ok-push w ↦
          let pushed : c.if-index-eq0.starts.items ≡ starts ++ end ∷ [] = ap (λ v. v.items) w.starts-is ∙ w.in_ok-push.ensures.items in
          elim w.then-index-eq0.branch [
            | then-index-eq0-via-then-index-eq0 h ↦
                let none : end ≡ 0 = h.if-index-eq0.true in
                record {
                  groups = subst (λ l. AreGroupsTo records l (end + 1)) (sym pushed) (new_group records starts end i.groups (λ k d low. absurd (omega (arith, low, none))));
                  counts = subst (λ l. Counts records l (end + 1)) (sym pushed) (counts_first records starts end none (omega (arith, within)) i.counts);
                }
            | then-index-eq0-via-else-index-eq0+then-not-is_same_prefix h ↦
                let some : 0 < end = (let n = h.if-index-eq0.false in omega (arith, n)) in
                let differs = compared records end false some within c.index-records-index.result h.index-records-index-else-index-eq0.result c.index-records-index.is h.index-records-index-else-index-eq0.is
                ((λ j. same_prefix (sym h.prefix.ensures.value j) (sym h.prefix-else-index-eq0.ensures.value j)) ∙ sym h.is_same_prefix.ensures ∙ h.if-not-is_same_prefix.true) in
                record {
                  groups = subst (λ l. AreGroupsTo records l (end + 1)) (sym pushed) (new_group records starts end i.groups (above_all records c.requires.ascends end some within differs));
                  counts = subst (λ l. Counts records l (end + 1)) (sym pushed) (counts_other records starts end some within differs i.counts);
                }
          ]
      | else-index-eq0+else-not-is_same_prefix w ↦
          let kept : c.if-index-eq0.starts.items ≡ starts = ap (λ v. v.items) w.starts-is in
          let some : 0 < end = (let n = w.if-index-eq0.false in omega (arith, n)) in
          let same = compared records end true some within c.index-records-index.result w.index-records-index-else-index-eq0.result c.index-records-index.is w.index-records-index-else-index-eq0.is
          ((λ j. same_prefix (sym w.prefix.ensures.value j) (sym w.prefix-else-index-eq0.ensures.value j)) ∙ sym w.is_same_prefix.ensures ∙ w.if-not-is_same_prefix.false) in
          record {
            groups = subst (λ l. AreGroupsTo records l (end + 1)) (sym kept) (same_group records starts end i.groups some (λ d. is_one (get_or records end d).prefix (get_or records (end - 1) d).prefix (same d)));
            counts = subst (λ l. Counts records l (end + 1)) (sym kept) (counts_same records starts end some within same i.counts);
          }
    ]

pub returns : goal.returns
returns c =
    let past = c.loop-index-test.false in
    let upto = c.loop-index.auto.index-end in
    all_groups c.args.records.now c.loop-index.starts.items c.loop-index.index (omega (arith, past, upto)) c.requires.payloads c.loop-index.invariant.groups c.loop-index.invariant.counts
