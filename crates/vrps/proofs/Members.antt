-- A group has all records of its prefix.
use Rattle.std.proofs.Common.{◌≡◌, ◌∙◌, inl, inr, ℕ, ◌+◌, ◌<◌, ◌≤◌, true, false, List, ◌++◌, append-nil, length, get_or, filter, ap, sym, subst, refl, arith}
use Rattle.std.specs.Ordering.{is_eq, ordering_reverse}
use Rattle.std.specs.declared.cmp.Ordering.{Ordering}
use Rattle.std.specs.declared.cmp.Ordering.TheVariants.{Less, Equal, Greater}
use Rattle.std.proofs.lemmas.Bool.{cases_lt}
use Rattle.std.proofs.lemmas.List.{drop_all, get_or_default, get_or_past}
use Rattle.prefixes.specs.Payload.{Payload, prefix_cmp}
use Rattle.prefixes.specs.declared.prefix.IpPrefix.{IpPrefix}
use Rattle.prefixes.specs.Orders.{prefix_total}
use Rattle.vrps.specs.Groups.{AreGroups, begin, group_at, of_prefix, prefix_at, same_prefix}
use Rattle.vrps.proofs.Grouped.{begins_below, begins_up_to, begins_within, place_of}
use Rattle.vrps.proofs.JudgingRoutes.{dropped_part, kept_part}

-- a prefix before another is another one, and so is one after it
before : (p q : IpPrefix) → prefix_cmp p q ≡ Less → same_prefix p q ≡ false
before p q less = ap is_eq less

after : (p q : IpPrefix) → prefix_cmp q p ≡ Less → same_prefix p q ≡ false
after p q less = ap is_eq (prefix_total.antisymm p q ∙ ap ordering_reverse less)

itself : (p q : IpPrefix) → p ≡ q → same_prefix p q ≡ true
itself p q is = ap (λ r. same_prefix r q) is ∙ ap is_eq (same (prefix_cmp q q) (prefix_total.antisymm q q))
  where
    same : (o : Ordering) → o ≡ ordering_reverse o → o ≡ Equal
    same Less h = absurd (cc)
    same Equal h = refl
    same Greater h = absurd (cc)

module _ (records : List Payload) (starts : List ℕ) (g : AreGroups records starts) (place : ℕ) (low : place < length starts) where
  of_place : (d e : Payload) → prefix_at records starts place e ≡ prefix_at records starts place d
  of_place d e = ap (λ v. v.prefix) (get_or_default records (begin records starts place) e d (begins_within records starts g place low))

  pub all_of_prefix : (d : Payload) → group_at records starts place ≡ of_prefix (prefix_at records starts place d) records
  all_of_prefix d =
      let key = prefix_at records starts place d in
      let has = λ (v : Payload). same_prefix v.prefix key in
      let some = g.grow place low in
      let end = begin records starts (place + 1) in
      let one = dropped_part has records 0 (begin records starts place) (omega arith) (g.within place) (λ k e from to. before _ key (subst (λ p. prefix_cmp (get_or records k e).prefix p ≡ Less) (of_place d e) (g.ascend place k e low to))) in
      let two = kept_part has records (begin records starts place) end (omega (arith, some)) (g.within (place + 1)) (λ k e from to. itself _ key (g.one_prefix place k e from to ∙ of_place d e)) in
      let three = dropped_part has records end (length records) (g.within (place + 1)) (omega arith) (λ k e from to. after _ key (above k e from to)) in
      sym (one ∙ two ∙ ap (λ l. group_at records starts place ++ l) (three ∙ ap (filter has) (drop_all (length records) records (omega arith))) ∙ append-nil (group_at records starts place))
    where
      above : (k : ℕ) (e : Payload) → begin records starts (place + 1) ≤ k → k < length records → prefix_cmp (prefix_at records starts place d) (get_or records k e).prefix ≡ Less
      above k e from to =
          let past : begin records starts (length starts) ≡ length records = get_or_past starts (length starts) (length records) (omega arith) in
          let found = place_of records starts g k (length starts) (omega arith) (omega (arith, past, to)) in
          let later : place < found.0 = elim (cases_lt place found.0) [
            | inl h ↦ h
            | inr h ↦ absurd (let rises = begins_up_to records starts g (found.0 + 1) (place + 1) (omega (arith, h)) (omega (arith, low)) in let inside = found.3 in omega (arith, rises, from, inside))
          ] in
          let within = found.1 in
          let less = g.ascend found.0 (begin records starts place) e found.1 (begins_below records starts g place found.0 later (omega (arith, within))) in
          (λ i. prefix_cmp (sym (of_place d e) i) (g.one_prefix found.0 k e found.2 found.3 i)) ∙ less
