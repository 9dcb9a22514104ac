use Rattle.std.proofs.Common.{◌≡◌, ◌∙◌, ℕ, ◌++◌, List, length, ap, sym, append_assoc, append-nil, arith, length-append}
use Rattle.std.proofs.lemmas.Bool.{eqb-true}
use Rattle.std.proofs.lemmas.List.{nil_from_length}
use Rattle.prefixes.specs.Payload.{Payload}
use Rattle.ccr.specs.Canonical.{payload_set, payload_sets}
use Rattle.ccr.proofs.Groups.{ascend_from, next, no_sets, some_of}
use Rattle.ccr.proofs.Sizes.{set_few}
use Rattle.ccr.proofs.digest.payload_sets.Goals as goal

pub loop-rest-init : goal.loop-rest-init
loop-rest-init c = record {
  all = ap (λ (l : List ℕ). l ++ payload_sets c.args.list.now) c.new-sets.ensures;
  ascend = ascend_from c.args.list.now c.requires.sorted;
  within = omega arith;
  short = omega (arith, ap (λ (l : List ℕ). length l) c.new-sets.ensures);
}

pub loop-rest-smaller : goal.loop-rest-smaller
loop-rest-smaller c =
    let rest = c.loop-rest.rest.now in
    let v = c.index-rest-0.result in
    let n = next rest c.first_run.result v c.split_at.result.0.now c.split_at.result.1.now (some_of rest c.is_empty.result c.is_empty.ensures c.loop-rest-test.true) c.loop-rest.invariant.ascend c.first_run.ensures c.index-rest-0.is c.split_at.ensures.front c.split_at.ensures.back in
    omega (arith, n.some, n.whole)

pub loop-rest-preserved : goal.loop-rest-preserved
loop-rest-preserved c =
    let rest = c.loop-rest.rest.now in
    let sets = c.loop-rest.sets in
    let group = c.split_at.result.0.now in
    let behind = c.split_at.result.1.now in
    let v = c.index-rest-0.result in
    let i = c.loop-rest.invariant in
    let n = next rest c.first_run.result v group behind (some_of rest c.is_empty.result c.is_empty.ensures c.loop-rest-test.true) i.ascend c.first_run.ensures c.index-rest-0.is c.split_at.ensures.front c.split_at.ensures.back in
    let added : c.add_payload_set.new.sets ≡ sets ++ payload_set v.asn group = c.in_ok-add_payload_set.ensures ∙ ap (λ (a : ℕ). sets ++ payload_set a group) c.asn-asn.ensures.value in
    record {
      all =
          ap (λ (l : List ℕ). l ++ payload_sets behind) added ∙ append_assoc sets (payload_set v.asn group) (payload_sets behind)
          ∙ ap (λ (l : List ℕ). sets ++ l) (sym n.sets) ∙ i.all;
      ascend = n.ascend;
      within = omega (arith, n.whole, i.within);
      short = omega (arith, ap (λ (l : List ℕ). length l) added, length-append sets (payload_set v.asn group), set_few v.asn group n.some, n.whole, i.short);
    }

pub returns-clause-value : goal.returns-clause-value
returns-clause-value c =
    let rest = c.loop-rest.rest.now in
    let sets = c.loop-rest.sets in
    let none : length rest ≡ 0 = eqb-true (length rest) 0 (sym c.is_empty.ensures ∙ c.loop-rest-test.false) in
    sym (append-nil sets) ∙ ap (λ (l : List ℕ). sets ++ l) (sym no_sets) ∙ ap (λ (l : List Payload). sets ++ payload_sets l) (sym (nil_from_length rest none)) ∙ c.loop-rest.invariant.all
