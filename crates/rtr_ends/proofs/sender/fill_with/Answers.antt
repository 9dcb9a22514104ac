use Rattle.rtr_ends.proofs.Words.{get_or, ◌≡◌, ◌≤◌, ◌∙◌, sym, ap, arith, length, map, take, drop, ◌++◌, List, ℕ, length-append, length-drop, length-map, length-take, get_or-map, Payload, Unit, Prefix}
use Rattle.rtr_ends.specs.Answer.{sent}
use Rattle.rtr_ends.proofs.FillingLaws.{one_written}
use Rattle.rtr_ends.proofs.sender.fill_with.Goals as goal

pub loop-count-preserved : goal.loop-count-preserved
loop-count-preserved c =
    let f : Payload → Unit = λ v. Prefix c.args.announce v in
    let unit : Unit = f c.index-records-count.result in
    let bytes : List ℕ = sent c.args.version unit in
    let front : List ℕ = take c.loop-count.end c.loop-count.out in
    let next = c.encode_prefix_at-end.result in
    let is : get_or (map f c.args.records.now) c.loop-count.count unit ≡ unit = get_or-map f c.args.records.now c.loop-count.count c.index-records-count.result unit c.loop-count-test.true ∙ ap f (sym c.index-records-count.is) in
    let fits : next ≤ length c.args.out.now =
    omega (
      arith,
      ap length c.encode_prefix_at-end.ensures.bytes,
      length-append (front ++ bytes) (drop next c.loop-count.out),
      length-append front bytes,
      length-take c.loop-count.end c.loop-count.out,
      length-drop next c.loop-count.out,
      c.encode_prefix_at-end.ensures.end,
      c.encode_prefix_at-end.auto.out,
      c.loop-count.auto.out,
      c.loop-count.invariant.low,
    ) in
    one_written c.args.version (map f c.args.records.now) c.args.out.now c.loop-count.out c.encode_prefix_at-end.new.out c.args.filled c.loop-count.count c.loop-count.end next unit c.requires c.loop-count.invariant
    (omega (arith, length-map c.args.records.now f, c.loop-count-test.true)) is c.encode_prefix_at-end.ensures.bytes c.encode_prefix_at-end.ensures.end fits
