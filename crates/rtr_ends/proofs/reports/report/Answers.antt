use Rattle.rtr_ends.proofs.Words.{min, ◌≡◌, ◌∙◌, ap, arith, [], length, take, take_min, ErrorReport}
use Rattle.rtr_ends.proofs.reports.report.Goals as goal

pub returns : goal.returns
returns c =
    let room : c.min-room.result ≡ min 4080 (length c.args.copy.now) = omega (arith, c.min-room.ensures) in
    let copy : take c.min-room.result c.args.copy.now ≡ take 4080 c.args.copy.now = ap (λ n. take n c.args.copy.now) room ∙ take_min 4080 c.args.copy.now in
    ap ErrorReport (c.new.ensures ∙ (λ i. record { code = c.args.code; copy = copy i; text = [] }))
