use Rattle.std.proofs.Common.{◌++◌, [], ◌∷◌, codes}
use Rattle.std.specs.Fmt.{decimal}
use Rattle.std.specs.List.{concat}
use Rattle.std.proofs.KnownBytes.{Appends-trans}
use Rattle.status_pages.proofs.Written.{two}
use Rattle.status_pages.specs.Health.{anchor_line, label_text}
use Rattle.status_pages.proofs.health.write_anchor_at.Goals as goal

pub returns : goal.returns
unfolding anchor_line
returns g c =
    let x0 = g.W.Write.contents c.args.out.now in
    let x1 = g.W.Write.contents c.write_label.new.out in
    let x2 = g.W.Write.contents c.write_all.new.self in
    let x3 = g.W.Write.contents c.write_label-2.new.out in
    let x4 = g.W.Write.contents c.write.new.self in
    let x5 = g.W.Write.contents c.write_all-2.new.self in
    let x6 = g.W.Write.contents c.write_all-3.new.self in
    let to_name = label_text c.args.path.now ++ codes ": " in
    let to_numbers = to_name ++ label_text c.args.name.now in
    let numbers = concat (codes " shrank: " ∷ decimal c.args.from ∷ codes " to " ∷ decimal c.args.to ∷ codes " VRPs at " ∷ []) in
    let a2 = Appends-trans x0 x1 x2 (label_text c.args.path.now) (codes ": ") c.in_ok-write_label.ensures c.in_ok-write_all.ensures.bytes in
    let a3 = Appends-trans x0 x2 x3 to_name (label_text c.args.name.now) a2 c.in_ok-write_label-2.ensures in
    let a4 = Appends-trans x0 x3 x4 to_numbers numbers a3 c.in_ok-write.ensures.bytes in
    let a5 = Appends-trans x0 x4 x5 (to_numbers ++ numbers) c.args.time.now a4 c.in_ok-write_all-2.ensures.bytes in
    two c.write_all-3.result x0 x5 x6 (to_numbers ++ numbers ++ c.args.time.now) (codes "\n") a5 c.write_all-3.ensures.bytes
