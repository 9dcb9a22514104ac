use Rattle.std.proofs.Common.{◌++◌, [], ◌∷◌, codes}
use Rattle.std.specs.Fmt.{decimal}
use Rattle.std.specs.List.{concat}
use Rattle.std.proofs.KnownBytes.{Appends-trans}
use Rattle.status_pages.proofs.Written.{two}
use Rattle.status_pages.specs.Anchors.{series}
use Rattle.status_pages.specs.Health.{label_text}
use Rattle.status_pages.proofs.anchor_metrics.write_series.Goals as goal

pub returns : goal.returns
unfolding series
returns g c =
    let x0 = g.W.Write.contents c.args.out.now in
    let x1 = g.W.Write.contents c.write_all.new.self in
    let x2 = g.W.Write.contents c.write_label.new.out in
    let x3 = g.W.Write.contents c.write_all-2.new.self in
    let x4 = g.W.Write.contents c.write_label-2.new.out in
    let x5 = g.W.Write.contents c.writeln.new.self in
    let begin = codes "rpkirtrd_source_vrps{source=\"" in
    let to_path = begin ++ label_text c.args.path.now in
    let to_name = to_path ++ codes "\",ta=\"" in
    let a2 = Appends-trans x0 x1 x2 begin (label_text c.args.path.now) c.in_ok-write_all.ensures.bytes c.in_ok-write_label.ensures in
    let a3 = Appends-trans x0 x2 x3 to_path (codes "\",ta=\"") a2 c.in_ok-write_all-2.ensures.bytes in
    let a4 = Appends-trans x0 x3 x4 to_name (label_text c.args.anchor.now) a3 c.in_ok-write_label-2.ensures in
    two c.writeln.result x0 x4 x5 (to_name ++ label_text c.args.anchor.now) (concat (codes "\"} " ∷ decimal c.args.vrps ∷ codes "\n" ∷ [])) a4 c.writeln.ensures.bytes
