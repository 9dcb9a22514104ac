use Rattle.std.proofs.Common.{◌++◌, codes}
use Rattle.std.proofs.KnownBytes.{Appends-trans}
use Rattle.status_pages.proofs.Written.{two}
use Rattle.status_pages.specs.Health.{failure_line, label_text}
use Rattle.status_pages.proofs.health.write_failure_at.Goals as goal

pub returns : goal.returns
unfolding failure_line
returns g c =
    let x0 = g.W.Write.contents c.args.out.now in
    let x1 = g.W.Write.contents c.write_all.new.self in
    let x2 = g.W.Write.contents c.write_all-2.new.self in
    let x3 = g.W.Write.contents c.write_all-3.new.self in
    let x4 = g.W.Write.contents c.write_label.new.out in
    let x5 = g.W.Write.contents c.write_all-4.new.self in
    two c.write_all-4.result x0 x4 x5 ((codes "publication fails since ") ++ c.args.time.now ++ (codes ": ") ++ (label_text c.args.reason.now)) (codes "\n")
    (Appends-trans x0 x3 x4 ((codes "publication fails since ") ++ c.args.time.now ++ (codes ": ")) (label_text c.args.reason.now) (Appends-trans x0 x2 x3 ((codes "publication fails since ") ++ c.args.time.now) (codes ": ") (Appends-trans x0 x1 x2 (codes "publication fails since ") c.args.time.now c.in_ok-write_all.ensures.bytes c.in_ok-write_all-2.ensures.bytes) c.in_ok-write_all-3.ensures.bytes) c.in_ok-write_label.ensures)
    c.write_all-4.ensures.bytes
