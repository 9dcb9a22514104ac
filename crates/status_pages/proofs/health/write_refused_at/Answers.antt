use Rattle.std.proofs.Common.{◌∙◌, ◌++◌, ℕ, List, OnOk, codes, subst}
use Rattle.std.specs.Io.KnownBytes.{Appends}
use Rattle.std.proofs.KnownBytes.{Appends-trans}
use Rattle.status_pages.proofs.Written.{two}
use Rattle.status_pages.specs.Health.{label_text, refused_line, still_served}
use Rattle.status_pages.proofs.health.write_refused_at.Goals as goal

pub returns : goal.returns
unfolding refused_line
returns g c =
    let x0 = g.W.Write.contents c.args.out.now in
    let x1 = g.W.Write.contents c.write_label.new.out in
    let x2 = g.W.Write.contents c.write_all.new.self in
    let x3 = g.W.Write.contents c.write_all-2.new.self in
    let x4 = g.W.Write.contents c.write_all-3.new.self in
    let x5 = g.W.Write.contents c.write_label-2.new.out in
    let x6 = g.W.Write.contents c.write_all-4.new.self in
    let x7 = g.W.Write.contents c.write_all-5.new.self in
    two c.write_all-5.result x0 x6 x7 ((label_text c.args.path.now) ++ (codes ": refused since ") ++ c.args.time.now ++ (codes ": ") ++ (label_text c.args.reason.now) ++ (codes "; ")) (still_served c.args.loaded)
    (Appends-trans x0 x5 x6 ((label_text c.args.path.now) ++ (codes ": refused since ") ++ c.args.time.now ++ (codes ": ") ++ (label_text c.args.reason.now)) (codes "; ") (Appends-trans x0 x4 x5 ((label_text c.args.path.now) ++ (codes ": refused since ") ++ c.args.time.now ++ (codes ": ")) (label_text c.args.reason.now) (Appends-trans x0 x3 x4 ((label_text c.args.path.now) ++ (codes ": refused since ") ++ c.args.time.now) (codes ": ") (Appends-trans x0 x2 x3 ((label_text c.args.path.now) ++ (codes ": refused since ")) c.args.time.now (Appends-trans x0 x1 x2 (label_text c.args.path.now) (codes ": refused since ") c.in_ok-write_label.ensures c.in_ok-write_all.ensures.bytes) c.in_ok-write_all-2.ensures.bytes) c.in_ok-write_all-3.ensures.bytes) c.in_ok-write_label-2.ensures) c.in_ok-write_all-4.ensures.bytes)
    (subst (λ (t : List ℕ). OnOk c.write_all-5.result (Appends x6 x7 t)) (c.as_bytes.ensures.value ∙ c.still_served.ensures) c.write_all-5.ensures.bytes)
