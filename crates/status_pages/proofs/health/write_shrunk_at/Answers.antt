use Rattle.std.proofs.Common.{◌++◌, [], ◌∷◌, codes}
use Rattle.std.specs.Fmt.{decimal}
use Rattle.std.specs.List.{concat}
use Rattle.std.proofs.KnownBytes.{Appends-trans}
use Rattle.status_pages.proofs.Written.{two}
use Rattle.status_pages.specs.Health.{shrunk_line}
use Rattle.status_pages.proofs.health.write_shrunk_at.Goals as goal

pub returns : goal.returns
unfolding shrunk_line
returns g c =
    let x0 = g.W.Write.contents c.args.out.now in
    let x1 = g.W.Write.contents c.write.new.self in
    let x2 = g.W.Write.contents c.write_all.new.self in
    let x3 = g.W.Write.contents c.write_all-2.new.self in
    two c.write_all-2.result x0 x2 x3 ((concat (codes "the table shrank: " ∷ decimal c.args.from ∷ codes " to " ∷ decimal c.args.to ∷ codes " VRPs at " ∷ [])) ++ c.args.time.now) (codes "\n")
    (Appends-trans x0 x1 x2 (concat (codes "the table shrank: " ∷ decimal c.args.from ∷ codes " to " ∷ decimal c.args.to ∷ codes " VRPs at " ∷ [])) c.args.time.now c.in_ok-write.ensures.bytes c.in_ok-write_all.ensures.bytes)
    c.write_all-2.ensures.bytes
