use Rattle.std.proofs.Common.{◌∙◌, ◌++◌, ℕ, List, [], ◌∷◌, codes, subst}
use Rattle.std.specs.Fmt.{decimal}
use Rattle.std.specs.Io.KnownBytes.{Appends}
use Rattle.std.specs.List.{concat}
use Rattle.std.proofs.KnownBytes.{Appends-trans}
use Rattle.status_pages.proofs.Written.{two}
use Rattle.status_pages.specs.Health.{away_line, limit_text}
use Rattle.status_pages.proofs.health.write_away_at.Goals as goal

pub returns : goal.returns
unfolding away_line
returns g c =
    let x0 = g.W.Write.contents c.args.out.now in
    let x1 = g.W.Write.contents c.write_all.new.self in
    let x2 = g.W.Write.contents c.write_all-2.new.self in
    let x3 = g.W.Write.contents c.write.new.self in
    let x4 = g.W.Write.contents c.write_all-3.new.self in
    let x5 = g.W.Write.contents c.write_all-4.new.self in
    two c.write_all-4.result x0 x4 x5 ((codes "routers were turned away by ") ++ (limit_text c.args.limit) ++ (concat (codes ": " ∷ decimal c.args.routers ∷ codes ", the last at " ∷ [])) ++ c.args.time.now) (codes "\n")
    (Appends-trans x0 x3 x4 ((codes "routers were turned away by ") ++ (limit_text c.args.limit) ++ (concat (codes ": " ∷ decimal c.args.routers ∷ codes ", the last at " ∷ []))) c.args.time.now (Appends-trans x0 x2 x3 ((codes "routers were turned away by ") ++ (limit_text c.args.limit)) (concat (codes ": " ∷ decimal c.args.routers ∷ codes ", the last at " ∷ [])) (Appends-trans x0 x1 x2 (codes "routers were turned away by ") (limit_text c.args.limit) c.in_ok-write_all.ensures.bytes (subst (λ (t : List ℕ). Appends x1 x2 t) (c.as_bytes.ensures.value ∙ c.limit_text.ensures) c.in_ok-write_all-2.ensures.bytes)) c.in_ok-write.ensures.bytes) c.in_ok-write_all-3.ensures.bytes)
    c.write_all-4.ensures.bytes
