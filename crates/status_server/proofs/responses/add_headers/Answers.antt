use Rattle.std.proofs.Common.{[], ◌∷◌, codes}
use Rattle.status_server.proofs.Sending.{more, then}
use Rattle.status_server.proofs.responses.add_headers.Goals as goal

pub returns : goal.returns
returns c =
    then c.add-3.result c.args.response.now.status ((codes "content-type", c.args.kind.now) ∷ (codes "cache-control", codes "no-cache") ∷ []) ((codes "x-content-type-options", codes "nosniff") ∷ [])
    [] [] c.args.response.now c.add-2.new.response c.add-3.new.response
    (more c.args.response.now.status ((codes "content-type", c.args.kind.now) ∷ []) ((codes "cache-control", codes "no-cache") ∷ []) [] []
    c.args.response.now c.add.new.response c.add-2.new.response c.in_ok-add.ensures c.in_ok-add-2.ensures)
    c.add-3.ensures
