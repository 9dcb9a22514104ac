use Rattle.std.proofs.Common.{[], ◌∷◌, codes}
use Rattle.status_server.specs.Responses.{body_headers, html_kind, policy}
use Rattle.status_server.proofs.Sending.{then}
use Rattle.status_server.proofs.responses.add_page_headers.Goals as goal

pub returns : goal.returns
returns c =
    then c.add.result c.args.response.now.status (body_headers html_kind) ((codes "content-security-policy", policy) ∷ [])
    [] [] c.args.response.now c.add_headers.new.response c.add.new.response c.in_ok-add_headers.ensures c.add.ensures
