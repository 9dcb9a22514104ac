use Rattle.std.proofs.Common.{[], ◌∷◌, codes}
use Rattle.status_server.specs.Responses.{body_headers, text_kind}
use Rattle.status_server.proofs.Sending.{then_as}
use Rattle.status_server.proofs.responses.refuse_method.Goals as goal

pub returns : goal.returns
returns c =
    then_as c.send_text.result c.args.response.now.status 405 ((codes "allow", codes "GET, HEAD") ∷ []) (body_headers text_kind)
    [] (codes "only GET and HEAD are answered\n") c.args.response.now c.add.new.response c.send_text.new.response c.in_ok-add.ensures c.send_text.ensures
