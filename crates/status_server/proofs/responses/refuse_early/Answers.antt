use Rattle.std.proofs.Common.{[], ◌∷◌, codes}
use Rattle.status_server.specs.Responses.{body_headers, text_kind}
use Rattle.status_server.proofs.Sending.{then_as}
use Rattle.status_server.proofs.responses.refuse_early.Goals as goal

pub returns : goal.returns
returns c =
    then_as c.send_text.result c.args.response.now.status 503 ((codes "retry-after", codes "1") ∷ []) (body_headers text_kind)
    [] (codes "no version is published yet: ask again in a second\n") c.args.response.now c.add.new.response c.send_text.new.response c.in_ok-add.ensures c.send_text.ensures
