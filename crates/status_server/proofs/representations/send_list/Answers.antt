use Rattle.std.proofs.Common.{◌≡◌, refl}
use Rattle.status_server.specs.Responses.{SendsUnder, list_tag}
use Rattle.status_server.proofs.Sending.{of_version, tagged, under}
use Rattle.status_server.proofs.representations.send_list.Goals as goal

pub returns : goal.returns
returns c =
    let s = c.args.status.now in
    let headers = c.args.headers.now in
    let kind = c.args.kind.now in
    let list = c.in-Some-Some.list in
    let tag = list_tag s.session c.in-Some-Some.serial in
    let x = c.args.response.now in
    let y = c.add_tag.new.response in
    let z = record y { body = c.push.new.self } in
    of_version c.push.result s.serial c.args.list c.in-Some-Some.serial list (λ serial list. SendsUnder headers (list_tag s.session serial) kind (λ text. text ≡ list)) x z c.in-Some-Some.is-0 c.in-Some-Some.is-1
    (under c.push.result headers c.in_ok-tag.tag.bytes.items tag kind (λ text. text ≡ list) c.in_ok-add_tag.field-0 x z c.in_ok-tag.ensures.ok c.in_ok-add_tag.ensures.known
    (tagged c.push.result c.in_ok-tag.tag.bytes.items kind list (λ text. text ≡ list) c.in_ok-add_tag.field-0 x y z c.if-branch.false c.in_ok-add_tag.ensures.sends refl refl refl c.push.ensures))
