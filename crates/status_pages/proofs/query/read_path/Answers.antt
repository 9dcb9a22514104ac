use Rattle.std.proofs.Common.{◌∙◌, ap}
use Rattle.status_pages.specs.Query.{text_of}
use Rattle.status_pages.proofs.Queries.{found_in_path}
use Rattle.status_pages.proofs.query.read_path.Goals as goal

pub returns : goal.returns
returns c =
    let asn = c.in_ok-texts.ensures.name ∙ ap text_of c.in-Some.ensures.asn in
    let prefix = c.in_ok-texts.ensures.value ∙ ap text_of c.in-Some.ensures.prefix in
    found_in_path c.args.path.now _ _ c.route_of.result asn prefix (rw (c.as_str.ensures.value, c.as_str-2.ensures.value) at c.route_of.ensures)
