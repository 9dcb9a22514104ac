use Rattle.form_urlencoded.specs.Form.{raw_pairs}
use Rattle.status_pages.proofs.Queries.{not_two, two_told}
use Rattle.status_pages.proofs.query.read_query.Goals as goal

pub returns-in_default : goal.returns-in_default
returns-in_default c = not_two (raw_pairs c.args.query.now) c.in_default.ensures.none

pub returns : goal.returns
returns c =
    two_told (raw_pairs c.args.query.now) (c.in-Some.one.name.now, c.in-Some.one.value.now) (c.in-Some.other.name.now, c.in-Some.other.value.now) _ _ _ _ c.in-Some.ensures.some
    c.in_ok-one.ensures.name c.in_ok-one.ensures.value c.in_ok-other.ensures.name c.in_ok-other.ensures.value c.route_of_pairs.result c.route_of_pairs.ensures
