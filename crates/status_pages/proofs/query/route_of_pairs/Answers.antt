use Rattle.std.proofs.Common.{[], ◌∷◌, inl, inr, sym, ◌∙◌}
use Rattle.std.specs.Cow.{cow_str_bytes}
use Rattle.status_pages.proofs.Queries.{found_in}
use Rattle.status_pages.proofs.query.route_of_pairs.Goals as goal

pub returns-in-asn-prefix : goal.returns-in-asn-prefix
returns-in-asn-prefix c =
    let asn = sym c.as_str.ensures.value ∙ c.in-asn-prefix.is-asn-0 in
    let prefix = sym c.as_str-2.ensures.value ∙ c.in-asn-prefix.is-prefix-1 in
    let route = rw (c.as_str-in-asn-prefix.ensures.value, c.as_str-in-asn-prefix-2.ensures.value) at c.route_of.ensures in
    found_in _ _ _ c.route_of.result (inl (λ i. (asn i, cow_str_bytes c.args.one.now.value) ∷ (prefix i, cow_str_bytes c.args.other.now.value) ∷ [])) route

pub returns-in-prefix-asn : goal.returns-in-prefix-asn
returns-in-prefix-asn c =
    let prefix = sym c.as_str.ensures.value ∙ c.in-prefix-asn.is-prefix-0 in
    let asn = sym c.as_str-2.ensures.value ∙ c.in-prefix-asn.is-asn-1 in
    let route = rw (c.as_str-in-prefix-asn.ensures.value, c.as_str-in-prefix-asn-2.ensures.value) at c.route_of-in-prefix-asn.ensures in
    found_in _ _ _ c.route_of-in-prefix-asn.result (inr (λ i. (prefix i, cow_str_bytes c.args.one.now.value) ∷ (asn i, cow_str_bytes c.args.other.now.value) ∷ [])) route
