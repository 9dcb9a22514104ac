use Rattle.std.proofs.Common.{◌≡◌, ◌∙◌, sym}
use Rattle.serde_json.specs.View.{view, members_view}
use Rattle.payload_lists.specs.PayloadList.{member_count}
use Rattle.payload_lists.proofs.Entries.{count_view, if_some, is_entry, not_three}
use Rattle.payload_lists.proofs.listing.entry.Goals as goal

pub returns-then-len-ne3-clause-none : goal.returns-then-len-ne3-clause-none
returns-then-len-ne3-clause-none c v h =
    let counted : member_count (members_view c.in_ok-members.members.now.entries) ≡ c.len.result = count_view c.in_ok-members.members.now.entries ∙ sym c.len.ensures.len in
    not_three v (view c.args.value.now) (members_view c.in_ok-members.members.now.entries) c.len.result c.in_ok-members.ensures counted c.if-len-ne3.true h

pub returns-clause-some : goal.returns-clause-some
returns-clause-some c =
    let counted : member_count (members_view c.in_ok-members.members.now.entries) ≡ 3 = count_view c.in_ok-members.members.now.entries ∙ sym c.len.ensures.len ∙ c.if-len-ne3.false in
    if_some c.payload.result
    (λ v made. is_entry (view c.args.value.now) (members_view c.in_ok-members.members.now.entries) c.in_ok-asn.asn c.in_ok-max_len.max_len c.in_ok-prefix.prefix.now v
    c.in_ok-members.ensures counted c.in_ok-asn.ensures c.in_ok-max_len.ensures c.in_ok-prefix.ensures made)
    c.payload.ensures.some
