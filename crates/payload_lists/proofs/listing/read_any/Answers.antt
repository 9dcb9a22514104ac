use Rattle.std.proofs.Common.{subst, sym}
use Rattle.serde_json.specs.View.{items_view, view}
use Rattle.payload_lists.specs.PayloadList.{ListsSet}
use Rattle.payload_lists.proofs.Entries.{same_list}
use Rattle.payload_lists.proofs.listing.read_any.Goals as goal

pub returns-in-Some-clause-no_list : goal.returns-in-Some-clause-no_list
returns-in-Some-clause-no_list c e s h =
    let listed = same_list c.args.bytes.now s (view c.in-Ok.value) (items_view c.in-Some.list.now.items) h c.in-Ok.ensures.ok.1 c.in-Some.ensures in
    c.set_of_items.ensures.no_list e s (subst (λ l. ListsSet (items_view l) s) (sym c.as_slice.ensures.value) listed)
