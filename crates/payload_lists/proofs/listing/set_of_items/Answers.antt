use Rattle.serde_json.specs.View.{items_view}
use Rattle.payload_lists.proofs.Entries.{too_many}
use Rattle.payload_lists.proofs.listing.set_of_items.Goals as goal

pub returns-clause-no_list : goal.returns-clause-no_list
returns-clause-no_list c e s h = too_many (items_view c.args.list.now) c.in_ok-records.records.items s c.in_ok-records.ensures.one (c.set_from.ensures.no_list e) h
