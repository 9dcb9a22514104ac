use Rattle.std.proofs.Common.{drop}
use Rattle.serde_json.specs.View.{items_view}
use Rattle.payload_lists.proofs.Entries.{SoFar}
use Rattle.payload_lists.proofs.listing.records_of.Given as goal

-- the payloads so far are those of the items before this one
abbrev pub invariant-loop-item : goal.invariant-loop-item
invariant-loop-item l = SoFar (items_view l.list) (items_view (drop l.item-index l.list)) l.records.items
