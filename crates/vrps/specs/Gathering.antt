-- How records that come one by one are kept.
use Rattle.std.specs.Prelude.{List, ⊤}
use Rattle.std.specs.List.Sorted.{IsStrictlySortedBy}
use Rattle.prefixes.specs.Payload.{Payload, vrp_cmp}
use Rattle.vrps.specs.declared.gathered.Records.{Records}
use Rattle.vrps.specs.declared.gathered.Records.TheVariants.{Ascending, Mixed}

-- the records, as they lie
abbrev pub records_in : Records → List Payload
records_in (Ascending list) = list.items
records_in (Mixed tree) = tree.keys

-- A list is ascending.
abbrev pub Ascends : Records → Type 0
Ascends (Ascending list) = IsStrictlySortedBy vrp_cmp list.items
Ascends (Mixed tree) = ⊤
