-- What an export has besides payloads of ROAs: ASPAs and router keys (RFC 8635). They are not served, and counted.
use Rattle.std.specs.Prelude.{◌≡◌, ◌+◌, ℕ, suc, List, option_map, unwrap_or, codes}
use Rattle.serde_json.specs.Data.{Data, Items, no_items, item}
use Rattle.serde_json.specs.Find.{get, as_array}
use Rattle.exports.specs.Export.{Reads}
use Rattle.exports.specs.Lasting.{IsExportLasting}
use Rattle.exports.specs.declared.export.ExportCounted.{ExportCounted}
use Rattle.exports.specs.declared.ignored.Ignored.{Ignored}

abbrev pub item_count : Items → ℕ
item_count no_items = 0
item_count (item d ds) = suc (item_count ds)

-- how many elements a value has, which is 0 if it is no array
abbrev pub element_count : Data → ℕ
element_count d = unwrap_or (option_map item_count (as_array d)) 0

-- how many elements the member of this name has, which is 0 if there is none
abbrev pub elements_at : List ℕ → Data → ℕ
elements_at name d = unwrap_or (option_map element_count (get name d)) 0

-- ASPAs are in one array. Router keys are in one of two: rpki-client and StayRTR name it bgpsec_keys, Routinator routerKeys.
pub record IsIgnored (d : Data) (i : Ignored) : Type 0 where
  pub aspas : i.aspas ≡ elements_at (codes "aspas") d
  pub router_keys : i.router_keys ≡ elements_at (codes "bgpsec_keys") d + elements_at (codes "routerKeys") d

-- These bytes are an export, and this many elements of their value are not served.
pub record IsExportCounted (bytes : List ℕ) (now : ℕ) (x : ExportCounted) : Type 0 where
  pub lasting : IsExportLasting bytes now x.lasting
  pub value : Data
  pub reads : Reads bytes value
  pub ignored : IsIgnored value x.ignored
