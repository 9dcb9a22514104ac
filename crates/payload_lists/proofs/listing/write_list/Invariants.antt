use Rattle.std.proofs.Common.{◌≡◌, ◌++◌, codes, map, string_bytes, take}
use Rattle.std.specs.List.{join_with_byte}
use Rattle.payload_lists.specs.PayloadList.{entry_text}
use Rattle.payload_lists.proofs.listing.write_list.Given as goal

-- the entries so far are written
abbrev pub invariant-loop-index : goal.invariant-loop-index
invariant-loop-index l = string_bytes l.text ≡ codes "[" ++ join_with_byte 44 (map entry_text (take l.index l.records))
