use Rattle.std.proofs.Common.{◌≡◌, ◌++◌, flat_map, string_bytes, take}
use Rattle.rpkirtrd_cli.specs.Derived.{address_line}
use Rattle.rpkirtrd_cli.proofs.derived.add_addresses.Given as goal

-- the lines before this one are written
abbrev pub invariant-loop-address : goal.invariant-loop-address
invariant-loop-address l = string_bytes l.text ≡ string_bytes l.initial.text ++ flat_map address_line (take l.address-index l.addresses)
