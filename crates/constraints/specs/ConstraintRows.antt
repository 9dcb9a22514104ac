-- Files of constraints, worked out.
use Rattle.std.specs.Prelude.{◌≡◌, [], ◌∷◌, Ok, Err, refl, codes}
use Rattle.std.specs.Str.Lines.{lines}
use Rattle.prefixes.specs.declared.prefix.IpPrefix.TheVariants.{V4, V6}
use Rattle.resources.specs.declared.kind.ResourceKind.TheVariants.{Ipv4, Ipv6, As}
use Rattle.resources.specs.Resources.{range_of}
use Rattle.constraints.specs.declared.fault.ConstraintFaultKind.TheVariants.{Word, Families, Order}
use Rattle.constraints.specs.declared.action.ConstraintAction.TheVariants.{Allow, Deny}
use Rattle.constraints.specs.Words.{uncommented, words}
use Rattle.constraints.specs.Values.{addresses_of, range_from}
use Rattle.constraints.specs.Entries.{action_of}

-- the last line may lack its line break
two_lines : (lines (codes "a\r\nb") ≡ codes "a" ∷ codes "b" ∷ []) × (lines (codes "a\n") ≡ codes "a" ∷ [])
two_lines = (refl, refl)

comment : uncommented (codes "deny 1#2 # 3") ≡ codes "deny 1"
comment = refl

-- blanks beside a dash may be missing
of_range : words (codes "\tallow 10-20 ") ≡ codes "allow" ∷ codes "10" ∷ codes "-" ∷ codes "20" ∷ []
unfolding words
of_range = refl

spaced_range : words (codes "allow 10  -\t20") ≡ codes "allow" ∷ codes "10" ∷ codes "-" ∷ codes "20" ∷ []
unfolding words
spaced_range = refl

no_words : words (uncommented (codes " \t# allow 1")) ≡ []
unfolding words
no_words = refl

actions : (action_of (codes "allow") ≡ Ok Allow) × (action_of (codes "deny") ≡ Ok Deny) × (action_of (codes "Allow") ≡ Err Word)
actions = (refl, refl, refl)

-- 192.0.2.0/24, and ::/0
of_prefix : addresses_of (V4 (record { addr = 0xc0000200; len = 24 })) ≡ record { kind = Ipv4; range = range_of 0xc0000200 0xc00002ff }
of_prefix = refl

of_all : addresses_of (V6 (record { addr = 0; len = 0 })) ≡ record { kind = Ipv6; range = range_of 0 0xffffffffffffffffffffffffffffffff }
of_all = refl

-- one number is a range; ends of two kinds are compared first
ranges : (range_from (record { kind = As; number = 5 }) (record { kind = As; number = 5 }) ≡ Ok (record { kind = As; range = range_of 5 5 }))
    × (range_from (record { kind = As; number = 5 }) (record { kind = As; number = 4 }) ≡ Err Order) × (range_from (record { kind = As; number = 5 }) (record { kind = Ipv4; number = 4 }) ≡ Err Families)
ranges = (refl, refl, refl)
