-- Verdicts, worked out.
use Rattle.std.proofs.Common.{List, [], ◌∷◌, Err, inl, inr, refl, arith}
use Rattle.resources.specs.declared.kind.ResourceKind.TheVariants.{Ipv4, Ipv6, As}
use Rattle.resources.specs.Resources.{range_of}
use Rattle.constraints.specs.declared.action.ConstraintAction.TheVariants.{Allow, Deny}
use Rattle.constraints.specs.declared.constraint.Constraint.{Constraint}
use Rattle.constraints.specs.declared.refusal.ConstraintRefusal.TheVariants.{Denied, NotAllowed}
use Rattle.constraints.specs.Judging.{ip_sets, as_sets, is_ip, is_as, Lists, Judges}

-- allow 2001:db8::/32
ipv6_alone : List Constraint
ipv6_alone = record { line = 1; action = Allow; kind = Ipv6; range = range_of 0x20010db8000000000000000000000000 0x20010db8ffffffffffffffffffffffff } ∷ []

-- A file that allows IPv6 alone refuses 192.0.2.0/24.
no_ipv4 : Judges is_ip (ip_sets (range_of 0xc0000200 0xc00002ff ∷ []) []) ipv6_alone (Err NotAllowed)
unfolding ipv6_alone
no_ipv4 = (inr ((λ d. (let e = d.0 in cc)), refl), refl, (λ a. none (a Ipv4 0xc0000200 (inl (omega arith, omega arith)))))
  where
    none : Lists Allow Ipv4 ipv6_alone 0xc0000200 → ⊥
    none (inl l) = (let e = l.1 in cc)
    none (inr l) = l

-- deny 64496
as_denied : List Constraint
as_denied = record { line = 7; action = Deny; kind = As; range = range_of 64496 64496 } ∷ []

-- An entry for AS numbers denies these, and no address.
denies_as : Judges is_as (as_sets (range_of 64490 64500 ∷ [])) as_denied (Err (Denied 7))
unfolding as_denied
denies_as = inl ((refl, (64496, inl (omega arith, omega arith), inl (omega arith, omega arith))), refl)
