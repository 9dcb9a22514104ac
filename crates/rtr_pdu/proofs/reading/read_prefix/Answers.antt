use Rattle.std.proofs.Common.{arith, refl}
use Rattle.rtr_pdu.proofs.BodyLaws as laws
use Rattle.rtr_pdu.proofs.PrefixLaws.{no_record, other_type}
use Rattle.rtr_pdu.proofs.reading.read_prefix.Goals as goal

pub returns-in-Some-clause-some : goal.returns-in-Some-clause-some
returns-in-Some-clause-some c = laws.read_4 c.args.version c.args.any c.args.bytes.now (λ i. omega (arith, c.type_inv.bytes i)) c.requires _ _ c.in-Ipv4Prefix.ensures refl c.in-Some.ensures.some.0 c.in-Some.ensures.some.1

pub returns-in-Some-v6_record-clause-some : goal.returns-in-Some-v6_record-clause-some
returns-in-Some-v6_record-clause-some c =
    laws.read_6 c.args.version c.args.any c.args.bytes.now (λ i. omega (arith, c.type_inv.bytes i)) c.requires _ _ c.in-Ipv6Prefix.ensures refl c.in-Some-v6_record.ensures.some.0 c.in-Some-v6_record.ensures.some.1

pub returns-in-None-clause-none : goal.returns-in-None-clause-none
returns-in-None-clause-none c announce v =
    no_record c.args.version c.args.any c.args.bytes.now announce v (laws.bad_4 c.args.version c.args.any c.args.bytes.now (λ i. omega (arith, c.type_inv.bytes i)) c.requires c.in-Ipv4Prefix.ensures c.in-None.ensures.none)

pub returns-in-None-v6_record-clause-none : goal.returns-in-None-v6_record-clause-none
returns-in-None-v6_record-clause-none c announce v =
    no_record c.args.version c.args.any c.args.bytes.now announce v (laws.bad_6 c.args.version c.args.any c.args.bytes.now (λ i. omega (arith, c.type_inv.bytes i)) c.requires c.in-Ipv6Prefix.ensures c.in-None-v6_record.ensures.none)

pub returns-in_default : goal.returns-in_default
returns-in_default c =
    record { some = tt; none = λ announce v. other_type c.args.version c.args.any c.args.bytes.now c.kind_of.result announce v c.kind_of.ensures c.in_default.not-Ipv4Prefix c.in_default.not-Ipv6Prefix }
