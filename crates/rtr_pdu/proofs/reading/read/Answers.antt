use Rattle.std.proofs.Common.{arith, refl, sym, subst}
use Rattle.rtr_pdu.specs.Reader.{IsRead}
use Rattle.rtr_pdu.proofs.BodyLaws as laws
use Rattle.rtr_pdu.proofs.reading.read.Goals as goal

pub report-requires-clause-exact : goal.report-requires-clause-exact
report-requires-clause-exact c = laws.exact_plain c.args.version c.args.any c.args.bytes.now (λ i. omega (arith, c.type_inv.bytes i)) c.requires (omega (arith, c.in-ErrorReport.ensures))

pub returns-in-Some-clause-ok : goal.returns-in-Some-clause-ok
returns-in-Some-clause-ok c = laws.read_4 c.args.version c.args.any c.args.bytes.now (λ i. omega (arith, c.type_inv.bytes i)) c.requires _ _ c.in-Ipv4Prefix.ensures refl c.in-Some.ensures.some.0 c.in-Some.ensures.some.1

pub returns-in-None-clause-err : goal.returns-in-None-clause-err
returns-in-None-clause-err c = laws.bad_4 c.args.version c.args.any c.args.bytes.now (λ i. omega (arith, c.type_inv.bytes i)) c.requires c.in-Ipv4Prefix.ensures c.in-None.ensures.none

pub returns-in-Some-v6_record-clause-ok : goal.returns-in-Some-v6_record-clause-ok
returns-in-Some-v6_record-clause-ok c =
    laws.read_6 c.args.version c.args.any c.args.bytes.now (λ i. omega (arith, c.type_inv.bytes i)) c.requires _ _ c.in-Ipv6Prefix.ensures refl c.in-Some-v6_record.ensures.some.0 c.in-Some-v6_record.ensures.some.1

pub returns-in-None-v6_record-clause-err : goal.returns-in-None-v6_record-clause-err
returns-in-None-v6_record-clause-err c = laws.bad_6 c.args.version c.args.any c.args.bytes.now (λ i. omega (arith, c.type_inv.bytes i)) c.requires c.in-Ipv6Prefix.ensures c.in-None-v6_record.ensures.none

pub returns-in-RouterKey-clause-ok : goal.returns-in-RouterKey-clause-ok
returns-in-RouterKey-clause-ok c = laws.read_9 c.args.version c.args.any c.args.bytes.now (λ i. omega (arith, c.type_inv.bytes i)) c.requires _ c.in-RouterKey.ensures c.key.ensures

pub returns-in-Some-report-clause-ok : goal.returns-in-Some-report-clause-ok
returns-in-Some-report-clause-ok c = laws.read_10 c.args.version c.args.any c.args.bytes.now (λ i. omega (arith, c.type_inv.bytes i)) c.requires _ c.in-ErrorReport.ensures c.in-Some-report.ensures.some.0 c.in-Some-report.ensures.some.1

pub returns-in-None-report-clause-err : goal.returns-in-None-report-clause-err
returns-in-None-report-clause-err c = laws.bad_10 c.args.version c.args.any c.args.bytes.now (λ i. omega (arith, c.type_inv.bytes i)) c.requires c.in-ErrorReport.ensures c.in-None-report.ensures.none

pub returns-in-SerialNotify-clause-ok : goal.returns-in-SerialNotify-clause-ok
returns-in-SerialNotify-clause-ok c = laws.read_0 c.args.version c.args.any c.args.bytes.now (λ i. omega (arith, c.type_inv.bytes i)) c.requires _ _ c.in-SerialNotify.ensures c.number_16.ensures c.number_32.ensures

pub returns-in-SerialQuery-clause-ok : goal.returns-in-SerialQuery-clause-ok
returns-in-SerialQuery-clause-ok c = laws.read_1 c.args.version c.args.any c.args.bytes.now (λ i. omega (arith, c.type_inv.bytes i)) c.requires _ _ c.in-SerialQuery.ensures c.number_16-in-SerialQuery.ensures c.number_32-in-SerialQuery.ensures

pub returns-in-ResetQuery-clause-ok : goal.returns-in-ResetQuery-clause-ok
returns-in-ResetQuery-clause-ok c = laws.read_2 c.args.version c.args.any c.args.bytes.now (λ i. omega (arith, c.type_inv.bytes i)) c.requires c.in-ResetQuery.ensures

pub returns-in-CacheResponse-clause-ok : goal.returns-in-CacheResponse-clause-ok
returns-in-CacheResponse-clause-ok c = laws.read_3 c.args.version c.args.any c.args.bytes.now (λ i. omega (arith, c.type_inv.bytes i)) c.requires _ c.in-CacheResponse.ensures c.number_16-in-CacheResponse.ensures

pub returns-in-EndOfData-clause-ok : goal.returns-in-EndOfData-clause-ok
returns-in-EndOfData-clause-ok c =
    subst (λ u. IsRead c.args.version c.args.any c.args.bytes.now u) (sym c.end_of_data.ensures)
    (laws.read_7 c.args.version c.args.any c.args.bytes.now (λ i. omega (arith, c.type_inv.bytes i)) c.requires c.in-EndOfData.ensures)

pub returns-in-CacheReset-clause-ok : goal.returns-in-CacheReset-clause-ok
returns-in-CacheReset-clause-ok c = laws.read_8 c.args.version c.args.any c.args.bytes.now (λ i. omega (arith, c.type_inv.bytes i)) c.requires c.in-CacheReset.ensures
