use Rattle.payload_lists.proofs.PlainTurns.{entry_is, no_entry_is}
use Rattle.payload_lists.proofs.plain.plain_entry.Goals as goal

pub returns-in-Some-payload-clause-ok : goal.returns-in-Some-payload-clause-ok
returns-in-Some-payload-clause-ok c =
    entry_is c.args.reader.now c.plain_object.new.reader c.in-Some.asn c.in-Some.max_len c.in-Some.prefix c.in-Some-payload.vrp c.in-Some.ensures c.in-Some-payload.ensures.some

pub returns-in-None-payload-clause-no_list : goal.returns-in-None-payload-clause-no_list
returns-in-None-payload-clause-no_list c e =
    no_entry_is c.args.reader.now c.plain_object.new.reader c.in-Some.asn c.in-Some.max_len c.in-Some.prefix c.in-Some.ensures c.in-None-payload.ensures.none
