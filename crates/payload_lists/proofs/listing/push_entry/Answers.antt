use Rattle.payload_lists.proofs.listing.push_entry.Goals as goal

pub returns : goal.returns
returns c = rw (← c.asn-asn.ensures.value, ← c.max_len-max_len.ensures.value, ← c.prefix-prefix.ensures.value) c.write.ensures.bytes
