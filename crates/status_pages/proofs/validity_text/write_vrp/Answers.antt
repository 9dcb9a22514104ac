use Rattle.status_pages.specs.ValidityText.{vrp_text}
use Rattle.status_pages.proofs.validity_text.write_vrp.Goals as goal

pub returns : goal.returns
unfolding vrp_text
returns g c = rw (← c.asn-asn.ensures.value, ← c.max_len-max_len.ensures.value, ← c.prefix-prefix.ensures.value) c.write.ensures.bytes
