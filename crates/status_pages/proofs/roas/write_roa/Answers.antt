use Rattle.status_pages.specs.Roas.{roa_text}
use Rattle.status_pages.proofs.roas.write_roa.Goals as goal

pub returns : goal.returns
unfolding roa_text
returns g c = rw (← c.asn-asn.ensures.value, ← c.max_len-max_len.ensures.value, ← c.prefix-prefix.ensures.value) c.write.ensures.bytes
