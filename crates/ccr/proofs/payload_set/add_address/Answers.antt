use Rattle.std.proofs.Common.{ℕ, List, subst, ◌∙◌}
use Rattle.der_lite.specs.Writing.{Adds}
use Rattle.payloads.proofs.RoaPrefixes.{written_is}
use Rattle.ccr.proofs.payload_set.add_address.Goals as goal

pub returns : goal.returns
returns c =
    subst (λ (content : List ℕ). Adds c.bits.result 3 content c.args.members.now c.bits.new.self)
    (written_is c.args.prefix.now c.from-len.result c.octets-octets.result c.len.ensures.prefix (c.from-len.ensures ∙ c.len.ensures.value) c.octets-octets.ensures) c.bits.ensures
