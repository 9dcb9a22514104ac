use Rattle.std.proofs.Common.{subst, arith}
use Rattle.std.specs.List.{All}
use Rattle.prefixes.specs.Payload.{IsPayload}
use Rattle.vrps.proofs.Gathers.{gathered_listing}
use Rattle.vrps.proofs.gathered.Gathered.into_set.Goals as goal

pub from_listing-requires : goal.from_listing-requires
from_listing-requires c =
    gathered_listing _ _ c.in_ok-items.ensures.same c.in_ok-items.ensures.ascends (subst (λ l. All IsPayload l) c.as_slice.ensures.value c.know_payloads.ensures) (omega (arith, c.len.ensures))
