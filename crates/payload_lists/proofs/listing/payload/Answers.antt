use Rattle.std.proofs.Common.{◌≡◌, true, false, arith}
use Rattle.payload_lists.proofs.Entries.{makes_none}
use Rattle.payload_lists.proofs.listing.payload.Goals as goal

pub returns-in_default-clause-none : goal.returns-in_default-clause-none
returns-in_default-clause-none c v h = c.in_default.not-Ok v.prefix (c.parse.ensures.only v.prefix h.prefix)

pub returns-in-Err-clause-none : goal.returns-in-Err-clause-none
returns-in-Err-clause-none c v h =
    let number = c.in-Ok-try_from.ensures.1 in
    makes_none c.args.prefix.now c.in-Ok.prefix c.args.asn c.args.max_len c.in-Ok.ensures.only
    (λ fits. let bad : false ≡ true = c.in-Err.ensures.valid.1 (omega (arith, number, fits.0), omega (arith, number, fits.1)) in cc) v h
