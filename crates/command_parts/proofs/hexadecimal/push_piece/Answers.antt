use Rattle.command_parts.proofs.Digits.{when_ok, digits_are_text}
use Rattle.command_parts.proofs.hexadecimal.push_piece.Goals as goal

pub unreachable-requires : goal.unreachable-requires
unreachable-requires c =
    c.in_default.ensures.cases.0
    (rw (when_ok _ _ (c.encode_to_slice.ensures.fits.1 c.split_at_mut-written.ensures.front_len) c.encode_to_slice.ensures.written) (digits_are_text c.args.piece.now))
