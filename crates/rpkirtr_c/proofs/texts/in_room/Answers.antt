use Rattle.std.proofs.Common.{ℕ, length, refl}
use Rattle.std.proofs.lemmas.List.{drop-replicate}
use Rattle.rpkirtr_c.proofs.texts.in_room.Goals as goal

pub returns : goal.returns
returns c = rw c.copy_from_slice.ensures.after (rw (drop-replicate {X = ℕ} (length c.args.text.now) 64 0) refl)
