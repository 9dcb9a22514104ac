-- What writes do to the bytes that wait, one after the other.
use Rattle.std.proofs.Common.{◌≡◌, ℕ, zero, suc, ◌+◌, ◌≤◌, inl, inr, nat_lt, true, false, List, [], ◌++◌, length, take, Option, Some, None, sym, ap, ◌∙◌, arith, append-nil, length-append, subst}
use Rattle.std.proofs.lemmas.Bool.Decides.{nat_tests}
use Rattle.std.proofs.lemmas.List.{length-drop, take-append-le}
use Rattle.std.proofs.KnownBytes.{Appends-nil, Appends-trans}
use Rattle.std.specs.Io.KnownBytes.{Appends, Keeps}
use Rattle.log_output.specs.Buffers.{Buffered, IsChunk, after_loss, after_written}
use Rattle.log_output.specs.Sinks.{Answered, Failed, GivesUp, Moves, SinkAnswer, Took, WritesChunk, WritesOut, WritesSome}
use Rattle.log_output.proofs.Reports.{none_written, written_on}
use Rattle.log_output.proofs.Torn.{take_on}

pub kept_appends : (a b c : Option (List ℕ)) (bs : List ℕ) → Keeps a b → Appends b c bs → Appends a c bs
kept_appends None b c bs p q = tt
kept_appends (Some x) None c bs p q = absurd p
kept_appends (Some x) (Some y) None bs p q = absurd q
kept_appends (Some x) (Some y) (Some z) bs p q = q ∙ ap (λ l. l ++ bs) p

pub kept_none : (a b : Option (List ℕ)) → Keeps a b → Appends a b []
kept_none None b p = tt
kept_none (Some x) None p = absurd p
kept_none (Some x) (Some y) p = p ∙ sym (append-nil x)

-- ---- one write

first_of_chunk : (n most : ℕ) (bytes chunk : List ℕ) → IsChunk most bytes chunk → n ≤ length chunk → take n chunk ≡ take n bytes
first_of_chunk n most bytes chunk is h = sym (ap (take n) is.first.1 ∙ take-append-le n chunk is.first.0 h)

pub chunk_within : (most : ℕ) (bytes chunk : List ℕ) → IsChunk most bytes chunk → length chunk ≤ length bytes
chunk_within most bytes chunk is = omega (arith, ap length is.first.1, length-append chunk is.first.0)

moves_by : (n most : ℕ) (old new : Buffered) (chunk : List ℕ) (had has : Option (List ℕ))
    → IsChunk most old.bytes chunk → n ≤ length chunk → new ≡ after_written n old → Appends had has (take n chunk) → WritesSome n old new had has
moves_by n most old new chunk had has is h e a = (
  record {
    count = n;
    within = omega (arith, h, chunk_within most old.bytes chunk is);
    takes = subst (Appends had has) (first_of_chunk n most old.bytes chunk is h) a;
    moves = e;
  },
  omega arith,
)

-- A write that took bytes goes on, and one that took none ends the call.
pub took : (n most : ℕ) (old new : Buffered) (chunk : List ℕ) (had has : Option (List ℕ)) (last : Option SinkAnswer)
    → IsChunk most old.bytes chunk → n ≤ length chunk → new ≡ after_written n old → Appends had has (take n chunk) → Answered last (Took n)
    → WritesChunk (nat_lt 0 n) old new had has last
took zero most old new chunk had has last is h e a answer = inl ((moves_by 0 most old new chunk had has is h e a).0, inr (inr (inl answer)))
took (suc n) most old new chunk had has last is h e a answer =
    let goes_on : nat_lt 0 (suc n) ≡ true = grind (arith, nat_tests) in
    let moved = moves_by (suc n) most old new chunk had has is h e a in
    rw goes_on ((moved.0, omega (arith, moved.1)))

-- ---- many writes

pub moves_none : (b : Buffered) (had has : Option (List ℕ)) → Keeps had has → Moves b b had has
moves_none b had has k = record { count = 0; within = omega arith; takes = kept_none had has k; moves = sym (none_written b) }

pub writes_none : (b : Buffered) (had : Option (List ℕ)) → WritesSome 0 b b had had
writes_none b had = (record { count = 0; within = omega arith; takes = Appends-nil had; moves = sym (none_written b) }, omega arith)

pub fails : (old new : Buffered) (had has : Option (List ℕ)) (last : Option SinkAnswer) → Keeps had has → new ≡ after_loss old → Answered last Failed → GivesUp old new had has last
fails old new had has last k e failed = record {
  count = 0;
  within = omega arith;
  takes = kept_none had has k;
  loses = e ∙ ap after_loss (sym (none_written old));
  failed = failed;
}

within_on : (n m : ℕ) (a b : Buffered) → n ≤ length a.bytes → b ≡ after_written n a → m ≤ length b.bytes → n + m ≤ length a.bytes
within_on n m a b h e k = omega (arith, h, k, ap (λ (x : Buffered). length x.bytes) e, length-drop n a.bytes)

takes_on : (n m : ℕ) (a b : Buffered) (x y z : Option (List ℕ)) → b ≡ after_written n a → Appends x y (take n a.bytes) → Appends y z (take m b.bytes) → Appends x z (take (n + m) a.bytes)
takes_on n m a b x y z e p q =
    subst (Appends x z) (ap (λ (o : Buffered). take n a.bytes ++ take m o.bytes) e ∙ sym (take_on n m a.bytes)) (Appends-trans x y z (take n a.bytes) (take m b.bytes) p q)

some_on_by : (n m : ℕ) (a b c : Buffered) (x y z : Option (List ℕ)) (p : Moves a b x y) (q : Moves b c y z) → n ≤ p.count → m ≤ q.count → WritesSome (n + m) a c x z
some_on_by n m a b c x y z p q h k = (
  record {
    count = p.count + q.count;
    within = within_on p.count q.count a b p.within p.moves q.within;
    takes = takes_on p.count q.count a b x y z p.moves p.takes q.takes;
    moves = q.moves ∙ ap (after_written q.count) p.moves ∙ written_on p.count q.count a;
  },
  omega (arith, h, k),
)

pub some_on : (n m : ℕ) (a b c : Buffered) (x y z : Option (List ℕ)) → WritesSome n a b x y → WritesSome m b c y z → WritesSome (n + m) a c x z
some_on n m a b c x y z p q = some_on_by n m a b c x y z p.0 q.0 p.1 q.1

moves_on : (a b c : Buffered) (x y z : Option (List ℕ)) → Moves a b x y → Moves b c y z → Moves a c x z
moves_on a b c x y z p q = (some_on_by 0 0 a b c x y z p q (omega arith) (omega arith)).0

gives_up_on : (a b c : Buffered) (x y z : Option (List ℕ)) (last : Option SinkAnswer) → Moves a b x y → GivesUp b c y z last → GivesUp a c x z last
gives_up_on a b c x y z last p q = record {
  count = p.count + q.count;
  within = within_on p.count q.count a b p.within p.moves q.within;
  takes = takes_on p.count q.count a b x y z p.moves p.takes q.takes;
  loses = q.loses ∙ ap (λ o. after_loss (after_written q.count o)) p.moves ∙ ap after_loss (written_on p.count q.count a);
  failed = q.failed;
}

-- The call ends with the write that ends it.
pub ends : (n count : ℕ) (a b c : Buffered) (x y z : Option (List ℕ)) (last : Option SinkAnswer)
    → WritesSome n a b x y → WritesChunk false b c y z last → WritesOut count a c x z last
ends n count a b c x y z last p (inl q) = inr (inl (moves_on a b c x y z p.0 q.0, q.1))
ends n count a b c x y z last p (inr q) = inr (inr (gives_up_on a b c x y z last p.0 q))
