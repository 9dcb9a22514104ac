-- A sink of the log, and what the calls of a sink answer.
use Rattle.std.specs.Prelude.{◌≡◌, ℕ, zero, suc, ◌≤◌, ◌⊎◌, Bool, true, false, List, [], length, take, Option, Some, None, Result, Ok, Err, ⊤}
use Rattle.std.specs.Io.KnownBytes.{Appends}
use Rattle.std.specs.IoError.{error_kind}
use Rattle.std.specs.declared.io.Error.{Error}
use Rattle.std.specs.declared.io.ErrorKind.{ErrorKind}
use Rattle.std.specs.declared.io.ErrorKind.TheVariants.{WouldBlock, Interrupted}
use Rattle.log_output.specs.Buffers.{Buffered, after_loss, after_written}

-- what a call of a sink answered: that it has room or none, that it accepted bytes, that the write can be made again, or that it failed
pub data SinkAnswer : Type 0 where
  Room : SinkAnswer
  NoRoom : SinkAnswer
  Took : (n : ℕ) → SinkAnswer
  Paused : SinkAnswer
  Failed : SinkAnswer

-- It has room for at least one byte, or for none.
abbrev pub answer_of_room : ℕ → SinkAnswer
answer_of_room zero = NoRoom
answer_of_room (suc n) = Room

-- An error of one of these kinds passes.
abbrev pub is_pause : ErrorKind → Bool
is_pause WouldBlock = true
is_pause Interrupted = true
is_pause kind = false

abbrev pub answer_of_error : Bool → SinkAnswer
answer_of_error true = Paused
answer_of_error false = Failed

abbrev pub answer_of_write : Result ℕ Error → SinkAnswer
answer_of_write (Ok n) = Took n
answer_of_write (Err e) = answer_of_error (is_pause (error_kind e))

-- The last answer is this one, if it is known.
abbrev pub Answered : Option SinkAnswer → SinkAnswer → Type 0
Answered None answer = ⊤
Answered (Some last) answer = last ≡ answer

-- The sink accepted the first bytes that waited. The others still wait.
pub record Moves (old new : Buffered) (had has : Option (List ℕ)) : Type 0 where
  pub count : ℕ
  pub within : count ≤ length old.bytes
  pub takes : Appends had has (take count old.bytes)
  pub moves : new ≡ after_written count old

-- The sink accepted the first bytes that waited, and failed. Of the others only the rest of a torn line still waits.
pub record GivesUp (old new : Buffered) (had has : Option (List ℕ)) (last : Option SinkAnswer) : Type 0 where
  pub count : ℕ
  pub within : count ≤ length old.bytes
  pub takes : Appends had has (take count old.bytes)
  pub loses : new ≡ after_loss (after_written count old)
  pub failed : Answered last Failed

-- The sink accepted at least this number of bytes.
abbrev pub WritesSome : ℕ → Buffered → Buffered → Option (List ℕ) → Option (List ℕ) → Type 0
WritesSome count old new had has = (moved : Moves old new had has) × (count ≤ moved.count)

-- a call that a sink ended: it has no room, accepts nothing, or lets no write be made now
abbrev pub IsStop : Option SinkAnswer → Type 0
IsStop last = Answered last NoRoom ⊎ Answered last (Took 0) ⊎ Answered last Paused

-- One write, if it can be made, and whether the sink accepted bytes
abbrev pub WritesChunk : Bool → Buffered → Buffered → Option (List ℕ) → Option (List ℕ) → Option SinkAnswer → Type 0
WritesChunk true old new had has last = WritesSome 1 old new had has
WritesChunk false old new had has last = (Moves old new had has × ((new.bytes ≡ []) ⊎ IsStop last)) ⊎ GivesUp old new had has last

-- What a call of the log writes. It ends if no byte waits, if the sink stops it or fails, or after this many writes of at least one byte.
abbrev pub WritesOut : ℕ → Buffered → Buffered → Option (List ℕ) → Option (List ℕ) → Option SinkAnswer → Type 0
WritesOut count old new had has last =
    WritesSome count old new had has ⊎ (Moves old new had has × ((new.bytes ≡ []) ⊎ IsStop last)) ⊎ GivesUp old new had has last
