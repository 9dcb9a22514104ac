-- What the calls of a non-blocking stream do to its bytes, if those are known.
use Rattle.std.specs.Prelude.{◌≡◌, ℕ, ◌<◌, ◌≤◌, ◌==◌, List, [], ◌∷◌, ◌++◌, length, take, drop, Option, Some, None, Result, Ok, Err, if◌then◌else◌, ⊤}
use Rattle.std.specs.Io.KnownBytes.{Appends, Consumes, IsAtEnd, Keeps}
use Rattle.std.specs.IoError.{error_kind}
use Rattle.std.specs.declared.io.Error.{Error}
use Rattle.std.specs.declared.io.ErrorKind.{ErrorKind}
use Rattle.std.specs.declared.io.ErrorKind.TheVariants.{WouldBlock}
use Rattle.std.specs.declared.io.ErrorKind.TheVariants as kinds
use Rattle.vrps.specs.Instance.{Instance}
use Rattle.rtr_ends.specs.CacheState.{CacheState, ShowsCache, due_at, given}
use Rattle.rtr_ends.specs.declared.cache.Cache.{Cache}
use Rattle.rtr_server.specs.declared.stream.Call.{Call}
use Rattle.rtr_server.specs.declared.stream.Call.TheVariants.{Read, Write}
use Rattle.rtr_server.specs.declared.stream.Progress.{Progress}
use Rattle.rtr_server.specs.declared.stream.Progress.TheVariants.{Bytes, Waits, Interrupted, Failed}

-- what an error of this kind says: that the stream would wait, that the call was interrupted, or that the stream failed
abbrev pub moved_by : ErrorKind → Progress
moved_by WouldBlock = Waits
moved_by kinds.Interrupted = Interrupted
moved_by kind = Failed

-- what a call with this result came to
abbrev pub progress_of : Result ℕ Error → Progress
progress_of (Ok n) = Bytes n
progress_of (Err e) = moved_by (error_kind e)

-- no more than there is room for
abbrev pub IsWithin : ℕ → Progress → Type 0
IsWithin most (Bytes n) = n ≤ most
IsWithin most Waits = ⊤
IsWithin most Interrupted = ⊤
IsWithin most Failed = ⊤

-- A read removed these bytes from what was left, none only at the end; or nothing.
abbrev pub ReadsSo : Option (List ℕ) → Option (List ℕ) → Progress → List ℕ → Type 0
ReadsSo before left (Bytes n) buf = Consumes before left (take n buf) × (n ≡ 0 → 0 < length buf → IsAtEnd left)
ReadsSo before left Waits buf = Keeps before left
ReadsSo before left Interrupted buf = Keeps before left
ReadsSo before left Failed buf = Keeps before left

-- A write appended the beginning that it accepted, or nothing.
abbrev pub WritesSo : Option (List ℕ) → Option (List ℕ) → Progress → List ℕ → Type 0
WritesSo had has (Bytes n) buf = Appends had has (take n buf)
WritesSo had has Waits buf = Keeps had has
WritesSo had has Interrupted buf = Keeps had has
WritesSo had has Failed buf = Keeps had has

-- one read, which answered this
abbrev pub a_read : Progress → List Call
a_read moved = Read moved ∷ []

-- one write, which answered this
abbrev pub a_write : Progress → List Call
a_write moved = Write moved ∷ []

-- These were the calls made since and their answers, the last first, if all are known.
abbrev pub Logged : List Call → Option (List Call) → Option (List Call) → Type 0
Logged since before None = ⊤
Logged since None (Some now) = ⊥
Logged since (Some before) (Some now) = now ≡ since ++ before

-- A read into an empty buffer leaves there what it read, and at the end nothing.
abbrev pub FillsSo : Option (List ℕ) → Option (List ℕ) → Progress → List ℕ → Type 0
FillsSo before left (Bytes n) unread = Consumes before left unread × (length unread ≡ n) × (n ≡ 0 → IsAtEnd left)
FillsSo before left Waits unread = Keeps before left × (unread ≡ [])
FillsSo before left Interrupted unread = Keeps before left × (unread ≡ [])
FillsSo before left Failed unread = Keeps before left × (unread ≡ [])

-- how many bytes went
abbrev pub moved_count : Progress → ℕ
moved_count (Bytes n) = n
moved_count Waits = 0
moved_count Interrupted = 0
moved_count Failed = 0

-- A write removes what it accepted from the front of what remains to be written.
abbrev pub EmptiesSo : Option (List ℕ) → Option (List ℕ) → Progress → List ℕ → List ℕ → Type 0
EmptiesSo had has (Bytes n) old new = Appends had has (take n old) × (new ≡ drop n old) × (n ≤ length old)
EmptiesSo had has Waits old new = Keeps had has × (new ≡ old)
EmptiesSo had has Interrupted old new = Keeps had has × (new ≡ old)
EmptiesSo had has Failed old new = Keeps had has × (new ≡ old)

-- the large room, if there is one, otherwise the small one
abbrev pub room_of : List ℕ → List ℕ → List ℕ
room_of small large = if length large == 0 then small else large

-- Room for this many bytes: there is some, and at most 32,768.
pub record IsRoom (most : ℕ) : Type 0 where
  pub some : 0 < most
  pub fits : most ≤ 32768

-- What is due is pulled into an empty buffer, as far as there is room.
pub record PullsInto {S : Type 0} (holds : ℕ → Instance → S → Type 0) (m : CacheState) (c : ℕ) (unwritten : List ℕ) (new : Cache S) : Type 0 where
  pub most : ℕ
  pub room : IsRoom most
  pub bytes_are : unwritten ≡ take most (due_at (m.at c))
  pub shows : ShowsCache holds (given most c m) new
