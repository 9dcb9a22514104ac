-- Turns and what they come to, worked out.
use Rattle.std.proofs.Common.{◌≡◌, ℕ, arith, true, false, List, [], ◌∷◌, Some, None, refl}
use Rattle.std.specs.declared.io.ErrorKind.TheVariants as kinds
use Rattle.rtr_ends.specs.Cache.{Serving}
use Rattle.rtr_ends.specs.CacheState.{CacheCall, CacheState, Close, Notify, Open, Pull}
use Rattle.rtr_ends.specs.Timing.{Intervals}
use Rattle.rtr_server.specs.Clients.{admit_fault_number, awaits}
use Rattle.rtr_server.specs.Counting.{none_counted}
use Rattle.rtr_server.specs.Streams.{moved_by}
use Rattle.rtr_server.specs.Turns.{Reads, ToldSo, Writes, FitsBudget, after_read, after_write, steps_after}
use Rattle.rtr_server.specs.declared.server.AdmitFault.TheVariants as faults
use Rattle.rtr_server.specs.declared.stream.Call.TheVariants as calls
use Rattle.rtr_server.specs.declared.stream.Progress.TheVariants.{Bytes, Waits, Interrupted, Failed}
use Rattle.rtr_server.specs.declared.turn.CloseReason.TheVariants.{PeerClosed, ReadFailed, Truncated, WriteFailed}
use Rattle.rtr_server.specs.declared.turn.Turn.TheVariants.{Busy, Gone, WaitsToRead, WaitsToWrite}

numbers : (admit_fault_number faults.TooManyClients ≡ 1) × (admit_fault_number faults.Memory ≡ 2)
numbers = (refl, refl)

-- An error that says that the stream would wait is no failure, nor is one by an interruption.
errors : (moved_by kinds.WouldBlock ≡ Waits) × (moved_by kinds.Interrupted ≡ Interrupted) × (moved_by kinds.BrokenPipe ≡ Failed) × (moved_by kinds.TimedOut ≡ Failed)
errors = (refl, refl, refl, refl)

-- No byte is the end of what is read, inside a PDU or between two; a byte is not.
reads : (after_read (Bytes 0) true ≡ Some (Gone Truncated)) × (after_read (Bytes 0) false ≡ Some (Gone PeerClosed)) × (after_read (Bytes 1) true ≡ None)
    × (after_read Waits true ≡ Some WaitsToRead) × (after_read Interrupted true ≡ None) × (after_read Failed true ≡ Some (Gone ReadFailed))
reads = (refl, refl, refl, refl, refl, refl)

-- A write that accepts nothing fails.
writes : (after_write (Bytes 0) ≡ Some (Gone WriteFailed)) × (after_write (Bytes 1) ≡ None) × (after_write Waits ≡ Some WaitsToWrite) × (after_write Interrupted ≡ None) × (after_write Failed ≡ Some (Gone WriteFailed))
writes = (refl, refl, refl, refl, refl)

-- With no calls allowed, the turn is Busy. Only the last call decides for what the turn waits, and a read that would block gives no wait to
-- write.
told : FitsBudget 0 Busy 0 × FitsBudget 2 Busy 2 × FitsBudget 2 WaitsToRead 1 × ToldSo WaitsToRead (calls.Read Waits ∷ calls.Read (Bytes 8) ∷ []) × ToldSo WaitsToWrite (calls.Write Waits ∷ calls.Read (Bytes 8) ∷ [])
    × (ToldSo WaitsToWrite (calls.Read Waits ∷ []) → ⊥) × (ToldSo (Gone PeerClosed) (calls.Write (Bytes 0) ∷ []) → ⊥)
told = (refl, refl, omega arith, refl, refl, λ e. cc, λ e. cc)

module _ (keep : ℕ) (t : Intervals) (s : Serving) where
  -- three bytes are left to be written, and two of them are; five come
  steps : steps_after keep t (Reads (5 ∷ []) ∷ Writes 2 ∷ []) (record { serving = s; unread = []; unwritten = 1 ∷ 2 ∷ 3 ∷ []; owed = true; traffic = record { carried = record { read = 8; written = 40 }; received = none_counted; sent = none_counted; asked = Some 1 } })
      ≡ record { serving = s; unread = 5 ∷ []; unwritten = 3 ∷ []; owed = true; traffic = record { carried = record { read = 9; written = 42 }; received = none_counted; sent = record none_counted { front = 1 ∷ 2 ∷ []; came = 2 }; asked = Some 1 } }
  steps = refl

-- A router that has just come awaits nothing, whatever was before; nor does another call make one await.
new_routers : (m : CacheState) (before : List CacheCall) → (awaits (Open 3 ∷ before) m 3 ≡ false) × (awaits (Pull 3 8 ∷ Open 3 ∷ before) m 3 ≡ false) × (awaits (Close 2 ∷ Open 3 ∷ before) m 3 ≡ false)
    × (awaits (Notify 3 ∷ Open 3 ∷ before) m 3 ≡ false) × (awaits (Open 3 ∷ before) m 2 ≡ awaits before m 2)
new_routers m before = (refl, refl, refl, refl, refl)
