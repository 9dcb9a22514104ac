-- What changed of a router's records since they were accepted last.
use Rattle.std.specs.Prelude.{◌≡◌, ◌⊎◌, ℕ, ℤ, List, [], Option, Some, None}
use Rattle.prefixes.specs.Payload.{Payload}
use Rattle.vrps.specs.Change.{between}
use Rattle.vrps.specs.VrpSet.{VrpSet, listing, size}
use Rattle.rpkirtr_c.specs.Answers.{number}
use Rattle.rpkirtr_c.specs.Sessions.{Shows}
use Rattle.rpkirtr_c.specs.declared.session.Pending.{Pending}
use Rattle.rpkirtr_c.specs.declared.session.Session.{Session}
use Rattle.rpkirtr_c.specs.declared.call_status.CallStatus.TheVariants.{Done, NoMemory}

-- the change from the accepted records to the table
abbrev pub IsBegun : VrpSet → VrpSet → Pending → Type 0
IsBegun taken table p = (p.change ≡ between taken table) × (p.table ≡ table)

-- the records that the change withdraws, and those that it announces, in ascending order
abbrev pub withdrawn_of : Option Pending → List Payload
withdrawn_of None = []
withdrawn_of (Some p) = listing p.change.withdraw

abbrev pub announced_of : Option Pending → List Payload
announced_of None = []
announced_of (Some p) = listing p.change.announce

-- The change from the accepted records to the router's table, counted
abbrev pub IsCounted : Session → ℕ → ℕ → Option Pending → Type 0
IsCounted s withdraws announces None = ⊥
IsCounted s withdraws announces (Some p) = Shows s (λ r. IsBegun s.taken r.table p) × (withdraws ≡ size p.change.withdraw) × (announces ≡ size p.change.announce)

-- That change begins, and is counted. If memory ran out, nothing changes.
abbrev pub Begins : ℤ → ℕ → ℕ → Session → Session → Type 0
Begins answer withdraws announces s t =
    ((answer ≡ number Done) × (t ≡ record s { pending = t.pending }) × IsCounted s withdraws announces t.pending)
    ⊎ ((answer ≡ number NoMemory) × (t ≡ s) × (withdraws ≡ 0) × (announces ≡ 0))

abbrev pub taken_after : Option Pending → VrpSet → VrpSet
taken_after None taken = taken
taken_after (Some p) taken = p.table

-- What the change leads to is accepted, if one has begun.
abbrev pub Takes : Session → Session → Type 0
Takes s t = t ≡ record s { taken = taken_after s.pending s.taken; pending = None }
