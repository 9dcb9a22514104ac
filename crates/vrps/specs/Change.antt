-- What leads from one set to another (RFC 8210 sections 5.3, 5.6 and 8.2).
use Rattle.std.specs.Prelude.{◌≡◌}
use Rattle.vrps.specs.VrpSet.{VrpSet, union, without}
use Rattle.vrps.specs.declared.change.Change.{Change}

-- The change between s and t: s without t, and t without s.
abbrev pub between : VrpSet → VrpSet → Change
between s t = record { withdraw = without s t; announce = without t s }

-- s without the withdrawn, together with the announced
abbrev pub apply : Change → VrpSet → VrpSet
apply c s = union (without s c.withdraw) c.announce

-- One change and then another, as one change: what comes and goes is in neither list.
abbrev pub merge : Change → Change → Change
merge c d = record {
  withdraw = union (without c.withdraw d.announce) (without d.withdraw c.announce);
  announce = union (without c.announce d.withdraw) (without d.announce c.withdraw);
}

-- The change between two sets, applied to the first, gives the second.
abbrev pub ChangeLeads : Type 0
ChangeLeads = (s t : VrpSet) → apply (between s t) s ≡ t

-- The changes from s to t and from t to u, merged, are the change from s to u.
abbrev pub ChangesMerge : Type 0
ChangesMerge = (s t u : VrpSet) → merge (between s t) (between t u) ≡ between s u
