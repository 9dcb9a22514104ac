-- The commit of an answer at a router (RFC 8210 sections 5.6, 8.1 and 12).
use Rattle.std.specs.Prelude.{◌≡◌, true, false, List}
use Rattle.std.specs.List.{AllByRecursion, IsDistinct}
use Rattle.std.specs.Ordering.{eq_by_cmp}
use Rattle.prefixes.specs.Payload.{Payload, vrp_cmp}
use Rattle.vrps.specs.Change.{between}
use Rattle.vrps.specs.VrpSet.{VrpSet, has, listing, set_of, union, without}

-- An answer with these records leads from base to new: base without the withdrawn, together with the announced. Each record acts, and acts
-- once. The withdrawn are distinct members of base (else code 6, Withdrawal of Unknown Record). The announced are distinct records outside
-- it (else code 7, Duplicate Announcement Received). If they are not, the answer leads nowhere.
pub record Commits (base : VrpSet) (withdrawn announced : List Payload) (new : VrpSet) : Type 0 where
  pub known : AllByRecursion (λ v. has base v ≡ true) withdrawn
  pub withdrawn_once : IsDistinct (eq_by_cmp vrp_cmp) withdrawn
  pub unknown : AllByRecursion (λ v. has base v ≡ false) announced
  pub announced_once : IsDistinct (eq_by_cmp vrp_cmp) announced
  pub leads : new ≡ union (without base (set_of withdrawn)) (set_of announced)

-- An answer leads to one set.
abbrev pub OneCommit : Type 0
OneCommit =
    (base new other : VrpSet) (withdrawn announced : List Payload) →
    Commits base withdrawn announced new → Commits base withdrawn announced other → new ≡ other

-- The change between two sets, listed, leads from the first to the second.
abbrev pub ChangeCommits : Type 0
ChangeCommits = (s t : VrpSet) → Commits s (listing (between s t).withdraw) (listing (between s t).announce) t
