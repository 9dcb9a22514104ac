-- What is noted of refused exports comes from the paths that are watched.
use Rattle.std.proofs.Common.{◌≡◌, ◌∙◌, ℕ, List, [], ◌∷◌, inl, inr, ap, subst, sym}
use Rattle.std.specs.Prelude.{⊤, Option, Some, None, Result, Ok, Err}
use Rattle.sources.specs.Served.{IsUnread}
use Rattle.sources.specs.declared.fault.TakeFault.{TakeFault}
use Rattle.sources.specs.declared.fault.TakeFault.TheVariants as untaken
use Rattle.sources.specs.declared.sources.Sources.{Sources}
use Rattle.rtr_daemon.specs.DiskAnswers.{DiskAnswers}
use Rattle.rtr_daemon.specs.Files.{Follows, FollowsEach, IsForFault, IsOfBytes, IsOfExport, Loads, LoadsEach, Mark, marks_of, names_of, path_of}
use Rattle.rtr_daemon.specs.Origins.{IsRefusedFor, RefusalComes, RefusalsCome}
use Rattle.rtr_daemon.specs.Shrinking.{percent_at}
use Rattle.rtr_daemon.specs.declared.environment.Stamp.{Stamp}
use Rattle.rtr_daemon.specs.declared.refusal.Refusal.{Refusal}
use Rattle.rtr_daemon.specs.declared.refusal.Refusal.TheVariants as reason
use Rattle.rtr_daemon.specs.declared.refusals.Refused.{Refused}
use Rattle.rtr_daemon.specs.declared.shrink_guard.ShrinkGuard.{ShrinkGuard}
use Rattle.rtr_daemon.specs.declared.watched_file.WatchedExport.{WatchedExport}

-- what is noted of the refusals of these exports comes from their paths
abbrev pub AreRefused : {W : Type 0} → DiskAnswers W → (ℕ → Type 0) → Option ℕ → List WatchedExport → List Mark → Type 0
AreRefused answers clock max_age [] marks = ⊤
AreRefused answers clock max_age (export ∷ exports) [] = ⊥
AreRefused answers clock max_age (export ∷ exports) (mark ∷ marks) = RefusalComes answers clock max_age (path_of export.file) mark.2 × AreRefused answers clock max_age exports marks

-- The maximum age is unchanged.
pub load_age : {W : Type 0} (answers : DiskAnswers W) (percent : Option ℕ) (export : WatchedExport) (now : ℕ) (stamp : Stamp) (result : Result ℕ TakeFault) (old new : Sources) → Loads answers percent export now stamp result old new → new.max_age ≡ old.max_age
load_age answers percent export now stamp (Ok expired) old new (bytes, whole, taken) = taken.3.max_age
load_age answers percent export now stamp (Err fault) old new (bytes, whole, taken) = taken.3.max_age

pub follow_age : {W : Type 0} (answers : DiskAnswers W) (percent : Option ℕ) (export : WatchedExport) (now millis : ℕ) (mark : Mark) (old new : Sources) → Follows answers percent export now millis mark old new → new.max_age ≡ old.max_age
follow_age answers percent export now millis mark old new (inl (result, stamp, loads, noted)) = load_age answers percent export now stamp result old new loads
follow_age answers percent export now millis mark old new (inr (news, same)) = ap (λ s. s.max_age) same

-- A refusal that is noted for no bytes says nothing of bytes.
of_none : {W : Type 0} (answers : DiskAnswers W) (clock : ℕ → Type 0) (max_age : Option ℕ) (path : List ℕ) (refused : Refused) → refused.stamp ≡ None → RefusalComes answers clock max_age path (Some refused)
of_none answers clock max_age path refused none stamp is own = absurd (let never : None ≡ Some stamp = sym none ∙ is in cc)

-- The bytes have the fault for which they were refused.
of_bytes : {W : Type 0} (answers : DiskAnswers W) (clock : ℕ → Type 0) (max_age : Option ℕ) (percent : Option ℕ) (export : WatchedExport) (now : ℕ) (stamp : Stamp) (fault : TakeFault) (old new : Sources) (why : Refusal) → old.max_age ≡ max_age → clock now → Loads answers percent export now stamp (Err fault) old new → IsForFault fault why → IsOfBytes why
    → IsRefusedFor answers clock max_age (path_of export.file) stamp why
of_bytes answers clock max_age percent export now stamp (untaken.Export fault) old new (reason.Export file) aged at (bytes, whole, taken) is own =
    record { bytes = bytes; whole = whole; now = now; answered = at; fault = untaken.Export fault; faulty = subst (λ age. IsUnread age bytes now (untaken.Export fault)) aged taken.0.0.1; noted = is }
of_bytes answers clock max_age percent export now stamp (untaken.Ccr fault) old new (reason.Export file) aged at (bytes, whole, taken) is own =
    record { bytes = bytes; whole = whole; now = now; answered = at; fault = untaken.Ccr fault; faulty = subst (λ age. IsUnread age bytes now (untaken.Ccr fault)) aged taken.0.0.1; noted = is }
of_bytes answers clock max_age percent export now stamp untaken.NoSuchFile old new (reason.Export file) aged at loads is own = absurd (subst IsOfExport is own)
of_bytes answers clock max_age percent export now stamp (untaken.Shrank part had has) old new (reason.Export file) aged at loads is own = absurd (subst IsOfExport is own)
of_bytes answers clock max_age percent export now stamp fault old new (reason.Device error) aged at loads is own = absurd is
of_bytes answers clock max_age percent export now stamp fault old new (reason.Slurm file) aged at loads is own = absurd is
of_bytes answers clock max_age percent export now stamp fault old new (reason.SlurmUnion file) aged at loads is own = absurd is
of_bytes answers clock max_age percent export now stamp fault old new reason.OtherSlurm aged at loads is own = absurd is
of_bytes answers clock max_age percent export now stamp fault old new (reason.Point file) aged at loads is own = absurd is
of_bytes answers clock max_age percent export now stamp fault old new (reason.Set file) aged at loads is own = absurd is
of_bytes answers clock max_age percent export now stamp fault old new reason.Changing aged at loads is own = absurd is
of_bytes answers clock max_age percent export now stamp fault old new reason.Clock aged at loads is own = absurd is

follow_refused : {W : Type 0} (answers : DiskAnswers W) (clock : ℕ → Type 0) (max_age : Option ℕ) (percent : Option ℕ) (export : WatchedExport) (now millis : ℕ) (mark : Mark) (old new : Sources) → old.max_age ≡ max_age → clock now → Follows answers percent export now millis mark old new
    → RefusalComes answers clock max_age (path_of export.file) export.file.refusals.last → RefusalComes answers clock max_age (path_of export.file) mark.2
follow_refused {W} answers clock max_age percent export now millis mark old new aged at follows before = by follows where
  path : List ℕ
  path = path_of export.file

  by : Follows answers percent export now millis mark old new → RefusalComes answers clock max_age path mark.2
  by (inl (Ok expired, stamp, loads, noted)) = subst (RefusalComes answers clock max_age path) (sym noted.refused) tt
  by (inl (Err fault, stamp, loads, noted)) =
      let r = noted.refused in
      subst (RefusalComes answers clock max_age path) (sym r.1)
      (λ other is own. subst (λ s. IsRefusedFor answers clock max_age path s r.0.why) (let same : stamp ≡ other = (let both : Some stamp ≡ Some other = sym r.2 ∙ is in cc) in same) (of_bytes answers clock max_age percent export now stamp fault old new r.0.why aged at loads r.3 own))
  by (inr (inl (unchanged, noted, ahead), same)) = subst (RefusalComes answers clock max_age path) (sym (ap (λ m. m.2) noted)) tt
  by (inr (inr (cannot, short, loaded, inl kept, at_same), same)) = subst (RefusalComes answers clock max_age path) (sym kept) before
  by (inr (inr (cannot, short, loaded, inr (refused, noted, none), at_same), same)) = subst (RefusalComes answers clock max_age path) (sym noted) (of_none answers clock max_age path refused none)

-- After a poll of each export
pub each_refused : {W : Type 0} (answers : DiskAnswers W) (clock ticks : ℕ → Type 0) (max_age : Option ℕ) (guard : Option ShrinkGuard) (exports : List WatchedExport) (marks : List Mark) (old new : Sources) → FollowsEach answers clock ticks guard exports marks old new → old.max_age ≡ max_age → RefusalsCome answers clock max_age exports
    → AreRefused answers clock max_age exports marks
each_refused answers clock ticks max_age guard [] marks old new h aged before = tt
each_refused answers clock ticks max_age guard (export ∷ exports) [] old new h aged before = absurd h
each_refused answers clock ticks max_age guard (export ∷ exports) (mark ∷ marks) old new h aged before =
    let one = h.1 in
    let percent = percent_at guard export.short_since one.1 in
    let later = follow_age answers percent export one.0 one.1 mark old h.0 one.4 ∙ aged in
    (follow_refused answers clock max_age percent export one.0 one.1 mark old h.0 aged one.2 one.4 before.0, each_refused answers clock ticks max_age guard exports marks h.0 new h.2 later before.1)

-- At the start none is refused.
pub none_refused : {W : Type 0} (answers : DiskAnswers W) (clock : ℕ → Type 0) (max_age : Option ℕ) (now : ℕ) (exports : List WatchedExport) (marks : List Mark) (old new : Sources) → LoadsEach answers now exports marks old new → AreRefused answers clock max_age exports marks
none_refused answers clock max_age now [] marks old new h = tt
none_refused answers clock max_age now (export ∷ exports) [] old new h = absurd h
none_refused answers clock max_age now (export ∷ exports) (mark ∷ marks) old new h =
    (subst (RefusalComes answers clock max_age (path_of export.file)) (sym h.2.3) tt, none_refused answers clock max_age now exports marks h.1 new h.3)

-- So it is of exports of the same paths of which this is noted.
pub refusals_as : {W : Type 0} (answers : DiskAnswers W) (clock : ℕ → Type 0) (max_age : Option ℕ) (before after : List WatchedExport) → names_of after ≡ names_of before → AreRefused answers clock max_age before (marks_of after) → RefusalsCome answers clock max_age after
refusals_as answers clock max_age [] [] same h = tt
refusals_as answers clock max_age [] (b ∷ after) same h = absurd (let never : (path_of b.file, b.number) ∷ names_of after ≡ [] = same in cc)
refusals_as answers clock max_age (a ∷ before) [] same h = absurd h
refusals_as answers clock max_age (a ∷ before) (b ∷ after) same h =
    let heads : (path_of b.file, b.number) ∷ names_of after ≡ (path_of a.file, a.number) ∷ names_of before = same in
    let one : List ℕ × ℕ = (path_of b.file, b.number) in
    let other : List ℕ × ℕ = (path_of a.file, a.number) in
    let head : other ≡ one = cc in
    let tails : names_of after ≡ names_of before = cc in
    (subst (λ p. RefusalComes answers clock max_age p b.file.refusals.last) (ap (λ name. name.0) head) h.0, refusals_as answers clock max_age before after tails h.1)
