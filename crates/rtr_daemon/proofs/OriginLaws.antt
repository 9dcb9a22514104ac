-- What the sources have still comes from the paths that are watched.
use Rattle.std.proofs.Common.{◌≡◌, ℕ, zero, suc, ◌<◌, ◌≤◌, ◌⊎◌, List, [], ◌∷◌, ◌++◌, inl, inr, length, subst, sym, ap, refl, ◌∙◌, arith}
use Rattle.std.specs.Prelude.{slice_get, slice_set, Contains, Option, Some, None, Result, Ok, Err}
use Rattle.std.specs.String.{string_bytes}
use Rattle.std.proofs.lemmas.Option.{slice_get_within}
use Rattle.std.specs.Prelude.{Bool, true, false, bytes_eq}
use Rattle.std.specs.FinMap.{get-empty}
use Rattle.std.specs.Ordering.{nat_cmp}
use Rattle.std.specs.Cmp.Lexicographic.{slice_cmp}
use Rattle.std.proofs.lemmas.List.{append_assoc}
use Rattle.std.proofs.lemmas.List.Elements.{Contains-append_cases, Contains-append_left, Contains-append_right}
use Rattle.std.proofs.lemmas.Slice.Eq.{bytes_eq-Decides}
use Rattle.std.proofs.lemmas.Bool.{cases_eq, cases_lt}
use Rattle.prefixes.proofs.Basics.{set_same, set_other}
use Rattle.points.proofs.Named.{contains_cases}
use Rattle.points.proofs.Using.{contains_map}
use Rattle.points.specs.Accepted.{Accepted as AcceptedPoint, Holds}
use Rattle.points.specs.Answers.{BecomesAt}
use Rattle.points.specs.InUse.{accepted_at, no_points}
use Rattle.points.specs.declared.fault.Offered.{Offered}
use Rattle.points.specs.declared.fault.Offered.TheVariants as offered
use Rattle.points.specs.declared.fault.PointFault.{PointFault}
use Rattle.payload_commands.specs.declared.directories.Directory.{Directory}
use Rattle.sources.specs.Served.{AreUnited, IsLoaded}
use Rattle.sources.specs.declared.fault.TakeFault.{TakeFault}
use Rattle.sources.specs.declared.listed.Listed.{Listed}
use Rattle.sources.specs.declared.sources.Sources.{Sources}
use Rattle.rtr_daemon.specs.DiskAnswers.{DiskAnswers}
use Rattle.rtr_daemon.specs.SocketCalls.{SocketCalls}
use Rattle.rtr_daemon.specs.Due.{DoesWhatIsDue, OnlyAdmitted, OnlyClients, OnlyServed, PollsAll}
use Rattle.rtr_daemon.specs.Files.{AreNumbered, Follows, FollowsEach, FollowsSlurms, Loads, LoadsEach, Mark, loads_of, marks_of, names_of, path_of, paths_of}
use Rattle.rtr_daemon.specs.Origins.{ComesAt, ExceptionsComeFrom, ExportComesFrom, ExportsComeFrom, Place, PointComesFrom, PointsComeFrom, RefusalsCome, SourcesComeFrom, places_of}
use Rattle.rtr_daemon.specs.PointOffers.{IsOffered, OffersEach, OffersPoint, points_of}
use Rattle.rtr_daemon.specs.Shrinking.{percent_at}
use Rattle.rtr_daemon.specs.Starting.{ReadsAll}
use Rattle.rtr_daemon.specs.declared.environment.Stamp.{Stamp}
use Rattle.rtr_daemon.specs.declared.daemon.Daemon.{Daemon}
use Rattle.rtr_daemon.specs.declared.point_polling.WatchedPoint.{WatchedPoint}
use Rattle.rtr_daemon.specs.declared.shrink_guard.ShrinkGuard.{ShrinkGuard}
use Rattle.rtr_daemon.specs.declared.watched_file.WatchedExport.{WatchedExport}
use Rattle.rtr_daemon.specs.declared.watched_file.WatchedFile.{WatchedFile}
use Rattle.rtr_daemon.proofs.RefusalLaws.{each_refused, follow_age, load_age, none_refused, refusals_as}
use Rattle.rtr_daemon.proofs.SlurmRefusalLaws.{slurms_refused}
use Rattle.rtr_daemon.proofs.ContentLaws.{same_many}
use Rattle.rtr_daemon.specs.SlurmRefusals.{SlurmRefusalsCome}

names_equal : (a b : List ℕ) → (a ≡ b) ⊎ (¬ (a ≡ b))
names_equal a b = by (bytes_eq a b) refl where
  by : (is : Bool) → bytes_eq a b ≡ is → (a ≡ b) ⊎ (¬ (a ≡ b))
  by true e = inl ((bytes_eq-Decides a b).0 e)
  by false e = inr (λ same. absurd (let never : true ≡ false = sym ((bytes_eq-Decides a b).1 same) ∙ e in cc))

not_in_none : {X : Type 0} (x : X) → Contains [] x → ⊥
not_in_none x among = absurd (omega (arith, among.1))

-- An element behind the first one
later : {X : Type 0} (first x : X) (xs : List X) → Contains xs x → Contains (first ∷ xs) x
later first x xs h = (suc h.0, omega (arith, h.1), h.2)

-- What is noted of one export changes. The places of the others stay.
other_place : (done rest : List Place) (a b x : Place) → (¬ (a ≡ x)) → Contains (done ++ a ∷ rest) x → Contains (done ++ b ∷ rest) x
other_place done rest a b x differs among = by (Contains-append_cases done (a ∷ rest) x among) where
  behind : (a ≡ x) ⊎ Contains rest x → Contains (done ++ b ∷ rest) x
  behind (inl same) = absurd (differs same)
  behind (inr after) = Contains-append_right done (b ∷ rest) x (later b x rest after)

  by : Contains done x ⊎ Contains (a ∷ rest) x → Contains (done ++ b ∷ rest) x
  by (inl before) = Contains-append_left done (b ∷ rest) x before
  by (inr from) = behind (contains_cases x a rest from)

-- the place of an export with this stamp
abbrev place : WatchedExport → Option Stamp → Place
place export loaded = (path_of export.file, export.number, loaded)

-- the places of exports of which this is noted
abbrev placed : List WatchedExport → List Mark → List Place
placed [] marks = []
placed (export ∷ exports) [] = []
placed (export ∷ exports) (mark ∷ marks) = place export mark.1 ∷ placed exports marks

place_is : (p q : List ℕ) (m n : ℕ) (loaded : Option Stamp) → p ≡ q → m ≡ n → ◌≡◌ {A = Place} (p, m, loaded) (q, n, loaded)
place_is p q m n loaded paths numbers = subst (λ x. ◌≡◌ {A = Place} (p, m, loaded) (x, n, loaded)) paths (subst (λ k. ◌≡◌ {A = Place} (p, m, loaded) (p, k, loaded)) numbers refl)

placed_as : (before after : List WatchedExport) → names_of after ≡ names_of before → placed before (marks_of after) ≡ places_of after
placed_as [] [] same = refl
placed_as [] (b ∷ after) same = absurd (let never : (path_of b.file, b.number) ∷ names_of after ≡ [] = same in cc)
placed_as (a ∷ before) [] same = absurd (let never : [] ≡ (path_of a.file, a.number) ∷ names_of before = same in cc)
placed_as (a ∷ before) (b ∷ after) same =
    let heads : (path_of b.file, b.number) ∷ names_of after ≡ (path_of a.file, a.number) ∷ names_of before = same in
    let one : List ℕ × ℕ = (path_of b.file, b.number) in
    let other : List ℕ × ℕ = (path_of a.file, a.number) in
    let head : other ≡ one = cc in
    let tails : names_of after ≡ names_of before = cc in
    ap (λ first. first ∷ placed before (marks_of after)) (place_is (path_of a.file) (path_of b.file) a.number b.number b.file.loaded (ap (λ name. name.0) head) (ap (λ name. name.1) head))
    ∙ ap (λ ps. place b b.file.loaded ∷ ps) (placed_as before after tails)

-- what a poll of an export keeps
pub record KeepsRest (old new : Sources) : Type 0 where
  pub exceptions : new.exceptions ≡ old.exceptions
  pub repository : new.repository ≡ old.repository
  pub max_age : new.max_age ≡ old.max_age

then_rest : (a b c : Sources) → KeepsRest a b → KeepsRest b c → KeepsRest a c
then_rest a b c first second = record { exceptions = second.exceptions ∙ first.exceptions; repository = second.repository ∙ first.repository; max_age = second.max_age ∙ first.max_age }

load_rest : {W : Type 0} (answers : DiskAnswers W) (percent : Option ℕ) (export : WatchedExport) (now : ℕ) (stamp : Stamp) (result : Result ℕ TakeFault) (old new : Sources) → Loads answers percent export now stamp result old new → KeepsRest old new
load_rest answers percent export now stamp (Ok expired) old new (bytes, whole, taken) = record { exceptions = taken.1; repository = taken.2; max_age = taken.3.max_age }
load_rest answers percent export now stamp (Err fault) old new (bytes, whole, taken) = record { exceptions = taken.1; repository = taken.2; max_age = taken.3.max_age }

-- An export was loaded, and its stamp is noted.
loaded_comes : {W : Type 0} (answers : DiskAnswers W) (clock : ℕ → Type 0) (max_age : Option ℕ) (done rest : List Place) (percent : Option ℕ) (export : WatchedExport) (now expired : ℕ) (stamp : Stamp) (old new : Sources) → old.max_age ≡ max_age → clock now → Loads answers percent export now stamp (Ok expired) old new
    → (i : ℕ) → ((¬ (i ≡ export.number)) → ComesAt answers clock max_age (done ++ place export export.file.loaded ∷ rest) old.lists.items i) → ComesAt answers clock max_age (done ++ place export (Some stamp) ∷ rest) new.lists.items i
loaded_comes answers clock max_age done rest percent export now expired stamp old new aged at (bytes, whole, taken) i before = subst (λ lists. ComesAt answers clock max_age (done ++ place export (Some stamp) ∷ rest) lists i) (sym taken.0.1.3) at_i where
  at_i : ComesAt answers clock max_age (done ++ place export (Some stamp) ∷ rest) (slice_set old.lists.items export.number taken.0.1.0) i
  at_i x got = by_place (cases_eq i export.number) where
    by_place : (i ≡ export.number) ⊎ (¬ (i ≡ export.number)) → (p : List ℕ) × (s : Stamp) × Contains (done ++ place export (Some stamp) ∷ rest) (p, i, Some s) × ExportComesFrom answers clock max_age p s x
    by_place (inl same) =
        let is : Some taken.0.1.0 ≡ Some x = sym (set_same old.lists.items export.number taken.0.1.0 taken.0.0) ∙ ap (slice_get (slice_set old.lists.items export.number taken.0.1.0)) (sym same) ∙ got in
        let l_is : taken.0.1.0 ≡ x = cc in
        let here : Contains (done ++ place export (Some stamp) ∷ rest) (place export (Some stamp)) = Contains-append_right done (place export (Some stamp) ∷ rest) (place export (Some stamp)) (0, omega arith, refl) in (
          path_of export.file,
          stamp,
          subst (λ k. Contains (done ++ place export (Some stamp) ∷ rest) (path_of export.file, k, Some stamp)) (sym same) here,
          subst (ExportComesFrom answers clock max_age (path_of export.file) stamp) l_is (record { bytes = bytes; whole = whole; now = now; answered = at; expired = expired; taken = subst (λ age. IsLoaded age bytes now expired taken.0.1.0) aged taken.0.1.1 }),
        )
    by_place (inr other) =
        let b = before other x (sym (set_other old.lists.items export.number i taken.0.1.0 other) ∙ got) in
        (b.0, b.1, other_place done rest (place export export.file.loaded) (place export (Some stamp)) (b.0, i, Some b.1) (λ same. other (sym (ap (λ p. p.1) same))) b.2, b.3)

-- Nothing was loaded of an export, and its stamp stays.
kept_comes : {W : Type 0} (answers : DiskAnswers W) (clock : ℕ → Type 0) (max_age : Option ℕ) (done rest : List Place) (export : WatchedExport) (loaded : Option Stamp) (old new : List Listed) → loaded ≡ export.file.loaded → new ≡ old
    → ExportsComeFrom answers clock max_age (done ++ place export export.file.loaded ∷ rest) old → ExportsComeFrom answers clock max_age (done ++ place export loaded ∷ rest) new
kept_comes answers clock max_age done rest export loaded old new noted same before =
    subst (λ l. ExportsComeFrom answers clock max_age (done ++ place export l ∷ rest) new) (sym noted) (subst (ExportsComeFrom answers clock max_age (done ++ place export export.file.loaded ∷ rest)) (sym same) before)

follow_rest : {W : Type 0} (answers : DiskAnswers W) (percent : Option ℕ) (export : WatchedExport) (now millis : ℕ) (mark : Mark) (old new : Sources) → Follows answers percent export now millis mark old new → KeepsRest old new
follow_rest answers percent export now millis mark old new (inl (result, stamp, loads, noted)) = load_rest answers percent export now stamp result old new loads
follow_rest answers percent export now millis mark old new (inr (news, same)) = record { exceptions = ap (λ s. s.exceptions) same; repository = ap (λ s. s.repository) same; max_age = ap (λ s. s.max_age) same }

follow_comes : {W : Type 0} (answers : DiskAnswers W) (clock : ℕ → Type 0) (max_age : Option ℕ) (done rest : List Place) (percent : Option ℕ) (export : WatchedExport) (now millis : ℕ) (mark : Mark) (old new : Sources) → old.max_age ≡ max_age → clock now → Follows answers percent export now millis mark old new
    → ExportsComeFrom answers clock max_age (done ++ place export export.file.loaded ∷ rest) old.lists.items → ExportsComeFrom answers clock max_age (done ++ place export mark.1 ∷ rest) new.lists.items
follow_comes answers clock max_age done rest percent export now millis mark old new aged at (inl (Ok expired, stamp, loads, noted)) before = λ i.
    subst (λ l. ComesAt answers clock max_age (done ++ place export l ∷ rest) new.lists.items i) (sym noted.loaded) (loaded_comes answers clock max_age done rest percent export now expired stamp old new aged at loads i (λ other. before i))
follow_comes answers clock max_age done rest percent export now millis mark old new aged at (inl (Err fault, stamp, (bytes, whole, taken), noted)) before = kept_comes answers clock max_age done rest export mark.1 old.lists.items new.lists.items noted.loaded taken.0.1 before
follow_comes answers clock max_age done rest percent export now millis mark old new aged at (inr (inl (unchanged, noted, ahead), same)) before = kept_comes answers clock max_age done rest export mark.1 old.lists.items new.lists.items (ap (λ m. m.1) noted) (ap (λ s. s.lists.items) same) before
follow_comes answers clock max_age done rest percent export now millis mark old new aged at (inr (inr (cannot, short, loaded, refused, at_same), same)) before = kept_comes answers clock max_age done rest export mark.1 old.lists.items new.lists.items loaded (ap (λ s. s.lists.items) same) before

each_rest : {W : Type 0} (answers : DiskAnswers W) (clock ticks : ℕ → Type 0) (guard : Option ShrinkGuard) (exports : List WatchedExport) (marks : List Mark) (old new : Sources) → FollowsEach answers clock ticks guard exports marks old new → KeepsRest old new
each_rest answers clock ticks guard [] [] old new h = record { exceptions = ap (λ s. s.exceptions) h; repository = ap (λ s. s.repository) h; max_age = ap (λ s. s.max_age) h }
each_rest answers clock ticks guard [] (mark ∷ marks) old new h = absurd h
each_rest answers clock ticks guard (export ∷ exports) [] old new h = absurd h
each_rest answers clock ticks guard (export ∷ exports) (mark ∷ marks) old new h =
    let one = h.1 in
    then_rest old h.0 new (follow_rest answers (percent_at guard export.short_since one.1) export one.0 one.1 mark old h.0 one.4) (each_rest answers clock ticks guard exports marks h.0 new h.2)

-- Those before are done.
each_comes : {W : Type 0} (answers : DiskAnswers W) (clock ticks : ℕ → Type 0) (max_age : Option ℕ) (guard : Option ShrinkGuard) (done : List Place) (exports : List WatchedExport) (marks : List Mark) (old new : Sources) → FollowsEach answers clock ticks guard exports marks old new → old.max_age ≡ max_age
    → ExportsComeFrom answers clock max_age (done ++ places_of exports) old.lists.items → ExportsComeFrom answers clock max_age (done ++ placed exports marks) new.lists.items
each_comes answers clock ticks max_age guard done [] [] old new h aged before = subst (λ s. ExportsComeFrom answers clock max_age (done ++ []) s.lists.items) (sym h) before
each_comes answers clock ticks max_age guard done [] (mark ∷ marks) old new h aged before = absurd h
each_comes answers clock ticks max_age guard done (export ∷ exports) [] old new h aged before = absurd h
each_comes answers clock ticks max_age guard done (export ∷ exports) (mark ∷ marks) old new h aged before =
    let one = h.1 in
    let here = place export mark.1 in
    let percent = percent_at guard export.short_since one.1 in
    let later = follow_age answers percent export one.0 one.1 mark old h.0 one.4 ∙ aged in
    let step = follow_comes answers clock max_age done (places_of exports) percent export one.0 one.1 mark old h.0 aged one.2 one.4 before in
    subst (λ ps. ExportsComeFrom answers clock max_age ps new.lists.items) (append_assoc done (here ∷ []) (placed exports marks))
    (each_comes answers clock ticks max_age guard (done ++ here ∷ []) exports marks h.0 new h.2 later (subst (λ ps. ExportsComeFrom answers clock max_age ps h.0.lists.items) (sym (append_assoc done (here ∷ []) (places_of exports))) step))

-- The local exceptions, and what a poll of them keeps
pub record SlurmsKeep (old new : Sources) : Type 0 where
  pub lists : new.lists.items ≡ old.lists.items
  pub repository : new.repository ≡ old.repository
  pub max_age : new.max_age ≡ old.max_age

slurms_rest : {W : Type 0} (answers : DiskAnswers W) (files : List WatchedFile) (loads : List (Option Stamp)) (old new : Sources) → FollowsSlurms answers files loads old new → SlurmsKeep old new
slurms_rest answers files loads old new (inl (result, t)) = record { lists = ap (λ l. l.items) t.taken.1; repository = t.taken.2; max_age = t.taken.3.max_age }
slurms_rest answers files loads old new (inr (news, noted, same)) = record { lists = ap (λ s. s.lists.items) same; repository = ap (λ s. s.repository) same; max_age = ap (λ s. s.max_age) same }

-- What is noted of the files is what was loaded.
slurms_come : {W : Type 0} (answers : DiskAnswers W) (files : List WatchedFile) (loads : List (Option Stamp)) (old new : Sources) → FollowsSlurms answers files loads old new → ExceptionsComeFrom answers (paths_of files) (loads_of files) old.exceptions
    → ExceptionsComeFrom answers (paths_of files) loads new.exceptions
slurms_come answers files loads old new (inl (Ok u, t)) before = record { stamps = t.stamps; contents = t.contents; read = t.read; noted = t.noted; united = t.taken.0 }
slurms_come answers files loads old new (inl (Err fault, t)) before = record {
  stamps = before.stamps;
  contents = before.contents;
  read = before.read;
  noted = t.noted ∙ before.noted;
  united = subst (AreUnited before.contents) (sym t.taken.0.1) before.united;
}
slurms_come answers files loads old new (inr (news, noted, same)) before = record {
  stamps = before.stamps;
  contents = before.contents;
  read = before.read;
  noted = noted ∙ before.noted;
  united = subst (λ s. AreUnited before.contents s.exceptions) (sym same) before.united;
}

-- Publication points, and what an offer keeps
pub record OffersKeep (old new : Sources) : Type 0 where
  pub lists : new.lists ≡ old.lists
  pub exceptions : new.exceptions ≡ old.exceptions
  pub max_age : new.max_age ≡ old.max_age

accepted_comes : {W : Type 0} (answers : DiskAnswers W) (paths : List (List ℕ)) (path : List ℕ) (directory : Directory) (now : ℕ) (old new : Sources) (h : IsOffered directory now old new) → BecomesAt (Ok offered.New) directory.name.now old.repository new.repository directory.manifest.items h.files → Contains paths path
    → answers.directories path directory → PointsComeFrom answers paths old.repository → (name : List ℕ) (last : AcceptedPoint) → accepted_at new.repository name ≡ Some last → (name ≡ directory.name.now) ⊎ (¬ (name ≡ directory.name.now)) → PointComesFrom answers paths name last
accepted_comes answers paths path directory now old new h becomes among answered before name last got (inl same) =
    let is : Some becomes.0.0 ≡ Some last = sym becomes.0.1 ∙ ap (accepted_at new.repository) (sym same) ∙ got in
    let last_is : becomes.0.0 ≡ last = cc in
    record {
      path = path;
      among = among;
      directory = directory;
      answered = answered;
      named = sym same;
      files = h.files;
      supplied = h.supplied;
      holds = subst (Holds directory.manifest.items h.files) last_is becomes.0.2;
    }
accepted_comes answers paths path directory now old new h becomes among answered before name last got (inr other) = before name last (sym (becomes.1 name other) ∙ got)

becomes_comes : {W : Type 0} (answers : DiskAnswers W) (paths : List (List ℕ)) (path : List ℕ) (directory : Directory) (now : ℕ) (old new : Sources) (h : IsOffered directory now old new) (answer : Result Offered PointFault) → BecomesAt answer directory.name.now old.repository new.repository directory.manifest.items h.files → Contains paths path
    → answers.directories path directory → PointsComeFrom answers paths old.repository → PointsComeFrom answers paths new.repository
becomes_comes answers paths path directory now old new h (Ok offered.New) becomes among answered before = λ name last got. accepted_comes answers paths path directory now old new h becomes among answered before name last got (names_equal name directory.name.now)
becomes_comes answers paths path directory now old new h (Ok offered.Same) becomes among answered before = subst (PointsComeFrom answers paths) (sym becomes) before
becomes_comes answers paths path directory now old new h (Err fault) becomes among answered before = subst (PointsComeFrom answers paths) (sym becomes) before

offer_comes : {W : Type 0} (answers : DiskAnswers W) (paths : List (List ℕ)) (path : List ℕ) (now : ℕ) (old new : Sources) → OffersPoint answers path now old new → Contains paths path → PointsComeFrom answers paths old.repository → PointsComeFrom answers paths new.repository
offer_comes answers paths path now old new (inl (fails, same)) among before = subst (λ s. PointsComeFrom answers paths s.repository) (sym same) before
offer_comes answers paths path now old new (inr (directory, answered, result, inl offers)) among before = becomes_comes answers paths path directory now old new offers offers.answer offers.becomes among answered before
offer_comes answers paths path now old new (inr (directory, answered, result, inr (reason, same))) among before = subst (λ s. PointsComeFrom answers paths s.repository) (sym same) before

offer_rest : {W : Type 0} (answers : DiskAnswers W) (path : List ℕ) (now : ℕ) (old new : Sources) → OffersPoint answers path now old new → OffersKeep old new
offer_rest answers path now old new (inl (fails, same)) = record { lists = ap (λ s. s.lists) same; exceptions = ap (λ s. s.exceptions) same; max_age = ap (λ s. s.max_age) same }
offer_rest answers path now old new (inr (directory, answered, result, inl offers)) = record { lists = offers.lists; exceptions = offers.exceptions; max_age = offers.settings.max_age }
offer_rest answers path now old new (inr (directory, answered, result, inr (reason, same))) = record { lists = ap (λ s. s.lists) same; exceptions = ap (λ s. s.exceptions) same; max_age = ap (λ s. s.max_age) same }

offers_rest : {W : Type 0} (answers : DiskAnswers W) (clock : ℕ → Type 0) (points : List WatchedPoint) (old new : Sources) → OffersEach answers clock points old new → OffersKeep old new
offers_rest answers clock [] old new h = record { lists = ap (λ s. s.lists) h; exceptions = ap (λ s. s.exceptions) h; max_age = ap (λ s. s.max_age) h }
offers_rest answers clock (point ∷ points) old new h =
    let first = offer_rest answers (string_bytes point.path) h.0 old h.1 h.3 in
    let rest = offers_rest answers clock points h.1 new h.4 in
    record { lists = rest.lists ∙ first.lists; exceptions = rest.exceptions ∙ first.exceptions; max_age = rest.max_age ∙ first.max_age }

offers_come : {W : Type 0} (answers : DiskAnswers W) (clock : ℕ → Type 0) (paths : List (List ℕ)) (points : List WatchedPoint) (old new : Sources) → ((point : WatchedPoint) → Contains points point → Contains paths (string_bytes point.path)) → OffersEach answers clock points old new → PointsComeFrom answers paths old.repository
    → PointsComeFrom answers paths new.repository
offers_come answers clock paths [] old new within h before = subst (λ s. PointsComeFrom answers paths s.repository) (sym h) before
offers_come answers clock paths (point ∷ points) old new within h before =
    offers_come answers clock paths points h.1 new (λ p is. within p (later point p points is)) h.4
    (offer_comes answers paths (string_bytes point.path) h.0 old h.1 h.3 (within point (0, omega arith, refl)) before)

-- A poll of all that is watched
polled_comes : {S T W : Type 0} (answers : DiskAnswers W) (clock ticks : ℕ → Type 0) (old new : Daemon S T) → PollsAll answers clock ticks old new → names_of new.exports.items ≡ names_of old.exports.items → paths_of new.slurms.items ≡ paths_of old.slurms.items → points_of new.points.items ≡ points_of old.points.items → new.plan ≡ old.plan
    → SourcesComeFrom answers clock old → SourcesComeFrom answers clock new
polled_comes answers clock ticks old new p names slurms points plan before =
    let age = old.plan.max_age in
    let followed = each_rest answers clock ticks old.plan.shrink old.exports.items (marks_of new.exports.items) old.service.sources p.followed p.exports in
    let loads = loads_of new.slurms.items in
    let excepted = slurms_rest answers old.slurms.items loads p.followed p.excepted p.slurms in
    let offered = offers_rest answers clock old.points.items p.excepted new.service.sources p.points in
    let exports = each_comes answers clock ticks age old.plan.shrink [] old.exports.items (marks_of new.exports.items) old.service.sources p.followed p.exports before.aged before.exports in
    let exceptions = slurms_come answers old.slurms.items loads p.followed p.excepted p.slurms (subst (ExceptionsComeFrom answers (paths_of old.slurms.items) (loads_of old.slurms.items)) (sym followed.exceptions) before.exceptions) in
    let held = subst (PointsComeFrom answers (points_of old.points.items)) (sym (excepted.repository ∙ followed.repository)) before.points in
    let offers = offers_come answers clock (points_of old.points.items) old.points.items p.excepted new.service.sources (λ q is. contains_map (λ w. string_bytes w.path) old.points.items q is) p.points held in
    let same_age : age ≡ new.plan.max_age = sym (ap (λ plan. plan.max_age) plan) in
    record {
      aged = offered.max_age ∙ excepted.max_age ∙ followed.max_age ∙ before.aged ∙ same_age;
      exports =
          subst (λ age. ExportsComeFrom answers clock age (places_of new.exports.items) new.service.sources.lists.items) same_age
          (subst (λ places. ExportsComeFrom answers clock age places new.service.sources.lists.items) (placed_as old.exports.items new.exports.items names)
          (subst (ExportsComeFrom answers clock age (placed old.exports.items (marks_of new.exports.items))) (sym (ap (λ l. l.items) offered.lists ∙ excepted.lists)) exports));
      refusals =
          subst (λ age. RefusalsCome answers clock age new.exports.items) same_age
          (refusals_as answers clock age old.exports.items new.exports.items names
          (each_refused answers clock ticks age old.plan.shrink old.exports.items (marks_of new.exports.items) old.service.sources p.followed p.exports before.aged before.refusals));
      exceptions =
          subst (λ n. ExceptionsComeFrom answers n loads new.service.sources.exceptions) (sym slurms)
          (subst (ExceptionsComeFrom answers (paths_of old.slurms.items) loads) (sym offered.exceptions) exceptions);
      slurm_refusals = slurms_refused answers old.slurms.items new.slurms.items slurms (same_many old.slurms.items new.slurms.items slurms) p.slurm_refusals before.slurm_refusals;
      points = subst (λ n. PointsComeFrom answers n new.service.sources.repository) (sym points) offers;
    }

-- Only clients have changed.
pub clients_come : {S T W : Type 0} (answers : DiskAnswers W) (clock : ℕ → Type 0) (old new : Daemon S T) → OnlyClients old new → SourcesComeFrom answers clock old → SourcesComeFrom answers clock new
clients_come answers clock old new only before = subst (SourcesComeFrom answers clock) (sym only) (record { aged = before.aged; exports = before.exports; refusals = before.refusals; exceptions = before.exceptions; slurm_refusals = before.slurm_refusals; points = before.points })

pub admitted_comes : {S T W : Type 0} (answers : DiskAnswers W) (clock : ℕ → Type 0) (old new : Daemon S T) → OnlyAdmitted old new → SourcesComeFrom answers clock old → SourcesComeFrom answers clock new
admitted_comes answers clock old new only before = subst (SourcesComeFrom answers clock) (sym only) (record { aged = before.aged; exports = before.exports; refusals = before.refusals; exceptions = before.exceptions; slurm_refusals = before.slurm_refusals; points = before.points })

-- Versions may have been dropped.
pub served_comes : {S T W : Type 0} (answers : DiskAnswers W) (clock : ℕ → Type 0) (old new : Daemon S T) → OnlyServed old new → SourcesComeFrom answers clock old → SourcesComeFrom answers clock new
served_comes answers clock old new only before = subst (SourcesComeFrom answers clock) (sym only.rest) (record { aged = before.aged; exports = before.exports; refusals = before.refusals; exceptions = before.exceptions; slurm_refusals = before.slurm_refusals; points = before.points })

-- A turn
pub turn_comes : {S T W : Type 0} (answers : DiskAnswers W) (calls : SocketCalls W) (clock ticks : ℕ → Type 0) (old new : Daemon S T) → DoesWhatIsDue answers calls clock ticks old new → SourcesComeFrom answers clock old → SourcesComeFrom answers clock new
turn_comes answers calls clock ticks old new does before = by_time (cases_lt does.now old.next_check) where
  by_time : (does.now < old.next_check) ⊎ (old.next_check ≤ does.now) → SourcesComeFrom answers clock new
  by_time (inr due) = let p = does.due due in polled_comes answers clock ticks old new p.polls p.paths.exports p.paths.slurms p.paths.points does.rest.0 before
  by_time (inl early) =
      let k = (does.between early).kept in
      let same_age : old.plan.max_age ≡ new.plan.max_age = sym (ap (λ plan. plan.max_age) does.rest.0) in
      record {
        aged = ap (λ s. s.max_age) k.sources ∙ before.aged ∙ same_age;
        exports =
            subst (λ age. ExportsComeFrom answers clock age (places_of new.exports.items) new.service.sources.lists.items) same_age
            (subst (λ e. ExportsComeFrom answers clock old.plan.max_age (places_of e.items) new.service.sources.lists.items) (sym k.exports)
            (subst (λ s. ExportsComeFrom answers clock old.plan.max_age (places_of old.exports.items) s.lists.items) (sym k.sources) before.exports));
        refusals = subst (λ age. RefusalsCome answers clock age new.exports.items) same_age (subst (λ e. RefusalsCome answers clock old.plan.max_age e.items) (sym k.exports) before.refusals);
        exceptions =
            subst (λ e. ExceptionsComeFrom answers (paths_of e.items) (loads_of e.items) new.service.sources.exceptions) (sym k.slurms)
            (subst (λ s. ExceptionsComeFrom answers (paths_of old.slurms.items) (loads_of old.slurms.items) s.exceptions) (sym k.sources) before.exceptions);
        slurm_refusals = subst (λ e. SlurmRefusalsCome answers e.items) (sym k.slurms) before.slurm_refusals;
        points = subst (λ e. PointsComeFrom answers (points_of e.items) new.service.sources.repository) (sym k.points) (subst (λ s. PointsComeFrom answers (points_of old.points.items) s.repository) (sym k.sources) before.points);
      }

-- Each export is loaded at the start. What is kept under the number of one of them comes from its path.
loads_come : {W : Type 0} (answers : DiskAnswers W) (clock : ℕ → Type 0) (max_age : Option ℕ) (now : ℕ) (done : List Place) (exports : List WatchedExport) (marks : List Mark) (old new : Sources) → old.max_age ≡ max_age → clock now → LoadsEach answers now exports marks old new
    → (i : ℕ) → ComesAt answers clock max_age (done ++ places_of exports) old.lists.items i ⊎ ((export : WatchedExport) × Contains exports export × (export.number ≡ i)) → ComesAt answers clock max_age (done ++ placed exports marks) new.lists.items i
loads_come answers clock max_age now done [] [] old new aged at h i (inl before) = subst (λ s. ComesAt answers clock max_age (done ++ []) s.lists.items i) (sym h) before
loads_come answers clock max_age now done [] [] old new aged at h i (inr (export, among, is)) = absurd (not_in_none export among)
loads_come answers clock max_age now done [] (mark ∷ marks) old new aged at h i start = absurd h
loads_come answers clock max_age now done (first ∷ exports) [] old new aged at h i start = absurd h
loads_come answers clock max_age now done (first ∷ exports) (mark ∷ marks) old new aged at h i start =
    subst (λ ps. ComesAt answers clock max_age ps new.lists.items i) (append_assoc done (place first mark.1 ∷ []) (placed exports marks))
    (loads_come answers clock max_age now (done ++ place first mark.1 ∷ []) exports marks h.1 new (load_age answers None first now h.2.0 (Ok h.0) old h.1 h.2.1 ∙ aged) at h.3 i (again (by (cases_eq i first.number))))
  where
    load : ((¬ (i ≡ first.number)) → ComesAt answers clock max_age (done ++ place first first.file.loaded ∷ places_of exports) old.lists.items i) → ComesAt answers clock max_age (done ++ place first mark.1 ∷ places_of exports) h.1.lists.items i
    load before = subst (λ l. ComesAt answers clock max_age (done ++ place first l ∷ places_of exports) h.1.lists.items i) (sym h.2.2) (loaded_comes answers clock max_age done (places_of exports) None first now h.0 h.2.0 old h.1 aged at h.2.1 i before)

    by_start : (¬ (i ≡ first.number)) → ComesAt answers clock max_age (done ++ places_of (first ∷ exports)) old.lists.items i ⊎ ((export : WatchedExport) × Contains (first ∷ exports) export × (export.number ≡ i))
        → ComesAt answers clock max_age (done ++ place first mark.1 ∷ places_of exports) h.1.lists.items i ⊎ ((export : WatchedExport) × Contains exports export × (export.number ≡ i))
    by_start other (inl before) = inl (load (λ o. before))
    by_start other (inr (export, among, is)) = by_export (contains_cases export first exports among) where
      by_export : (first ≡ export) ⊎ Contains exports export → ComesAt answers clock max_age (done ++ place first mark.1 ∷ places_of exports) h.1.lists.items i ⊎ ((e : WatchedExport) × Contains exports e × (e.number ≡ i))
      by_export (inl same) = absurd (other (sym (ap (λ e. e.number) same ∙ is)))
      by_export (inr behind) = inr (export, behind, is)

    by : (i ≡ first.number) ⊎ (¬ (i ≡ first.number)) → ComesAt answers clock max_age (done ++ place first mark.1 ∷ places_of exports) h.1.lists.items i ⊎ ((export : WatchedExport) × Contains exports export × (export.number ≡ i))
    by (inl here) = inl (load (λ other. absurd (other here)))
    by (inr other) = by_start other start

    again : ComesAt answers clock max_age (done ++ place first mark.1 ∷ places_of exports) h.1.lists.items i ⊎ ((export : WatchedExport) × Contains exports export × (export.number ≡ i))
        → ComesAt answers clock max_age ((done ++ place first mark.1 ∷ []) ++ places_of exports) h.1.lists.items i ⊎ ((export : WatchedExport) × Contains exports export × (export.number ≡ i))
    again (inl comes) = inl (subst (λ ps. ComesAt answers clock max_age ps h.1.lists.items i) (sym (append_assoc done (place first mark.1 ∷ []) (places_of exports))) comes)
    again (inr loads) = inr loads

loads_rest : {W : Type 0} (answers : DiskAnswers W) (now : ℕ) (exports : List WatchedExport) (marks : List Mark) (old new : Sources) → LoadsEach answers now exports marks old new → KeepsRest old new
loads_rest answers now [] [] old new h = record { exceptions = ap (λ s. s.exceptions) h; repository = ap (λ s. s.repository) h; max_age = ap (λ s. s.max_age) h }
loads_rest answers now [] (mark ∷ marks) old new h = absurd h
loads_rest answers now (export ∷ exports) [] old new h = absurd h
loads_rest answers now (export ∷ exports) (mark ∷ marks) old new h = then_rest old h.1 new (load_rest answers None export now h.2.0 (Ok h.0) old h.1 h.2.1) (loads_rest answers now exports marks h.1 new h.3)

-- the element at a place
element_at : {X : Type 0} (xs : List X) (i : ℕ) → i < length xs → (x : X) × Contains xs x × (slice_get xs i ≡ Some x)
element_at [] i less = absurd (omega (arith, less))
element_at (x ∷ xs) zero less = (x, (0, omega arith, refl), refl)
element_at (x ∷ xs) (suc i) less = let found = element_at xs i (omega (arith, less)) in (found.0, later x found.0 xs found.1, found.2)

-- Before the first load a list is that of an export which is loaded, or there is none.
starts_come : {W : Type 0} (answers : DiskAnswers W) (clock : ℕ → Type 0) (max_age : Option ℕ) (places : List Place) (lists : List Listed) (exports : List WatchedExport) → length lists ≡ length exports → AreNumbered exports
    → (i : ℕ) → ComesAt answers clock max_age places lists i ⊎ ((export : WatchedExport) × Contains exports export × (export.number ≡ i))
starts_come answers clock max_age places lists exports many numbered i = by (cases_lt i (length exports)) where
  by : (i < length exports) ⊎ (length exports ≤ i) → ComesAt answers clock max_age places lists i ⊎ ((export : WatchedExport) × Contains exports export × (export.number ≡ i))
  by (inl less) = let found = element_at exports i less in inr (found.0, found.1, numbered i found.0 found.2)
  by (inr most) = inl (λ l got. absurd (let less : i < length lists = slice_get_within lists i l got in omega (arith, less, most, many)))

pub opened_comes : {S T W : Type 0} (answers : DiskAnswers W) (clock : ℕ → Type 0) (d : Daemon S T) → clock d.started → AreNumbered d.exports.items → ReadsAll answers d.plan d → SourcesComeFrom answers clock d
opened_comes answers clock d at numbered r =
    let age = d.plan.max_age in
    let exports = d.exports.items in
    let marks = marks_of exports in
    let first = loads_rest answers d.started exports marks r.first r.loaded r.exports in
    let lists : ExportsComeFrom answers clock age (places_of exports) r.loaded.lists.items =
    subst (λ places. ExportsComeFrom answers clock age places r.loaded.lists.items) (placed_as exports exports refl)
    (λ i. loads_come answers clock age d.started [] exports marks r.first r.loaded r.aged at r.exports i (starts_come answers clock age (places_of exports) r.first.lists.items exports r.none.0 numbered i)) in
    let loads = loads_of d.slurms.items in
    let second : SlurmsKeep r.loaded r.excepted = slurms_rest answers d.slurms.items loads r.loaded r.excepted (inl (Ok tt, r.slurms)) in
    let third = offers_rest answers (λ t. t ≡ d.started) d.points.items r.excepted d.service.sources r.points in
    let none : r.excepted.repository ≡ no_points = second.repository ∙ first.repository ∙ r.no_points in
    let held : PointsComeFrom answers (points_of d.points.items) r.excepted.repository = λ name last got. absurd (let never : None ≡ Some last = sym (get-empty (slice_cmp nat_cmp) name) ∙ sym (ap (λ z. accepted_at z name) none) ∙ got in cc) in
    record {
      aged = third.max_age ∙ second.max_age ∙ first.max_age ∙ r.aged;
      exports = subst (ExportsComeFrom answers clock age (places_of exports)) (sym (ap (λ l. l.items) third.lists ∙ second.lists)) lists;
      refusals = refusals_as answers clock age exports exports refl (none_refused answers clock age d.started exports marks r.first r.loaded r.exports);
      exceptions =
          subst (ExceptionsComeFrom answers (paths_of d.slurms.items) loads) (sym third.exceptions)
          (record { stamps = r.slurms.stamps; contents = r.slurms.contents; read = r.slurms.read; noted = r.slurms.noted; united = r.slurms.taken.0 });
      slurm_refusals = r.slurm_refusals;
      points = offers_come answers (λ t. t ≡ d.started) (points_of d.points.items) d.points.items r.excepted d.service.sources (λ q is. contains_map (λ w. string_bytes w.path) d.points.items q is) r.points held;
    }
