-- What is read of several files.
use Rattle.std.proofs.Common.{◌≡◌, ℕ, zero, suc, ◌+◌, ◌<◌, ◌≤◌, List, [], ◌∷◌, ◌++◌, length, drop, take, get_or, set, arith, subst, sym, ◌∙◌, refl, get_or-set_other}
use Rattle.std.proofs.Math.Seq.{map-set_same, take-suc}
use Rattle.std.proofs.Common.{ap}
use Rattle.std.specs.String.{string_bytes}
use Rattle.sources.specs.declared.sources.Sources.{Sources}
use Rattle.rtr_daemon.specs.DiskAnswers.{DiskAnswers, ReadsWhole}
use Rattle.rtr_daemon.specs.declared.environment.Stamp.{Stamp}
use Rattle.std.specs.Prelude.{map, slice_get, Option, Some, None}
use Rattle.std.proofs.Common.{inl, inr, ◌⊎◌}
use Rattle.std.proofs.lemmas.Bool.{cases_lt}
use Rattle.std.proofs.lemmas.List.{append-nil, drop_all, get_or_default, length-map, take_all}
use Rattle.std.proofs.lemmas.List.Edits.{map_over_more}
use Rattle.rtr_daemon.specs.declared.refusals.Refused.{Refused}
use Rattle.rtr_daemon.specs.declared.shrink_guard.ShrinkGuard.{ShrinkGuard}
use Rattle.rtr_daemon.specs.Files.{AreContents, AreNumbered, FollowsEach, FollowsOne, LoadsEach, LoadsOne, Mark, SameLoad, SameLoads, loads_of, mark_of, marks_of, names_of, path_of, paths_of, stamp_or}
use Rattle.rtr_daemon.specs.PointOffers.{OffersEach, OffersPoint, points_of}
use Rattle.rtr_daemon.specs.declared.point_polling.WatchedPoint.{WatchedPoint}
use Rattle.rtr_daemon.specs.declared.watched_file.WatchedExport.{WatchedExport}
use Rattle.rtr_daemon.specs.declared.watched_file.WatchedFile.{WatchedFile}

-- One file more
pub contents_more : {W : Type 0} (answers : DiskAnswers W) (paths : List (List ℕ)) (i : ℕ) (path : List ℕ) (stamps : List Stamp) (contents : List (List ℕ)) (stamp : Stamp) (bytes : List ℕ) → i < length paths → path ≡ get_or paths i path → AreContents answers (take i paths) stamps contents
    → ReadsWhole answers path stamp bytes → AreContents answers (take (suc i) paths) (stamps ++ stamp ∷ []) (contents ++ bytes ∷ [])
contents_more answers [] i path stamps contents stamp bytes less is so_far held = absurd (omega (arith, less))
contents_more answers (first ∷ paths) zero path [] [] stamp bytes less is so_far held = (subst (λ p. ReadsWhole answers p stamp bytes) is held, tt)
contents_more answers (first ∷ paths) zero path [] (b ∷ contents) stamp bytes less is so_far held = absurd so_far
contents_more answers (first ∷ paths) zero path (s ∷ stamps) [] stamp bytes less is so_far held = absurd so_far
contents_more answers (first ∷ paths) zero path (s ∷ stamps) (b ∷ contents) stamp bytes less is so_far held = absurd so_far
contents_more answers (first ∷ paths) (suc i) path [] [] stamp bytes less is so_far held = absurd so_far
contents_more answers (first ∷ paths) (suc i) path [] (b ∷ contents) stamp bytes less is so_far held = absurd so_far
contents_more answers (first ∷ paths) (suc i) path (s ∷ stamps) [] stamp bytes less is so_far held = absurd so_far
contents_more answers (first ∷ paths) (suc i) path (s ∷ stamps) (b ∷ contents) stamp bytes less is so_far held =
    (so_far.0, contents_more answers paths i path stamps contents stamp bytes (omega (arith, less)) is so_far.1 held)

-- Each path has its stamp.
pub contents_many : {W : Type 0} (answers : DiskAnswers W) (paths : List (List ℕ)) (stamps : List Stamp) (contents : List (List ℕ)) → AreContents answers paths stamps contents → length stamps ≡ length paths
contents_many answers [] [] contents read = refl
contents_many answers [] (s ∷ stamps) [] read = absurd read
contents_many answers [] (s ∷ stamps) (b ∷ contents) read = absurd read
contents_many answers (path ∷ paths) [] [] read = absurd read
contents_many answers (path ∷ paths) [] (b ∷ contents) read = absurd read
contents_many answers (path ∷ paths) (s ∷ stamps) [] read = absurd read
contents_many answers (path ∷ paths) (s ∷ stamps) (b ∷ contents) read = ap suc (contents_many answers paths stamps contents read.1)

-- A file is written, with the stamp of its last load.
set_loads : (files : List WatchedFile) (i : ℕ) (new : WatchedFile) → loads_of (set files i new) ≡ set (loads_of files) i new.loaded
set_loads [] i new = refl
set_loads (file ∷ files) zero new = refl
set_loads (file ∷ files) (suc i) new = ap (λ loads. file.loaded ∷ loads) (set_loads files i new)

noted_more : (stamps : List Stamp) (loads : List (Option Stamp)) (i : ℕ) (before : Option Stamp) → i < length stamps → i < length loads
    → set (take i (map Some stamps) ++ drop i loads) i (stamp_or (slice_get stamps i) before) ≡ take (suc i) (map Some stamps) ++ drop (suc i) loads
noted_more [] loads i before less within = absurd (omega (arith, less))
noted_more (s ∷ stamps) [] i before less within = absurd (omega (arith, within))
noted_more (s ∷ stamps) (l ∷ loads) zero before less within = refl
noted_more (s ∷ stamps) (l ∷ loads) (suc i) before less within = ap (λ all. Some s ∷ all) (noted_more stamps loads i before (omega (arith, less)) (omega (arith, within)))

-- One stamp more is noted.
pub loaded_more : (stamps : List Stamp) (initial files : List WatchedFile) (i : ℕ) (before : Option Stamp) (new : WatchedFile) → i < length stamps → i < length initial → new.loaded ≡ stamp_or (slice_get stamps i) before
    → loads_of files ≡ take i (map Some stamps) ++ drop i (loads_of initial) → loads_of (set files i new) ≡ take (suc i) (map Some stamps) ++ drop (suc i) (loads_of initial)
loaded_more stamps initial files i before new less within is so_far =
    set_loads files i new ∙ ap (λ loads. set loads i new.loaded) so_far ∙ ap (set (take i (map Some stamps) ++ drop i (loads_of initial)) i) is
    ∙ noted_more stamps (loads_of initial) i before less (subst (λ n. i < n) (sym (length-map initial (λ file. file.loaded))) within)

noted_all : (stamps : List Stamp) (loads : List (Option Stamp)) (i : ℕ) → length stamps ≡ i → length loads ≡ i → take i (map Some stamps) ++ drop i loads ≡ map Some stamps
noted_all [] [] zero many all = refl
noted_all [] [] (suc i) many all = absurd (omega (arith, many))
noted_all [] (l ∷ loads) zero many all = absurd (omega (arith, all))
noted_all [] (l ∷ loads) (suc i) many all = absurd (omega (arith, many))
noted_all (s ∷ stamps) loads zero many all = absurd (omega (arith, many))
noted_all (s ∷ stamps) [] (suc i) many all = absurd (omega (arith, all))
noted_all (s ∷ stamps) (l ∷ loads) (suc i) many all = ap (λ rest. Some s ∷ rest) (noted_all stamps loads i (omega (arith, many)) (omega (arith, all)))

-- All stamps are noted.
pub loaded_all : (stamps : List Stamp) (initial files : List WatchedFile) (i : ℕ) → length stamps ≡ length initial → i ≡ length initial → loads_of files ≡ take i (map Some stamps) ++ drop i (loads_of initial) → loads_of files ≡ map Some stamps
loaded_all stamps initial files i many all so_far = so_far ∙ noted_all stamps (loads_of initial) i (many ∙ sym all) (length-map initial (λ file. file.loaded) ∙ sym all)

-- One element more
pub each_more : {A : Type 0} (P : A → Type 0) (xs : List A) (i : ℕ) (x : A) → i < length xs → x ≡ get_or xs i x → P x → ((k : ℕ) (d : A) → k < i → P (get_or xs k d)) → (k : ℕ) (d : A) → k < i + 1 → P (get_or xs k d)
each_more P xs i x less is last so_far k d within = by (cases_lt k i) where
  by : (k < i) ⊎ (i ≤ k) → P (get_or xs k d)
  by (inl earlier) = so_far k d earlier
  by (inr later) =
      let same : k ≡ i = omega (arith, within, later) in
      subst (λ n. P (get_or xs n d)) (sym same) (subst P (is ∙ get_or_default xs i x d less) last)

-- One export more was polled.
follows_then : {W : Type 0} (answers : DiskAnswers W) (clock ticks : ℕ → Type 0) (guard : Option ShrinkGuard) (exports : List WatchedExport) (last : WatchedExport) (marks : List Mark) (mark : Mark) (old mid new : Sources) → FollowsEach answers clock ticks guard exports marks old mid
    → FollowsOne answers clock ticks guard last mark mid new → FollowsEach answers clock ticks guard (exports ++ last ∷ []) (marks ++ mark ∷ []) old new
follows_then answers clock ticks guard [] last [] mark old mid new so_far follows = (new, subst (λ s. FollowsOne answers clock ticks guard last mark s new) so_far follows, refl)
follows_then answers clock ticks guard [] last (first ∷ marks) mark old mid new so_far follows = absurd so_far
follows_then answers clock ticks guard (export ∷ exports) last [] mark old mid new so_far follows = absurd so_far
follows_then answers clock ticks guard (export ∷ exports) last (first ∷ marks) mark old mid new so_far follows =
    (so_far.0, so_far.1, follows_then answers clock ticks guard exports last marks mark so_far.0 mid new so_far.2 follows)

-- An export is written, with what is noted of it.
marks_more : (exports : List WatchedExport) (i : ℕ) (new : WatchedExport) → i < length exports → take (suc i) (marks_of (set exports i new)) ≡ take i (marks_of exports) ++ mark_of new ∷ []
marks_more [] i new less = absurd (omega (arith, less))
marks_more (export ∷ exports) zero new less = refl
marks_more (export ∷ exports) (suc i) new less = ap (λ s. mark_of export ∷ s) (marks_more exports i new (omega (arith, less)))

pub follows_more : {W : Type 0} (answers : DiskAnswers W) (clock ticks : ℕ → Type 0) (guard : Option ShrinkGuard) (exports written : List WatchedExport) (i : ℕ) (d new_export : WatchedExport) (old mid new : Sources) → i < length exports → i < length written
    → FollowsEach answers clock ticks guard (take i exports) (take i (marks_of written)) old mid → FollowsOne answers clock ticks guard (get_or exports i d) (mark_of new_export) mid new
    → FollowsEach answers clock ticks guard (take (suc i) exports) (take (suc i) (marks_of (set written i new_export))) old new
follows_more answers clock ticks guard exports written i d new_export old mid new less within so_far follows =
    subst (λ all. FollowsEach answers clock ticks guard all (take (suc i) (marks_of (set written i new_export))) old new) (sym (take-suc exports i d less))
    (subst (λ all. FollowsEach answers clock ticks guard (take i exports ++ get_or exports i d ∷ []) all old new) (sym (marks_more written i new_export within))
    (follows_then answers clock ticks guard (take i exports) (get_or exports i d) (take i (marks_of written)) (mark_of new_export) old mid new so_far follows))

-- An export is written of which the same is noted.
pub marks_kept : (exports : List WatchedExport) (i : ℕ) (d new : WatchedExport) → mark_of new ≡ mark_of (get_or exports i d) → marks_of (set exports i new) ≡ marks_of exports
marks_kept exports i d new same = map-set_same mark_of exports i new d same

-- the same marks
pub mark_is : (a b : Option ℕ) (s t : Option Stamp) (q r : Option Refused) (m n : Option ℕ) → a ≡ b → s ≡ t → q ≡ r → m ≡ n → ◌≡◌ {A = Mark} (a, s, q, m) (b, t, r, n)
mark_is a b s t q r m n since loaded refused at =
    subst (λ w. ◌≡◌ {A = Mark} (a, s, q, m) (w, t, r, n)) since
    (subst (λ x. ◌≡◌ {A = Mark} (a, s, q, m) (a, x, r, n)) loaded (subst (λ y. ◌≡◌ {A = Mark} (a, s, q, m) (a, s, y, n)) refused (subst (λ z. ◌≡◌ {A = Mark} (a, s, q, m) (a, s, q, z)) at refl)))

-- One export more was loaded.
loads_then : {W : Type 0} (answers : DiskAnswers W) (now : ℕ) (exports : List WatchedExport) (last : WatchedExport) (marks : List Mark) (mark : Mark) (old mid new : Sources) (expired : ℕ) → LoadsEach answers now exports marks old mid → LoadsOne answers last now expired mark mid new
    → LoadsEach answers now (exports ++ last ∷ []) (marks ++ mark ∷ []) old new
loads_then answers now [] last [] mark old mid new expired so_far loads = (expired, new, subst (λ s. LoadsOne answers last now expired mark s new) so_far loads, refl)
loads_then answers now [] last (first ∷ marks) mark old mid new expired so_far loads = absurd so_far
loads_then answers now (first ∷ exports) last [] mark old mid new expired so_far loads = absurd so_far
loads_then answers now (first ∷ exports) last (one ∷ marks) mark old mid new expired so_far loads = (so_far.0, so_far.1, so_far.2, loads_then answers now exports last marks mark so_far.1 mid new expired so_far.3 loads)

pub loads_more : {W : Type 0} (answers : DiskAnswers W) (now : ℕ) (exports written : List WatchedExport) (i : ℕ) (d new_export : WatchedExport) (old mid new : Sources) (expired : ℕ) → i < length exports → i < length written
    → LoadsEach answers now (take i exports) (take i (marks_of written)) old mid → LoadsOne answers (get_or exports i d) now expired (mark_of new_export) mid new → LoadsEach answers now (take (suc i) exports) (take (suc i) (marks_of (set written i new_export))) old new
loads_more answers now exports written i d new_export old mid new expired less within so_far loads =
    subst (λ all. LoadsEach answers now all (take (suc i) (marks_of (set written i new_export))) old new) (sym (take-suc exports i d less))
    (subst (λ all. LoadsEach answers now (take i exports ++ get_or exports i d ∷ []) all old new) (sym (marks_more written i new_export within))
    (loads_then answers now (take i exports) (get_or exports i d) (take i (marks_of written)) (mark_of new_export) old mid new expired so_far loads))

-- One publication point more was offered its directory.
offers_then : {W : Type 0} (answers : DiskAnswers W) (clock : ℕ → Type 0) (points : List WatchedPoint) (last : WatchedPoint) (old mid new : Sources) (now : ℕ) → clock now → OffersEach answers clock points old mid → OffersPoint answers (string_bytes last.path) now mid new → OffersEach answers clock (points ++ last ∷ []) old new
offers_then answers clock [] last old mid new now at so_far offers = (now, new, at, subst (λ s. OffersPoint answers (string_bytes last.path) now s new) so_far offers, refl)
offers_then answers clock (first ∷ points) last old mid new now at so_far offers = (so_far.0, so_far.1, so_far.2, so_far.3, offers_then answers clock points last so_far.1 mid new now at so_far.4 offers)

pub offers_more : {W : Type 0} (answers : DiskAnswers W) (clock : ℕ → Type 0) (points : List WatchedPoint) (i : ℕ) (d : WatchedPoint) (old mid new : Sources) (now : ℕ) → i < length points → clock now → OffersEach answers clock (take i points) old mid → OffersPoint answers (string_bytes (get_or points i d).path) now mid new
    → OffersEach answers clock (take (suc i) points) old new
offers_more answers clock points i d old mid new now less at so_far offers =
    subst (λ all. OffersEach answers clock all old new) (sym (take-suc points i d less)) (offers_then answers clock (take i points) (get_or points i d) old mid new now at so_far offers)

-- An export is written whose path and number are as they were.
pub names_kept : (exports : List WatchedExport) (i : ℕ) (d new : WatchedExport) → new.file.path ≡ (get_or exports i d).file.path → new.number ≡ (get_or exports i d).number → names_of (set exports i new) ≡ names_of exports
names_kept exports i d new path number =
    map-set_same (λ e. (path_of e.file, e.number)) exports i new d (ap (λ p. (string_bytes p, new.number)) path ∙ ap (λ n. (path_of (get_or exports i d).file, n)) number)

pub paths_kept : (files : List WatchedFile) (i : ℕ) (d new : WatchedFile) → new.path ≡ (get_or files i d).path → paths_of (set files i new) ≡ paths_of files
paths_kept files i d new path = map-set_same path_of files i new d (ap string_bytes path)

-- A file is written of which path and stamp are as they were.
pub loads_kept : (files : List WatchedFile) (i : ℕ) (d new : WatchedFile) → SameLoad (get_or files i d) new → SameLoads files (set files i new)
loads_kept files i d new same = (paths_kept files i d new same.0, map-set_same (λ file. file.loaded) files i new d same.1)

-- As many files have the same paths.
pub same_many : (files others : List WatchedFile) → paths_of others ≡ paths_of files → length files ≡ length others
same_many files others same = sym (length-map files path_of) ∙ ap length (sym same) ∙ length-map others path_of

-- A slice that was written whole into its vector is what the vector has.
pub written_back : {A : Type 0} (new old : List A) (len : ℕ) → len ≡ length new → length old ≡ length new → take len (new ++ drop (length new) old) ≡ new
written_back [] [] zero len same = refl
written_back [] [] (suc n) len same = absurd (omega (arith, len))
written_back [] (o ∷ old) n len same = absurd (omega (arith, same))
written_back (x ∷ new) [] n len same = absurd (omega (arith, same))
written_back (x ∷ new) (o ∷ old) zero len same = absurd (omega (arith, len))
written_back (x ∷ new) (o ∷ old) (suc n) len same = ap (λ rest. x ∷ rest) (written_back new old n (omega (arith, len)) (omega (arith, same)))

pub points_kept : (points : List WatchedPoint) (i : ℕ) (d new : WatchedPoint) → new.path ≡ (get_or points i d).path → points_of (set points i new) ≡ points_of points
points_kept points i d new path = map-set_same (λ p. string_bytes p.path) points i new d (ap string_bytes path)

-- An element that is written leaves those behind it.
pub left_more : {A : Type 0} (xs ys : List A) (i : ℕ) (y : A) → ((k : ℕ) (d : A) → i ≤ k → get_or xs k d ≡ get_or ys k d) → (k : ℕ) (d : A) → i + 1 ≤ k → get_or (set xs i y) k d ≡ get_or ys k d
left_more xs ys i y left k d later = get_or-set_other xs i k y d (λ e. absurd (omega (arith, later, e))) ∙ left k d (omega (arith, later))

numbered_from : (start : ℕ) (exports : List WatchedExport) (last : WatchedExport) → ((i : ℕ) (export : WatchedExport) → slice_get exports i ≡ Some export → export.number ≡ start + i) → last.number ≡ start + length exports
    → (i : ℕ) (export : WatchedExport) → slice_get (exports ++ last ∷ []) i ≡ Some export → export.number ≡ start + i
numbered_from start [] last each is zero export got = let same : last ≡ export = cc in subst (λ e. e.number ≡ start + 0) same is
numbered_from start [] last each is (suc i) export got = absurd (let never : None ≡ Some export = got in cc)
numbered_from start (first ∷ exports) last each is zero export got = each 0 export got
numbered_from start (first ∷ exports) last each is (suc i) export got =
    let further : export.number ≡ suc start + i = numbered_from (suc start) exports last (λ k e h. let at : e.number ≡ start + suc k = each (suc k) e h in omega (arith, at)) (omega (arith, is)) i export got in
    omega (arith, further)

-- One export more
pub numbered_more : (exports : List WatchedExport) (last : WatchedExport) → AreNumbered exports → last.number ≡ length exports → AreNumbered (exports ++ last ∷ [])
numbered_more exports last each is i export got =
    let at : export.number ≡ 0 + i = numbered_from 0 exports last (λ k e h. let here : e.number ≡ k = each k e h in omega (arith, here)) (omega (arith, is)) i export got in
    omega (arith, at)

get_or_self : {A : Type 0} (xs : List A) (i : ℕ) (d : A) → get_or xs i d ≡ get_or xs i (get_or xs i d)
get_or_self [] i d = refl
get_or_self (x ∷ xs) zero d = refl
get_or_self (x ∷ xs) (suc i) d = get_or_self xs i d

-- A loop changed each element before an index, and changes this one.
pub changed_more : {A : Type 0} (change : A → A) (initial items : List A) (i : ℕ) (d new : A) → i < length initial → items ≡ map change (take i initial) ++ drop i initial → new ≡ change (get_or items i d) → set items i new ≡ map change (take (i + 1) initial) ++ drop (i + 1) initial
changed_more change initial items i d new less so_far is = ap (set items i) is ∙ map_over_more change initial items i (get_or items i d) less so_far (get_or_self items i d)

-- It changed all.
pub changed_all : {A : Type 0} (change : A → A) (initial items : List A) (i : ℕ) → length initial ≤ i → items ≡ map change (take i initial) ++ drop i initial → items ≡ map change initial
changed_all change initial items i all so_far = so_far ∙ ap (λ xs. map change xs ++ drop i initial) (take_all i initial all) ∙ ap (λ xs. map change initial ++ xs) (drop_all i initial all) ∙ append-nil (map change initial)
