-- What is noted of refused files of local exceptions comes from the paths that are watched.
use Rattle.std.proofs.Common.{◌≡◌, ◌∙◌, ◌⊎◌, ℕ, zero, suc, ◌<◌, List, [], ◌∷◌, inl, inr, ap, arith, get_or, length, refl, set, subst, sym, get_or-set_other}
use Rattle.std.specs.Prelude.{All, Option, Some, None, slice_get}
use Rattle.std.proofs.lemmas.Bool.{cases_eq}
use Rattle.std.proofs.lemmas.List.{get_or-map, get_or-set_same, get_or_default}
use Rattle.rtr_daemon.specs.DiskAnswers.{DiskAnswers, ReadsWhole}
use Rattle.rtr_daemon.specs.Files.{AreContents, HasContents, IsOfBytes, path_of, paths_of, texts_of}
use Rattle.rtr_daemon.specs.SlurmRefusals.{EachNotesSo, IsFileRefusedSo, IsNotOfBytes, IsNotedAt, IsOfContents, IsOfPaths, IsSlurmRefusedFor, NotesSo, SlurmRefusalComes, SlurmRefusalsCome, SlurmRefusalsFollow}
use Rattle.rtr_daemon.specs.declared.environment.Stamp.{Stamp}
use Rattle.rtr_daemon.specs.declared.refusal.Refusal.{Refusal}
use Rattle.rtr_daemon.specs.declared.refusals.Refused.{Refused}
use Rattle.rtr_daemon.specs.declared.slurm_contents.Contents.{Contents}
use Rattle.rtr_daemon.specs.declared.slurm_contents.SlurmRefusal.{SlurmRefusal}
use Rattle.rtr_daemon.specs.declared.watched_file.WatchedFile.{WatchedFile}

-- One file after the other
notes_then : (Q : Option Refused → Type 0) (a b c : WatchedFile) → NotesSo Q a b → NotesSo Q b c → NotesSo Q a c
notes_then Q a b c (inl same) (inl then) = inl (then ∙ same)
notes_then Q a b c (inr so) (inl then) = inr (subst Q (sym then) so)
notes_then Q a b c before (inr so) = inr so

-- A file is written of which that is noted.
pub notes_more : (Q : ℕ → Option Refused → Type 0) (initial files : List WatchedFile) (i : ℕ) (d new : WatchedFile) → i < length files → EachNotesSo Q initial files → NotesSo (Q i) (get_or files i d) new → EachNotesSo Q initial (set files i new)
notes_more Q initial files i d new less so_far one k e within = by (cases_eq k i) where
  by : (k ≡ i) ⊎ (k ≡ i → ⊥) → NotesSo (Q k) (get_or initial k e) (get_or (set files i new) k e)
  by (inl same) =
      let there : get_or (set files i new) k e ≡ new = ap (λ n. get_or (set files i new) n e) same ∙ get_or-set_same files i new e less in
      let before : get_or files k e ≡ get_or files i d = ap (λ n. get_or files n e) same ∙ get_or_default files i e d less in
      let at : NotesSo (Q k) (get_or files k e) new = subst (λ f. NotesSo (Q k) f new) (sym before) (subst (λ n. NotesSo (Q n) (get_or files i d) new) (sym same) one) in
      subst (NotesSo (Q k) (get_or initial k e)) (sym there) (notes_then (Q k) (get_or initial k e) (get_or files k e) new (so_far k e within) at)
  by (inr other) = subst (NotesSo (Q k) (get_or initial k e)) (sym (get_or-set_other files i k new e other)) (so_far k e within)

-- Files were changed twice.
pub each_then : (Q : ℕ → Option Refused → Type 0) (a b c : List WatchedFile) → length a ≡ length b → EachNotesSo Q a b → EachNotesSo Q b c → EachNotesSo Q a c
each_then Q a b c many first second k d less = notes_then (Q k) (get_or a k d) (get_or b k d) (get_or c k d) (first k d less) (second k d (omega (arith, less, many)))

-- What is noted of no bytes is noted so.
pub noted_weaker : (index : ℕ) (stamp : Option Stamp) (why : Refusal) (a b : List WatchedFile) → EachNotesSo (λ k. IsNotOfBytes) a b → EachNotesSo (IsNotedAt index stamp why) a b
noted_weaker index stamp why a b each k d less = by (each k d less) where
  by : NotesSo IsNotOfBytes (get_or a k d) (get_or b k d) → NotesSo (IsNotedAt index stamp why k) (get_or a k d) (get_or b k d)
  by (inl same) = inl same
  by (inr other) = inr (inl other)

-- What waits to be noted is still that, or nothing.
pub waits_still : (why : Refusal) (now before : Option Refusal) → now ≡ before → (before ≡ None) ⊎ (before ≡ Some why) → (now ≡ None) ⊎ (now ≡ Some why)
waits_still why now before same (inl none) = inl (same ∙ none)
waits_still why now before same (inr some) = inr (same ∙ some)

-- At the place of the refusal it is noted, if it still waits.
pub waits_for : (why : Refusal) (at index : ℕ) (own before : Option Refusal) → own ≡ before → at ≡ index → (before ≡ None) ⊎ (before ≡ Some why) → (own ≡ None) ⊎ ((at ≡ index) × (own ≡ Some why))
waits_for why at index own before same here (inl none) = inl (same ∙ none)
waits_for why at index own before same here (inr some) = inr (here, same ∙ some)

-- Of one file the refusal is noted, or one that is not of its own bytes.
pub one_noted : (index : ℕ) (stamp : Option Stamp) (why : Refusal) (at : ℕ) (own : Option Refusal) (old new : WatchedFile) → (own ≡ None) ⊎ ((at ≡ index) × (own ≡ Some why)) → (own ≡ None → NotesSo IsNotOfBytes old new)
    → ((w : Refusal) → own ≡ Some w → new.refusals.last ≡ Some (record { stamp = stamp; why = w })) → NotesSo (IsNotedAt index stamp why at) old new
one_noted index stamp why at own old new (inl none) other noted = by (other none) where
  by : NotesSo IsNotOfBytes old new → NotesSo (IsNotedAt index stamp why at) old new
  by (inl same) = inl same
  by (inr so) = inr (inl so)
one_noted index stamp why at own old new (inr (here, is)) other noted = inr (inr (here, noted why is))

-- What is not of a file's own bytes needs none.
of_no_bytes : {W : Type 0} (answers : DiskAnswers W) (path : List ℕ) (last : Option Refused) → IsNotOfBytes last → SlurmRefusalComes answers path last
of_no_bytes answers path None other = tt
of_no_bytes answers path (Some refused) other = λ stamp is own. absurd (other own)

pub no_bytes_follow : {W : Type 0} (answers : DiskAnswers W) (old new : List WatchedFile) → EachNotesSo (λ k. IsNotOfBytes) old new → SlurmRefusalsFollow answers old new
no_bytes_follow answers old new each k d less = by (each k d less) where
  by : NotesSo IsNotOfBytes (get_or old k d) (get_or new k d) → NotesSo (SlurmRefusalComes answers (path_of (get_or old k d))) (get_or old k d) (get_or new k d)
  by (inl same) = inl same
  by (inr other) = inr (of_no_bytes answers (path_of (get_or old k d)) (get_or new k d).refusals.last other)

-- the path of the file at a place
path_at : (files : List WatchedFile) (k : ℕ) (d : WatchedFile) (path : List ℕ) → k < length files → slice_get (paths_of files) k ≡ Some path → path_of (get_or files k d) ≡ path
path_at [] k d path less got = absurd (omega (arith, less))
path_at (file ∷ files) zero d path less got = let same : path_of file ≡ path = (let both : Some (path_of file) ≡ Some path = got in cc) in same
path_at (file ∷ files) (suc k) d path less got = path_at files k d path (omega (arith, less)) got

-- A refusal that was read of its path is noted at its place.
pub noted_follow : {W : Type 0} (answers : DiskAnswers W) (refusal : SlurmRefusal) (old new : List WatchedFile) → IsOfPaths answers (paths_of old) refusal → EachNotesSo (IsNotedAt refusal.index refusal.stamp refusal.why) old new → SlurmRefusalsFollow answers old new
noted_follow answers refusal old new read each k d less = by (each k d less) where
  path : List ℕ
  path = path_of (get_or old k d)

  last : Option Refused
  last = (get_or new k d).refusals.last

  of_read : k ≡ refusal.index → (stamp : Stamp) → refusal.stamp ≡ Some stamp → IsOfBytes refusal.why → IsSlurmRefusedFor answers path stamp refusal.why
  of_read at stamp is own =
      let found = read stamp is own in
      let same : path ≡ found.0 = path_at old k d found.0 less (ap (slice_get (paths_of old)) at ∙ found.1) in
      subst (λ p. IsSlurmRefusedFor answers p stamp refusal.why) (sym same) found.2

  by : NotesSo (IsNotedAt refusal.index refusal.stamp refusal.why k) (get_or old k d) (get_or new k d) → NotesSo (SlurmRefusalComes answers path) (get_or old k d) (get_or new k d)
  by (inl same) = inl same
  by (inr (inl other)) = inr (of_no_bytes answers path last other)
  by (inr (inr (at, noted))) = inr (subst (SlurmRefusalComes answers path) (sym noted) (of_read at))

-- what was read of the path at a place
contents_at : {W : Type 0} (answers : DiskAnswers W) (paths : List (List ℕ)) (stamps : List Stamp) (contents : List (List ℕ)) (k : ℕ) (stamp : Stamp) (bytes : List ℕ) → AreContents answers paths stamps contents → slice_get stamps k ≡ Some stamp → slice_get contents k ≡ Some bytes
    → (path : List ℕ) × (slice_get paths k ≡ Some path) × ReadsWhole answers path stamp bytes
contents_at answers [] [] [] k stamp bytes read at is = absurd (let never : None ≡ Some stamp = at in cc)
contents_at answers [] [] (b ∷ contents) k stamp bytes read at is = absurd read
contents_at answers [] (s ∷ stamps) [] k stamp bytes read at is = absurd read
contents_at answers [] (s ∷ stamps) (b ∷ contents) k stamp bytes read at is = absurd read
contents_at answers (path ∷ paths) [] [] k stamp bytes read at is = absurd read
contents_at answers (path ∷ paths) [] (b ∷ contents) k stamp bytes read at is = absurd read
contents_at answers (path ∷ paths) (s ∷ stamps) [] k stamp bytes read at is = absurd read
contents_at answers (path ∷ paths) (s ∷ stamps) (b ∷ contents) zero stamp bytes read at is =
    let same : s ≡ stamp = (let both : Some s ≡ Some stamp = at in cc) in
    let those : b ≡ bytes = (let both : Some b ≡ Some bytes = is in cc) in
    (path, refl, subst (λ t. ReadsWhole answers path t bytes) same (subst (ReadsWhole answers path s) those read.0))
contents_at answers (path ∷ paths) (s ∷ stamps) (b ∷ contents) (suc k) stamp bytes read at is = contents_at answers paths stamps contents k stamp bytes read.1 at is

-- What was read of these files is refused for the bytes of one of them.
pub refused_of : {W : Type 0} (answers : DiskAnswers W) (files : List WatchedFile) (contents : Contents) (refusal : SlurmRefusal) → HasContents answers files contents → IsOfContents contents refusal → IsOfPaths answers (paths_of files) refusal
refused_of answers files contents refusal read of_contents stamp is own =
    let found = of_contents own in
    let at = contents_at answers (paths_of files) contents.stamps.items (texts_of contents) refusal.index stamp found.0 read (sym found.3 ∙ is) found.1 in
    (at.0, at.1, record { bytes = found.0; whole = at.2; faulty = found.2 })

-- A refusal without a stamp is of no bytes.
pub of_no_stamp : {W : Type 0} (answers : DiskAnswers W) (paths : List (List ℕ)) (refusal : SlurmRefusal) → refusal.stamp ≡ None → IsOfPaths answers paths refusal
of_no_stamp answers paths refusal none stamp is own = absurd (let never : None ≡ Some stamp = sym none ∙ is in cc)

-- After a poll
pub slurms_refused : {W : Type 0} (answers : DiskAnswers W) (old new : List WatchedFile) → paths_of new ≡ paths_of old → length old ≡ length new → SlurmRefusalsFollow answers old new → SlurmRefusalsCome answers old → SlurmRefusalsCome answers new
slurms_refused answers old new paths many follow before k d less = by (follow k d within) where
  within : k < length old
  within = omega (arith, less, many)

  same : path_of (get_or new k d) ≡ path_of (get_or old k d)
  same = sym (get_or-map path_of new k d (path_of d) less) ∙ ap (λ all. get_or all k (path_of d)) paths ∙ get_or-map path_of old k d (path_of d) within

  by : NotesSo (SlurmRefusalComes answers (path_of (get_or old k d))) (get_or old k d) (get_or new k d) → IsFileRefusedSo answers (get_or new k d)
  by (inl kept) = subst (λ p. SlurmRefusalComes answers p (get_or new k d).refusals.last) (sym same) (subst (SlurmRefusalComes answers (path_of (get_or old k d))) (sym kept) (before k d within))
  by (inr so) = subst (λ p. SlurmRefusalComes answers p (get_or new k d).refusals.last) (sym same) so

-- At the start nothing is refused.
pub none_slurms_refused : {W : Type 0} (answers : DiskAnswers W) (files : List WatchedFile) → All (λ f. f.refusals.last ≡ None) files → SlurmRefusalsCome answers files
none_slurms_refused answers files none k d less = subst (SlurmRefusalComes answers (path_of (get_or files k d))) (sym (none k d less)) tt
