-- What is watched from the start on, and what was read of it.
use Rattle.std.proofs.Common.{◌≡◌, ℕ, zero, suc, ◌+◌, List, [], ◌∷◌, length, map, Some, Ok, arith, ap, refl, subst, sym, ◌∙◌}
use Rattle.std.specs.Prelude.{None, slice_get}
use Rattle.std.specs.String.{string_bytes}
use Rattle.std.proofs.lemmas.List.{length-map}
use Rattle.sources.specs.Shrinking.{ExportTakenWithin}
use Rattle.sources.specs.declared.sources.Sources.{Sources}
use Rattle.rtr_daemon.specs.DiskAnswers.{DiskAnswers, ReadsWhole}
use Rattle.rtr_daemon.specs.Files.{AreNumbered, LoadsEach, LoadsOne, Mark, names_of, path_of, paths_of}
use Rattle.rtr_daemon.specs.PointOffers.{OffersEach, OffersPoint, points_of}
use Rattle.rtr_daemon.specs.Starting.{numbered_from, texts}
use Rattle.rtr_daemon.specs.declared.point_polling.WatchedPoint.{WatchedPoint}
use Rattle.rtr_daemon.specs.declared.watched_file.WatchedExport.{WatchedExport}
use Rattle.rtr_daemon.specs.declared.watched_file.WatchedFile.{WatchedFile}

-- Numbers that are places, from a number on
abbrev pub NumberedFrom : ℕ → List WatchedExport → Type 0
NumberedFrom n exports = (i : ℕ) (export : WatchedExport) → slice_get exports i ≡ Some export → export.number ≡ n + i

names_from : (n : ℕ) (exports : List WatchedExport) → NumberedFrom n exports → names_of exports ≡ numbered_from n (map path_of (map (λ e. e.file) exports))
names_from n [] numbered = refl
names_from n (export ∷ exports) numbered =
    let first : export.number ≡ n = (let at : export.number ≡ n + 0 = numbered 0 export refl in omega (arith, at)) in
    let rest = names_from (suc n) exports (λ i e got. let at : e.number ≡ n + suc i = numbered (suc i) e got in omega (arith, at)) in
    ap (λ m. (path_of export.file, m) ∷ names_of exports) first ∙ ap (λ ns. (path_of export.file, n) ∷ ns) rest

paths_from : (exports : List WatchedExport) → map path_of (map (λ e. e.file) exports) ≡ texts (map (λ e. e.file.path) exports)
paths_from [] = refl
paths_from (export ∷ exports) = ap (λ ps. path_of export.file ∷ ps) (paths_from exports)

-- Exports whose numbers are their places are watched at these paths, numbered from 0.
pub names_numbered : (exports : List WatchedExport) → AreNumbered exports → names_of exports ≡ numbered_from 0 (texts (map (λ e. e.file.path) exports))
names_numbered exports numbered = names_from 0 exports (λ i e got. let at : e.number ≡ i = numbered i e got in omega (arith, at)) ∙ ap (numbered_from 0) (paths_from exports)

pub paths_texts : (files : List WatchedFile) → paths_of files ≡ texts (map (λ f. f.path) files)
paths_texts [] = refl
paths_texts (file ∷ files) = ap (λ ps. path_of file ∷ ps) (paths_texts files)

pub points_texts : (points : List WatchedPoint) → points_of points ≡ texts (map (λ p. p.path) points)
points_texts [] = refl
points_texts (point ∷ points) = ap (λ ps. string_bytes point.path ∷ ps) (points_texts points)

numbers_at : (n : ℕ) (exports : List WatchedExport) (paths : List (List ℕ)) → names_of exports ≡ numbered_from n paths → NumberedFrom n exports
numbers_at n [] paths same i export got = absurd (let never : None ≡ Some export = got in cc)
numbers_at n (first ∷ exports) [] same i export got = absurd (let never : (path_of first.file, first.number) ∷ names_of exports ≡ [] = same in cc)
numbers_at n (first ∷ exports) (path ∷ paths) same zero export got =
    let is : Some first ≡ Some export = got in
    let export_is : first ≡ export = cc in
    let heads : (path_of first.file, first.number) ∷ names_of exports ≡ (path, n) ∷ numbered_from (suc n) paths = same in
    let one : List ℕ × ℕ = (path_of first.file, first.number) in
    let other : List ℕ × ℕ = (path, n) in
    let head : one ≡ other = cc in
    let number : first.number ≡ n = ap (λ p. p.1) head in
    let at : export.number ≡ n = ap (λ e. e.number) (sym export_is) ∙ number in
    omega (arith, at)
numbers_at n (first ∷ exports) (path ∷ paths) same (suc i) export got =
    let heads : (path_of first.file, first.number) ∷ names_of exports ≡ (path, n) ∷ numbered_from (suc n) paths = same in
    let tails : names_of exports ≡ numbered_from (suc n) paths = cc in
    let at : export.number ≡ suc n + i = numbers_at (suc n) exports paths tails i export got in
    omega (arith, at)

-- So the number of each export is its place.
pub numbered_at : (exports : List WatchedExport) (paths : List (List ℕ)) → names_of exports ≡ numbered_from 0 paths → AreNumbered exports
numbered_at exports paths same i export got = let at : export.number ≡ 0 + i = numbers_at 0 exports paths same i export got in omega (arith, at)

load_named : {W : Type 0} (answers : DiskAnswers W) (now expired : ℕ) (a b : WatchedExport) (mark : Mark) (old new : Sources) → path_of a.file ≡ path_of b.file → a.number ≡ b.number → LoadsOne answers a now expired mark old new → LoadsOne answers b now expired mark old new
load_named answers now expired a b mark old new paths numbers (stamp, (bytes, whole, taken), noted, refused, at) = (
  stamp,
  (bytes, subst (λ path. ReadsWhole answers path stamp bytes) paths whole, subst (λ number. ExportTakenWithin None bytes now number (Ok expired) old new) numbers taken),
  noted,
  refused,
  at,
)

-- Loads of exports of the same paths and numbers
pub loads_named : {W : Type 0} (answers : DiskAnswers W) (now : ℕ) (before after : List WatchedExport) (marks : List Mark) (old new : Sources) → names_of before ≡ names_of after → LoadsEach answers now before marks old new → LoadsEach answers now after marks old new
loads_named answers now [] [] [] old new same h = h
loads_named answers now [] [] (mark ∷ marks) old new same h = h
loads_named answers now [] (b ∷ after) marks old new same h = absurd (let never : [] ≡ (path_of b.file, b.number) ∷ names_of after = same in cc)
loads_named answers now (a ∷ before) [] marks old new same h = absurd (let never : (path_of a.file, a.number) ∷ names_of before ≡ [] = same in cc)
loads_named answers now (a ∷ before) (b ∷ after) [] old new same h = h
loads_named answers now (a ∷ before) (b ∷ after) (mark ∷ marks) old new same h =
    let heads : (path_of a.file, a.number) ∷ names_of before ≡ (path_of b.file, b.number) ∷ names_of after = same in
    let one : List ℕ × ℕ = (path_of a.file, a.number) in
    let other : List ℕ × ℕ = (path_of b.file, b.number) in
    let head : one ≡ other = cc in
    let tails : names_of before ≡ names_of after = cc in
    (h.0, h.1, load_named answers now h.0 a b mark old h.1 (ap (λ name. name.0) head) (ap (λ name. name.1) head) h.2, loads_named answers now before after marks h.1 new tails h.3)

-- Offers of directories at the same paths
pub offers_named : {W : Type 0} (answers : DiskAnswers W) (clock : ℕ → Type 0) (before after : List WatchedPoint) (old new : Sources) → points_of before ≡ points_of after → OffersEach answers clock before old new → OffersEach answers clock after old new
offers_named answers clock [] [] old new same h = h
offers_named answers clock [] (b ∷ after) old new same h = absurd (let never : [] ≡ string_bytes b.path ∷ points_of after = same in cc)
offers_named answers clock (a ∷ before) [] old new same h = absurd (let never : string_bytes a.path ∷ points_of before ≡ [] = same in cc)
offers_named answers clock (a ∷ before) (b ∷ after) old new same h =
    let heads : string_bytes a.path ∷ points_of before ≡ string_bytes b.path ∷ points_of after = same in
    let head : string_bytes a.path ≡ string_bytes b.path = cc in
    let tails : points_of before ≡ points_of after = cc in
    (h.0, h.1, h.2, subst (λ path. OffersPoint answers path h.0 old h.1) head h.3, offers_named answers clock before after h.1 new tails h.4)

pub same_length : (before after : List WatchedExport) → names_of before ≡ names_of after → length before ≡ length after
same_length before after same = sym (length-map before (λ e. (path_of e.file, e.number))) ∙ ap length same ∙ length-map after (λ e. (path_of e.file, e.number))
