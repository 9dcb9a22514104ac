-- Ages of exports, and what judging them leaves.
use Rattle.std.proofs.Common.{◌≡◌, ℕ, List, [], ◌∷◌, ap, get_or, refl}
use Rattle.std.proofs.lemmas.List.Elements.{All-map}
use Rattle.std.specs.Prelude.{All, Bool, map, ◌||◌, Option, None, Some}
use Rattle.std.specs.List.{list_any}
use Rattle.sources.specs.declared.sources.Sources.{Sources}
use Rattle.rtr_daemon.specs.Ages.{IsAged, IsJudged, aged, ages_of, aging_of, data_time, is_older}
use Rattle.rtr_daemon.specs.declared.watched_file.WatchedExport.{WatchedExport}

-- A change of each element that leaves a part of it leaves that part of all.
pub all_same : {A B : Type 0} (part : A → B) (change : A → A) (xs : List A) → ((x : A) → part (change x) ≡ part x) → map part (map change xs) ≡ map part xs
all_same part change [] same = refl
all_same part change (x ∷ xs) same = let first : part (change x) ≡ part x = same x in let rest = all_same part change xs same in cc

-- An age that was judged is judged rightly.
pub age_is_judged : (most now : ℕ) (made : Option ℕ) (before : Bool) → IsAged most now made (is_older most now made before)
age_is_judged most now None before = tt
age_is_judged most now (Some at) before = refl

pub all_judged : (most now : ℕ) (sources : Sources) (exports : List WatchedExport) → All (IsJudged most now sources) (ages_of (map (aged most now sources) exports))
all_judged most now sources exports =
    All-map (IsJudged most now sources) aging_of (map (aged most now sources) exports)
    (All-map (λ e. IsJudged most now sources (aging_of e)) (aged most now sources) exports (λ k d less. age_is_judged most now (data_time now sources (get_or exports k d)) (get_or exports k d).is_old))

-- Whether an export is old is found of the exports, or of their ages.
pub any_old : (exports : List WatchedExport) → list_any (λ e. e.is_old) exports ≡ list_any (λ a. a.is_old) (ages_of exports)
any_old [] = refl
any_old (e ∷ exports) = ap (λ rest. e.is_old || rest) (any_old exports)
