-- The statuses of several files, one after another
use Rattle.std.proofs.Common.{◌≡◌, ◌∙◌, ℕ, zero, suc, ◌+◌, ◌<◌, ◌≤◌, List, [], ◌∷◌, ◌++◌, ap, arith, get_or, length, subst, sym, take}
use Rattle.std.proofs.lemmas.List.{append-nil, append_assoc, take_all}
use Rattle.status_pages.specs.declared.status.FileStatus.{FileStatus}
use Rattle.rtr_daemon.specs.Statuses.{AddsStatuses, AreStatuses}

-- One file more
each_status : {A : Type 0} (is_status : ℕ → A → FileStatus → Type 0) (start : ℕ) (xs : List A) (i : ℕ) (x : A) (more : List FileStatus) (last : FileStatus) → i < length xs → x ≡ get_or xs i x → AreStatuses is_status start (take i xs) more → is_status (start + i) x last
    → AreStatuses is_status start (take (suc i) xs) (more ++ last ∷ [])
each_status is_status start [] i x more last less is so_far shown = absurd (omega (arith, less))
each_status is_status start (first ∷ xs) zero x [] last less is so_far shown = (subst (λ a. is_status start a last) is (subst (λ n. is_status n x last) (let same : start + 0 ≡ start = omega arith in same) shown), tt)
each_status is_status start (first ∷ xs) zero x (m ∷ more) last less is so_far shown = absurd so_far
each_status is_status start (first ∷ xs) (suc i) x [] last less is so_far shown = absurd so_far
each_status is_status start (first ∷ xs) (suc i) x (m ∷ more) last less is so_far shown =
    (so_far.0, each_status is_status (suc start) xs i x more last (omega (arith, less)) is so_far.1 (subst (λ n. is_status n x last) (let same : start + suc i ≡ suc start + i = omega arith in same) shown))

-- There is none yet.
pub status_none : {A : Type 0} (is_status : ℕ → A → FileStatus → Type 0) (xs : List A) (old : List FileStatus) → AddsStatuses is_status (take 0 xs) old old
status_none is_status [] old = ([], sym (append-nil old), tt)
status_none is_status (x ∷ xs) old = ([], sym (append-nil old), tt)

pub status_more : {A : Type 0} (is_status : ℕ → A → FileStatus → Type 0) (xs : List A) (i : ℕ) (x : A) (old now new : List FileStatus) (last : FileStatus) → i < length xs → x ≡ get_or xs i x → AddsStatuses is_status (take i xs) old now → is_status i x last → new ≡ now ++ last ∷ []
    → AddsStatuses is_status (take (i + 1) xs) old new
status_more is_status xs i x old now new last less is so_far shown adds =
    let here = subst (λ n. is_status n x last) (let same : i ≡ 0 + i = omega arith in same) shown in
    let more = each_status is_status 0 xs i x so_far.0 last less is so_far.2 here in (
      so_far.0 ++ last ∷ [],
      adds ∙ ap (λ l. l ++ last ∷ []) so_far.1 ∙ append_assoc old so_far.0 (last ∷ []),
      subst (λ n. AreStatuses is_status 0 (take n xs) (so_far.0 ++ last ∷ [])) (let next : suc i ≡ i + 1 = omega arith in next) more,
    )

-- All have one.
pub status_all : {A : Type 0} (is_status : ℕ → A → FileStatus → Type 0) (xs : List A) (i : ℕ) (old new : List FileStatus) → length xs ≤ i → AddsStatuses is_status (take i xs) old new → AddsStatuses is_status xs old new
status_all is_status xs i old new all shown = subst (λ l. AddsStatuses is_status l old new) (take_all i xs all) shown
