-- The version in which a cache opens a connection, byte by byte.
use Rattle.std.specs.Prelude.{◌≡◌, ℕ, ◌<◌, ◌==◌, Bool, true, false, List, [], ◌∷◌, ◌++◌, length, drop, slice_index, Some, None, is_some, if◌then◌else◌, refl}
use Rattle.std.proofs.Common.{zero, suc, arith, sym, ap, ◌∙◌}
use Rattle.rtr_ends.specs.Consumed.{came, consumed}
use Rattle.rtr_ends.specs.Router.{RouterCall, AsksNow, Closes, Configures, Connects, Pulls, Receives, Speaks, Ticks, played}
use Rattle.std.proofs.lemmas.List.{append-nil}
use Rattle.upstreams.specs.Versions.{first_version, opened_by, opened_on, opening_of, unopened, version_after, with_begun, with_left}
use Rattle.upstreams.specs.declared.opening.Opening.{Opening}

-- bytes after bytes
pub on_both : (o : Opening) (first then_ : List ℕ) → opened_on o (first ++ then_) ≡ opened_on (opened_on o first) then_
on_both o [] then_ = refl
on_both o (b ∷ first) then_ = on_both (opened_by o b) first then_

-- Once the version is known, nothing changes.
pub known_on : (o : Opening) (bytes : List ℕ) → is_some o.version ≡ true → opened_on o bytes ≡ o
known_on o [] h = refl
known_on o (b ∷ bytes) h = ap (λ x. opened_on x bytes) (ap (λ x. if x then o else with_left o.left b o) h) ∙ known_on o bytes h

-- The first of bytes, and the others
pub first_of : (bytes : List ℕ) → 0 < length bytes → bytes ≡ slice_index bytes 0 ∷ drop 1 bytes
first_of [] some = absurd (omega (arith, some))
first_of (b ∷ bytes) some = refl

-- A byte comes where no version is known.
pub step_is : (o : Opening) (b : ℕ) → is_some o.version ≡ false → opened_by o b ≡ with_left o.left b o
step_is o b h = ap (λ x. if x then o else with_left o.left b o) h

pub left_is : (o : Opening) (b left : ℕ) → o.left ≡ suc left → with_left o.left b o ≡ record o { left = left }
left_is o b left e = ap (λ n. with_left n b o) e

pub none_left : (o : Opening) (b : ℕ) → o.left ≡ 0 → with_left o.left b o ≡ with_begun o.begun b o
none_left o b e = ap (λ n. with_left n b o) e

-- what came on the latest connection
pub opening_is : (calls : List RouterCall) → opening_of calls ≡ opened_on unopened (came calls)
opening_is [] = refl
opening_is (Connects now ∷ calls) = refl
opening_is (Receives now wanting piece ∷ calls) =
    ap (λ o. opened_on o (consumed (Receives now wanting piece) (played calls).router)) (opening_is calls) ∙ sym (on_both unopened (came calls) (consumed (Receives now wanting piece) (played calls).router))
opening_is (Pulls most ∷ calls) = opening_is calls ∙ ap (opened_on unopened) (sym (append-nil (came calls)))
opening_is (Closes now ∷ calls) = opening_is calls ∙ ap (opened_on unopened) (sym (append-nil (came calls)))
opening_is (AsksNow ∷ calls) = opening_is calls ∙ ap (opened_on unopened) (sym (append-nil (came calls)))
opening_is (Ticks now ∷ calls) = opening_is calls ∙ ap (opened_on unopened) (sym (append-nil (came calls)))
opening_is (Speaks version ∷ calls) = opening_is calls ∙ ap (opened_on unopened) (sym (append-nil (came calls)))
opening_is (Configures config ∷ calls) = opening_is calls ∙ ap (opened_on unopened) (sym (append-nil (came calls)))

abbrev skipping : ℕ → Opening
skipping left = record { version = None; begun = None; left = left }

-- The bytes have the version that is found byte by byte.
version_is : (bytes : List ℕ) (left : ℕ) → (opened_on (skipping left) bytes).version ≡ version_after bytes left
version_is [] left = refl
version_is (b ∷ bytes) (suc left) = version_is bytes left
version_is (version ∷ []) zero = refl
version_is (version ∷ kind ∷ bytes) zero = by_kind (kind == 0) (version_is bytes 10)
  where
    by_kind : (b : Bool) → (opened_on (skipping 10) bytes).version ≡ version_after bytes 10
        → (opened_on (if b then skipping 10 else record { version = Some version; begun = Some version; left = 0 }) bytes).version ≡ (if b then version_after bytes 10 else Some version)
    by_kind true skipped = skipped
    by_kind false skipped = ap (λ (o : Opening). o.version) (known_on (record { version = Some version; begun = Some version; left = 0 }) bytes refl)

pub first_is : (calls : List RouterCall) → (opening_of calls).version ≡ first_version (came calls)
first_is calls = ap (λ (o : Opening). o.version) (opening_is calls) ∙ version_is (came calls) 0
