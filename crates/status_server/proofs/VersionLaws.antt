-- What is kept for a version, before and after more is made of it.
use Rattle.std.proofs.Common.{◌≡◌, ◌∙◌, ℕ, ◌==◌, Bool, true, false, if◌then◌else◌, List, Option, Some, None, ap, option_map, refl, rules, subst, sym, inl, inr, IfOk, Result, Ok, Err}
use Rattle.std.specs.Prelude.{unwrap_or}
use Rattle.std.specs.Borrow.{Bor}
use Rattle.vrps.specs.declared.serial.Serial.{Serial}
use Rattle.vrps.specs.Instance.{NumberedSet}
use Rattle.vrps.specs.VrpSet.{VrpSet, listing}
use Rattle.status_server.specs.Answers.{AnswersSo, IsShown, Shown, shown_list}
use Rattle.status_server.specs.Connections.{Turns}
use Rattle.status_server.specs.Lists.{form_text, kept_text, with_text}
use Rattle.status_server.specs.declared.http_connections.Entry.{Entry}
use Rattle.status_server.specs.Versions.{KeepsIndex, KeepsList, anew, is_same_serial, kept_for, list_in, serial_of, shown_in, shown_of, version_of}
use Rattle.status_server.specs.declared.list_forms.ListForm.{ListForm}
use Rattle.status_server.specs.declared.list_forms.ListForm.TheVariants as form
use Rattle.status_server.specs.declared.list_forms.ListTexts.{ListTexts}
use Rattle.status_server.specs.declared.version_cache.VersionCache.{VersionCache}

-- what is answered of a version with these parts
abbrev list_with : ListForm → Option (List ℕ) → Option NumberedSet → Option (List ℕ)
list_with f text version = option_map (λ v. unwrap_or text (form_text f (listing v.set))) version

abbrev with_parts : Option (List ℕ) → Option (List ℕ) → Option (List ℕ) → Option (List ℕ) → Option VrpSet → Option NumberedSet → Shown
with_parts payloads roas csv routinator_csv set version =
    record {
      status = None;
      payloads = Some (list_with form.Payloads payloads version);
      roas = Some (list_with form.Roas roas version);
      csv = Some (list_with form.Csv csv version);
      routinator_csv = Some (list_with form.RoutinatorCsv routinator_csv version);
      set = Some (option_map (λ v. unwrap_or set v.set) version);
    }

abbrev with_lists : ListTexts → Option VrpSet → Option NumberedSet → Shown
with_lists lists set version = with_parts lists.payloads lists.roas lists.csv lists.routinator_csv set version

abbrev shown_from : Option NumberedSet → VersionCache → Shown
shown_from version kept = with_lists kept.lists kept.index version

-- the same by the test of the serial
abbrev picked : Bool → Option NumberedSet → VersionCache → VersionCache
picked same version kept = if same then kept else anew version kept

same_self : (s : Option ℕ) → is_same_serial s s ≡ true
same_self None = refl
same_self (Some n) = eq_self n where
  eq_self : (n : ℕ) → (n == n) ≡ true
  eq_self n = search (rules)

-- A cache of the serial of the version answers what it has.
from_same : (version : Option NumberedSet) (kept : VersionCache) → is_same_serial kept.serial (serial_of version) ≡ true → shown_in version kept ≡ shown_from version kept
from_same version kept same = ap (λ (b : Bool). shown_from version (picked b version kept)) same

-- What is kept for a version has its serial.
same_kept : (version : Option NumberedSet) (kept : VersionCache) → is_same_serial (kept_for version kept).serial (serial_of version) ≡ true
same_kept version kept = by_test (is_same_serial kept.serial (serial_of version)) refl where
  by_test : (b : Bool) → is_same_serial kept.serial (serial_of version) ≡ b → is_same_serial (picked b version kept).serial (serial_of version) ≡ true
  by_test true e = e
  by_test false e = same_self (serial_of version)

pub drop_keeps : (version : Option NumberedSet) (kept : VersionCache) → shown_in version (kept_for version kept) ≡ shown_in version kept
drop_keeps version kept = from_same version (kept_for version kept) (same_kept version kept)

pub new_is_shown : (version : Option NumberedSet) (kept : VersionCache) → is_same_serial kept.serial (serial_of version) ≡ false → shown_in version kept ≡ shown_of version
new_is_shown version kept differs = ap (λ (b : Bool). shown_from version (picked b version kept)) differs ∙ of_none version where
  of_none : (version : Option NumberedSet) → shown_from version (anew version kept) ≡ shown_of version
  of_none version = refl

-- If what is answered is the same, and so is the serial, a call keeps it.
keeps_by : (version : Option NumberedSet) (old new : VersionCache) → new.serial ≡ (kept_for version old).serial → shown_from version new ≡ shown_from version (kept_for version old)
    → shown_in version new ≡ shown_in version old
keeps_by version old new serial shown =
    from_same version new (subst (λ (s : Option ℕ). is_same_serial s (serial_of version) ≡ true) (sym serial) (same_kept version old)) ∙ shown

-- A text that is made of the set of the version is what was answered before it was kept.
made_is_shown : (f : ListForm) (v : NumberedSet) (t : ListTexts) (set : Option VrpSet) → kept_text f t ≡ None
    → with_lists (with_text f (form_text f (listing v.set)) t) set (Some v) ≡ with_lists t set (Some v)
made_is_shown form.Payloads v t set e = ap (λ (l : Option (List ℕ)). with_parts l t.roas t.csv t.routinator_csv set (Some v)) (sym e)
made_is_shown form.Roas v t set e = ap (λ (l : Option (List ℕ)). with_parts t.payloads l t.csv t.routinator_csv set (Some v)) (sym e)
made_is_shown form.Csv v t set e = ap (λ (l : Option (List ℕ)). with_parts t.payloads t.roas l t.routinator_csv set (Some v)) (sym e)
made_is_shown form.RoutinatorCsv v t set e = ap (λ (l : Option (List ℕ)). with_parts t.payloads t.roas t.csv l set (Some v)) (sym e)

-- To make a part of the set of the version keeps what is answered.
module _ (v : NumberedSet) (old : VersionCache) where
  abbrev k : VersionCache
  k = kept_for (Some v) old

  pub list_keeps : (f : ListForm) (new : VersionCache) → KeepsList f v.set k new → shown_in (Some v) new ≡ shown_in (Some v) old
  list_keeps f new h = elim h [
    | inl e ↦ keeps_by (Some v) old new (ap (λ (c : VersionCache). c.serial) e) (ap (λ (c : VersionCache). shown_from (Some v) c) e)
    | inr e ↦ keeps_by (Some v) old new (ap (λ (c : VersionCache). c.serial) e.1)
        (ap (λ (c : VersionCache). shown_from (Some v) c) e.1 ∙ made_is_shown f v k.lists k.index e.0)
  ]

  pub index_keeps : (new : VersionCache) → KeepsIndex v.set k new → shown_in (Some v) new ≡ shown_in (Some v) old
  index_keeps new h = elim h [
    | inl e ↦ keeps_by (Some v) old new (ap (λ (c : VersionCache). c.serial) e) (ap (λ (c : VersionCache). shown_from (Some v) c) e)
    | inr e ↦ keeps_by (Some v) old new (ap (λ (c : VersionCache). c.serial) e.1)
        (ap (λ (c : VersionCache). shown_from (Some v) c) e.1 ∙ ap (λ (i : Option VrpSet). with_lists k.lists i (Some v)) (sym e.0))
  ]

-- What is answered of a version in a form is what it shows.
list_is_shown : (f : ListForm) (version : Option NumberedSet) (kept : VersionCache) (list : Option (List ℕ)) → list ≡ list_in f version kept
    → IsShown (shown_list f (shown_in version kept)) list
list_is_shown form.Payloads version kept list e = e
list_is_shown form.Roas version kept list e = e
list_is_shown form.Csv version kept list e = e
list_is_shown form.RoutinatorCsv version kept list e = e

pub answer_is_shown : {E : Type 0} (f : ListForm) (version : Option NumberedSet) (kept : VersionCache) (r : Result (Option (List ℕ)) E)
    → IfOk r (λ list. list ≡ list_in f version kept) → IfOk r (λ list. IsShown (shown_list f (shown_in version kept)) list)
answer_is_shown f version kept (Ok list) e = list_is_shown f version kept list e
answer_is_shown f version kept (Err why) e = tt

-- The same of a version that is lent, once what was made of another was dropped.
module _ (found : Option (Serial × Bor VrpSet)) (serial : Serial) (set : Bor VrpSet) (old kept new : VersionCache) (is : found ≡ Some (serial, set)) (dropped : kept ≡ kept_for (version_of found) old) where
  abbrev v : NumberedSet
  v = record { serial = serial.0; set = set.now }

  step : (P : VersionCache → VersionCache → Type 0) → ((k : VersionCache) → k ≡ kept_for (Some v) old → P k new → shown_in (Some v) new ≡ shown_in (Some v) old)
      → P kept new → shown_in (version_of found) new ≡ shown_in (version_of found) old
  step P by h =
      subst (λ (f : Option (Serial × Bor VrpSet)). kept ≡ kept_for (version_of f) old → shown_in (version_of f) new ≡ shown_in (version_of f) old) (sym is) (λ e. by kept e h) dropped

  pub list_step : (f : ListForm) → KeepsList f set.now kept new → shown_in (version_of found) new ≡ shown_in (version_of found) old
  list_step f = step (KeepsList f set.now) (λ k e h. list_keeps v old f new (subst (λ (c : VersionCache). KeepsList f set.now c new) e h))

  pub index_step : KeepsIndex set.now kept new → shown_in (version_of found) new ≡ shown_in (version_of found) old
  index_step = step (KeepsIndex set.now) (λ k e h. index_keeps v old new (subst (λ (c : VersionCache). KeepsIndex set.now c new) e h))

pub dropped_keeps : (version : Option NumberedSet) (old new : VersionCache) → new ≡ kept_for version old → shown_in version new ≡ shown_in version old
dropped_keeps version old new e = ap (λ (k : VersionCache). shown_in version k) e ∙ drop_keeps version old

-- The answers of a turn are those of the same shown under the same name.
pub turns_as : {T : Type 0} (remaining contents : T → Option (List ℕ)) (now budget : ℕ) (vs ws : List (Entry T)) (a b : Shown) (m n : Option (List ℕ)) → a ≡ b → m ≡ n
    → Turns remaining contents (AnswersSo a m) now budget vs ws → Turns remaining contents (AnswersSo b n) now budget vs ws
turns_as remaining contents now budget vs ws a b m n shown name h =
    subst (λ (s : Shown). Turns remaining contents (AnswersSo s n) now budget vs ws) shown (subst (λ (o : Option (List ℕ)). Turns remaining contents (AnswersSo a o) now budget vs ws) name h)
