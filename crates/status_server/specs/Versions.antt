-- What is made of a version at the first request for it, and shared by later ones.
use Rattle.std.specs.Prelude.{◌≡◌, ◌⊎◌, ℕ, ◌==◌, Bool, true, false, if◌then◌else◌, List, Option, Some, None, option_map, unwrap_or}
use Rattle.std.specs.Borrow.{Bor}
use Rattle.vrps.specs.Instance.{NumberedSet}
use Rattle.vrps.specs.VrpSet.{VrpSet, listing}
use Rattle.vrps.specs.declared.serial.Serial.{Serial}
use Rattle.status_server.specs.Answers.{AnswersSo, Shown}
use Rattle.status_server.specs.Connections.{Turns}
use Rattle.status_server.specs.Lists.{form_text, kept_text, no_texts, with_text}
use Rattle.status_server.specs.declared.http_connections.Entry.{Entry}
use Rattle.status_server.specs.declared.list_forms.ListForm.{ListForm}
use Rattle.status_server.specs.declared.list_forms.ListForm.TheVariants as form
use Rattle.status_server.specs.declared.version_cache.VersionCache.{VersionCache}

-- Nothing was made of any version.
abbrev pub IsUnused : VersionCache → Type 0
IsUnused kept = (kept.serial ≡ None) × (kept.lists ≡ no_texts) × (kept.index ≡ None)

-- a version that is lent, as its serial and its set
abbrev pub version_of : Option (Serial × Bor VrpSet) → Option NumberedSet
version_of found = option_map (λ v. record { serial = v.0.0; set = v.1.now }) found

abbrev pub serial_of : Option NumberedSet → Option ℕ
serial_of version = option_map (λ v. v.serial) version

abbrev pub is_same_serial : Option ℕ → Option ℕ → Bool
is_same_serial None None = true
is_same_serial (Some a) (Some b) = a == b
is_same_serial a b = false

-- what is kept for a version: nothing of one of another serial
abbrev pub anew : Option NumberedSet → VersionCache → VersionCache
anew version kept = record kept { serial = serial_of version; lists = no_texts; index = None }

abbrev pub kept_for : Option NumberedSet → VersionCache → VersionCache
kept_for version kept = if is_same_serial kept.serial (serial_of version) then kept else anew version kept

-- What is answered of a version: what is kept for it. If nothing is, it is made of its set.
abbrev pub list_in : ListForm → Option NumberedSet → VersionCache → Option (List ℕ)
list_in f version kept = option_map (λ v. unwrap_or (kept_text f (kept_for version kept).lists) (form_text f (listing v.set))) version

abbrev pub set_in : Option NumberedSet → VersionCache → Option VrpSet
set_in version kept = option_map (λ v. unwrap_or (kept_for version kept).index v.set) version

abbrev pub shown_in : Option NumberedSet → VersionCache → Shown
shown_in version kept =
    record {
      status = None;
      payloads = Some (list_in form.Payloads version kept);
      roas = Some (list_in form.Roas version kept);
      csv = Some (list_in form.Csv version kept);
      routinator_csv = Some (list_in form.RoutinatorCsv version kept);
      set = Some (set_in version kept);
    }

-- Nothing is changed, or what was not there was made of a set.
abbrev pub KeepsList : ListForm → VrpSet → VersionCache → VersionCache → Type 0
KeepsList f set old new =
    (new ≡ old) ⊎ ((kept_text f old.lists ≡ None) × (new ≡ record old { lists = with_text f (form_text f (listing set)) old.lists }))

abbrev pub KeepsIndex : VrpSet → VersionCache → VersionCache → Type 0
KeepsIndex set old new = (new ≡ old) ⊎ ((old.index ≡ None) × (new ≡ record old { index = Some set }))

-- what a version is itself
abbrev pub list_of : ListForm → Option NumberedSet → Option (List ℕ)
list_of f version = option_map (λ v. form_text f (listing v.set)) version

abbrev pub shown_of : Option NumberedSet → Shown
shown_of version =
    record {
      status = None;
      payloads = Some (list_of form.Payloads version);
      roas = Some (list_of form.Roas version);
      csv = Some (list_of form.Csv version);
      routinator_csv = Some (list_of form.RoutinatorCsv version);
      set = Some (option_map (λ v. v.set) version);
    }

-- A version of another serial than what is kept is answered as it is.
abbrev pub NewIsShown : Type 0
NewIsShown = (version : Option NumberedSet) (kept : VersionCache) → is_same_serial kept.serial (serial_of version) ≡ false → shown_in version kept ≡ shown_of version

-- To drop what was made of another version changes no answer.
abbrev pub DropKeeps : Type 0
DropKeeps = (version : Option NumberedSet) (kept : VersionCache) → shown_in version (kept_for version kept) ≡ shown_in version kept

-- A turn of the endpoint at this time: its connections have a turn, in which requests are answered of one version that the view has.
pub record ShowsVersion {T : Type 0} (remaining contents : T → Option (List ℕ)) (versions : Option NumberedSet → Type 0) (kept : VersionCache) (name : Option (List ℕ)) (now budget : ℕ) (vs ws : List (Entry T)) : Type 0 where
  pub version : Option NumberedSet
  pub is : versions version
  pub turns : Turns remaining contents (AnswersSo (shown_in version kept) name) now budget vs ws
