-- When an export was made.
use Rattle.std.specs.Prelude.{◌≡◌, ℕ, List, ◌++◌, Option, Some, None, option_and_then, codes, true}
use Rattle.serde_json.specs.Data.{Data}
use Rattle.serde_json.specs.Find.{get}
use Rattle.der_lite.specs.Moments.{CivilMoment, decimals, is_moment}
use Rattle.der_lite.specs.Seconds.{seconds_of}
use Rattle.payload_lists.specs.PayloadList.{text_at, whole_at}

-- YYYY-MM-DDTHH:MM:SSZ (RFC 3339 section 5.6)
abbrev pub time_text : CivilMoment → List ℕ
time_text m =
    decimals 4 m.year ++ codes "-" ++ decimals 2 m.month ++ codes "-" ++ decimals 2 m.day
    ++ codes "T" ++ decimals 2 m.hour ++ codes ":" ++ decimals 2 m.minute ++ codes ":" ++ decimals 2 m.second ++ codes "Z"

-- A text says a moment of the years 1970 to 9999.
pub record SaysTime (m : CivilMoment) (text : List ℕ) : Type 0 where
  pub text_is : text ≡ time_text m
  pub real : is_moment m ≡ true

-- The seconds from the beginning of 1970 to the moment that a text says, or that it says none
abbrev pub IsTimeOf : Option (List ℕ) → Option ℕ → Type 0
IsTimeOf text (Some n) = (t : List ℕ) × (text ≡ Some t) × ((m : CivilMoment) × SaysTime m t × (n ≡ seconds_of m))
IsTimeOf text None = (t : List ℕ) → text ≡ Some t → (m : CivilMoment) → ¬ (SaysTime m t)

-- The whole number `generated`; if there is none, the moment that the text `buildtime` says
abbrev pub IsBuilt : Option ℕ → Option (List ℕ) → Option ℕ → Type 0
IsBuilt (Some n) text built = built ≡ Some n
IsBuilt None text built = IsTimeOf text built

-- Both are members of the object metadata.
abbrev pub generated : Data → Option ℕ
generated d = option_and_then (whole_at (codes "generated")) (get (codes "metadata") d)

abbrev pub buildtime : Data → Option (List ℕ)
buildtime d = option_and_then (text_at (codes "buildtime")) (get (codes "metadata") d)
