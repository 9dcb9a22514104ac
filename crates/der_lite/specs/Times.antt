-- GeneralizedTime in grammars: an element that is read as a moment.
use Rattle.std.specs.Prelude.{ℕ, Bool, not, List, ◌∷◌, Ok}
use Rattle.der_lite.specs.Der.{GENERALIZED_TIME, head_rules}
use Rattle.der_lite.specs.Moments.{CivilMoment, moment_of, is_time, TimeSpells}
use Rattle.der_lite.specs.Grammar.{Element, element, primitive}
use Rattle.der_lite.specs.DerReading.{◌>>=◌, judged, time_at}
use Rattle.der_lite.specs.Decoding.{Read}

-- the content is the text of a moment, and this keeps the rules
abbrev pub time_rules : (CivilMoment → List (ℕ × Bool)) → List ℕ → List (ℕ × Bool)
time_rules rules content = (4, not (is_time content)) ∷ rules (moment_of content)

-- A GeneralizedTime (tag 24), whose moment keeps the rules.
abbrev pub timed : (CivilMoment → List (ℕ × Bool)) → Element CivilMoment
timed rules = element GENERALIZED_TIME (head_rules GENERALIZED_TIME) (primitive TimeSpells (time_rules rules))

-- reading it: the moment, and then its rules
abbrev pub timed_at : (CivilMoment → List (ℕ × Bool)) → Read CivilMoment
timed_at rules p = time_at p >>= λ x. judged (rules x.0) p.at (Ok x)
