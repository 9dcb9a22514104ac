-- What holds of the definitions of single elements: those that are read as their content, which keeps rules, and those of a moment.
use Rattle.std.specs.Prelude.{◌≡◌, ◌↔◌, ℕ, Bool, true, ◌⊎◌, List, [], ◌++◌, Some, Ok, Err}
use Rattle.der_lite.specs.Place.{Place, Fault}
use Rattle.der_lite.specs.Der.{IsBytes, BitsSpell, head_rules, is_bit_string}
use Rattle.der_lite.specs.Moments.{CivilMoment, is_moment, moment_before, moment_text, moment_in, TimeSpells, IsMomentOf}
use Rattle.der_lite.specs.Grammar.{Breaks, Stands, plain, inside}
use Rattle.der_lite.specs.DerReading.{element_at, content_at, time_at}
use Rattle.der_lite.specs.Times.{timed}

-- An element of this tag is here, with this content.
abbrev pub Found : ℕ → (List ℕ → List (ℕ × Bool)) → Place → List ℕ → Place → Type 0
Found tag rules = Stands (plain tag rules).Spells

-- Reading gives a content exactly if its element is there, and a fault exactly if that fault is there.
abbrev pub ReadsExactly : Type 0
ReadsExactly =
    (tag : ℕ) (rules : List ℕ → List (ℕ × Bool)) (p : Place) → IsBytes p.rest
    → ((content : List ℕ) (q : Place) → (content_at tag rules p ≡ Ok (content, q)) ↔ Found tag rules p content q)
    × ((fault : Fault) → (content_at tag rules p ≡ Err fault) ↔ (plain tag rules).FaultAt p fault)

-- Reading opens an element exactly if it is there, at the place of its content. A fault is the first that its head has.
abbrev pub OpensExactly : Type 0
OpensExactly =
    (tag : ℕ) (p : Place) → IsBytes p.rest
    → ((inner next : Place) → (element_at tag p ≡ Ok (inner, next)) ↔ (Found tag (λ content. []) p inner.rest next × (inner ≡ inside p.at inner.rest)))
    × ((fault : Fault) → (element_at tag p ≡ Err fault) ↔ Breaks (head_rules tag p.rest) p.at fault)

-- At most one fault is at a place: none if an element is there, and one otherwise.
abbrev pub OneDerFault : Type 0
OneDerFault =
    (tag : ℕ) (rules : List ℕ → List (ℕ × Bool)) (p : Place)
    → ((f g : Fault) → (plain tag rules).FaultAt p f → (plain tag rules).FaultAt p g → f ≡ g)
    × ((content : List ℕ) (q : Place) (f : Fault) → Found tag rules p content q → (plain tag rules).FaultAt p f → ⊥)
    × (IsBytes p.rest → ((content : List ℕ) × (q : Place) × Found tag rules p content q) ⊎ ((f : Fault) × (plain tag rules).FaultAt p f))

-- No content has two spellings. If one spelling begins with another, both are equal, and so are the contents.
abbrev pub OneDerSpelling : Type 0
OneDerSpelling =
    (tag : ℕ) (rules : List ℕ → List (ℕ × Bool))
    → ((v a b : List ℕ) → (plain tag rules).Spells v a → (plain tag rules).Spells v b → a ≡ b)
    × ((v w a b more rest : List ℕ) → (plain tag rules).Spells v a → (plain tag rules).Spells w b → a ++ more ≡ b ++ rest → (v ≡ w) × (more ≡ rest))

-- A content keeps the rules of a bit string exactly if it spells bits; it spells one list of them, and no list has two contents.
abbrev pub SpellsBits : Type 0
SpellsBits =
    ((content : List ℕ) → (is_bit_string content ≡ true) ↔ ((bits : List Bool) × BitsSpell bits content))
    × ((content : List ℕ) (one other : List Bool) → BitsSpell one content → BitsSpell other content → one ≡ other)
    × ((bits : List Bool) (a b : List ℕ) → IsBytes a → IsBytes b → BitsSpell bits a → BitsSpell bits b → a ≡ b)

-- ---- moments

-- Reading gives a moment exactly if its element is there, and a fault exactly if that fault is there.
abbrev pub ReadsTimesExactly : Type 0
ReadsTimesExactly =
    (p : Place) → IsBytes p.rest
    → ((m : CivilMoment) (q : Place) → (time_at p ≡ Ok (m, q)) ↔ Stands (timed (λ m. [])).Spells p m q)
    × ((fault : Fault) → (time_at p ≡ Err fault) ↔ (timed (λ m. [])).FaultAt p fault)

-- At most one fault is where a moment is expected: none if one is there, and one otherwise.
abbrev pub OneFaultOfTimes : Type 0
OneFaultOfTimes =
    (rules : CivilMoment → List (ℕ × Bool)) (p : Place)
    → ((f g : Fault) → (timed rules).FaultAt p f → (timed rules).FaultAt p g → f ≡ g)
    × ((m : CivilMoment) (q : Place) (f : Fault) → Stands (timed rules).Spells p m q → (timed rules).FaultAt p f → ⊥)
    × (IsBytes p.rest → ((m : CivilMoment) × (q : Place) × Stands (timed rules).Spells p m q) ⊎ ((f : Fault) × (timed rules).FaultAt p f))

-- No moment has two elements. If one element begins with another, both are equal, and so are the moments.
abbrev pub OneSpellingOfTimes : Type 0
OneSpellingOfTimes =
    (rules : CivilMoment → List (ℕ × Bool))
    → ((m : CivilMoment) (a b : List ℕ) → (timed rules).Spells m a → (timed rules).Spells m b → a ≡ b)
    × ((m n : CivilMoment) (a b more rest : List ℕ) → (timed rules).Spells m a → (timed rules).Spells n b → a ++ more ≡ b ++ rest → (m ≡ n) × (more ≡ rest))

-- What is found in a text is the moment whose text it is; otherwise there is none. A moment has one text, and a text one moment.
abbrev pub OneText : Type 0
OneText =
    ((text : List ℕ) → IsMomentOf text (moment_in text))
    × ((m : CivilMoment) (a b : List ℕ) → TimeSpells m a → TimeSpells m b → a ≡ b)
    × ((m n : CivilMoment) (text : List ℕ) → TimeSpells m text → TimeSpells n text → m ≡ n)
    × ((m : CivilMoment) → is_moment m ≡ true → moment_in (moment_text m) ≡ Some m)

-- No moment is before itself, one is before those behind a later one, and of two that differ one is before the other.
abbrev pub OneIsBefore : Type 0
OneIsBefore =
    ((m : CivilMoment) → ¬ (moment_before m m ≡ true))
    × ((m n k : CivilMoment) → moment_before m n ≡ true → moment_before n k ≡ true → moment_before m k ≡ true)
    × ((m n : CivilMoment) → (m ≡ n) ⊎ (moment_before m n ≡ true) ⊎ (moment_before n m ≡ true))
