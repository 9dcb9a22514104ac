-- Versions at their places.
use Rattle.rtr_world.proofs.Words.{◌≡◌, ◌⊎◌, ℕ, ◌+◌, ◌<◌, ◌^◌, Bool, true, false, ◌==◌, nat_lt, List, [], ◌∷◌, ◌++◌, length, take, find, Option, Some, None, option_and_then, if◌then◌else◌, refl, ⊤, ◌≤◌, sym, ap, ◌∙◌, subst, arith, inl, inr, option_map, cases_Bool, nat_tests, length-append, Instance, IsInstance, NumberedSet, versions, versions_from, with_serial, named, serial_at, VrpSet, empty, names_itself, kept_is_itself, Version, V0, V1, session_in, Committed, is_same, of_version, eq_self, eq_of, false_if_never}
use Rattle.rtr_world.specs.VersionPlaces.{position_of}
use Rattle.rtr_world.specs.Claims.{IsNamed}

pub lt_of : (a b : ℕ) → nat_lt a b ≡ true → a < b
lt_of a b h = grind (arith, nat_tests)

-- the newest instance of a session in a version of the protocol
abbrev pub find_session : Version → ℕ → List Instance → Option Instance
find_session pv session all = find (λ i. session_in pv i == session) all

-- What is published changes no session.
pub same_session_in : (pv : Version) (i : Instance) (sets : List VrpSet) → session_in pv (record i { sets = sets }) ≡ session_in pv i
same_session_in V0 i sets = refl
same_session_in V1 i sets = refl

pub some_is : {A : Type 0} (a b : A) → Some a ≡ Some b → a ≡ b
some_is a b h = cc

pub same_instance : (a b : Instance) (o : Option Instance) → o ≡ Some a → o ≡ Some b → a ≡ b
same_instance a b o p q = some_is a b (sym p ∙ q)

-- This set was published under this version of the protocol, session and serial, and fewer than 2^31 versions are newer.
pub record Stands (all : List Instance) (pv : Version) (session serial : ℕ) (set : VrpSet) : Type 0 where
  pub i : Instance
  pub found : find_session pv session all ≡ Some i
  pub newer : List VrpSet
  pub older : List VrpSet
  pub sets : i.sets ≡ newer ++ set ∷ older
  pub serial_is : serial ≡ serial_at i.start (length older)
  pub young : length newer < 2 ^ 31
  pub low : session < 2 ^ 16

abbrev set_in : Option NumberedSet → Option VrpSet
set_in o = option_map (λ v. v.set) o

-- so it is named
pub named_at : (all : List Instance) (pv : Version) (session serial : ℕ) (set : VrpSet) → Stands all pv session serial set → named (session_in pv) all session serial ≡ Some set
named_at all pv session serial set a =
    ap (option_and_then (λ i. set_in (with_serial serial (versions i)))) a.found
    ∙ (λ j. set_in (with_serial (a.serial_is j) (versions_from a.i.start (a.sets j))))
    ∙ ap set_in (names_itself a.i.start a.newer set a.older a.young)

-- the table is empty, or the version that is committed
abbrev pub TableAt : List Instance → Option Committed → VrpSet → Type 0
TableAt all None table = table ≡ empty
TableAt all (Some version) table = Stands all version.version version.session version.serial table

-- what is held of a version of the protocol is there
abbrev pub HeldAt : List Instance → Version → Option Committed → VrpSet → Type 0
HeldAt all pv None table = ⊤
HeldAt all pv (Some version) table = Stands all pv version.session version.serial table

pub held_at : (all : List Instance) (pv : Version) (version : Option Committed) (table : VrpSet) → TableAt all version table → HeldAt all pv (of_version pv version) table
held_at all pv None table t = tt
held_at all pv (Some version) table t = elim (cases_Bool (is_same pv version.version)) [
  | inl e ↦ rw e (subst (λ v. Stands all v version.session version.serial table) (sym (same_of pv version.version e)) t)
  | inr e ↦ rw e tt
]
  where
    same_of : (a b : Version) → is_same a b ≡ true → a ≡ b
    same_of V0 V0 e = refl
    same_of V1 V1 e = refl
    same_of _ _ e = absurd (let h : false ≡ true = e in cc)

pub table_named : (all : List Instance) (version : Option Committed) (table : VrpSet) → TableAt all version table → IsNamed all version table
table_named all None table h = h
table_named all (Some version) table h = named_at all version.version version.session version.serial table h

-- The present instance is found by its session.
pub record Present (all : List Instance) (i : Instance) : Type 0 where
  pub found : (pv : Version) → find_session pv (session_in pv i) all ≡ Some i
  pub is : IsInstance i

pub of_present : (all : List Instance) (i : Instance) → Present all i → (pv : Version) (session serial : ℕ) (set : VrpSet) (a : Stands all pv session serial set) → session ≡ session_in pv i → a.i ≡ i
of_present all i p pv session serial set a e = same_instance a.i i (find_session pv session all) a.found (subst (λ s. find_session pv s all ≡ Some i) (sym e) (p.found pv))

-- What the cache keeps under the serial of a version is it or nothing.
pub kept_at : (all : List Instance) (i : Instance) (p : Present all i) (kept : ℕ) (pv : Version) (session serial : ℕ) (set : VrpSet) → Stands all pv session serial set → session ≡ session_in pv i
    → (with_serial serial (take kept (versions i)) ≡ None) ⊎ (with_serial serial (take kept (versions i)) ≡ Some (record { serial = serial; set = set }))
kept_at all i p kept pv session serial set a e =
    let same = of_present all i p pv session serial set a e in
    let is : with_serial serial (take kept (versions i)) ≡ with_serial (serial_at a.i.start (length a.older)) (take kept (versions_from a.i.start (a.newer ++ set ∷ a.older))) =
    (λ j. with_serial (a.serial_is j) (take kept (versions (sym same j)))) ∙ (λ j. with_serial (serial_at a.i.start (length a.older)) (take kept (versions_from a.i.start (a.sets j)))) in
    elim (kept_is_itself a.i.start kept a.newer set a.older a.young) [
      | inl none ↦ inl (is ∙ none)
      | inr it ↦ inr (is ∙ it ∙ ap (λ n. Some (record { serial = n; set = set })) (sym a.serial_is))
    ]

-- An instance with a version has one.
pub has_sets : (all : List Instance) (i : Instance) (p : Present all i) (pv : Version) (session serial : ℕ) (set : VrpSet) → Stands all pv session serial set → session ≡ session_in pv i → i.sets ≡ [] → ⊥
has_sets all i p pv session serial set a e none =
    let same = of_present all i p pv session serial set a e in
    let e : [] ≡ a.newer ++ set ∷ a.older = sym none ∙ ap (λ x. x.sets) (sym same) ∙ a.sets in
    absurd (omega (arith, ap length e, length-append a.newer (set ∷ a.older)))

-- the place of a version
pub position_at : (all : List Instance) (pv : Version) (session serial : ℕ) (set : VrpSet) (a : Stands all pv session serial set) → position_of serial (versions a.i) ≡ Some (length a.older)
position_at all pv session serial set a =
    (λ j. position_of (a.serial_is j) (versions_from a.i.start (a.sets j))) ∙ found a.newer a.young
  where
    shorter : (older : List VrpSet) → length (versions_from a.i.start older) ≡ length older
    shorter [] = refl
    shorter (x ∷ older) = let h = shorter older in omega (arith, h)

    found : (newer : List VrpSet) → length newer < 2 ^ 31 → position_of (serial_at a.i.start (length a.older)) (versions_from a.i.start (newer ++ set ∷ a.older)) ≡ Some (length a.older)
    found [] few =
        ap (λ b. if b then Some (length (versions_from a.i.start a.older)) else position_of (serial_at a.i.start (length a.older)) (versions_from a.i.start a.older)) (eq_self (serial_at a.i.start (length a.older)))
        ∙ ap Some (shorter a.older)
    found (x ∷ newer) few =
        let size = length-append newer (set ∷ a.older) in
        let other : (serial_at a.i.start (length (newer ++ set ∷ a.older)) == serial_at a.i.start (length a.older)) ≡ false =
        false_if_never _ (λ e. absurd (omega (arith, eq_of _ _ e, size, few))) in
        ap (λ b. if b then Some (length (versions_from a.i.start (newer ++ set ∷ a.older))) else position_of (serial_at a.i.start (length a.older)) (versions_from a.i.start (newer ++ set ∷ a.older))) other
        ∙ found newer (omega (arith, few))

-- It is there wherever its instance is found.
stands_where : (all more : List Instance) (pv : Version) (session serial : ℕ) (set : VrpSet) (a : Stands all pv session serial set) → find_session pv session more ≡ Some a.i → (s : Stands more pv session serial set) × (s.older ≡ a.older)
stands_where all more pv session serial set a found = (record { i = a.i; found = found; newer = a.newer; older = a.older; sets = a.sets; serial_is = a.serial_is; young = a.young; low = a.low }, refl)

-- A version that has room keeps its name and its place when another is published.
pub stands_published : (past : List Instance) (i : Instance) (y : VrpSet) (pv : Version) (session serial : ℕ) (set : VrpSet) (a : Stands (i ∷ past) pv session serial set) → (session_in pv i ≡ session → length a.newer + 1 < 2 ^ 31)
    → (s : Stands (record i { sets = y ∷ i.sets } ∷ past) pv session serial set) × (s.older ≡ a.older)
stands_published past i y pv session serial set a room = elim (cases_Bool (session_in pv i == session)) [
  | inl e ↦ (let same : i ≡ a.i = some_is i a.i (rw e at a.found) in (
    record {
      i = record i { sets = y ∷ i.sets };
      found = ap (λ b. if b then Some (record i { sets = y ∷ i.sets }) else find_session pv session past) (ap (λ n. n == session) (same_session_in pv i (y ∷ i.sets)) ∙ e);
      newer = y ∷ a.newer;
      older = a.older;
      sets = ap (λ x. y ∷ x.sets) same ∙ ap (λ x. y ∷ x) a.sets;
      serial_is = a.serial_is ∙ ap (λ x. serial_at x.start (length a.older)) (sym same);
      young = (let few : length a.newer + 1 < 2 ^ 31 = room (eq_of (session_in pv i) session e) in omega (arith, few));
      low = a.low;
    },
    refl,
  ))
  | inr e ↦ stands_where (i ∷ past) (record i { sets = y ∷ i.sets } ∷ past) pv session serial set a
      (ap (λ b. if b then Some (record i { sets = y ∷ i.sets }) else find_session pv session past) (ap (λ n. n == session) (same_session_in pv i (y ∷ i.sets)) ∙ e) ∙ (rw e at a.found))
]

-- An instance of a new session hides none.
pub stands_restarted : (all : List Instance) (i : Instance) (pv : Version) (session serial : ℕ) (set : VrpSet) → find_session pv (session_in pv i) all ≡ None → (a : Stands all pv session serial set) → (s : Stands (i ∷ all) pv session serial set) × (s.older ≡ a.older)
stands_restarted all i pv session serial set new a = stands_where all (i ∷ all) pv session serial set a (elim (cases_Bool (session_in pv i == session)) [
  | inl here ↦ absurd (let h : ◌≡◌ {A = Option Instance} None (Some a.i) = sym (subst (λ s. find_session pv s all ≡ None) (eq_of (session_in pv i) session here) new) ∙ a.found in cc)
  | inr other ↦ rw other a.found
])

-- What an invariant knows of a connection.
-- The instance as it was when the connection was made, how many versions the cache keeps, and the version of the connection. The session in
-- it and the sets of that instance then, or when what was committed on the connection last was its newest version. The cache as it was when
-- it last read a PDU on it
pub record Seen : Type 0 where
  pub made : Instance
  pub keep : ℕ
  pub version : Version
  pub session : ℕ
  pub sets : List VrpSet
  pub read : Option Instance

abbrev pub seen_at : ℕ → Version → Instance → Seen
seen_at keep version i = record { made = i; keep = keep; version = version; session = session_in version i; sets = i.sets; read = None }

abbrev pub IsSeen : ℕ → Option Instance → Option Seen → Type 0
IsSeen keep None None = ⊤
IsSeen keep (Some home) (Some seen) = (seen.made ≡ home) × (seen.keep ≡ keep) × (seen.session ≡ session_in seen.version home) × (length home.sets ≤ length seen.sets)
IsSeen keep _ _ = ⊥

abbrev pub IsReadAt : Option Instance → Option Seen → Type 0
IsReadAt read None = ⊤
IsReadAt read (Some seen) = seen.read ≡ read

-- The cache reads a PDU now.
abbrev pub reads_now : Instance → Option Seen → Option Seen
reads_now i None = None
reads_now i (Some seen) = Some (record seen { read = Some i })

abbrev pub seen_after : Instance → Bool → Option Seen → Option Seen
seen_after i read seen = if read then reads_now i seen else seen
