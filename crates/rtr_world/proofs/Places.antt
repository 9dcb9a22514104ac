-- The places of what is committed, and that nothing is committed that was published before what was committed earlier.
use Rattle.rtr_world.proofs.Words.{◌≡◌, ℕ, ◌+◌, ◌-◌, ◌<◌, ◌≤◌, Bool, true, ◌==◌, List, [], ◌∷◌, ◌++◌, length, Option, Some, None, if◌then◌else◌, refl, ⊤, sym, ap, ◌∙◌, subst, subst₂, arith, inl, inr, option_map, cases_Bool, length-append, Instance, versions, VrpSet, Version, session_in, eq_self, eq_of}
use Rattle.rtr_world.specs.VersionPlaces.{VersionPlace, position_of, place_named, IsNotAfter, NeverBack}
use Rattle.rtr_world.proofs.Versions.{Stands, position_at, find_session, same_session_in, some_is, Seen, seen_after, seen_at}

-- how many instances came before that of a session
abbrev pub rank_of : Version → ℕ → List Instance → Option ℕ
rank_of pv session [] = None
rank_of pv session (i ∷ older) = if session_in pv i == session then Some (length older) else rank_of pv session older

abbrev pub place_at : ℕ → ℕ → VersionPlace
place_at instance position = record { instance = instance; position = position }

-- The place that is named if an instance has this session
pub record Found (all : List Instance) (pv : Version) (session serial position : ℕ) : Type 0 where
  pub rank : ℕ
  pub is : rank_of pv session all ≡ Some rank
  pub named : place_named (session_in pv) all session serial ≡ Some (place_at rank position)

found : (all : List Instance) (pv : Version) (session serial : ℕ) (j : Instance) (position : ℕ) → find_session pv session all ≡ Some j → position_of serial (versions j) ≡ Some position → Found all pv session serial position
found [] pv session serial j position f p = absurd (let e : ◌≡◌ {A = Option Instance} None (Some j) = f in cc)
found (i ∷ older) pv session serial j position f p = elim (cases_Bool (session_in pv i == session)) [
  | inl same ↦ record {
    rank = length older;
    is = rw same refl;
    named = rw same (ap (option_map (λ n. place_at (length older) n)) (ap (λ x. position_of serial (versions x)) (some_is i j (rw same at f)) ∙ p));
  }
  | inr other ↦ let k = found older pv session serial j position (rw other at f) p in record { rank = k.rank; is = rw other k.is; named = rw other k.named }
]

pub stands_found : (all : List Instance) (pv : Version) (session serial : ℕ) (set : VrpSet) (a : Stands all pv session serial set) → Found all pv session serial (length a.older)
stands_found all pv session serial set a = found all pv session serial a.i (length a.older) a.found (position_at all pv session serial set a)

-- A session that no instance has has no rank.
no_rank : (pv : Version) (session : ℕ) (all : List Instance) → find_session pv session all ≡ None → rank_of pv session all ≡ None
no_rank pv session [] h = refl
no_rank pv session (i ∷ older) h = elim (cases_Bool (session_in pv i == session)) [
  | inl same ↦ absurd (let k : ◌≡◌ {A = Option Instance} (Some i) None = rw same at h in cc)
  | inr other ↦ rw other (no_rank pv session older (rw other at h))
]

pub rank_restarted : (i : Instance) (all : List Instance) (pv : Version) (session rank : ℕ) → find_session pv (session_in pv i) all ≡ None → rank_of pv session all ≡ Some rank → rank_of pv session (i ∷ all) ≡ Some rank
rank_restarted i all pv session rank new is = elim (cases_Bool (session_in pv i == session)) [
  | inl same ↦ (let none : rank_of pv session all ≡ None = no_rank pv session all (subst (λ s. find_session pv s all ≡ None) (eq_of (session_in pv i) session same) new) in
      absurd (let k : ◌≡◌ {A = Option ℕ} None (Some rank) = sym none ∙ is in cc))
  | inr other ↦ rw other is
]

rank_low : (pv : Version) (session : ℕ) (all : List Instance) (rank : ℕ) → rank_of pv session all ≡ Some rank → rank < length all
rank_low pv session [] rank h = absurd (let e : ◌≡◌ {A = Option ℕ} None (Some rank) = h in cc)
rank_low pv session (i ∷ older) rank h = elim (cases_Bool (session_in pv i == session)) [
  | inl same ↦ let e : length older ≡ rank = some_is (length older) rank (rw same at h) in omega (arith, e)
  | inr other ↦ let k = rank_low pv session older rank (rw other at h) in omega (arith, k)
]

-- the place of the newest version, or where it will be
abbrev pub newest_place : List Instance → Instance → VersionPlace
newest_place past i = place_at (length past) (length i.sets - 1)

pub young_enough : (i : Instance) (newer : List VrpSet) (set : VrpSet) (older : List VrpSet) → i.sets ≡ newer ++ set ∷ older → length older + 1 ≤ length i.sets
young_enough i newer set older e = let n = ap length e in let k = length-append newer (set ∷ older) in omega (arith, n, k)

-- What is there is not after the newest place.
pub not_after_newest : (past : List Instance) (i : Instance) (pv : Version) (session serial : ℕ) (set : VrpSet) (a : Stands (i ∷ past) pv session serial set) (rank : ℕ) → rank_of pv session (i ∷ past) ≡ Some rank
    → IsNotAfter (Some (place_at rank (length a.older))) (Some (newest_place past i))
not_after_newest past i pv session serial set a rank is = elim (cases_Bool (session_in pv i == session)) [
  | inl same ↦ (let k = young_enough i a.newer set a.older (ap (λ x. x.sets) (some_is i a.i (rw same at a.found)) ∙ a.sets) in
      inr (sym (some_is (length past) rank (rw same at is)), omega (arith, k)))
  | inr other ↦ inl (rank_low pv session past rank (rw other at is))
]

-- the place that was committed last is not after this one
abbrev pub LastBefore : List (Option VersionPlace) → VersionPlace → Type 0
LastBefore [] place = ⊤
LastBefore (last ∷ earlier) place = IsNotAfter last (Some place)

not_after_trans : (last : Option VersionPlace) (b c : VersionPlace) → IsNotAfter last (Some b) → IsNotAfter (Some b) (Some c) → IsNotAfter last (Some c)
not_after_trans None b c h k = absurd h
not_after_trans (Some a) b c (inl h) (inl k) = inl (omega (arith, h, k))
not_after_trans (Some a) b c (inl h) (inr k) = let e = k.0 in inl (omega (arith, h, e))
not_after_trans (Some a) b c (inr h) (inl k) = let e = h.0 in inl (omega (arith, e, k))
not_after_trans (Some a) b c (inr h) (inr k) = let x = h.1 in let y = k.1 in inr (h.0 ∙ k.0, omega (arith, x, y))

pub last_trans : (places : List (Option VersionPlace)) (b c : VersionPlace) → LastBefore places b → IsNotAfter (Some b) (Some c) → LastBefore places c
last_trans [] b c h k = tt
last_trans (last ∷ earlier) b c h k = not_after_trans last b c h k

-- the instance of the connection, as it was when the connection was made or after a commit: what was committed is not after it
abbrev pub IfSeen : Option Seen → (Seen → Type 0) → Type 0
IfSeen None P = ⊤
IfSeen (Some h) P = P h

if_seen : (seen : Option Seen) (P Q : Seen → Type 0) → ((h : Seen) → P h → Q h) → IfSeen seen P → IfSeen seen Q
if_seen None P Q goes h = tt
if_seen (Some k) P Q goes h = goes k h

pub record Below (all : List Instance) (places : List (Option VersionPlace)) (h : Seen) : Type 0 where
  pub rank : ℕ
  pub is : rank_of h.version h.session all ≡ Some rank
  pub below : LastBefore places (place_at rank (length h.sets - 1))

-- An instance with the session of the connection, in its version, is the one to which it was made.
abbrev pub IsHome : Instance → Seen → Type 0
IsHome i h = session_in h.version i ≡ h.session → i.session ≡ h.made.session

-- What was committed is in order, and not after the newest version.
pub record Ordered (past : List Instance) (i : Instance) (places : List (Option VersionPlace)) (seen : Option Seen) : Type 0 where
  pub never_back : NeverBack places
  pub current : LastBefore places (newest_place past i)
  pub at_seen : IfSeen seen (Below (i ∷ past) places)
  pub at_home : IfSeen seen (IsHome i)

-- a commit
never_more : (place : VersionPlace) (places : List (Option VersionPlace)) → LastBefore places place → NeverBack places → NeverBack (Some place ∷ places)
never_more place [] h k = inr (refl, omega arith)
never_more place (last ∷ earlier) h k = (h, k)

pub ordered_more : (past : List Instance) (i : Instance) (h : Seen) (places : List (Option VersionPlace)) (pv : Version) (session serial : ℕ) (set : VrpSet) (a : Stands (i ∷ past) pv session serial set) (f : Found (i ∷ past) pv session serial (length a.older)) → pv ≡ h.version → session ≡ h.session
    → length h.sets ≤ length a.older + 1 → Ordered past i places (Some h) → Ordered past i (Some (place_at f.rank (length a.older)) ∷ places) (Some (record h { sets = set ∷ a.older }))
ordered_more past i h places pv session serial set a f of own since o =
    let b : Below (i ∷ past) places h = o.at_seen in
    let there : rank_of h.version h.session (i ∷ past) ≡ Some f.rank = subst₂ (λ v s. rank_of v s (i ∷ past) ≡ Some f.rank) of own f.is in
    let ranks : b.rank ≡ f.rank = some_is b.rank f.rank (sym b.is ∙ there) in
    let on : LastBefore places (place_at f.rank (length a.older)) = last_trans places (place_at b.rank (length h.sets - 1)) (place_at f.rank (length a.older)) b.below (inr (ranks, omega (arith, since))) in
    record {
      never_back = never_more (place_at f.rank (length a.older)) places on o.never_back;
      current = not_after_newest past i pv session serial set a f.rank f.is;
      at_seen = record { rank = f.rank; is = there; below = inr (refl, omega arith) };
      at_home = o.at_home;
    }

-- no connection
pub ordered_none : (past : List Instance) (i : Instance) (places : List (Option VersionPlace)) (seen : Option Seen) → Ordered past i places seen → Ordered past i places None
ordered_none past i places seen o = record { never_back = o.never_back; current = o.current; at_seen = tt; at_home = tt }

-- the cache reads a PDU on it, or not
pub ordered_read : (past : List Instance) (i : Instance) (places : List (Option VersionPlace)) (read : Bool) (seen : Option Seen) → Ordered past i places seen → Ordered past i places (seen_after i read seen)
ordered_read past i places true (Some h) o =
    let b : Below (i ∷ past) places h = o.at_seen in
    record { never_back = o.never_back; current = o.current; at_seen = record { rank = b.rank; is = b.is; below = b.below }; at_home = o.at_home }
ordered_read past i places _ _ o = o

-- a new one
pub ordered_connects : (keep : ℕ) (pv : Version) (past : List Instance) (i : Instance) (places : List (Option VersionPlace)) (seen : Option Seen) → Ordered past i places seen → Ordered past i places (Some (seen_at keep pv i))
ordered_connects keep pv past i places seen o = record { never_back = o.never_back; current = o.current; at_seen = record { rank = length past; is = ap (λ b. if b then Some (length past) else rank_of pv (session_in pv i) past) (eq_self (session_in pv i)); below = o.current }; at_home = λ e. refl }

-- a set is published
pub ordered_published : (past : List Instance) (i : Instance) (y : VrpSet) (places : List (Option VersionPlace)) (seen : Option Seen) → Ordered past i places seen → Ordered past (record i { sets = y ∷ i.sets }) places seen
ordered_published past i y places seen o = record {
  never_back = o.never_back;
  current = last_trans places (newest_place past i) (newest_place past (record i { sets = y ∷ i.sets })) o.current (inr (refl, omega arith));
  at_seen = if_seen seen _ _ (λ k h. record { rank = h.rank; is = ap (λ n. if n == k.session then Some (length past) else rank_of k.version k.session past) (same_session_in k.version i (y ∷ i.sets)) ∙ h.is; below = h.below }) o.at_seen;
  at_home = if_seen seen _ _ (λ k h e. h (sym (same_session_in k.version i (y ∷ i.sets)) ∙ e)) o.at_home;
}

-- the cache restarts
pub ordered_restarted : (past : List Instance) (old i : Instance) (places : List (Option VersionPlace)) (seen : Option Seen) → ((pv : Version) → find_session pv (session_in pv i) (old ∷ past) ≡ None) → Ordered past old places seen → Ordered (old ∷ past) i places seen
ordered_restarted past old i places seen new o = record {
  never_back = o.never_back;
  current = last_trans places (newest_place past old) (newest_place (old ∷ past) i) o.current (inl (omega arith));
  at_seen = if_seen seen _ _ (λ k h. record { rank = h.rank; is = rank_restarted i (old ∷ past) k.version k.session h.rank (new k.version) h.is; below = h.below }) o.at_seen;
  at_home = if_seen seen (Below (old ∷ past) places) (IsHome i) (λ k h e.
      let none : rank_of k.version k.session (old ∷ past) ≡ None = no_rank k.version k.session (old ∷ past) (subst (λ s. find_session k.version s (old ∷ past) ≡ None) e (new k.version)) in
      absurd (let x : ◌≡◌ {A = Option ℕ} None (Some h.rank) = sym none ∙ h.is in cc)) o.at_seen;
}
