-- A router that is handed a whole reply reads it: its link is idle then, or has ended, or it asks anew after a Cache Reset.
use Rattle.rtr_world.proofs.Words.{◌≡◌, ◌⊎◌, ℕ, ◌<◌, Bool, true, false, not, ◌&&◌, List, [], ◌∷◌, ◌++◌, length, Option, Some, None, if◌then◌else◌, refl, sym, ap, ◌∙◌, subst, arith, inl, inr, and_parts, length-append, Instance, VrpSet, empty, Version, Judgement, judge, Unit, CacheResponse, CacheReset, ErrorReport, some_sent, End, report, sent, counted, finds_memory, is_none, bytes_sent, in_version, Router, may_lack, on_unit, Receiving, clocked, expired, receives, router_byte, router_stops, with_bytes, Idle, Asked, Answering, Ended, is_reading, At, AskReset, AskSerial, Begun, Question, base_of, is_over, is_serial, later, of_version, query, feed_keeps, feed_takes, false_true, false_of_not, true_of_not, default_config}
use Rattle.rtr_ends.specs.declared.link.End.TheVariants as ends
use Rattle.rtr_world.proofs.RouterCases.{none_counted}
use Rattle.rtr_world.proofs.CatchUpAnswers.{other_report}
use Rattle.rtr_world.proofs.Invariant.{after_stage, Leads, Mine, QuestionFits, Replies, no_data, not_kept, other_session, no_memory, response, nothing_yet}
use Rattle.rtr_world.proofs.UnitsAtRouters.{stage_keeps}
use Rattle.rtr_world.proofs.UnitEffects.{by_answer, by_reply, fits_mine}
use Rattle.rtr_world.proofs.UnitStreams.{Stream, case_by, first_in, head_is, one_case}
use Rattle.rtr_world.proofs.Versions.{TableAt, Seen}

-- If no byte is still to come, no PDU is.
none_left : (pv : Version) (held : List ℕ) (units : List Unit) → Stream held [] (in_version pv units) → units ≡ []
none_left pv held [] s = refl
none_left pv [] (u ∷ units) s = by_bytes (sent pv u) refl s.whole
  where
    by_bytes : (bytes : List ℕ) → sent pv u ≡ bytes → [] ≡ bytes ++ bytes_sent (in_version pv units) → u ∷ units ≡ []
    by_bytes [] is e = absurd (some_sent pv u is)
    by_bytes (b ∷ bytes) is e = cc
none_left pv (c ∷ held) (u ∷ units) s =
    let p = s.part in
    let whole = ap length s.whole in
    let first = ap length p.2 in
    let a = length-append (c ∷ held) [] in
    let b = length-append (sent pv u) (bytes_sent (in_version pv units)) in
    let d = length-append (c ∷ held) (p.0 ∷ p.1) in
    absurd (omega (arith, whole, first, a, b, d))

pub none_after : (pv : Version) (rest : List ℕ) (units : List Unit) → units ≡ [] → Stream [] rest (in_version pv units) → rest ≡ []
none_after pv rest units e s = s.whole ∙ ap (λ x. bytes_sent (in_version pv x)) e

-- no Error Report
abbrev is_report : Unit → Bool
is_report (ErrorReport e) = true
is_report u = false

not_report : (copy : List ℕ) (u : Unit) (more : List Unit) → is_report u ≡ false → u ∷ more ≡ report 0 copy ∷ [] → ⊥
not_report copy u more is e = let k : false ≡ true = sym is ∙ ap is_report (head_is u (report 0 copy) more [] e) in cc

-- if memory ran out, and if the cache's side is still open
module _ (all : List Instance) (h : Seen) (pv : Version) (q : Question) (lacking stays : Type 0) where
  -- why a link ends: memory ran out, or the router was emptied at a Serial Query
  abbrev pub Why : Router → Type 0
  Why r = lacking ⊎ ((is_serial (Some q) ≡ true) × (r.version ≡ None) × (r.table ≡ empty) × (r.config ≡ default_config))

  -- Error Report 0 comes, or the cache's side is open.
  abbrev pub Shown : List Unit → Type 0
  Shown units = stays ⊎ ((copy : List ℕ) × (units ≡ report 0 copy ∷ []))

  still_open : (units : List Unit) → Shown units → ((copy : List ℕ) → units ≡ report 0 copy ∷ [] → ⊥) → stays
  still_open units (inl o) other = o
  still_open units (inr r) other = absurd (other r.0 r.1)

  -- All of the reply is read.
  pub data WasRead (rest : List ℕ) (r : Router) : Type 0 where
    is_idle : r.link ≡ Idle → r.out ≡ [] → rest ≡ [] → stays → WasRead rest r
    asks_again : is_serial (Some q) ≡ true → r.link ≡ Asked AskReset → r.out ≡ sent r.spoken (query AskReset) → r.held ≡ [] → Mine h.session (of_version r.spoken r.version) → TableAt all r.version r.table → rest ≡ [] → stays → r.config ≡ default_config → r.spoken ≡ pv → WasRead rest r
    has_ended : (end : End) → r.link ≡ Ended end → r.out ≡ [] → Why r → WasRead rest r

  -- how far a router has read
  pub data Phase (rest : List ℕ) (r : Router) : Type 0 where
    waits : (units : List Unit) → r.link ≡ Asked q → r.out ≡ [] → QuestionFits h.session q (of_version r.spoken r.version) → TableAt all r.version r.table → Stream r.held rest (in_version r.spoken units) → Replies all r.spoken h q (base_of q r.table) units
        → (units ≡ report 1 [] ∷ [] → lacking) → Shown units → r.config ≡ default_config → r.spoken ≡ pv → Phase rest r
    goes_on : (a : Begun) (units : List Unit) (serial : ℕ) (set : VrpSet) → r.link ≡ Answering a → r.out ≡ [] → a.session ≡ h.session → Stream r.held rest (in_version r.spoken units) → Leads (base_of a.question r.table) a units h.session serial set → stays → r.config ≡ default_config → r.spoken ≡ pv → Phase rest r
    all_read : WasRead rest r → Phase rest r

  -- the first PDU of the reply
  replied : (rest : List ℕ) (k : Router) (u : Unit) (more : List Unit) → k.held ≡ [] → k.out ≡ [] → TableAt all k.version k.table → QuestionFits h.session q (of_version k.spoken k.version) → Stream [] rest (in_version k.spoken more) → Replies all k.spoken h q (base_of q k.table) (u ∷ more)
      → (u ∷ more ≡ report 1 [] ∷ [] → lacking) → Shown (u ∷ more) → k.config ≡ default_config → k.spoken ≡ pv → Phase rest (on_unit (Asked q) u k)
  replied rest k u more held none t f s replies memory shown c of =
      by_reply all h k (λ p v n. q ≡ p → (v ∷ more ≡ report 1 [] ∷ [] → lacking) → Shown (v ∷ more) → Phase rest n) q u more f replies (record {
        idles = λ copy e qe memory shown.
            all_read (is_idle refl none (none_after k.spoken rest more e s) (still_open (report 2 copy ∷ more) shown (λ d x. other_report 2 0 copy d (λ n. absurd (omega (arith, n))) (ap (λ x. report 2 copy ∷ x) (sym e) ∙ x))));
        again = λ serial e qe memory shown.
            all_read (asks_again (ap (λ x. is_serial (Some x)) qe) refl refl held (fits_mine h.session (AskSerial h.session serial) (of_version k.spoken k.version) (subst (λ x. QuestionFits h.session x (of_version k.spoken k.version)) qe f) refl) t (none_after k.spoken rest more e s)
            (still_open (CacheReset ∷ more) shown (λ d x. not_report d CacheReset more refl x)) c of);
        other = λ session serial copy differs qe memory shown. all_read (has_ended (ends.Told 0) refl none (inr (ap (λ x. is_serial (Some x)) qe, refl, refl, c)));
        lacks = λ p e qe memory shown. all_read (has_ended (ends.Told 1) refl none (inl (memory (ap (λ x. report 1 [] ∷ x) e))));
        begins = λ p own a qe memory shown.
            goes_on (nothing_yet p h.session) more a.serial a.set refl none refl (subst (λ x. Stream x rest (in_version k.spoken more)) (sym held) s) a.leads (still_open (CacheResponse h.session ∷ more) shown (λ d x. not_report d (CacheResponse h.session) more refl x)) c of;
      }) refl memory shown

  -- a record, or the end of the answer
  answered : (rest : List ℕ) (k : Router) (a : Begun) (u : Unit) (more : List Unit) (serial : ℕ) (set : VrpSet) → k.out ≡ [] → k.held ≡ [] → a.session ≡ h.session → Stream [] rest (in_version k.spoken more) → Leads (base_of a.question k.table) a (u ∷ more) h.session serial set → stays → k.config ≡ default_config → k.spoken ≡ pv → Phase rest (on_unit (Answering a) u k)
  answered rest k a u more serial set none held own s leads o c of =
      by_answer all h k (λ v n. Leads (base_of a.question k.table) a (v ∷ more) h.session serial set → Phase rest n) a u more serial set c own leads (record {
        stages = λ announce v b e leads.
            let same = stage_keeps (base_of a.question k.table) a announce v b e in
            goes_on b more serial set refl none (same.1 ∙ own) (subst (λ x. Stream x rest (in_version k.spoken more)) (sym held) s)
            (subst (λ x. Leads (base_of x k.table) b more h.session serial set) (sym same.0) (subst (λ s. after_stage s (λ b. Leads (base_of a.question k.table) b more h.session serial set)) e leads)) o c of;
        commits = λ v one number intervals says leads. all_read (is_idle refl none (none_after k.spoken rest more (says serial set leads).0 s) o);
      }) leads

  bytes_read : (rest : List ℕ) (r : Router) (b : ℕ) (memory : Bool) → (memory ≡ false → lacking) → is_reading r.link ≡ true → Phase (b ∷ rest) r → Phase rest (with_bytes memory (r.held ++ b ∷ []) r (judge r.spoken (not r.agreed) (r.held ++ b ∷ []))).router
  bytes_read rest r b memory lack live (waits units is none f t s replies lacked shown c of) =
      case_by (λ n. Phase rest n.router) r b memory rest (in_version r.spoken units) (one_case r.spoken (not r.agreed) r.held b rest units s) (λ s. waits units is none f t s replies lacked shown c of)
      (λ u w. all_read (has_ended ends.Memory refl none (inl (lack (false_of_not memory (and_parts (may_lack r.link u r) (not memory) w).1))))) (λ u more e s.
      let k : Router = record r { held = [] } in
      let first = first_in r.spoken units u more e in
      subst (λ l. Phase rest (on_unit l u.unit k)) (sym is)
      (replied rest k u.unit first.rest refl none t f (subst (Stream [] rest) first.more_is s) (subst (λ x. Replies all r.spoken h q (base_of q r.table) x) first.is replies) (λ e. lacked (first.is ∙ e)) (subst Shown first.is shown) c of))
  bytes_read rest r b memory lack live (goes_on a units serial set is none own s leads o c of) =
      case_by (λ n. Phase rest n.router) r b memory rest (in_version r.spoken units) (one_case r.spoken (not r.agreed) r.held b rest units s) (λ s. goes_on a units serial set is none own s leads o c of)
      (λ u w. all_read (has_ended ends.Memory refl none (inl (lack (false_of_not memory (and_parts (may_lack r.link u r) (not memory) w).1))))) (λ u more e s.
      let k : Router = record r { held = [] } in
      let first = first_in r.spoken units u more e in
      subst (λ l. Phase rest (on_unit l u.unit k)) (sym is)
      (answered rest k a u.unit first.rest serial set none refl own (subst (Stream [] rest) first.more_is s) (subst (λ x. Leads (base_of a.question r.table) a x h.session serial set) first.is leads) o c of))
  bytes_read rest r b memory lack live (all_read (is_idle is none e o)) = absurd (let k : b ∷ rest ≡ [] = e in cc)
  bytes_read rest r b memory lack live (all_read (asks_again serial is out held m t e o c of)) = absurd (let k : b ∷ rest ≡ [] = e in cc)
  bytes_read rest r b memory lack live (all_read (has_ended end is none why)) = false_true (ap is_reading (sym is) ∙ live)

  pub no_reply : (version : Version) (base : VrpSet) → Replies all version h q base [] → ⊥
  no_reply version base (no_data copy qe e) = let k : [] ≡ report 2 copy ∷ [] = e in cc
  no_reply version base (not_kept serial qe e) = let k : [] ≡ CacheReset ∷ [] = e in cc
  no_reply version base (other_session session serial copy qe differs e) = let k : [] ≡ report 0 copy ∷ [] = e in cc
  no_reply version base (no_memory e) = let k : [] ≡ report 1 [] ∷ [] = e in cc
  no_reply version base (response tail e own a) = let k : [] ≡ CacheResponse h.session ∷ tail = e in cc

  was_read : (rest : List ℕ) (r : Router) → (0 < length rest → router_stops r ≡ true) → Phase rest r → WasRead rest r
  was_read rest r stops (all_read done) = done
  was_read [] r stops (waits units is none f t s replies lacked shown c of) = absurd (no_reply r.spoken (base_of q r.table) (subst (λ x. Replies all r.spoken h q (base_of q r.table) x) (none_left r.spoken r.held units s) replies))
  was_read (b ∷ rest) r stops (waits units is none f t s replies lacked shown c of) =
      absurd (let e : true ≡ false = sym (stops (omega arith)) ∙ (λ j. not (is_reading (is j) && is_none (none j))) in cc)
  was_read [] r stops (goes_on a units serial set is none own s leads o c of) = absurd (subst (λ x. Leads (base_of a.question r.table) a x h.session serial set) (none_left r.spoken r.held units s) leads)
  was_read (b ∷ rest) r stops (goes_on a units serial set is none own s leads o c of) =
      absurd (let e : true ≡ false = sym (stops (omega arith)) ∙ (λ j. not (is_reading (is j) && is_none (none j))) in cc)

  -- Memory is there for each PDU, or it ran out.
  abbrev HasMemory : Option ℕ → Type 0
  HasMemory wanting = (wanting ≡ None) ⊎ lacking

  may_want : (wanting : Option ℕ) → HasMemory wanting → finds_memory wanting ≡ false → lacking
  may_want wanting (inl none) e = absurd (let k : true ≡ false = ap finds_memory (sym none) ∙ e in cc)
  may_want wanting (inr l) e = l

  counted_on : (j : Judgement) (wanting : Option ℕ) → HasMemory wanting → HasMemory (counted j wanting)
  counted_on j wanting (inl none) = inl (ap (counted j) none ∙ none_counted j)
  counted_on j wanting (inr l) = inr l

  abbrev Goes : List ℕ → Receiving → Type 0
  Goes rest m = Phase rest m.router × HasMemory m.wanting

  goes_byte : (b : ℕ) (rest : List ℕ) (m : Receiving) → router_stops m.router ≡ false → Goes (b ∷ rest) m → Goes rest (router_byte m b)
  unfolding router_byte
  goes_byte b rest m on g =
      let parts = and_parts (is_reading m.router.link) (is_none m.router.out) (true_of_not (is_reading m.router.link && is_none m.router.out) on) in
      (bytes_read rest m.router b (finds_memory m.wanting) (may_want m.wanting g.1) parts.0 g.0, counted_on (judge m.router.spoken (not m.router.agreed) (m.router.held ++ b ∷ [])) m.wanting g.1)

  pub reply_read : (now : ℕ) (wanting : Option ℕ) (bytes : List ℕ) (r : Router) → HasMemory wanting → Phase bytes (clocked now r) → WasRead (receives now wanting bytes r).rest (receives now wanting bytes r).machine.router
  unfolding receives
  reply_read now wanting bytes r memory p =
      let taken = feed_takes (λ (x : Receiving). router_stops x.router) router_byte (record { router = clocked now r; items = At now ∷ []; wanting = wanting }) bytes in
      was_read _ _ taken.1.all_or (feed_keeps (λ (x : Receiving). router_stops x.router) router_byte Goes goes_byte (record { router = clocked now r; items = At now ∷ []; wanting = wanting }) bytes (p, memory)).0

-- the clock: a Serial Query that is outstanding on what is over ends the link
module _ (all : List Instance) (h : Seen) (pv : Version) (lacking stays : Type 0) where
  expired_waits : (q : Question) (bytes : List ℕ) (k : Router) (units : List Unit) → k.link ≡ Asked q → k.out ≡ [] → Stream k.held bytes (in_version k.spoken units) → Replies all k.spoken h q (base_of q k.table) units → (units ≡ report 1 [] ∷ [] → lacking) → Shown all h pv q lacking stays units → k.config ≡ default_config → k.spoken ≡ pv
      → Phase all h pv q lacking stays bytes (expired (Asked q) k)
  expired_waits AskReset bytes k units is none s replies lacked shown c of = waits units is none tt refl s replies lacked shown c of
  expired_waits (AskSerial session serial) bytes k units is none s replies lacked shown c of = all_read (has_ended ends.Expired refl refl (inr (refl, refl, refl, c)))

  pub clocked_waits : (q : Question) (now : ℕ) (bytes : List ℕ) (r : Router) (units : List Unit) → r.link ≡ Asked q → r.out ≡ [] → QuestionFits h.session q (of_version r.spoken r.version) → TableAt all r.version r.table → Stream r.held bytes (in_version r.spoken units) → Replies all r.spoken h q (base_of q r.table) units
      → (units ≡ report 1 [] ∷ [] → lacking) → Shown all h pv q lacking stays units → r.config ≡ default_config → r.spoken ≡ pv → Phase all h pv q lacking stays bytes (clocked now r)
  unfolding clocked
  clocked_waits q now bytes r units is none f t s replies lacked shown c of = by_clock (is_over r.version (later r.now now))
    where
      k : Router
      k = record r { now = later r.now now }

      by_clock : (b : Bool) → Phase all h pv q lacking stays bytes (if b then expired k.link k else k)
      by_clock true = subst (λ l. Phase all h pv q lacking stays bytes (expired l k)) (sym is) (expired_waits q bytes k units is none s replies lacked shown c of)
      by_clock false = waits units is none f t s replies lacked shown c of
