-- The lines of a connection that received all bytes.
use Rattle.std.specs.Prelude.{◌≡◌, ℕ, ◌<◌, Bool, true, false, not, List, [], ◌∷◌, ◌++◌, length, String, string_bytes, Option, None, if◌then◌else◌, MatchBool, refl}
use Rattle.std.proofs.Common.{Global, sym, ap, ◌∙◌, subst, append-nil, arith, length-append}
use Rattle.std.specs.List.{AllByRecursion}
use Rattle.vrps.specs.Instance.{Instance}
use Rattle.vrps.specs.Steps.{HoldsSteps, Steps}
use Rattle.rtr_pdu.specs.declared.version.Version.{Version}
use Rattle.rtr_pdu.specs.Version.{first_version, version_in}
use Rattle.rtr_pdu.proofs.VersionLaws.{version_in-append}
use Rattle.rtr_pdu.specs.Payloads.{AreBytes}
use Rattle.rtr_pdu.specs.Stream.{AreRead, IsPartial, Splits, any_after, as_read}
use Rattle.rtr_pdu.specs.Unit.{IsUnitOf}
use Rattle.rtr_pdu.specs.declared.unit.Unit.{Unit}
use Rattle.rtr_pdu.proofs.ReaderLaws.{partial_empty}
use Rattle.rtr_pdu.proofs.StreamLaws.{one_split, written_is_read}
use Rattle.rtr_ends.specs.Answer.{sent, sent_all}
use Rattle.rtr_ends.specs.Cache.{IsServed}
use Rattle.rtr_ends.specs.CacheState.{CacheState, ShowsCache, due_at, is_open_at}
use Rattle.rtr_ends.specs.Connection.{Connection, IsHistory, ConnMoment, Read, Wanting, Fault, Notify, Pull, bytes_sent, conn_after, in_version, opened, replies_from, reply, sent_by, version_after}
use Rattle.rtr_ends.specs.Timing.{default_intervals}
use Rattle.rtr_ends.specs.declared.cache.Cache.{Cache}
use Rattle.rtr_ends.proofs.ByteLists.{bytes_front}
use Rattle.rtr_ends.proofs.ServingLaws.{serves_history}
use Rattle.rtr_commands.specs.Answered.{AnswersBytes, IsOf, LeavesOff}
use Rattle.rtr_commands.specs.Lines.{lines_of}
use Rattle.rtr_commands.specs.Serves.{HasExchanged, HasLines, IsOwn, by_calls, is_internal_error}
use Rattle.rtr_commands.specs.declared.answering.Answered.{Answered}
use Rattle.rtr_ends.proofs.AnswerUnits.{CanBeSent, version_on, replies_fit}
use Rattle.rtr_ends.proofs.HistoryLaws.{fault_some, from_first, sent_in, unit_some}
use Rattle.prefixes.proofs.Basics.{not_both}

module _ (version : Version) where
  -- PDUs as they are sent are split into themselves
  read_sent : (units : List Unit) → AllByRecursion (IsUnitOf version) units → AreRead version false units (sent_all version units)
  unfolding as_read
  read_sent [] h = refl
  read_sent (u ∷ units) h = (sent version u, sent_all version units, refl, written_is_read version u h.0.0 h.0.1, read_sent units h.1)

  splits_sent : (units : List Unit) → AllByRecursion (IsUnitOf version) units → Splits version false (sent_all version units) units [] None
  splits_sent units h = record { front = sent_all version units; whole = sym (append-nil (sent_all version units)); read = read_sent units h; after = none_after units }
    where
      none_after : (units : List Unit) → IsPartial version (as_read version (any_after false units) [])
      none_after units = partial_empty version (any_after false units)

  -- the lines show these PDUs
  same_units : (bytes text : List ℕ) (units : List Unit) → HasLines version bytes text → bytes ≡ sent_all version units → AllByRecursion (IsUnitOf version) units
      → (text ≡ lines_of version units) × AllByRecursion (λ u. is_internal_error u ≡ false) units
  same_units bytes text units h e fit =
      let same = one_split version false bytes h.units units h.rest [] h.fault None h.splits (subst (λ x. Splits version false x units [] None) (sym e) (splits_sent units fit)) in
      (h.lines_are ∙ ap (lines_of version) same.units_are, subst (AllByRecursion (λ u. is_internal_error u ≡ false)) same.units_are h.sound)

  -- what can be sent, as PDUs of the version
  all_of : (units : List Unit) → AllByRecursion CanBeSent (in_version version units) → AllByRecursion (IsUnitOf version) units
  all_of [] h = tt
  all_of (u ∷ units) h = (h.0, all_of units h.1)

  in_version-append : (us vs : List Unit) → in_version version (us ++ vs) ≡ in_version version us ++ in_version version vs
  in_version-append [] vs = refl
  in_version-append (u ∷ us) vs = ap (λ x. record { version = version; unit = u } ∷ x) (in_version-append us vs)

-- the PDUs of the replies
abbrev replied : Option Version → List ConnMoment → List Unit
replied agreed [] = []
replied agreed (m ∷ later) = let now = reply 1 default_intervals agreed m in now.units ++ (if now.goes_on then replied (version_after agreed m) later else [])

front_sound : (us vs : List Unit) → AllByRecursion (λ u. is_internal_error u ≡ false) (us ++ vs) → AllByRecursion (λ u. is_internal_error u ≡ false) vs
front_sound [] vs h = h
front_sound (u ∷ us) vs h = front_sound us vs h.1

module _ (i : Instance) where
  -- All is replied in the version of the first header.
  abbrev IsReplied : Version → Option Version → List ConnMoment → Type 0
  IsReplied version agreed moments = in_version version (replied agreed moments) ≡ replies_from 1 default_intervals agreed moments

  with_later : (version : Version) (m : ConnMoment) (agreed : Option Version) (later : List ConnMoment) → sent_by m ≡ version → IsReplied version (version_after agreed m) later → IsReplied version agreed (m ∷ later)
  with_later version m agreed later spoken more =
      in_version-append version (reply 1 default_intervals agreed m).units (if (reply 1 default_intervals agreed m).goes_on then replied (version_after agreed m) later else [])
      ∙ (λ j. in_version (sym spoken j) (reply 1 default_intervals agreed m).units ++ by_goes (reply 1 default_intervals agreed m).goes_on j)
    where
      by_goes : (b : Bool) → in_version version (if b then replied (version_after agreed m) later else []) ≡ (if b then replies_from 1 default_intervals (version_after agreed m) later else [])
      by_goes true = more
      by_goes false = refl

  -- The version of the bytes, if there are any
  abbrev Tells : Version → Connection → List ℕ → Type 0
  Tells version c bytes = 0 < length bytes → version_in c.version bytes ≡ version

  told_front : (version one : Version) (c : Connection) (front rest bytes : List ℕ) → Tells version c bytes → bytes ≡ front ++ rest → 0 < length front → one ≡ version_in c.version front → one ≡ version
  told_front version one c front rest bytes tells e some is =
      from_first c.version one front rest bytes is some e ∙ tells (let len = ap length e in omega (arith, len, length-append front rest, some))

  all_replied : (version : Version) (c : Connection) (moments : List ConnMoment) (bytes : List ℕ) → Tells version c bytes → IsHistory 1 default_intervals c moments bytes → AllByRecursion (IsOwn i) moments → IsReplied version c.version moments
  all_replied version c [] bytes tells h own = refl
  all_replied version c (Pull count ∷ later) bytes tells h own =
      all_replied version (conn_after 1 default_intervals c (Pull count)) later h.1.0 (subst (λ b. Tells version c b) h.1.1 tells) h.1.2 own.1
  all_replied version c (Notify one cache held ∷ later) bytes tells h own = absurd own.0
  all_replied version c (Read one cache unit front ∷ later) bytes tells h own =
      let spoken : one ≡ version = told_front version one c front h.1.0 bytes tells h.1.1 (unit_some one unit front h.0.4.1) h.0.4.0 in
      with_later version (Read one cache unit front) c.version later spoken (all_replied version (conn_after 1 default_intervals c (Read one cache unit front)) later h.1.0 (λ some. spoken) h.1.2 own.1)
  all_replied version c (Wanting one cache unit front ∷ later) bytes tells h own =
      let spoken : one ≡ version = told_front version one c front h.1.0 bytes tells h.1.1 (unit_some one unit front h.0.4.1) h.0.4.0 in
      with_later version (Wanting one cache unit front) c.version later spoken (all_replied version (conn_after 1 default_intervals c (Wanting one cache unit front)) later h.1.0 (λ some. spoken) h.1.2 own.1)
  all_replied version c (Fault one fault front ∷ later) bytes tells h own =
      let spoken : one ≡ version = told_front version one c front h.1.0 bytes tells h.1.1 (fault_some one front fault h.0.4.1) h.0.4.0 in
      with_later version (Fault one fault front) c.version later spoken (all_replied version (conn_after 1 default_intervals c (Fault one fault front)) later h.1.0 (λ some. spoken) h.1.2 own.1)

  -- After an end no PDU is read.
  pulls_alone : (c : Connection) (moments : List ConnMoment) (bytes : List ℕ) → c.ended ≡ true → IsHistory 1 default_intervals c moments bytes → AllByRecursion (IsOwn i) moments → AllByRecursion (IsOf i) moments
  pulls_alone c [] bytes e h own = tt
  pulls_alone c (Pull count ∷ later) bytes e h own = (tt, pulls_alone (conn_after 1 default_intervals c (Pull count)) later h.1.0 e h.1.2 own.1)
  pulls_alone c (Read version cache unit bytes' ∷ later) bytes e h own = absurd (not_both c.ended e h.0.0)
  pulls_alone c (Wanting version cache unit bytes' ∷ later) bytes e h own = absurd (not_both c.ended e h.0.0)
  pulls_alone c (Fault version fault bytes' ∷ later) bytes e h own = absurd (not_both c.ended e h.0.0)
  pulls_alone c (Notify version cache held ∷ later) bytes e h own = absurd own.0

  abbrev SoundFrom : Connection → List ConnMoment → Type 0
  SoundFrom c moments = AllByRecursion (λ u. is_internal_error u ≡ false) (if c.ended then [] else replied c.version moments)

  -- behind a PDU that was answered
  by_goes : (c : Connection) (m : ConnMoment) (later : List ConnMoment) (rest : List ℕ) (goes_on : Bool) → (conn_after 1 default_intervals c m).ended ≡ not goes_on → IsHistory 1 default_intervals (conn_after 1 default_intervals c m) later rest → AllByRecursion (IsOwn i) later
      → AllByRecursion (λ u. is_internal_error u ≡ false) (if goes_on then replied (version_after c.version m) later else []) → (SoundFrom (conn_after 1 default_intervals c m) later → AllByRecursion (IsOf i) later) → AllByRecursion (IsOf i) later
  by_goes c m later rest true ended h own sound on =
      on (subst (λ a. AllByRecursion (λ u. is_internal_error u ≡ false) (if (conn_after 1 default_intervals c m).ended then [] else replied a later)) (sym (version_on 1 c m))
      (subst (λ b. AllByRecursion (λ u. is_internal_error u ≡ false) (if b then [] else replied (version_after c.version m) later)) (sym ended) sound))
  by_goes c m later rest false ended h own sound on = pulls_alone (conn_after 1 default_intervals c m) later rest ended h own

  -- No Internal Error is replied, so memory never ran out.
  none_wanting : (c : Connection) (moments : List ConnMoment) (bytes : List ℕ) → IsHistory 1 default_intervals c moments bytes → AllByRecursion (IsOwn i) moments → SoundFrom c moments → AllByRecursion (IsOf i) moments
  none_wanting c [] bytes h own sound = tt
  none_wanting c (Pull count ∷ later) bytes h own sound = (tt, none_wanting (conn_after 1 default_intervals c (Pull count)) later h.1.0 h.1.2 own.1 sound)
  none_wanting c (Notify version cache held ∷ later) bytes h own sound = absurd own.0
  none_wanting c (Wanting version cache unit bytes' ∷ later) bytes h own sound =
      absurd (let now = subst (λ b. AllByRecursion (λ u. is_internal_error u ≡ false) (if b then [] else replied c.version (Wanting version cache unit bytes' ∷ later))) h.0.0 sound in not_both true refl now.0)
  none_wanting c (Read version cache unit bytes' ∷ later) bytes h own sound =
      let now = subst (λ b. AllByRecursion (λ u. is_internal_error u ≡ false) (if b then [] else replied c.version (Read version cache unit bytes' ∷ later))) h.0.0 sound in (
        own.0,
        by_goes c (Read version cache unit bytes') later h.1.0 (reply 1 default_intervals c.version (Read version cache unit bytes')).goes_on refl h.1.2 own.1 (front_sound (reply 1 default_intervals c.version (Read version cache unit bytes')).units _ now)
            (none_wanting (conn_after 1 default_intervals c (Read version cache unit bytes')) later h.1.0 h.1.2 own.1),
      )
  none_wanting c (Fault version fault bytes' ∷ later) bytes h own sound =
      (tt, pulls_alone (conn_after 1 default_intervals c (Fault version fault bytes')) later h.1.0 refl h.1.2 own.1)

-- what is left
left_by : (bytes : List ℕ) (going ended : Bool) (left : Option ℕ) → going ≡ not ended → (going ≡ true → LeavesOff bytes left) → (going ≡ false → left ≡ None) → MatchBool ended (left ≡ None) (LeavesOff bytes left)
left_by bytes going true left e on off = off e
left_by bytes going false left e on off = on e

-- The lines of the replies, if all was received
pub answers_all : (i : Instance) (c : ℕ) (bytes given : List ℕ) (cache : Cache Steps) (answered : Answered) (going : Bool) → AreBytes bytes → HasExchanged i c bytes given cache → HasLines (first_version bytes) given (string_bytes answered.lines)
    → ((m : CacheState) → ShowsCache HoldsSteps m cache → going ≡ is_open_at (m.at c)) → (going ≡ true → LeavesOff bytes answered.left) → (going ≡ false → answered.left ≡ None) → AnswersBytes i bytes answered
answers_all i c bytes given cache answered going each x lines opens on off =
    let s = x.served.serves in
    let v : IsServed 1 default_intervals i (by_calls i s.calls) = serves_history 1 default_intervals i s.calls s.is s.each in
    let moments = (by_calls i s.calls).moments in
    let none : (by_calls i s.calls).conn.state.due ≡ [] = ap due_at (sym s.at) ∙ x.served.none in
    let history : IsHistory 1 default_intervals (opened i) (by_calls i s.calls).moments x.came = subst (λ b. IsHistory 1 default_intervals (opened i) (by_calls i s.calls).moments b) s.came_is v.history in
    let tells : Tells i (first_version bytes) (opened i) x.came = λ some. sym (version_in-append None x.came x.rest some) ∙ ap first_version (sym x.whole) in
    let in_one : IsReplied i (first_version bytes) None (by_calls i s.calls).moments = all_replied i (first_version bytes) (opened i) (by_calls i s.calls).moments x.came tells history s.own in
    let all : given ≡ sent_all (first_version bytes) (replied None (by_calls i s.calls).moments) =
    sym s.given_is ∙ sym (append-nil (by_calls i s.calls).given) ∙ ap (λ d. (by_calls i s.calls).given ++ d) (sym none) ∙ v.replies ∙ ap bytes_sent (sym in_one) ∙ sent_in (first_version bytes) (replied None (by_calls i s.calls).moments) in
    let fit : AllByRecursion (IsUnitOf (first_version bytes)) (replied None (by_calls i s.calls).moments) =
    all_of (first_version bytes) (replied None (by_calls i s.calls).moments) (subst (AllByRecursion CanBeSent) (sym in_one) (replies_fit 1 (opened i) (by_calls i s.calls).moments x.came history (bytes_front bytes x.came x.rest x.whole each))) in
    let told = same_units (first_version bytes) given (string_bytes answered.lines) (replied None (by_calls i s.calls).moments) lines all fit in
    let is_open : is_open_at (s.state.at c) ≡ not (by_calls i s.calls).conn.state.ended = ap is_open_at s.at in
    record {
      units = replied None (by_calls i s.calls).moments;
      ended = (by_calls i s.calls).conn.state.ended;
      replies = record {
        moments = (by_calls i s.calls).moments;
        came = x.came;
        rest = x.rest;
        whole = x.whole;
        history = history;
        own = none_wanting i (opened i) (by_calls i s.calls).moments x.came history s.own told.1;
        pulled = ap (λ (k : Connection). k.due) (sym v.state) ∙ none;
        ended_is = ap (λ (k : Connection). k.ended) (sym v.state);
        all = λ e. x.all (is_open ∙ ap not e);
        units_are = in_one;
      };
      lines = told.0;
      left = left_by bytes going (by_calls i s.calls).conn.state.ended answered.left (opens s.state s.shows ∙ is_open) on off;
    }

never : (b : Bool) → b ≡ true → b ≡ false → (P : Type 0) → P
never b h k P = absurd (not_both b h k)

pub answers_open : (i : Instance) (c : ℕ) (bytes given shown : List ℕ) (cache : Cache Steps) (lines : String Global) (left found : Option ℕ) (going : Bool) → AreBytes bytes → HasExchanged i c bytes given cache → shown ≡ given → HasLines (first_version bytes) shown (string_bytes lines)
    → ((m : CacheState) → ShowsCache HoldsSteps m cache → going ≡ is_open_at (m.at c)) → going ≡ true → LeavesOff bytes found → left ≡ found → AnswersBytes i bytes (record { lines = lines; left = left })
answers_open i c bytes given shown cache lines left found going each x same told opens is leaves e =
    answers_all i c bytes given cache (record { lines = lines; left = left }) going each x (subst (λ b. HasLines (first_version bytes) b (string_bytes lines)) same told) opens (λ _. subst (LeavesOff bytes) (sym e) leaves) (λ h. never going is h (left ≡ None))

pub answers_ended : (i : Instance) (c : ℕ) (bytes given shown : List ℕ) (cache : Cache Steps) (lines : String Global) (left : Option ℕ) (going : Bool) → AreBytes bytes → HasExchanged i c bytes given cache → shown ≡ given → HasLines (first_version bytes) shown (string_bytes lines)
    → ((m : CacheState) → ShowsCache HoldsSteps m cache → going ≡ is_open_at (m.at c)) → going ≡ false → left ≡ None → AnswersBytes i bytes (record { lines = lines; left = left })
answers_ended i c bytes given shown cache lines left going each x same told opens is e =
    answers_all i c bytes given cache (record { lines = lines; left = left }) going each x (subst (λ b. HasLines (first_version bytes) b (string_bytes lines)) same told) opens (λ h. never going h is (LeavesOff bytes left)) (λ _. e)
