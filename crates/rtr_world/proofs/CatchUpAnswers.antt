-- A cache that is handed a whole question reads it, and its reply is due.
use Rattle.rtr_world.proofs.Words.{◌≡◌, ◌⊎◌, ℕ, ◌<◌, Bool, true, false, not, ◌&&◌, ◌||◌, ◌==◌, List, [], ◌∷◌, ◌++◌, length, take, Option, Some, None, if◌then◌else◌, refl, sym, ap, ◌∙◌, append_assoc, subst, arith, inl, inr, and_parts, length-append, Instance, NumberedSet, versions_from, with_serial, serial_at, VrpSet, Version, judge, IsUnitOf, Unit, SerialQuery, ErrorReport, judge_part, judge_sent, some_sent, Reply, answer, report, sent, sent_all, serial_answer, session_in, step_answer, whole_answer, Conn, Taking, conn_byte, conn_stops, conn_takes, finds_memory, is_none, conn_judged, version_at, with_moment, Read, Wanting, takes_memory, AskReset, AskSerial, Question, query, feed_keeps, feed_takes, either}
use Rattle.rtr_world.specs.World.{timing}
use Rattle.rtr_world.proofs.UnitStreams.{MaySpeak, part_version}

abbrev pub code_of : Unit → ℕ
code_of (ErrorReport e) = e.code
code_of u = 0

pub other_report : (one other : ℕ) (copy copied : List ℕ) → (one ≡ other → ⊥) → report one copy ∷ [] ≡ report other copied ∷ [] → ⊥
other_report one other copy copied differs e = let same : report one copy ≡ report other copied = cc in differs (ap code_of same)

-- The connection continues after an answer, except after Error Report 0.
pub goes_or_other : (pv : Version) (i : Instance) (keep : ℕ) (q : Question) → ((answer pv i keep timing (query q)).goes_on ≡ true) ⊎ ((copy : List ℕ) × ((answer pv i keep timing (query q)).units ≡ report 0 copy ∷ []))
goes_or_other pv i keep AskReset = inl refl
goes_or_other pv i keep (AskSerial session serial) =
    either (λ (x : Reply). (x.goes_on ≡ true) ⊎ ((copy : List ℕ) × (x.units ≡ report 0 copy ∷ []))) (session == session_in pv i) _ _ (λ same. inl refl) (λ other. inr (sent pv (SerialQuery session serial), refl))

abbrev code_at : List Unit → ℕ
code_at [] = 0
code_at (u ∷ units) = code_of u

-- Error Report 1 is no answer.
pub no_wanting : (pv : Version) (i : Instance) (keep : ℕ) (q : Question) → (answer pv i keep timing (query q)).units ≡ report 1 [] ∷ [] → ⊥
no_wanting pv i keep q e = let k : true ≡ false = ap (λ x. code_at x == 1) (sym e) ∙ never q in cc
  where
    whole_never : (sets : List VrpSet) → (code_at (whole_answer pv (session_in pv i) timing (versions_from i.start sets)) == 1) ≡ false
    whole_never [] = refl
    whole_never (x ∷ older) = refl

    step_never : (now : NumberedSet) (o : Option NumberedSet) → (code_at (step_answer pv (session_in pv i) timing now o) == 1) ≡ false
    step_never now None = refl
    step_never now (Some before) = refl

    serial_never : (serial : ℕ) (sets : List VrpSet) → (code_at (serial_answer pv (session_in pv i) keep timing serial (versions_from i.start sets)) == 1) ≡ false
    serial_never serial [] = refl
    serial_never serial (x ∷ older) =
        let now : NumberedSet = record { serial = serial_at i.start (length older); set = x } in step_never now (with_serial serial (now ∷ take keep (versions_from i.start older)))

    never : (q : Question) → (code_at (answer pv i keep timing (query q)).units == 1) ≡ false
    never AskReset = whole_never i.sets
    never (AskSerial session serial) =
        either (λ (x : Reply). (code_at x.units == 1) ≡ false) (session == session_in pv i) _ _ (λ same. serial_never serial i.sets) (λ other. refl)

module _ (keep : ℕ) (i : Instance) (pv : Version) (u : Unit) (fits : IsUnitOf pv u) (wanting : Option ℕ) where
  -- what is due once the PDU is read, and whether the connection has ended then: its answer, or Error Report 1 in its place
  abbrev pub IsDue : Bool → List Unit → Type 0
  IsDue ended units = ((units ≡ (answer pv i keep timing u).units) × (ended ≡ not (answer pv i keep timing u).goes_on)) ⊎ ((units ≡ report 1 [] ∷ []) × (wanting ≡ None → ⊥))

  pub record IsRead (o : Conn) : Type 0 where
    pub units : List Unit
    pub due : o.state.due ≡ sent_all pv units
    pub reply : IsDue o.state.ended units
    pub held : o.held ≡ []
    pub spoken : MaySpeak pv o.state.version

  -- some of it is to come
  record Comes (rest : List ℕ) (m : Taking) : Type 0 where
    next : ℕ
    more : List ℕ
    rest_is : rest ≡ next ∷ more
    whole : m.conn.held ++ rest ≡ sent pv u
    due : m.conn.state.due ≡ []
    on : m.conn.state.ended ≡ false
    same : m.wanting ≡ wanting
    spoken : MaySpeak pv m.conn.state.version

  abbrev Reads : List ℕ → Taking → Type 0
  Reads rest m = Comes rest m ⊎ ((rest ≡ []) × IsRead m.conn)

  byte_whole : (m : Taking) (bytes : List ℕ) → m.wanting ≡ wanting → IsRead (with_moment keep timing bytes m.conn (Some (if takes_memory pv i u && not (finds_memory m.wanting) then Wanting pv i u bytes else Read pv i u bytes)))
  byte_whole m bytes same =
      either (λ x. IsRead (with_moment keep timing bytes m.conn (Some x))) (takes_memory pv i u && not (finds_memory m.wanting)) (Wanting pv i u bytes) (Read pv i u bytes)
      (λ e. record { units = report 1 [] ∷ []; due = refl; reply = inr (refl, lacks e); held = refl; spoken = refl }) (λ e. record { units = (answer pv i keep timing u).units; due = refl; reply = inl (refl, refl); held = refl; spoken = refl })
    where
      lacks : (takes_memory pv i u && not (finds_memory m.wanting)) ≡ true → wanting ≡ None → ⊥
      lacks e none =
          let parts = and_parts (takes_memory pv i u) (not (finds_memory m.wanting)) e in
          let finds : false ≡ true = ap (λ x. not (finds_memory x)) (sym (same ∙ none)) ∙ parts.1 in cc

  byte_comes : (rest : List ℕ) (m : Taking) (b : ℕ) → m.conn.held ++ b ∷ rest ≡ sent pv u → m.conn.state.due ≡ [] → m.conn.state.ended ≡ false → m.wanting ≡ wanting → MaySpeak pv m.conn.state.version → Reads rest (conn_byte keep timing i m b)
  unfolding conn_byte
  byte_comes rest m b whole due on same spoken =
      let version : version_at m.conn (b ∷ []) ≡ pv =
      part_version pv m.conn.state.version u (m.conn.held ++ b ∷ []) rest spoken (append_assoc m.conn.held (b ∷ []) rest ∙ whole) (omega (arith, length-append m.conn.held (b ∷ []))) in
      subst (λ v. Reads rest (conn_judged keep timing i m v (m.conn.held ++ b ∷ []) (judge v false (m.conn.held ++ b ∷ [])))) (sym version) (by_rest rest whole)
    where
      by_rest : (rest : List ℕ) → m.conn.held ++ b ∷ rest ≡ sent pv u → Reads rest (conn_judged keep timing i m pv (m.conn.held ++ b ∷ []) (judge pv false (m.conn.held ++ b ∷ [])))
      by_rest [] whole =
          let is = ap (judge pv false) whole ∙ judge_sent pv false u fits.0 fits.1 in
          subst (λ j. Reads [] (conn_judged keep timing i m pv (m.conn.held ++ b ∷ []) j)) (sym is) (inr (refl, byte_whole m (m.conn.held ++ b ∷ []) same))
      by_rest (c ∷ rest) whole =
          let begun : (m.conn.held ++ b ∷ []) ++ c ∷ rest ≡ sent pv u = append_assoc m.conn.held (b ∷ []) (c ∷ rest) ∙ whole in
          let is = judge_part pv false u (m.conn.held ++ b ∷ []) rest c fits.0 fits.1 begun in
          subst (λ j. Reads (c ∷ rest) (conn_judged keep timing i m pv (m.conn.held ++ b ∷ []) j)) (sym is)
          (inl (record { next = c; more = rest; rest_is = refl; whole = begun; due = due; on = on; same = same; spoken = spoken }))

  reads_byte : (b : ℕ) (rest : List ℕ) (m : Taking) → conn_stops m.conn ≡ false → Reads (b ∷ rest) m → Reads rest (conn_byte keep timing i m b)
  reads_byte b rest m goes (inl c) = byte_comes rest m b c.whole c.due c.on c.same c.spoken
  reads_byte b rest m goes (inr r) = absurd (let e : b ∷ rest ≡ [] = r.0 in cc)

  -- what a connection that stops has read
  stopped : (rest : List ℕ) (m : Taking) → (0 < length rest → conn_stops m.conn ≡ true) → Reads rest m → (rest ≡ []) × IsRead m.conn
  stopped rest m stops (inr r) = r
  stopped rest m stops (inl c) =
      let on : conn_stops m.conn ≡ false = (λ j. c.on j || not (is_none (c.due j))) in
      let some = ap length c.rest_is in
      absurd (let e : true ≡ false = sym (stops (omega (arith, some))) ∙ on in cc)

  start : (bytes : List ℕ) (o : Conn) → bytes ≡ sent pv u → o.held ≡ [] → MaySpeak pv o.state.version → o.state.due ≡ [] → o.state.ended ≡ false → Reads bytes (record { conn = o; moments = []; wanting = wanting })
  start [] o e held spoken due on = absurd (some_sent pv u (sym e))
  start (b ∷ bytes) o e held spoken due on = inl (record { next = b; more = bytes; rest_is = refl; whole = ap (λ x. x ++ b ∷ bytes) held ∙ e; due = due; on = on; same = refl; spoken = spoken })

  pub is_read : (bytes : List ℕ) (o : Conn) → bytes ≡ sent pv u → o.held ≡ [] → MaySpeak pv o.state.version → o.state.due ≡ [] → o.state.ended ≡ false
      → ((conn_takes keep timing i wanting bytes o).rest ≡ []) × IsRead (conn_takes keep timing i wanting bytes o).machine.conn
  unfolding conn_takes
  is_read bytes o e held spoken due on =
      let taken = feed_takes (λ (x : Taking). conn_stops x.conn) (conn_byte keep timing i) (record { conn = o; moments = []; wanting = wanting }) bytes in
      stopped _ _ taken.1.all_or (feed_keeps (λ (x : Taking). conn_stops x.conn) (conn_byte keep timing i) Reads reads_byte (record { conn = o; moments = []; wanting = wanting }) bytes (start bytes o e held spoken due on))
