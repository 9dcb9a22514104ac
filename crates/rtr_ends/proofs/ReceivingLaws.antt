-- What a connection consumes of a piece, PDU by PDU.
use Rattle.rtr_ends.proofs.Words.{◌≡◌, ℕ, true, false, List, [], ◌++◌, Option, refl, sym, ap, ◌∙◌, append-nil, Instance, Judgement, as_read, IsPartial}
use Rattle.rtr_ends.specs.Cache.{Conn, Taking, conn_byte, conn_stops, conn_takes, conn_judged, version_at}
use Rattle.rtr_ends.specs.Timing.{Intervals}
use Rattle.rtr_ends.proofs.UnitByUnit.{ByteMachine, IsJudged, but_last, fed, more_taken, none_taken, shown_taken}

module _ (keep : ℕ) (t : Intervals) (i : Instance) where
  conn_machine : ByteMachine Taking
  unfolding conn_byte
  conn_machine = record {
    stops = λ m. conn_stops m.conn;
    step = conn_byte keep t i;
    held = λ m. m.conn.held;
    any = λ m. false;
    start = λ m. m.conn.state.version;
    holding = λ m bytes. record m { conn = record m.conn { held = bytes } };
    judged = conn_judged keep t i;
    own = λ m. refl;
    same_stop = λ m bytes. refl;
    begun = λ m version bytes more. refl;
    byte = λ m bytes b. refl;
  }

  abbrev pub start : Conn → Option ℕ → Taking
  start o wanting = record { conn = o; moments = []; wanting = wanting }

  -- All of the beginning of a PDU is held,
  pub takes_more : (o : Conn) (wanting : Option ℕ) (piece : List ℕ) → conn_stops o ≡ false → IsPartial (version_at o piece) (as_read (version_at o piece) false (o.held ++ piece))
      → conn_takes keep t i wanting piece o ≡ record { machine = start (record o { held = o.held ++ piece }) wanting; rest = [] }
  unfolding conn_takes conn_machine
  takes_more o wanting piece runs part =
      ap (fed conn_machine (start o wanting)) (sym (append-nil piece)) ∙ more_taken conn_machine (start o wanting) runs (version_at o piece) piece [] refl part

  -- or a PDU or bytes that show a fault are consumed, and the connection stops behind them,
  pub takes_shown : (o : Conn) (wanting : Option ℕ) (next : Taking) (taken rest : List ℕ) (j : Judgement) → conn_stops o ≡ false → IsPartial (version_at o taken) (as_read (version_at o taken) false o.held) → IsJudged (version_at o taken) false (o.held ++ taken) j
      → ((held : List ℕ) → conn_judged keep t i (start (record o { held = held }) wanting) (version_at o taken) (o.held ++ taken) j ≡ next) → conn_stops next.conn ≡ true → conn_takes keep t i wanting (taken ++ rest) o ≡ record { machine = next; rest = rest }
  unfolding conn_takes conn_machine
  takes_shown o wanting next taken rest j runs part judged after stop =
      shown_taken conn_machine (start o wanting) runs (version_at o taken) taken rest j refl part judged
      ∙ ap (λ m. fed conn_machine m rest) (after (o.held ++ but_last taken)) ∙ none_taken conn_machine next rest stop

  -- or nothing is.
  pub takes_none : (o : Conn) (wanting : Option ℕ) (piece : List ℕ) → conn_stops o ≡ true → conn_takes keep t i wanting piece o ≡ record { machine = start o wanting; rest = piece }
  unfolding conn_takes conn_machine
  takes_none o wanting piece stop = none_taken conn_machine (start o wanting) piece stop
