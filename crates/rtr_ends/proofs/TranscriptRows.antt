-- What a transcript says behind each item that ends something, whatever was before.
use Rattle.rtr_ends.proofs.Words.{◌≡◌, ℕ, false, List, ◌∷◌, Some, None, refl, Report, Version, V1, Unit, CacheReset, EndOfData, ErrorReport, UnitFault}
use Rattle.rtr_ends.specs.Transcript.{Question, AskReset, Item, Asks, Breaks, Lacks, Opened, Reads, Refused, Restarts, Shut, has_agreed, is_connected, marked, moment, next_question, outstanding, responded, spoken, waiting}

module _ (items : List Item) where
  -- No question is outstanding behind this item.
  abbrev Ends : Item → Type 0
  Ends item = outstanding (item ∷ items) ≡ None

  -- a close, a restart, a refused event, a fault, or out of memory
  ended : (fault : UnitFault) (unit : Unit) → Ends Shut × Ends Restarts × Ends Refused × Ends (Breaks fault) × Ends (Lacks unit)
  ended fault unit = (refl, refl, refl, refl, refl)

  -- an End of Data, a Cache Reset, or an Error Report
  answered : (session serial refresh retry expire : ℕ) (report : Report) → Ends (Reads (EndOfData session serial refresh retry expire)) × Ends (Reads CacheReset) × Ends (Reads (ErrorReport report))
  answered session serial refresh retry expire report = (refl, refl, refl)

  -- A new connection has neither agreement nor a session of its own, and its question is the next one.
  opened : (version : Version) (question : Question) → (has_agreed (Opened version ∷ items) ≡ false) × (responded (Opened version ∷ items) ≡ None) × (waiting (Asks question ∷ Opened version ∷ items) ≡ Some question)
      × (spoken (Opened version ∷ items) ≡ version)
  opened version question = (refl, refl, refl, refl)

  -- After a restart there is no mark, no agreement, no session, no connection of any version, and the clock is at its beginning.
  restarted : (marked (Restarts ∷ items) ≡ false) × (has_agreed (Restarts ∷ items) ≡ false) × (responded (Restarts ∷ items) ≡ None) × (is_connected (Restarts ∷ items) ≡ false) × (spoken (Restarts ∷ items) ≡ V1)
      × (moment (Restarts ∷ items) ≡ 0)
  restarted = (refl, refl, refl, refl, refl, refl)

  -- Behind a Cache Reset all is asked for.
  reset_asks : next_question (Reads CacheReset ∷ items) ≡ AskReset
  reset_asks = refl
