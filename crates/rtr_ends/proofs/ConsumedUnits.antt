-- The transcript of a router has the split of what it consumed, after each PDU and fault.
use Rattle.rtr_ends.proofs.Words.{◌≡◌, ℕ, ◌<◌, Bool, true, false, not, ◌&&◌, List, [], ◌∷◌, ◌++◌, Option, None, refl, sym, ap, ◌∙◌, subst, subst₂, append_assoc, and-false, and-true, append-nil, VrpSet, Judgement, Begins, Whole, Faulty, judge, unit_in, AreBytes, AreRead, IsPartial, Shows, Splits, any_after, as_read, is_notify, Version, Unit, SerialNotify, UnitFault, judge_case, whole_exactly, next_size, partial_empty, AreRead-push, any_after-push}
use Rattle.rtr_pdu.specs.Unit as units
use Rattle.rtr_pdu.proofs.JudgingLaws as judging
use Rattle.rtr_ends.specs.Consumed.{units_read_in, fault_in}
use Rattle.rtr_ends.specs.LinkRules.{Router, on_unit}
use Rattle.rtr_ends.specs.Router.{Noted, asked_by, reads, with_bytes}
use Rattle.rtr_ends.specs.RouterLaws.{LinkTells}
use Rattle.rtr_ends.specs.RouterLink.{Link, Closed, Asked, Ended, is_closed, is_reading}
use Rattle.rtr_ends.specs.Transcript.{Item, Reads, has_agreed, spoken}
use Rattle.rtr_ends.proofs.ByteLists.{none_bytes, more_bytes}
use Rattle.rtr_ends.proofs.Effects.{by_whole, unit_keeps, reading_open_so}
use Rattle.rtr_ends.proofs.KeptUnits.{Tells, bytes_add}
use Rattle.rtr_ends.proofs.TableLaws.{false_true}

-- What a transcript says of what came on the latest connection
pub record View : Type 0 where
  pub version : Version
  pub units : List Unit
  pub agreed : Bool
  pub fault : Option UnitFault

abbrev pub view : List Item → View
view items = record { version = spoken items; units = units_read_in items; agreed = has_agreed items; fault = fault_in items }

-- What a router that reads has consumed, if it holds these bytes
pub record Live (held : List ℕ) (v : View) (bytes : List ℕ) : Type 0 where
  pub front : List ℕ
  pub whole : bytes ≡ front ++ held
  pub read : AreRead v.version true v.units front
  pub any_is : any_after true v.units ≡ not v.agreed
  pub sound : v.fault ≡ None
  pub partial : IsPartial v.version (as_read v.version (not v.agreed) held)
  pub each : AreBytes held

abbrev pub Split : View → List ℕ → Type 0
Split v bytes = (rest : List ℕ) × Splits v.version true bytes v.units rest v.fault

pub record Comes (r : Router) (items : List Item) (bytes : List ℕ) : Type 0 where
  pub tells : Tells r items
  pub live : is_reading r.link ≡ true → Live r.held (view items) bytes
  pub split : Split (view items) bytes
  pub none_held : is_closed r.link ≡ true → r.held ≡ []
  pub none_out : is_closed r.link ≡ true → r.out ≡ []

pub live_splits : (held : List ℕ) (v : View) (bytes : List ℕ) → Live held v bytes → Splits v.version true bytes v.units held v.fault
live_splits held v bytes l = rw l.sound (record { front = l.front; whole = l.whole; read = l.read; after = rw l.any_is l.partial })

-- tests of links
pub reading_open : (l : Link) → is_reading l ≡ true → is_closed l ≡ true → ⊥
reading_open Closed h c = let e : false ≡ true = h in cc
reading_open (Ended end) h c = let e : false ≡ true = h in cc
reading_open _ h c = let e : false ≡ true = c in cc

-- What a link that reads says of agreement
agreed_of : (l : Link) (agreed : Bool) (session : Option ℕ) (table : VrpSet) (items : List Item) → is_reading l ≡ true → LinkTells l agreed session table items → has_agreed items ≡ agreed
agreed_of Closed agreed session table items live t = false_true live
agreed_of (Ended end) agreed session table items live t = false_true live
agreed_of _ agreed session table items live t = t.3

-- A question that is noted behind a PDU says nothing of what came.
pub asked_view : (l : Link) (out : List ℕ) (u : Unit) (items : List Item) → view ((asked_by l out ++ Reads u ∷ []) ++ items) ≡ view (Reads u ∷ items)
asked_view (Asked q) (b ∷ out) u items = refl
asked_view _ _ u items = refl

-- A PDU agrees if it is no notify.
agreed_more : (u : Unit) (items : List Item) → (not (has_agreed items) && is_notify u) ≡ not (has_agreed (Reads u ∷ items))
agreed_more (SerialNotify session serial) items = and-true (not (has_agreed items))
agreed_more _ items = and-false (not (has_agreed items))

-- No PDU changes what is held, and the version of the next connection.
abbrev pub SameHand : Router → Router → Type 0
SameHand r n = (n.held ≡ r.held) × (n.speaks ≡ r.speaks)

pub unit_held : (l : Link) (u : Unit) (r : Router) → SameHand r (on_unit l u r)
unit_held l u r = let k = unit_keeps l u r in (k.held, k.speaks)

-- a list and one byte more
more_whole : (bytes front held : List ℕ) (b : ℕ) → bytes ≡ front ++ held → bytes ++ b ∷ [] ≡ front ++ (held ++ b ∷ [])
more_whole bytes front held b e = ap (λ x. x ++ b ∷ []) e ∙ append_assoc front held (b ∷ [])

-- These bytes were read as a PDU, or memory for it ran out.
record UnitRead (u : Unit) (items : List Item) (bytes : List ℕ) : Type 0 where
  pub read : AreRead (spoken items) true (units_read_in items ++ u ∷ []) bytes
  pub sound : fault_in items ≡ None

-- Nothing follows it yet.
unit_split : (u : Unit) (items : List Item) (bytes : List ℕ) → UnitRead u items bytes → Split (view (Reads u ∷ items)) bytes
unit_split u items bytes h =
    ([], rw h.sound (record { front = bytes; whole = sym (append-nil bytes); read = h.read; after = partial_empty (spoken items) (any_after true (units_read_in items ++ u ∷ [])) }))

-- the router after a PDU
read_live : (u : Unit) (items : List Item) (bytes : List ℕ) → UnitRead u items bytes → any_after true (units_read_in items) ≡ not (has_agreed items) → Live [] (view (Reads u ∷ items)) bytes
read_live u items bytes h any = record {
  front = bytes;
  whole = sym (append-nil bytes);
  read = h.read;
  any_is = any_after-push true (units_read_in items) u ∙ ap (λ b. b && is_notify u) any ∙ agreed_more u items;
  sound = h.sound;
  partial = partial_empty (spoken items) (not (has_agreed (Reads u ∷ items)));
  each = none_bytes;
}

reads_come : (r : Router) (u : Unit) (items : List Item) (bytes : List ℕ) → r.held ≡ [] → is_reading r.link ≡ true → Tells r items → UnitRead u items bytes → any_after true (units_read_in items) ≡ not (has_agreed items)
    → Tells (reads u r).router ((reads u r).items ++ items) → Comes (reads u r).router ((reads u r).items ++ items) bytes
reads_come r u items bytes none live before h any tells = record {
  tells = tells;
  live = λ goes_on. subst₂ (λ held v. Live held v bytes) (sym n_held) (sym (asked_view n.link n.out u items)) (read_live u items bytes h any);
  split = subst (λ v. Split v bytes) (sym (asked_view n.link n.out u items)) (unit_split u items bytes h);
  none_held = λ c. n_held;
  none_out = λ c. false_true (sym ((unit_keeps r.link u r).connected (reading_open_so r.link live)) ∙ c);
}
  where
    n : Router
    n = on_unit r.link u r

    n_held : n.held ≡ []
    n_held = (unit_keeps r.link u r).held ∙ none

-- the next byte, as it is judged
pub bytes_come : (memory : Bool) (b : ℕ) (r : Router) (items : List Item) (bytes : List ℕ) → b < 256 → is_reading r.link ≡ true → r.out ≡ [] → Tells r items → Live r.held (view items) bytes
    → let n : Noted = with_bytes memory (r.held ++ b ∷ []) r (judge r.spoken (not r.agreed) (r.held ++ b ∷ [])) in Comes n.router (n.items ++ items) (bytes ++ b ∷ [])
bytes_come memory b r items bytes byte live none t l =
    subst (λ v. let n : Noted = with_bytes memory (r.held ++ b ∷ []) r (judge v (not r.agreed) (r.held ++ b ∷ [])) in Comes n.router (n.items ++ items) (bytes ++ b ∷ [])) t.spoken_is
    (by_case (judge_case (spoken items) (not r.agreed) seen))
  where
    seen : List ℕ
    seen = r.held ++ b ∷ []

    any_so : not (has_agreed items) ≡ not r.agreed
    any_so = ap not (agreed_of r.link r.agreed r.session r.table items live t.link)

    each : AreBytes seen
    each = more_bytes r.held b l.each byte

    part : IsPartial (spoken items) (as_read (spoken items) (not r.agreed) r.held)
    part = subst (λ x. IsPartial (spoken items) (as_read (spoken items) x r.held)) any_so l.partial

    NowComes : Judgement → Type 0
    NowComes j = let n : Noted = with_bytes memory seen r j in Comes n.router (n.items ++ items) (bytes ++ b ∷ [])

    added : (j : Judgement) → let n : Noted = with_bytes memory seen r j in Tells n.router (n.items ++ items)
    added j = (bytes_add memory seen r j items live none t).tells

    begins : IsPartial (spoken items) (as_read (spoken items) (not r.agreed) seen) → NowComes Begins
    begins partial =
        let goes : Live seen (view items) (bytes ++ b ∷ []) = record {
          front = l.front;
          whole = more_whole bytes l.front r.held b l.whole;
          read = l.read;
          any_is = l.any_is;
          sound = l.sound;
          partial = subst (λ x. IsPartial (spoken items) (as_read (spoken items) x seen)) (sym any_so) partial;
          each = each;
        } in
        record {
          tells = added Begins;
          live = λ h. goes;
          split = (seen, live_splits seen (view items) (bytes ++ b ∷ []) goes);
          none_held = λ c. absurd (reading_open r.link live c);
          none_out = λ c. absurd (reading_open r.link live c);
        }

    shows : (fault : UnitFault) → Shows (spoken items) (as_read (spoken items) (not r.agreed) seen) fault → NowComes (Faulty fault)
    shows fault h = record {
      tells = added (Faulty fault);
      live = λ live. false_true live;
      split = (
        seen,
        record {
          front = l.front;
          whole = more_whole bytes l.front r.held b l.whole;
          read = l.read;
          after = subst (λ x. Shows (spoken items) (as_read (spoken items) x seen) fault) (sym (l.any_is ∙ any_so)) h;
        },
      );
      none_held = λ c. false_true c;
      none_out = λ c. false_true c;
    }

    unit_read : (u : Unit) → units.Reads (spoken items) u (as_read (spoken items) (not r.agreed) seen) → UnitRead u items (bytes ++ b ∷ [])
    unit_read u h = record {
      read = subst (λ x. AreRead (spoken items) true (units_read_in items ++ u ∷ []) x) (sym (more_whole bytes l.front r.held b l.whole))
          (AreRead-push (spoken items) true (units_read_in items) l.front seen u l.read (subst (λ x. units.Reads (spoken items) u (as_read (spoken items) x seen)) (sym (l.any_is ∙ any_so)) h));
      sound = l.sound;
    }

    reads_it : (u : Unit) → units.Reads (spoken items) u (as_read (spoken items) (not r.agreed) seen) → NowComes (Whole u)
    reads_it u h = by_whole (λ n. Tells n.router (n.items ++ items) → Comes n.router (n.items ++ items) (bytes ++ b ∷ [])) memory seen r u
        (λ tells. record {
          tells = tells;
          live = λ live. false_true live;
          split = unit_split u items (bytes ++ b ∷ []) (unit_read u h);
          none_held = λ c. false_true c;
          none_out = λ c. false_true c;
        })
        (λ tells. reads_come (record r { held = [] }) u items (bytes ++ b ∷ []) refl live
        (record { kept_is = t.kept_is; due_is = t.due_is; now_is = t.now_is; spoken_is = t.spoken_is; config_is = t.config_is; link = t.link }) (unit_read u h) l.any_is tells)
        (added (Whole u))

    by_case : judging.Case (spoken items) (as_read (spoken items) (not r.agreed) seen) (judge (spoken items) (not r.agreed) seen) → NowComes (judge (spoken items) (not r.agreed) seen)
    by_case (judging.begins e partial) = rw e (begins partial)
    by_case (judging.shows fault e h) = rw e (shows fault h)
    by_case (judging.whole e w sound) =
        rw e
        (reads_it (unit_in (spoken items) (as_read (spoken items) (not r.agreed) seen))
        ((whole_exactly (spoken items) (not r.agreed) seen (unit_in (spoken items) (as_read (spoken items) (not r.agreed) seen)) each (next_size (spoken items) (not r.agreed) r.held b part w)).0 e))
