-- The transcript of a router has the split of what it consumed.
use Rattle.rtr_ends.proofs.Words.{◌≡◌, ℕ, ◌<◌, Bool, true, false, List, [], ◌∷◌, ◌++◌, drop, Option, refl, sym, ◌∙◌, subst, rules, append-nil, AllByRecursion, V1, AreBytes, partial_empty}
use Rattle.rtr_ends.specs.Cache.{finds_memory}
use Rattle.rtr_ends.specs.Consumed.{consumed, came, IsRouterCall, IsSplit, RouterSplits}
use Rattle.rtr_ends.specs.LinkRules.{Router, ask}
use Rattle.rtr_ends.specs.Router.{Receiving, called, RouterCall, Connects, Receives, Pulls, Speaks, Configures, clocked, close, connects_at, played, receives, router_byte, router_pulled, router_stops}
use Rattle.rtr_ends.specs.RouterLink.{is_closed, is_reading}
use Rattle.rtr_ends.specs.Transcript.{choose, Item, At, Opened, Asks, Configured, later, of_version}
use Rattle.rtr_ends.proofs.ByteLists.{none_bytes, drop_none}
use Rattle.rtr_ends.proofs.Effects.{by_byte, by_close, clocked_keeps, goes_so}
use Rattle.rtr_ends.proofs.FeedingLaws.{fed_keeps}
use Rattle.rtr_ends.proofs.KeptUnits.{Tells}
use Rattle.rtr_ends.proofs.KeptLaws.{called_tells, clocked_tells, new_tells, steps_tell}
use Rattle.rtr_ends.proofs.CallSteps.{StepsKeep, by_call, idle_reads}
use Rattle.rtr_ends.proofs.TableLaws.{false_true}
use Rattle.rtr_ends.proofs.ConsumedUnits.{Live, Comes, live_splits, view, reading_open, bytes_come}

-- a piece, byte by byte
abbrev MComes : Receiving → List Item → List ℕ → Type 0
MComes m items bytes = Comes m.router (m.items ++ items) bytes

byte_comes : (m : Receiving) (b : ℕ) (items : List Item) (bytes : List ℕ) → b < 256 → router_stops m.router ≡ false → MComes m items bytes → MComes (router_byte m b) items (bytes ++ b ∷ [])
byte_comes m b items bytes byte goes_on c =
    let live = goes_so m.router goes_on in
    by_byte (λ r later. Comes r later (bytes ++ b ∷ [])) items m b (bytes_come (finds_memory m.wanting) b m.router (m.items ++ items) bytes byte live.0 live.1 c.tells (c.live live.0))

-- A step that leaves what is held, and opens nothing
record Told (r n : Router) : Type 0 where
  pub held : n.held ≡ r.held
  pub reads : is_reading n.link ≡ true → is_reading r.link ≡ true
  pub closed : is_closed n.link ≡ true → is_closed r.link ≡ true
  pub out : is_closed n.link ≡ true → r.out ≡ [] → n.out ≡ []

clocked_told : (now : ℕ) (r : Router) → Told r (clocked now r)
clocked_told now r = let k = clocked_keeps now r in record { held = k.held; reads = k.reads_on; closed = λ h. sym k.closed_on ∙ h; out = λ h. k.out }

-- If nothing of that is noted, the split stays.
still_comes : (r n : Router) (items later : List Item) (bytes : List ℕ) → Told r n → view later ≡ view items → Tells n later → Comes r items bytes → Comes n later bytes
still_comes r n items later bytes t q tells c = search rules

clocked_comes : (now : ℕ) (r : Router) (items : List Item) (bytes : List ℕ) → Comes r items bytes → Comes (clocked now r) (At now ∷ items) bytes
clocked_comes now r items bytes c =
    still_comes r (clocked now r) items (At now ∷ items) bytes (clocked_told now r) refl (clocked_tells now r items c.tells) c

-- a link that is closed
record Shuts (r : Router) : Type 0 where
  pub closed : is_closed r.link ≡ true
  pub held : r.held ≡ []
  pub out : r.out ≡ []

closing_link : (r : Router) → (is_closed r.link ≡ true → r.held ≡ []) → (is_closed r.link ≡ true → r.out ≡ []) → Shuts (close r)
closing_link r held out = by_close Shuts r (λ is. record { closed = is; held = held is; out = out is }) (λ is. record { closed = refl; held = refl; out = refl })

-- the calls
steps_come : (bytes : List ℕ) → StepsKeep (λ r items. Comes r items bytes)
steps_come bytes = record {
  clock = λ now r items c. clocked_comes now r items bytes c;
  closes = λ r items c.
      let shut = closing_link r c.none_held c.none_out in
      record {
        tells = steps_tell.closes r items c.tells;
        live = λ h. absurd (reading_open (close r).link h shut.closed);
        split = c.split;
        none_held = λ h. shut.held;
        none_out = λ h. shut.out;
      };
  asks_it = λ r items idle c. still_comes r (ask r) items (Asks (choose (of_version r.spoken r.version) r.mark) ∷ items) bytes
      (record { held = refl; reads = λ h. idle_reads r.link idle; closed = λ h. false_true h; out = λ h. false_true h }) refl
      (steps_tell.asks_it r items idle c.tells) c;
}

connect_comes : (now : ℕ) (r : Router) (items : List Item) (bytes : List ℕ) → Comes r items bytes → Tells (connects_at now r).router ((connects_at now r).items ++ items) → Comes (connects_at now r).router ((connects_at now r).items ++ items) []
unfolding connects_at
connect_comes now r items bytes c tells =
    let k = clocked_comes now r items bytes c in
    let shut = closing_link (clocked now r) k.none_held k.none_out in
    let later : List Item = Asks (choose (of_version (close (clocked now r)).speaks (close (clocked now r)).version) (close (clocked now r)).mark) ∷ Opened (close (clocked now r)).speaks ∷ At now ∷ items in
    let goes : Live (close (clocked now r)).held (view later) [] = subst (λ held. Live held (view later) []) (sym shut.held)
    (record { front = []; whole = refl; read = refl; any_is = refl; sound = refl; partial = partial_empty (close (clocked now r)).speaks true; each = none_bytes }) in
    record {
      tells = tells;
      live = λ h. goes;
      split = ((close (clocked now r)).held, live_splits (close (clocked now r)).held (view later) [] goes);
      none_held = λ h. false_true h;
      none_out = λ h. false_true h;
    }

receive_comes : (now : ℕ) (wanting : Option ℕ) (piece : List ℕ) (r : Router) (items : List Item) (bytes : List ℕ) → AreBytes piece → Comes r items bytes
    → Comes (receives now wanting piece r).machine.router ((receives now wanting piece r).machine.items ++ items) (bytes ++ consumed (Receives now wanting piece) r)
unfolding receives
receive_comes now wanting piece r items bytes each c =
    fed_keeps (λ m. router_stops m.router) router_byte (λ came m. MComes m items came) (λ came b m byte goes_on h. byte_comes m b items came byte goes_on h)
    (record { router = clocked now r; items = At now ∷ []; wanting = wanting }) piece bytes each (clocked_comes now r items bytes c)

-- no byte more
same_bytes : (r : Router) (items : List Item) (bytes : List ℕ) → Comes r items bytes → Comes r items (bytes ++ [])
same_bytes r items bytes c = subst (λ x. Comes r items x) (sym (append-nil bytes)) c

called_comes : (call : RouterCall) (calls : List RouterCall) → IsRouterCall call → Comes (played calls).router (played calls).items (came calls) → Comes (played (call ∷ calls)).router (played (call ∷ calls)).items (came (call ∷ calls))
unfolding router_pulled
called_comes (Connects now) calls each c = connect_comes now (played calls).router (played calls).items (came calls) c (called_tells (Connects now) (played calls).router (played calls).items c.tells)
called_comes (Receives now wanting piece) calls each c = receive_comes now wanting piece (played calls).router (played calls).items (came calls) each c
called_comes (Pulls most) calls each c =
    let r : Router = (played calls).router in
    same_bytes (record r { out = drop most r.out }) (played calls).items (came calls)
    (still_comes r (record r { out = drop most r.out }) (played calls).items (played calls).items (came calls) (record { held = refl; reads = λ h. h; closed = λ h. h; out = λ h none. drop_none most r.out none })
    refl (called_tells (Pulls most) r (played calls).items c.tells) c)
called_comes (Speaks version) calls each c =
    let r : Router = (played calls).router in
    same_bytes (record r { speaks = version }) (played calls).items (came calls)
    (still_comes r (record r { speaks = version }) (played calls).items (played calls).items (came calls) (record { held = refl; reads = λ h. h; closed = λ h. h; out = λ h none. none })
    refl (called_tells (Speaks version) r (played calls).items c.tells) c)
called_comes (Configures config) calls each c =
    let r : Router = (played calls).router in
    same_bytes (record r { config = config }) (Configured config ∷ (played calls).items) (came calls)
    (still_comes r (record r { config = config }) (played calls).items (Configured config ∷ (played calls).items) (came calls) (record { held = refl; reads = λ h. h; closed = λ h. h; out = λ h none. none })
    refl (called_tells (Configures config) r (played calls).items c.tells) c)
called_comes call calls each c =
    same_bytes (called call (played calls).router).router ((called call (played calls).router).items ++ (played calls).items) (came calls)
    (by_call (λ r items. Comes r items (came calls)) (steps_come (came calls)) call refl (played calls).router (played calls).items c)

new_comes : Comes (played []).router (played []).items (came [])
new_comes = record {
  tells = new_tells;
  live = λ h. false_true h;
  split = ([], record { front = []; whole = refl; read = refl; after = partial_empty V1 true });
  none_held = λ h. refl;
  none_out = λ h. refl;
}

played_come : (calls : List RouterCall) → AllByRecursion IsRouterCall calls → Comes (played calls).router (played calls).items (came calls)
played_come [] each = new_comes
played_come (call ∷ calls) each = called_comes call calls each.0 (played_come calls each.1)

-- What a router consumed is split as its transcript has it.
pub router_splits : RouterSplits
router_splits calls each = by_link (is_reading (played calls).router.link) refl
  where
    c : Comes (played calls).router (played calls).items (came calls)
    c = played_come calls each

    by_link : (b : Bool) → is_reading (played calls).router.link ≡ b → IsSplit (played calls).router (played calls).items (came calls)
    by_link true live =
        let l = c.live live in
        record {
          rest = (played calls).router.held;
          split = live_splits (played calls).router.held (view (played calls).items) (came calls) l;
          held = λ h. refl;
          sound = λ h. l.sound;
          none_held = c.none_held;
          none_out = c.none_out;
        }
    by_link false not_live = record {
      rest = c.split.0;
      split = c.split.1;
      held = λ h. false_true (sym not_live ∙ h);
      sound = λ h. false_true (sym not_live ∙ h);
      none_held = c.none_held;
      none_out = c.none_out;
    }
