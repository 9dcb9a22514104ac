-- A router speaks the version that was set, from the next connection.
use Rattle.rtr_ends.proofs.Words.{◌≡◌, List, [], ◌∷◌, ◌++◌, refl, ◌∙◌, ap, Version, Unit, Begins, Whole, Faulty}
use Rattle.rtr_ends.specs.LinkRules.{Router, on_unit}
use Rattle.rtr_ends.specs.Router.{RouterCall, Connects, Receives, Pulls, Speaks, Configures, clocked, close, connects_at, played, reads, router_pulled}
use Rattle.rtr_ends.specs.RouterLaws.{RouterSpeaks, connected_version, told_version}
use Rattle.rtr_ends.specs.Transcript.{Item, spoken}
use Rattle.rtr_ends.proofs.ConsumedUnits.{asked_view}
use Rattle.rtr_ends.proofs.Effects.{by_close, by_whole, clocked_keeps, unit_keeps}
use Rattle.rtr_ends.proofs.CallSteps.{BytesKeep, StepsKeep, by_call, by_piece}

-- The version of the next connection, and that of the latest one
record Told (next latest : Version) (r : Router) (items : List Item) : Type 0 where
  pub speaks : r.speaks ≡ next
  pub spoken : spoken items ≡ latest

module _ (next latest : Version) where
  reads_tell : (r : Router) (u : Unit) (items : List Item) → Told next latest r items → Told next latest (reads u r).router ((reads u r).items ++ items)
  reads_tell r u items t = record {
    speaks = (unit_keeps r.link u r).speaks ∙ t.speaks;
    spoken = ap (λ v. v.version) (asked_view n.link n.out u items) ∙ t.spoken;
  }
    where
      n : Router
      n = on_unit r.link u r

  -- bytes, as they are judged
  bytes_tell : BytesKeep (Told next latest)
  bytes_tell memory bytes r Begins items some live none t = record { speaks = t.speaks; spoken = t.spoken }
  bytes_tell memory bytes r (Faulty fault) items some live none t = record { speaks = t.speaks; spoken = t.spoken }
  bytes_tell memory bytes r (Whole u) items some live none t = by_whole (λ n. Told next latest n.router (n.items ++ items)) memory bytes r u
      (record { speaks = t.speaks; spoken = t.spoken }) (reads_tell (record r { held = [] }) u items (record { speaks = t.speaks; spoken = t.spoken }))

-- A close leaves it.
close_speaks : (r : Router) → (close r).speaks ≡ r.speaks
close_speaks r = by_close (λ n. n.speaks ≡ r.speaks) r (λ is. refl) (λ is. refl)

steps_tell : (next latest : Version) → StepsKeep (Told next latest)
steps_tell next latest = record {
  clock = λ now r items t. record { speaks = (clocked_keeps now r).speaks ∙ t.speaks; spoken = t.spoken };
  closes = λ r items t. record { speaks = close_speaks r ∙ t.speaks; spoken = t.spoken };
  asks_it = λ r items idle t. record { speaks = t.speaks; spoken = t.spoken };
}

abbrev Tells : List RouterCall → Type 0
Tells calls = Told (told_version calls) (connected_version calls) (played calls).router (played calls).items

-- each call
called_tells : (call : RouterCall) (calls : List RouterCall) → Tells calls → Tells (call ∷ calls)
unfolding connects_at router_pulled
called_tells (Connects now) calls t =
    let e = close_speaks (clocked now (played calls).router) ∙ (clocked_keeps now (played calls).router).speaks ∙ t.speaks in
    record { speaks = e; spoken = e }
called_tells (Receives now wanting piece) calls t =
    by_piece (Told (told_version calls) (connected_version calls)) (steps_tell (told_version calls) (connected_version calls)).clock (bytes_tell (told_version calls) (connected_version calls)) now wanting piece (played calls).router (played calls).items t
called_tells (Pulls most) calls t = record { speaks = t.speaks; spoken = t.spoken }
called_tells (Speaks version) calls t = record { speaks = refl; spoken = t.spoken }
called_tells (Configures config) calls t = record { speaks = t.speaks; spoken = t.spoken }
called_tells call calls t = by_call (Told (told_version calls) (connected_version calls)) (steps_tell (told_version calls) (connected_version calls)) call refl (played calls).router (played calls).items t

played_tells : (calls : List RouterCall) → Tells calls
played_tells [] = record { speaks = refl; spoken = refl }
played_tells (call ∷ calls) = called_tells call calls (played_tells calls)

-- A router speaks the version that was set.
pub router_speaks : RouterSpeaks
router_speaks calls = let t = played_tells calls in (t.speaks, t.spoken)
