-- So far the service went on, and the publication points before this one were offered their directories.
use Rattle.std.proofs.Common.{◌≡◌, ℕ, ◌≤◌, get_or, take}
use Rattle.rtr_daemon.specs.PointOffers.{OffersEach, points_of}
use Rattle.rtr_daemon.specs.Serving.{Continues, OnlySources}
use Rattle.rtr_daemon.specs.declared.point_polling.WatchedPoint.{WatchedPoint}
use Rattle.rtr_daemon.proofs.point_polling.offer_each.Given as goal

abbrev pub invariant-loop-point : goal.invariant-loop-point
invariant-loop-point g l = record {
  goes : Continues g.S.VersionStore.holds g.T.Stream.remaining g.T.Stream.contents l.initial.service l.service;
  rest : OnlySources l.initial.service l.service;
  offers : OffersEach g.W.Disk.answers g.W.Time.can_be (take l.point-index l.initial.point-items) l.initial.service.sources l.service.sources;
  paths : points_of l.point-items ≡ points_of l.initial.point-items;
  left : (k : ℕ) (d : WatchedPoint) → l.point-index ≤ k → get_or l.point-items k d ≡ get_or l.initial.point-items k d;
}
