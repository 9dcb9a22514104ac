-- How a daemon begins: at a moment that the clocks answered, with all its files read.
use Rattle.std.specs.Prelude.{◌≡◌, ℕ, suc, true, false, List, [], ◌∷◌, length, map, replicate, None, Some}
use Rattle.std.specs.String.{string_bytes}
use Rattle.std.specs.declared.string.String.{String}
use Rattle.points.specs.InUse.{no_points}
use Rattle.sources.specs.Served.{NoneTaken}
use Rattle.sources.specs.declared.sources.Sources.{Sources}
use Rattle.rtr_daemon.specs.Ages.{AreJudged, IsOldAfter, ages_of}
use Rattle.rtr_daemon.specs.DiskAnswers.{DiskAnswers}
use Rattle.rtr_daemon.specs.Times.{later_by}
use Rattle.rtr_daemon.specs.Files.{LoadsEach, ReadsSlurms, loads_of, marks_of, names_of, paths_of}
use Rattle.rtr_daemon.specs.PointOffers.{OffersEach, points_of}
use Rattle.rtr_daemon.specs.SlurmRefusals.{SlurmRefusalsCome}
use Rattle.rtr_daemon.specs.declared.accepting.Listener.{Listener}
use Rattle.rtr_daemon.specs.declared.daemon.Daemon.{Daemon}
use Rattle.rtr_daemon.specs.declared.daemon.Paths.{Paths}
use Rattle.rtr_daemon.specs.declared.daemon.Plan.{Plan}

-- a listener at which a connection may be pending, and which is not paused
abbrev pub open_listener : Listener
open_listener = record { pending = true; paused_until = None }

-- A daemon begins at a moment of both clocks. The pace begins with its second. Publication is due at once, the first poll of the files one interval
-- later. No router has been served. There are as many listeners as planned, all of them open. The ages of the exports were judged.
pub record Begins {S T : Type 0} (clock ticks : ℕ → Type 0) (plan : Plan) (d : Daemon S T) : Type 0 where
  pub second : clock d.started
  pub millis : ticks d.opened
  pub pace : d.service.pace ≡ Some d.started
  pub next_check : d.next_check ≡ later_by plan.check d.opened
  pub next_round : d.next_round ≡ d.opened
  pub held_until : d.held_until ≡ d.opened
  pub failing : d.failing ≡ None
  pub parted : d.has_parted ≡ false
  pub idle : d.clients.queue.items ≡ []
  pub listeners : d.listeners.listeners.items ≡ replicate plan.listeners open_listener
  pub judged : AreJudged clock plan.max_age d.service.sources (ages_of d.exports.items)
  pub is_old : IsOldAfter plan.max_age false (ages_of d.exports.items) d.is_old

-- the bytes of each path
abbrev pub texts : {C : Type 0} → List (String C) → List (List ℕ)
texts paths = map string_bytes paths

-- paths with their numbers, from this one on
abbrev pub numbered_from : ℕ → List (List ℕ) → List (List ℕ × ℕ)
numbered_from n [] = []
numbered_from n (path ∷ paths) = (path, n) ∷ numbered_from (suc n) paths

-- It watches the sources at these paths, in their order. Exports are numbered from 0.
pub record Watches {S T : Type 0} (paths : Paths) (d : Daemon S T) : Type 0 where
  pub exports : names_of d.exports.items ≡ numbered_from 0 (texts paths.files.items)
  pub slurms : paths_of d.slurms.items ≡ texts paths.slurms.items
  pub points : points_of d.points.items ≡ texts paths.points.items

-- Each source was read and loaded at the second of the start: exports, local exceptions, publication points, in this order. There was nothing before.
-- What is refused of local exceptions was read too.
pub record ReadsAll {S T W : Type 0} (answers : DiskAnswers W) (plan : Plan) (d : Daemon S T) : Type 0 where
  pub first : Sources
  pub none : NoneTaken (length d.exports.items) first.lists.items
  pub no_exceptions : first.exceptions ≡ None
  pub no_points : first.repository ≡ no_points
  pub leaves : first.leaves_out ≡ plan.leaves_out_length_0
  pub aged : first.max_age ≡ plan.max_age
  pub loaded : Sources
  pub excepted : Sources
  pub exports : LoadsEach answers d.started d.exports.items (marks_of d.exports.items) first loaded
  pub slurms : ReadsSlurms answers d.slurms.items (loads_of d.slurms.items) loaded excepted
  pub slurm_refusals : SlurmRefusalsCome answers d.slurms.items
  pub points : OffersEach answers (λ at. at ≡ d.started) d.points.items excepted d.service.sources
