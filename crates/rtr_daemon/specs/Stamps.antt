-- Stamps of files whose inode numbers are not stable.
use Rattle.std.specs.Prelude.{◌≡◌, ◌++◌, ℕ, Bool, true, false, List, [], ◌∷◌}
use Rattle.std.specs.List.{list_any}
use Rattle.std.specs.Str.{bytes_eq}
use Rattle.std.specs.String.{string_bytes}
use Rattle.rtr_daemon.specs.declared.environment.Stamp.{Stamp}
use Rattle.rtr_daemon.specs.declared.stamps.StableStamp.{StableStamp}
use Rattle.rtr_daemon.specs.declared.stamps.UnstablePath.{UnstablePath}

-- Two stamps differ in the inode number alone.
abbrev pub DifferInInode : Stamp → Stamp → Type 0
DifferInInode a b = (¬ (a.inode ≡ b.inode)) × (record a { inode = 0 } ≡ record b { inode = 0 })

-- It is this path.
abbrev pub is_path : List ℕ → UnstablePath → Bool
is_path path known = bytes_eq (string_bytes known.path) path

-- The path is among those whose inode number is known to differ.
abbrev pub is_known : List ℕ → List UnstablePath → Bool
is_known path known = list_any (is_path path) known

-- One path more is known to have an inode number that differs.
abbrev pub AddsPath : List ℕ → List UnstablePath → List UnstablePath → Type 0
AddsPath path old new = (known : UnstablePath) × (string_bytes known.path ≡ path) × (new ≡ old ++ known ∷ [])

-- The stamp of a path after two stats with nothing between them. The inode number is left out if it is known to differ, or does so now, which is
-- then known.
pub record IsStable (path : List ℕ) (known : List UnstablePath) (first second : Stamp) (judged : StableStamp) (after : List UnstablePath) : Type 0 where
  pub known_is : is_known path known ≡ true → (judged ≡ record { stamp = record second { inode = 0 }; is_news = false }) × (after ≡ known)
  pub differs : is_known path known ≡ false → DifferInInode first second → (judged ≡ record { stamp = record second { inode = 0 }; is_news = true }) × AddsPath path known after
  pub same : is_known path known ≡ false → (¬ (DifferInInode first second)) → (judged ≡ record { stamp = second; is_news = false }) × (after ≡ known)
