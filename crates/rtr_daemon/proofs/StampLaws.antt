-- Stamps of files whose inode numbers are not stable.
use Rattle.std.proofs.Common.{◌≡◌, ◌∙◌, ℕ, sym}
use Rattle.std.specs.Prelude.{List, false, true}
use Rattle.rtr_daemon.specs.Stamps.{AddsPath, DifferInInode, IsStable, is_known}
use Rattle.rtr_daemon.specs.declared.environment.Stamp.{Stamp}
use Rattle.rtr_daemon.specs.declared.stamps.UnstablePath.{UnstablePath}

-- Two stamps differ in the inode number alone, and the path is known from now on.
pub stable_news : (path : List ℕ) (known after : List UnstablePath) (first second stamp : Stamp) → is_known path known ≡ false → DifferInInode first second → stamp ≡ record second { inode = 0 } → AddsPath path known after
    → IsStable path known first second (record { stamp = stamp; is_news = true }) after
stable_news path known after first second stamp is differ without adds = record {
  known_is = λ e. absurd (let never : false ≡ true = sym is ∙ e in cc);
  differs = λ e d. ((λ k. record { stamp = without k; is_news = true }), adds);
  same = λ e d. absurd (d differ);
}
