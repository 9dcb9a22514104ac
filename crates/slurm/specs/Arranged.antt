-- Filters, arranged for records that come in ascending order.
use Rattle.std.specs.Prelude.{◌≡◌, ℕ, ◌<◌, ◌≤◌, ◌++◌, ◌&&◌, ◌||◌, ◌==◌, Bool, true, false, List, length, take, filter, get_or}
use Rattle.std.specs.List.{AllByRecursion, list_any}
use Rattle.prefixes.specs.Payload.{Payload, covers}
use Rattle.prefixes.specs.declared.prefix.IpPrefix.{IpPrefix}
use Rattle.vrps.specs.Keys.{up_to}
use Rattle.slurm.specs.declared.index.Index.{Index}

-- A filter with an AS matches, or one with neither.
abbrev pub hit_anywhere : Index → Payload → Bool
hit_anywhere i v = list_any (λ f. (f.asn == v.asn) && covers f.prefix v.prefix) i.by_both.items || (list_any (λ n. n == v.asn) i.by_as.items || i.all)

-- some filter matches
abbrev pub hit_by : Index → Payload → Bool
hit_by i v = list_any (λ p. covers p v.prefix) i.by_prefix.items || hit_anywhere i v

-- those that cover a prefix
abbrev pub covering : IpPrefix → List IpPrefix → List IpPrefix
covering p fs = filter (λ f. covers f p) fs

-- Of ascending prefixes those from one place up to another are added: the ones that are not after a prefix.
pub record Opens (fs : List IpPrefix) (p : IpPrefix) (next : ℕ) (old : List IpPrefix) (to : ℕ) (new : List IpPrefix) : Type 0 where
  pub within : to ≤ length fs
  pub more : List IpPrefix
  pub taken : take to fs ≡ take next fs ++ more
  pub opened : new ≡ old ++ more
  pub not_after : AllByRecursion (λ f. up_to f p ≡ true) more
  pub stops : (d : IpPrefix) → to < length fs → up_to (get_or fs to d) p ≡ false
