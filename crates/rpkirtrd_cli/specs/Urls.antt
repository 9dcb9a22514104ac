-- URLs in place of paths
use Rattle.std.specs.Prelude.{ℕ, ◌==◌, Bool, ◌||◌, List, codes}
use Rattle.std.specs.List.{starts_with}

abbrev pub is_url : List ℕ → Bool
is_url text = starts_with (λ a b. a == b) text (codes "https://") || starts_with (λ a b. a == b) text (codes "http://")
