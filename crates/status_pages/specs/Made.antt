-- When the served data were made.
use Rattle.std.specs.Prelude.{ℕ, if◌then◌else◌, nat_lt, List, Option, None, Some}
use Rattle.std.specs.List.{fold}
use Rattle.status_pages.specs.declared.status.FileStatus.{FileStatus}

-- the earlier of two times
abbrev pub earlier : Option ℕ → Option ℕ → Option ℕ
earlier None b = b
earlier (Some a) None = Some a
earlier (Some a) (Some b) = if nat_lt b a then Some b else Some a

-- the earliest time at which the data of a source were made
abbrev pub oldest : List FileStatus → Option ℕ
oldest files = fold (λ found file. earlier found file.built) None files
