use Rattle.std.proofs.Common.{◌≡◌, take}
use Rattle.status_pages.specs.ApiStatus.{most_of}
use Rattle.status_pages.proofs.tals.most_of.Given as goal

-- the sources before this one
abbrev pub invariant-loop-file : goal.invariant-loop-file
invariant-loop-file l = l.found ≡ most_of l.name (take l.file-index l.files)
