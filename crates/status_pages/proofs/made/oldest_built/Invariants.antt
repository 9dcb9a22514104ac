use Rattle.std.proofs.Common.{◌≡◌, take}
use Rattle.status_pages.specs.Made.{oldest}
use Rattle.status_pages.proofs.made.oldest_built.Given as goal

-- the sources before this one
abbrev pub invariant-loop-file : goal.invariant-loop-file
invariant-loop-file l = l.found ≡ oldest (take l.file-index l.files)
