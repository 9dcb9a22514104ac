use Rattle.std.proofs.Common.{◌≡◌, take}
use Rattle.status_pages.specs.ApiStatus.{newest}
use Rattle.status_pages.proofs.api_status.newest_load.Given as goal

-- the files before this one
abbrev pub invariant-loop-file : goal.invariant-loop-file
invariant-loop-file l = l.found ≡ newest (take l.file-index l.files)
