use Rattle.status_pages.proofs.KindLaws.{lists_cover, one_kind_each}
use Rattle.status_pages.proofs.laws.covering_is_parted.Goals as goal

pub returns : goal.returns
returns c = record { one_kind = one_kind_each; lists = lists_cover }
