use Rattle.der_lite.specs.Place.{place_of}
use Rattle.der_lite.specs.Fields.{last_at}
use Rattle.der_lite.specs.Grammar.{last}
use Rattle.der_lite.proofs.GrammarLaws as laws
use Rattle.ccr.specs.Ccr.{content_info, CcrSpells, CcrFaultAt}
use Rattle.ccr.specs.CcrReading.{content_info_at}
use Rattle.ccr.proofs.ExactCcr.{exact_ccr}
use Rattle.ccr.proofs.laws.one_representation.Goals as goal

pub returns-clause-one_fault : goal.returns-clause-one_fault
unfolding CcrFaultAt
returns-clause-one_fault c bytes f g a b = laws.one_fault (last content_info) (last_at content_info_at) exact_ccr (place_of 0 bytes) f g a b

pub returns-clause-apart : goal.returns-clause-apart
unfolding CcrFaultAt CcrSpells
returns-clause-apart c bytes v f s a = laws.apart (last content_info) (last_at content_info_at) exact_ccr (place_of 0 bytes) v f s a

pub returns-clause-either : goal.returns-clause-either
unfolding CcrFaultAt CcrSpells
returns-clause-either c bytes are = laws.either (last content_info) (last_at content_info_at) exact_ccr (place_of 0 bytes) are

pub returns-clause-one_value : goal.returns-clause-one_value
unfolding CcrSpells
returns-clause-one_value c bytes v w s t = laws.one_value (last content_info) (last_at content_info_at) exact_ccr (place_of 0 bytes) v w s t
