use Rattle.der_lite.proofs.ContentReads.{opens_found, found_opens, opens_breaks, breaks_opens}
use Rattle.der_lite.proofs.laws.opens_exactly.Goals as goal

pub returns : goal.returns
returns c = λ tag p bytes. (
  λ inner next. (opens_found tag p inner next bytes, λ h. found_opens tag p inner next h.0 h.1),
  λ fault. (opens_breaks tag p fault, breaks_opens tag p fault),
)
