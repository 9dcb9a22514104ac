use Rattle.std.proofs.Common.{sym, ◌∙◌}
use Rattle.der_lite.proofs.MomentLaws.{says, spelled_is, text_found}
use Rattle.der_lite.proofs.laws.one_text.Goals as goal

pub returns : goal.returns
returns c = (says, λ m a b s t. s.text ∙ sym t.text, λ m n text s t. sym (spelled_is text m s).1 ∙ (spelled_is text n t).1, text_found)
