use Rattle.json_texts.proofs.Zero as proofs
use Rattle.json_texts.proofs.laws.zero_is_no_json.Goals as goal

pub returns : goal.returns
returns c = proofs.zero_is_no_json
