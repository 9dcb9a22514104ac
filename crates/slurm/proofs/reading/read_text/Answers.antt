use Rattle.std.proofs.Common.{◌≡◌, ◌∙◌, None, Some, ap, inl, refl, sym}
use Rattle.json_texts.proofs.Zero.{zero_is_no_json}
use Rattle.json_texts.specs.Encoding.{begins_with_zero}
use Rattle.slurm.proofs.reading.read_text.Goals as goal

pub returns-then-begins_with_zero : goal.returns-then-begins_with_zero
returns-then-begins_with_zero c =
    let none = zero_is_no_json c.args.text.now (ap begins_with_zero (sym c.as_bytes.ensures.value) ∙ sym c.begins_with_zero.ensures ∙ c.if-begins_with_zero.true) in
    inl (inl (refl, λ d is. let no : None ≡ Some d = sym none ∙ is.1 in absurd (cc)))
