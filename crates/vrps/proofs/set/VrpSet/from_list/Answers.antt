use Rattle.std.proofs.Common.{◌≡◌, ◌∙◌, ap, sym, refl, arith}
use Rattle.vrps.specs.VrpSet.{size, set_of}
use Rattle.vrps.proofs.SetLaws.{size-set_of}
use Rattle.vrps.proofs.set.VrpSet.from_list.Goals as goal

pub returns-then-len-gt-LIMIT-clause-too_many : goal.returns-then-len-gt-LIMIT-clause-too_many
returns-then-len-gt-LIMIT-clause-too_many c =
    let made = c.ascending-items in
    let count : c.len.result ≡ size (set_of c.args.list.items) =
    c.len.ensures ∙ made.result.ok.0 ∙ sym (size-set_of made.result.items made.ensures.ascending) ∙ ap (λ s. size s) made.ensures.same in
    (λ _. omega (arith, count), λ _. refl)

pub returns-clause-too_many : goal.returns-clause-too_many
returns-clause-too_many c =
    let made = c.ascending-items in
    let count : c.len.result ≡ size (set_of c.args.list.items) =
    c.len.ensures ∙ made.result.ok.0 ∙ sym (size-set_of made.result.items made.ensures.ascending) ∙ ap (λ s. size s) made.ensures.same in
    (λ e. absurd (cc), λ big. absurd (omega (arith, count, big)))
