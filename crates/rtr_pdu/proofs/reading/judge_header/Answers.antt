use Rattle.std.proofs.Common.{◌≡◌, ◌==◌, true, false, sym, ap, ◌∙◌, subst, arith}
use Rattle.std.specs.Prelude.{not, nat_lt, if◌then◌else◌, Some, None}
use Rattle.std.proofs.lemmas.Bool.Decides.{nat_tests}
use Rattle.rtr_pdu.specs.Kind.{type_number, is_type, has_length}
use Rattle.rtr_pdu.specs.declared.unit.UnitFault.TheVariants as faults
use Rattle.rtr_pdu.proofs.JudgeLaws.{chain}
use Rattle.rtr_pdu.specs.Version.{version_number}
use Rattle.rtr_pdu.proofs.KindLaws as laws
use Rattle.rtr_pdu.proofs.reading.judge_header.Goals as goal

pub returns-in-Some : goal.returns-in-Some
returns-in-Some c =
    let is : type_number c.in-Some.known ≡ c.args.kind = c.in-Some.ensures.some.0 in
    let version : (c.args.shown == version_number c.args.version) ≡ true = grind (arith, nat_tests, c.if-shown-number.false, c.number.ensures) in
    let type : is_type c.args.version c.args.kind ≡ true = subst (λ k. is_type c.args.version k ≡ true) is (laws.known_type c.args.version c.in-Some.known c.in-Some.ensures.some.1) in
    let length = sym (laws.known_length c.args.version c.in-Some.known c.args.len) ∙ ap (λ k. has_length c.args.version k c.args.len) is in
    c.judge_len.ensures ∙ (λ i. if not (length i) then Some faults.Length else if nat_lt 4096 c.args.len then Some faults.TooLong else None)
    ∙ (λ i. chain false (sym version i) (sym type i) (has_length c.args.version c.args.kind c.args.len) (nat_lt 4096 c.args.len))
