use Rattle.std.proofs.Common.{Some, None, option_map, sym, ap, subst, refl, ◌≡◌, ◌∙◌}
use Rattle.std.specs.Prelude.{MatchOption}
use Rattle.exports.specs.PlainForm.{IsRawEntry, IsScalar, ReadsMembers, ReadsNoMembers}
use Rattle.exports.specs.Repeating.{EntryMet, entry_twice}
use Rattle.exports.specs.declared.names.Met.TheVariants.{Never}
use Rattle.exports.proofs.PlainParts.{found_nothing}
use Rattle.exports.proofs.PlainSteps.{begun, ends, no_name, no_value, one_more}
use Rattle.exports.proofs.streaming.plain_members.Goals as goal

pub loop-key-init : goal.loop-key-init
loop-key-init c =
    begun 124 (λ f ms. IsRawEntry ms (record { asn_number = None; asn_text = None; prefix = None; max_len = None; expires = None; ta = None }) × EntryMet f (record { origin = record { one = Never; other = Never }; rest = record { one = Never; other = Never } }))
    c.args.reader.now (found_nothing, ((λ rest. refl, λ rest. refl), (λ rest. refl, λ rest. refl)))

pub returns-in_err-key : goal.returns-in_err-key
returns-in_err-key c =
    subst (λ o. MatchOption o (ReadsNoMembers 124 c.args.reader.now) (λ r. ReadsMembers 124 (λ js ms. IsRawEntry ms r.0 × (r.1 ≡ entry_twice js)) c.args.reader.now c.next_name.new.reader)) (sym c.from_residual.ensures)
    (no_name 124 (λ f ms. IsRawEntry ms c.loop-key.found × EntryMet f c.loop-key.names) c.args.reader.now c.loop-key.reader c.loop-key.invariant c.in_err-key.ensures)

pub returns-in_default : goal.returns-in_default
returns-in_default c =
    ends 124 (λ f ms. IsRawEntry ms c.loop-key.found × EntryMet f c.loop-key.names) (λ js ms. IsRawEntry ms c.loop-key.found × (c.repeat.result ≡ entry_twice js)) c.args.reader.now c.loop-key.reader c.next_name.new.reader c.loop-key.invariant
    (c.in_ok-key.ensures ∙ ap (λ k. Some (option_map (λ s. s.now) k, c.next_name.new.reader)) c.in_default.is) (λ f ms a. (a.0, c.repeat.ensures f a.1))

pub returns-in_err-value : goal.returns-in_err-value
returns-in_err-value c =
    subst (λ o. MatchOption o (ReadsNoMembers 124 c.args.reader.now) (λ r. ReadsMembers 124 (λ js ms. IsRawEntry ms r.0 × (r.1 ≡ entry_twice js)) c.args.reader.now c.read_value.new.reader)) (sym c.from_residual-in_err-value.ensures)
    (no_value 124 (λ f ms. IsRawEntry ms c.loop-key.found × EntryMet f c.loop-key.names) c.args.reader.now c.loop-key.reader c.next_name.new.reader c.in-Some.name.now c.loop-key.invariant
    (c.in_ok-key.ensures ∙ ap (λ k. Some (option_map (λ s. s.now) k, c.next_name.new.reader)) c.in-Some.is) c.in_err-value.ensures)

pub loop-key-preserved : goal.loop-key-preserved
loop-key-preserved c =
    one_more 124 (λ f ms. IsRawEntry ms c.loop-key.found × EntryMet f c.loop-key.names) (λ f ms. IsRawEntry ms c.with_member-found.result × EntryMet f c.with-names.result) (λ j d. IsScalar d c.in_ok-value.value) c.args.reader.now c.loop-key.reader
    c.next_name.new.reader c.read_value.new.reader c.in-Some.name.now c.loop-key.invariant (c.in_ok-key.ensures ∙ ap (λ k. Some (option_map (λ s. s.now) k, c.next_name.new.reader)) c.in-Some.is) c.in_ok-value.ensures
    (λ f ms j d a is. (c.with_member-found.ensures ms d a.0 is, c.with-names.ensures f j a.1))
