use Rattle.std.proofs.Common.{Some, None, option_map, sym, ap, subst, false, ◌∙◌}
use Rattle.std.specs.Prelude.{MatchOption}
use Rattle.exports.specs.ListForm.{HoldsEntry}
use Rattle.exports.specs.PlainForm.{IsScalar, ReadsMembers, ReadsNoMembers}
use Rattle.exports.proofs.ListParts.{holds_nothing}
use Rattle.exports.proofs.PlainSteps.{begun, ends, no_name, no_value, one_more}
use Rattle.exports.proofs.lists.list_members.Goals as goal

pub loop-key-init : goal.loop-key-init
loop-key-init c = begun 125 (λ f ms. HoldsEntry ms (record { asn = None; max_len = None; prefix = None; has_others = false })) c.args.reader.now holds_nothing

pub returns-in_err-key : goal.returns-in_err-key
returns-in_err-key c =
    subst (λ o. MatchOption o (ReadsNoMembers 125 c.args.reader.now) (λ found. ReadsMembers 125 (λ js ms. HoldsEntry ms found) c.args.reader.now c.next_name.new.reader)) (sym c.from_residual.ensures)
    (no_name 125 (λ f ms. HoldsEntry ms c.loop-key.found) c.args.reader.now c.loop-key.reader c.loop-key.invariant c.in_err-key.ensures)

pub returns-in_default : goal.returns-in_default
returns-in_default c =
    ends 125 (λ f ms. HoldsEntry ms c.loop-key.found) (λ js ms. HoldsEntry ms c.loop-key.found) c.args.reader.now c.loop-key.reader c.next_name.new.reader c.loop-key.invariant
    (c.in_ok-key.ensures ∙ ap (λ k. Some (option_map (λ s. s.now) k, c.next_name.new.reader)) c.in_default.is) (λ f ms a. a)

pub returns-in_err-value : goal.returns-in_err-value
returns-in_err-value c =
    subst (λ o. MatchOption o (ReadsNoMembers 125 c.args.reader.now) (λ found. ReadsMembers 125 (λ js ms. HoldsEntry ms found) c.args.reader.now c.read_value.new.reader)) (sym c.from_residual-in_err-value.ensures)
    (no_value 125 (λ f ms. HoldsEntry ms c.loop-key.found) c.args.reader.now c.loop-key.reader c.next_name.new.reader c.in-Some.name.now c.loop-key.invariant
    (c.in_ok-key.ensures ∙ ap (λ k. Some (option_map (λ s. s.now) k, c.next_name.new.reader)) c.in-Some.is) c.in_err-value.ensures)

pub loop-key-preserved : goal.loop-key-preserved
loop-key-preserved c =
    one_more 125 (λ f ms. HoldsEntry ms c.loop-key.found) (λ f ms. HoldsEntry ms c.with_list_member-found.result) (λ j d. IsScalar d c.in_ok-value.value) c.args.reader.now c.loop-key.reader
    c.next_name.new.reader c.read_value.new.reader c.in-Some.name.now c.loop-key.invariant (c.in_ok-key.ensures ∙ ap (λ k. Some (option_map (λ s. s.now) k, c.next_name.new.reader)) c.in-Some.is) c.in_ok-value.ensures
    (λ f ms j d a is. c.with_list_member-found.ensures ms d a is)
