use Rattle.std.proofs.Common.{Some, None, option_map, codes, sym, ap, subst, refl, ◌≡◌, ◌∙◌}
use Rattle.std.specs.Prelude.{MatchOption}
use Rattle.exports.specs.PlainForm.{IsMetadata, IsScalar, ReadsMembers, ReadsNoMembers}
use Rattle.exports.specs.Repeating.{AreMet, two_twice}
use Rattle.exports.specs.declared.names.Met.TheVariants.{Never}
use Rattle.exports.proofs.PlainParts.{told_nothing}
use Rattle.exports.proofs.PlainSteps.{begun, ends, no_name, no_value, one_more}
use Rattle.exports.proofs.streaming.plain_metadata.Goals as goal

pub loop-key-init : goal.loop-key-init
loop-key-init c =
    begun 125 (λ f ms. IsMetadata ms (record { generated = None; buildtime = None }) × AreMet (codes "generated") (codes "buildtime") f (record { one = Never; other = Never }))
    c.args.reader.now (told_nothing, (λ rest. refl, λ rest. refl))

pub returns-in_err-key : goal.returns-in_err-key
returns-in_err-key c =
    subst (λ o. MatchOption o (ReadsNoMembers 125 c.args.reader.now) (λ r. ReadsMembers 125 (λ js ms. IsMetadata ms r.0 × (r.1 ≡ two_twice (codes "generated") (codes "buildtime") js)) c.args.reader.now c.next_name.new.reader)) (sym c.from_residual.ensures)
    (no_name 125 (λ f ms. IsMetadata ms c.loop-key.metadata × AreMet (codes "generated") (codes "buildtime") f c.loop-key.names) c.args.reader.now c.loop-key.reader c.loop-key.invariant c.in_err-key.ensures)

pub returns-in_default : goal.returns-in_default
returns-in_default c =
    ends 125 (λ f ms. IsMetadata ms c.loop-key.metadata × AreMet (codes "generated") (codes "buildtime") f c.loop-key.names) (λ js ms. IsMetadata ms c.loop-key.metadata × (c.repeat.result ≡ two_twice (codes "generated") (codes "buildtime") js)) c.args.reader.now c.loop-key.reader c.next_name.new.reader c.loop-key.invariant
    (c.in_ok-key.ensures ∙ ap (λ k. Some (option_map (λ s. s.now) k, c.next_name.new.reader)) c.in_default.is) (λ f ms a. (a.0, c.repeat.ensures (codes "generated") (codes "buildtime") f a.1))

pub returns-in_err-value : goal.returns-in_err-value
returns-in_err-value c =
    subst (λ o. MatchOption o (ReadsNoMembers 125 c.args.reader.now) (λ r. ReadsMembers 125 (λ js ms. IsMetadata ms r.0 × (r.1 ≡ two_twice (codes "generated") (codes "buildtime") js)) c.args.reader.now c.read_value.new.reader)) (sym c.from_residual-in_err-value.ensures)
    (no_value 125 (λ f ms. IsMetadata ms c.loop-key.metadata × AreMet (codes "generated") (codes "buildtime") f c.loop-key.names) c.args.reader.now c.loop-key.reader c.next_name.new.reader c.in-Some.name.now c.loop-key.invariant
    (c.in_ok-key.ensures ∙ ap (λ k. Some (option_map (λ s. s.now) k, c.next_name.new.reader)) c.in-Some.is) c.in_err-value.ensures)

pub loop-key-preserved : goal.loop-key-preserved
loop-key-preserved c =
    one_more 125 (λ f ms. IsMetadata ms c.loop-key.metadata × AreMet (codes "generated") (codes "buildtime") f c.loop-key.names) (λ f ms. IsMetadata ms c.with_detail-metadata.result × AreMet (codes "generated") (codes "buildtime") f c.with-names.result) (λ j d. IsScalar d c.in_ok-value.value) c.args.reader.now c.loop-key.reader
    c.next_name.new.reader c.read_value.new.reader c.in-Some.name.now c.loop-key.invariant (c.in_ok-key.ensures ∙ ap (λ k. Some (option_map (λ s. s.now) k, c.next_name.new.reader)) c.in-Some.is) c.in_ok-value.ensures
    (λ f ms j d a is. (c.with_detail-metadata.ensures ms d a.0 is, c.with-names.ensures f j a.1))
