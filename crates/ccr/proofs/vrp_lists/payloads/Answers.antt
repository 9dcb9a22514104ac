use Rattle.std.proofs.Common.{◌≡◌, ◌≢◌, ◌∙◌, ℕ, [], Vec, Global, Option, Some, None, Ok, refl, sym, ap}
use Rattle.std.specs.Prelude.{option_map}
use Rattle.std.proofs.lemmas.List.{flat_map_more}
use Rattle.std.proofs.lemmas.Result.{err_from_is_err_and}
use Rattle.der_lite.specs.Place.{Place}
use Rattle.prefixes.specs.declared.asn.Asn.{Asn}
use Rattle.prefixes.specs.declared.vrp.Vrp.{Vrp}
use Rattle.payloads.specs.RoaValues.{RoaValue, payloads_of}
use Rattle.ccr.specs.PayloadSet.{as_of}
use Rattle.ccr.specs.PayloadSetReading.{payload_set_at}
use Rattle.ccr.proofs.Sets.{last_more, seen_none, seen_on, set_shorter, sets, sets_all, sets_wrong}
use Rattle.ccr.proofs.vrp_lists.payloads.Goals as goal

pub loop-members-init : goal.loop-members-init
loop-members-init c = seen_none sets c.args.members [] c.new-vrps.result.items None refl c.new-vrps.ensures.items refl

pub loop-members-smaller : goal.loop-members-smaller
loop-members-smaller c =
    let r = c.in_ok-asn.ensures in
    let l = c.loop-members in
    set_shorter (option_map (λ a. a.0) l.before) l.members r.0.0 c.payload_set.new.cursor (r.1 ∙ ap (λ (q : Place). Ok (r.0.0, q)) r.2.1)

pub loop-members-preserved : goal.loop-members-preserved
loop-members-preserved c =
    let r = c.in_ok-asn.ensures in
    let l = c.loop-members in
    let before : Option ℕ = option_map (λ a. a.0) l.before in
    let q = c.payload_set.new.cursor in
    let some : l.members.rest ≢ [] = λ e. (let h = c.at_end.ensures.1 e in cc) in
    let read : payload_set_at before l.members ≡ Ok (r.0.0, q) = r.1 ∙ ap (λ (q : Place). Ok (r.0.0, q)) r.2.1 in
    seen_on sets c.args.members [] l.vrps.items before l.members l.invariant r.0.0 q c.payload_set.new.vrps.items (payloads_of r.0.0) (Some c.in_ok-asn.asn.0) some read
    (set_shorter before l.members r.0.0 q read) r.3 (sym (flat_map_more payloads_of [] l.invariant.seen r.0.0))
    (ap (λ (n : ℕ). Some n) (sym r.2.0) ∙ ap as_of (sym (last_more None l.invariant.seen r.0.0)))

pub returns : goal.returns
returns c =
    let l = c.loop-members in
    sets_all c.args.members l.vrps.items (option_map (λ a. a.0) l.before) l.members l.invariant (c.at_end.ensures.0 c.loop-members-test.false)

pub returns-in_err-asn : goal.returns-in_err-asn
returns-in_err-asn c =
    let l = c.loop-members in
    let some : l.members.rest ≢ [] = λ e. (let h = c.at_end.ensures.1 e in cc) in
    let p = err_from_is_err_and c.from_residual.result c.from_residual.ensures.1 in
    rw (p.1, p.2) (sets_wrong (λ (asn : Asn) (read : RoaValue × Place). (read.0.asn ≡ asn.0) × (read.1 ≡ c.payload_set.new.cursor)) (λ (vrps : Vec Vrp Global). vrps.items) c.in_err-asn.field-0.0 c.args.members l.vrps.items c.payload_set.new.vrps.items (option_map (λ a. a.0) l.before) l.members l.invariant some c.in_err-asn.ensures)
