use Rattle.std.proofs.Common.{◌≡◌, ◌≢◌, ◌∙◌, ◌∷◌, [], Option, Some, None, Ok, ap, sym, refl}
use Rattle.std.proofs.lemmas.Result.{err_from_is_err_and}
use Rattle.std.proofs.lemmas.List.{map-append}
use Rattle.payloads.specs.declared.roa_entry.RoaEntry.{RoaEntry}
use Rattle.payloads.specs.RoaEntries.{payload_of}
use Rattle.payloads.specs.RoaReading.{entry_at}
use Rattle.payloads.proofs.RoaGrowing.{entry_shorter}
use Rattle.ccr.specs.Families.{of_roa}
use Rattle.ccr.specs.Faults.{fault_of}
use Rattle.ccr.specs.PayloadSetReading.{entries_at}
use Rattle.ccr.proofs.Sets.{entries, last_more, seen_none, seen_on, seen_out, seen_wrong}
use Rattle.ccr.proofs.attestation.each_entry.Goals as goal

pub loop-members-init : goal.loop-members-init
loop-members-init c = seen_none (entries (of_roa c.args.family) c.args.asn.0) c.args.members c.args.vrps.now.items c.args.vrps.now.items None refl refl refl

pub loop-members-smaller : goal.loop-members-smaller
loop-members-smaller c = entry_shorter (of_roa c.args.family) 0 _ c.loop-members.members c.in_ok-entry.entry c.entry.new.cursor c.in_ok-entry.ensures.exact

pub loop-members-preserved : goal.loop-members-preserved
loop-members-preserved c =
    let l = c.loop-members in
    let family = of_roa c.args.family in
    let asn = c.args.asn.0 in
    let e = c.in_ok-entry.entry in
    let q = c.entry.new.cursor in
    let some : l.members.rest ≢ [] = λ e. (let h = c.at_end.ensures.1 e in cc) in
    let read : entry_at family 0 l.before l.members ≡ Ok (e, q) = ap (λ (b : Option RoaEntry). entry_at family 0 b l.members) (sym c.as_ref.ensures.value) ∙ c.in_ok-entry.ensures.exact in
    seen_on (entries family asn) c.args.members c.args.vrps.now.items l.vrps.items l.before l.members l.invariant e q c.add_vrp.new.vrps.items (payload_of asn e ∷ []) (Some e) some read
    (entry_shorter family 0 l.before l.members e q read) c.in_ok-add_vrp.ensures (map-append (payload_of asn) l.invariant.seen (e ∷ [])) (sym (last_more None l.invariant.seen e))

pub returns : goal.returns
unfolding entries_at
returns c =
    let l = c.loop-members in
    let s = l.invariant in
    (s.seen, seen_out (entries (of_roa c.args.family) c.args.asn.0) c.args.members c.args.vrps.now.items l.vrps.items l.before l.members s (c.at_end.ensures.0 c.loop-members-test.false), tt, s.grown)

pub returns-in_err-entry : goal.returns-in_err-entry
unfolding entries_at
returns-in_err-entry c =
    let p = err_from_is_err_and c.from_residual.result c.from_residual.ensures.1 in
    let l = c.loop-members in
    let family = of_roa c.args.family in
    let some : l.members.rest ≢ [] = λ e. (let h = c.at_end.ensures.1 e in cc) in
    let same = ap (λ (b : Option RoaEntry). entry_at family 0 b l.members) (sym c.as_ref.ensures.value) in
    rw (p.1, p.2) (seen_wrong (entries family c.args.asn.0) c.args.members c.args.vrps.now.items l.vrps.items l.before l.members l.invariant (fault_of c.in_err-entry.field-0.0) some (same ∙ c.in_err-entry.ensures.exact))
