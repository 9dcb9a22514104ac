use Rattle.std.proofs.Common.{◌≢◌, ◌∙◌, ℕ, [], Option, ap, sym}
use Rattle.std.proofs.lemmas.Result.{err_from_is_err_and}
use Rattle.payloads.specs.declared.roa_entry.RoaEntry.{RoaEntry}
use Rattle.payloads.specs.RoaReading.{entries_at, entry_at}
use Rattle.payloads.specs.Faults.{grammar_fault_of}
use Rattle.payloads.proofs.RoaGrowing.{entry_shorter, seen_on, seen_wrong, seen_out}
use Rattle.payloads.proofs.roa_reading.each_entry.Goals as goal

pub returns-in_err-entry : goal.returns-in_err-entry
unfolding entries_at
returns-in_err-entry c =
    let p = err_from_is_err_and c.from_residual.result c.from_residual.ensures.1 in
    let l = c.loop-members in
    let more : l.members.rest ≢ [] = λ e. (let h = c.at_end.ensures.1 e in cc) in
    let same = ap (λ (n : ℕ). entry_at c.args.family n l.before l.members) (sym c.count.ensures) ∙ ap (λ (b : Option RoaEntry). entry_at c.args.family c.count.result b l.members) (sym c.as_ref.ensures.value) in
    rw (p.1, p.2) (seen_wrong c.args.family c.args.members c.args.entries.now l.before l.entries l.members l.invariant (grammar_fault_of c.in_err-entry.field-0.0) more (same ∙ c.in_err-entry.ensures.exact))

pub loop-members-smaller : goal.loop-members-smaller
loop-members-smaller c = entry_shorter c.args.family c.count.result _ c.loop-members.members c.in_ok-entry.entry c.entry.new.cursor c.in_ok-entry.ensures.exact

pub loop-members-preserved : goal.loop-members-preserved
loop-members-preserved c =
    let l = c.loop-members in
    let more : l.members.rest ≢ [] = λ e. (let h = c.at_end.ensures.1 e in cc) in
    let same = ap (λ (n : ℕ). entry_at c.args.family n l.before l.members) (sym c.count.ensures) ∙ ap (λ (b : Option RoaEntry). entry_at c.args.family c.count.result b l.members) (sym c.as_ref.ensures.value) in
    seen_on c.args.family c.args.members c.args.entries.now l.before l.entries l.members l.invariant c.in_ok-entry.entry c.entry.new.cursor c.add.new.self more (same ∙ c.in_ok-entry.ensures.exact) c.add.ensures

pub returns : goal.returns
unfolding entries_at
returns c =
    let s = c.loop-members.invariant in
    (s.seen, seen_out c.args.family c.args.members c.args.entries.now c.loop-members.before c.loop-members.entries c.loop-members.members s (c.at_end.ensures.0 c.loop-members-test.false), tt, s.grown)
