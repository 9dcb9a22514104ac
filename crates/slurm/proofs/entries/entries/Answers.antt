use Rattle.std.proofs.Common.{◌≡◌, inl, ◌+◌, ◌++◌, ◌∷◌, ◌∙◌, [], if◌then◌else◌, map, take, refl, subst, sym, ap, arith}
use Rattle.serde_json.specs.View.{view}
use Rattle.slurm.specs.Entries.{AreRead}
use Rattle.slurm.proofs.EntryReads.{all_read, fault_at, next_read}
use Rattle.slurm.proofs.entries.entries.Goals as goal

pub returns-in-Err : goal.returns-in-Err
returns-in-Err g c =
    inl (refl, fault_at g.E.Entry.reads c.args.list.now c.loop-index.index c.index-list-index.result c.loop-index.values.items c.in-Err.why c.loop-index-test.true c.index-list-index.is c.loop-index.invariant c.in-Err.ensures)

pub loop-index-preserved : goal.loop-index-preserved
loop-index-preserved g c =
    let pushed : c.push.new.self.items ≡ c.loop-index.values.items ++ c.in-Ok.value ∷ [] =
    c.push.ensures.items ∙ ap (λ b. if b then c.loop-index.values.items ++ c.in-Ok.value ∷ [] else c.loop-index.values.items) c.if-is_err.ensures.negation in
    subst (λ xs. AreRead g.E.Entry.reads (map view (take (c.loop-index.index + 1) c.args.list.now)) xs) (sym pushed)
    (next_read g.E.Entry.reads c.args.list.now c.loop-index.index c.index-list-index.result c.loop-index.values.items c.in-Ok.value c.loop-index-test.true c.index-list-index.is c.loop-index.invariant c.in-Ok.ensures)

pub returns : goal.returns
returns g c = inl (all_read g.E.Entry.reads c.args.list.now c.loop-index.index c.loop-index.values.items (omega arith) c.loop-index.invariant)
