use Rattle.std.proofs.Common.{◌+◌, List, subst, sym, take}
use Rattle.std.specs.List.{flat_map}
use Rattle.std.specs.Io.KnownBytes.{Appends}
use Rattle.payloads.specs.declared.roa_entry.RoaEntry.{RoaEntry}
use Rattle.payload_commands.specs.RoaLines.{entry_line}
use Rattle.payload_commands.proofs.Printing.{prints_next}
use Rattle.payload_commands.proofs.roas.print_roa.Goals as goal

pub loop-entry-preserved : goal.loop-entry-preserved
loop-entry-preserved g c =
    let line = entry_line c.asn-asn.result.0 in
    let items = c.entries-entry-items.result.now in
    let same = c.entries-entry-items.ensures.value in
    let i = c.loop-entry.entry-index in
    let before = g.W.Write.contents c.args.out.now in
    subst (λ (es : List RoaEntry). Appends before (g.W.Write.contents c.print_entry.new.out) (flat_map line (take (i + 1) es))) same
    (prints_next line before (g.W.Write.contents c.loop-entry.out) (g.W.Write.contents c.print_entry.new.out) items i c.entry-item.result c.loop-entry-test.true c.entry-item.is
    (subst (λ (es : List RoaEntry). Appends before (g.W.Write.contents c.loop-entry.out) (flat_map line (take i es))) (sym same) c.loop-entry.invariant) c.in_ok-print_entry.ensures)
