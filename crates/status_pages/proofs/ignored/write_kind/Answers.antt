use Rattle.std.proofs.Common.{◌++◌, OnOk, append_assoc, codes, subst, sym}
use Rattle.std.proofs.KnownBytes.{Appends-trans}
use Rattle.std.specs.Fmt.{decimal}
use Rattle.std.specs.Io.KnownBytes.{Appends}
use Rattle.status_pages.proofs.Written.{two}
use Rattle.status_pages.specs.Health.{label_text}
use Rattle.status_pages.specs.Ignored.{ignored_line}
use Rattle.status_pages.proofs.ignored.write_kind.Goals as goal

pub returns : goal.returns
unfolding ignored_line
returns g c =
    let x0 = g.W.Write.contents c.args.out.now in
    let x1 = g.W.Write.contents c.write_all.new.self in
    let x2 = g.W.Write.contents c.write_label.new.out in
    let x3 = g.W.Write.contents c.write_all-2.new.self in
    let x4 = g.W.Write.contents c.write_all-3.new.self in
    let x5 = g.W.Write.contents c.write_all-4.new.self in
    let x6 = g.W.Write.contents c.writeln.new.self in
    let to_path = codes "rpkirtrd_file_ignored_entries{file=\"" ++ label_text c.args.path.now in
    let to_kind = to_path ++ codes "\",kind=\"" in
    let to_end = to_kind ++ c.args.entries.now.kind.now in
    let to_count = to_end ++ codes "\"} " in
    let a2 = Appends-trans x0 x1 x2 (codes "rpkirtrd_file_ignored_entries{file=\"") (label_text c.args.path.now) c.in_ok-write_all.ensures.bytes c.in_ok-write_label.ensures in
    let a3 = Appends-trans x0 x2 x3 to_path (codes "\",kind=\"") a2 c.in_ok-write_all-2.ensures.bytes in
    let a4 = Appends-trans x0 x3 x4 to_kind c.args.entries.now.kind.now a3 (subst (Appends x3 x4) c.as_bytes.ensures.value c.in_ok-write_all-3.ensures.bytes) in
    let a5 = Appends-trans x0 x4 x5 to_end (codes "\"} ") a4 c.in_ok-write_all-4.ensures.bytes in
    subst (λ t. OnOk c.writeln.result (Appends x0 x6 t)) (sym (append_assoc to_count (decimal c.args.entries.now.count) (codes "\n")))
    (two c.writeln.result x0 x5 x6 to_count (decimal c.args.entries.now.count ++ codes "\n") a5 c.writeln.ensures.bytes)
