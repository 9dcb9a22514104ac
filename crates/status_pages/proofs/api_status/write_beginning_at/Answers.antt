use Rattle.std.proofs.Common.{◌++◌, [], ◌∷◌, codes}
use Rattle.std.specs.Fmt.{decimal}
use Rattle.std.specs.List.{concat}
use Rattle.std.proofs.KnownBytes.{Appends-trans}
use Rattle.status_pages.proofs.Written.{two}
use Rattle.status_pages.specs.ApiStatus.{beginning, json_text}
use Rattle.status_pages.proofs.api_status.write_beginning_at.Goals as goal

pub returns : goal.returns
unfolding beginning
returns g c =
    let x0 = g.W.Write.contents c.args.out.now in
    let x1 = g.W.Write.contents c.write_all.new.self in
    let x2 = g.W.Write.contents c.write_json.new.out in
    let x3 = g.W.Write.contents c.write.new.self in
    let x4 = g.W.Write.contents c.write_all-2.new.self in
    let x5 = g.W.Write.contents c.write_all-3.new.self in
    let begin = codes "{\"version\":\"rpkirtrd/" in
    let to_version = begin ++ json_text c.args.version.now in
    let serial = concat (codes "\",\"serial\":" ∷ decimal c.args.serial ∷ codes ",\"now\":\"" ∷ []) in
    let a2 = Appends-trans x0 x1 x2 begin (json_text c.args.version.now) c.in_ok-write_all.ensures.bytes c.in_ok-write_json.ensures in
    let a3 = Appends-trans x0 x2 x3 to_version serial a2 c.in_ok-write.ensures.bytes in
    let a4 = Appends-trans x0 x3 x4 (to_version ++ serial) c.args.time.now a3 c.in_ok-write_all-2.ensures.bytes in
    two c.write_all-3.result x0 x4 x5 (to_version ++ serial ++ c.args.time.now) (codes "\"") a4 c.write_all-3.ensures.bytes
