use Rattle.std.proofs.Common.{flat_map, sym, ap, subst, ◌∙◌, map-id}
use Rattle.std.specs.Io.KnownBytes.{Appends}
use Rattle.std.proofs.lemmas.Iterator.{YieldsList-from_chars}
use Rattle.std.proofs.lemmas.Iterator.Consumers.{YieldsList-end}
use Rattle.status_pages.specs.Escapes.{json_char}
use Rattle.status_pages.proofs.text.write_json.Goals as goal

pub returns : goal.returns
returns g c =
    let end = YieldsList-end (YieldsList-from_chars c.args.text.now c.utf8.text cc) c.loop-character.yielded _ c.loop-character.yielded_by _ _ c.in-None.is c.next.ensures.steps in
    subst (Appends (g.W.Write.contents c.args.out.now) (g.W.Write.contents c.loop-character.out)) (ap (flat_map json_char) (sym (map-id c.loop-character.yielded) ∙ end.0)) c.loop-character.invariant
