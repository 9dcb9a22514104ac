use Rattle.std.proofs.Common.{◌≡◌, ◌∙◌, ap, subst, sym}
use Rattle.std.specs.Prelude.{bytes_eq, false, true}
use Rattle.std.specs.List.{list_any}
use Rattle.std.specs.String.{string_bytes}
use Rattle.rpkirtrd_start.specs.Plans.{each_once}
use Rattle.rtr_daemon.specs.Starting.{texts}
use Rattle.rpkirtrd_start.proofs.PathLaws.{known_path, new_path}
use Rattle.rpkirtrd_start.proofs.paths.each_once.Goals as goal

pub loop-path-preserved-then-has_path : goal.loop-path-preserved-then-has_path
loop-path-preserved-then-has_path g c =
    let kept = c.loop-path.kept.items in
    let same = ap (λ xs. list_any (λ other. bytes_eq (string_bytes other) c.as_str.result.now) xs) c.as_slice.ensures.value in
    let has = subst (λ text. list_any (λ other. bytes_eq (string_bytes other) text) kept ≡ true) c.as_str.ensures.value (sym same ∙ sym c.has_path.ensures ∙ c.if-has_path.true) in
    known_path kept c.next.new.self.rest.items c.loop-path.path-iterator.rest.items c.in-Some.path (each_once (texts c.args.paths.items)) c.in-Some.ensures.steps.0 has c.loop-path.invariant

pub loop-path-preserved : goal.loop-path-preserved
loop-path-preserved g c =
    let kept = c.loop-path.kept.items in
    let same = ap (λ xs. list_any (λ other. bytes_eq (string_bytes other) c.as_str.result.now) xs) c.as_slice.ensures.value in
    let has = subst (λ text. list_any (λ other. bytes_eq (string_bytes other) text) kept ≡ false) c.as_str.ensures.value (sym same ∙ sym c.has_path.ensures ∙ c.if-has_path.false) in
    new_path kept c.push.new.self.items c.next.new.self.rest.items c.loop-path.path-iterator.rest.items c.in-Some.path (each_once (texts c.args.paths.items)) c.in-Some.ensures.steps.0 c.in_ok-push.ensures.items has c.loop-path.invariant
