use Rattle.std.proofs.Common.{◌≡◌, List, ℕ, [], ◌∷◌, ◌++◌, map, sym, ap, subst, ◌∙◌}
use Rattle.std.proofs.lemmas.List.{map-append}
use Rattle.trust_anchors.specs.Locators.{IsTaUri}
use Rattle.trust_anchors.proofs.Cutting.{Grows, grows_none, grows_on, grows_out}
use Rattle.trust_anchors.proofs.Once.{same_line, has_break}
use Rattle.trust_anchors.proofs.tal.read_uris.Goals as goal

pub loop-line-init : goal.loop-line-init
loop-line-init c =
    let none : [] ≡ map (λ u. u.now) c.new-uris.result.items = ap (map (λ u. u.now)) (sym c.new-uris.ensures.items) in
    subst (λ (l : List (List ℕ)). Grows IsTaUri l c.args.bytes.now c.args.bytes.now) none (grows_none IsTaUri c.args.bytes.now)

pub loop-line-preserved : goal.loop-line-preserved
loop-line-preserved c =
    let l = c.loop-line in
    let n = c.in-Some.line in
    let grown : map (λ u. u.now) c.push.new.self.items ≡ map (λ u. u.now) l.uris.items ++ n.text.now ∷ [] =
    ap (map (λ u. u.now)) c.in_ok-push.ensures.items ∙ map-append (λ u. u.now) l.uris.items (n.text ∷ []) in
    grows_on IsTaUri (map (λ u. u.now) l.uris.items) (map (λ u. u.now) c.push.new.self.items) n.text.now l.rest.now n.rest.now c.args.bytes.now l.invariant c.in-Some.ensures
    (c.is_ta_uri.ensures.0 c.if-not-is_ta_uri.false) grown

pub returns-then-not-is_ta_uri : goal.returns-then-not-is_ta_uri
returns-then-not-is_ta_uri c =
    let n = c.in-Some.line in
    grows_out IsTaUri (map (λ u. u.now) c.loop-line.uris.items) c.loop-line.rest.now c.args.bytes.now c.loop-line.invariant
    (λ line after is p.
    let t = c.is_ta_uri.ensures.1 (subst IsTaUri (same_line line n.text.now after n.rest.now c.loop-line.rest.now is c.in-Some.ensures).0 p) in cc)

pub returns : goal.returns
returns c =
    grows_out IsTaUri (map (λ u. u.now) c.loop-line.uris.items) c.loop-line.rest.now c.args.bytes.now c.loop-line.invariant
    (λ line after is p. has_break line after c.loop-line.rest.now is c.in_default.ensures)
