use Rattle.std.proofs.Common.{◌≡◌, ℕ, ◌+◌, List, [], ◌++◌, sym, ap, ◌∙◌, subst, arith, Vec, Global, take, drop, None}
use Rattle.std.specs.List.{flat_map}
use Rattle.std.specs.Prelude.{is_some}
use Rattle.rtr_pdu.specs.Version.{version_in}
use Rattle.rtr_pdu.specs.declared.unit.Unit.{Unit}
use Rattle.rtr_pdu.specs.Reader.{Reader, fresh}
use Rattle.rtr_pdu.specs.Run.{HasBegun, HasOnly}
use Rattle.rtr_pdu.proofs.RunLaws as laws
use Rattle.rtr_pdu.proofs.stream.read_all.Goals as goal

abbrev bytes_of : Vec ℕ Global → List ℕ
bytes_of piece = piece.items

pub loop-piece-init : goal.loop-piece-init
loop-piece-init c =
    let P : List Unit → Type 0 = λ x. HasBegun c.args.router (is_some c.args.router) [] x (fresh c.args.router (is_some c.args.router)) in
    let Q : Reader → Type 0 = λ x. HasBegun c.args.router (is_some c.args.router) [] c.new-units.result.items x in
    subst Q (sym c.reader_at-reader.ensures) (subst P (sym c.new-units.ensures.items) (laws.begins c.args.router (is_some c.args.router)))

pub returns-then-is_some : goal.returns-then-is_some
returns-then-is_some c =
    let before : List ℕ = flat_map bytes_of (take c.loop-piece.piece-index c.args.pieces.now) in
    let item : c.as_slice.result.now ≡ bytes_of c.piece-item.result = c.as_slice.ensures.value in
    let next : flat_map bytes_of (take (c.loop-piece.piece-index + 1) c.args.pieces.now) ≡ flat_map bytes_of (take c.loop-piece.piece-index c.args.pieces.now) ++ c.as_slice.result.now =
    laws.pieces_more bytes_of c.args.pieces.now c.loop-piece.piece-index c.piece-item.result c.loop-piece-test.true
    ∙ ap (λ x. flat_map bytes_of (take c.loop-piece.piece-index c.args.pieces.now) ++ x) (ap bytes_of (sym c.piece-item.is) ∙ sym item) in
    let all : (flat_map bytes_of (take c.loop-piece.piece-index c.args.pieces.now) ++ c.as_slice.result.now) ++ flat_map bytes_of (drop (c.loop-piece.piece-index + 1) c.args.pieces.now) ≡ flat_map bytes_of c.args.pieces.now =
    ap (λ x. x ++ flat_map bytes_of (drop (c.loop-piece.piece-index + 1) c.args.pieces.now)) (sym next) ∙ laws.pieces_whole bytes_of (c.loop-piece.piece-index + 1) c.args.pieces.now in
    let some = sym c.is_some.ensures ∙ c.if-is_some.true in
    let P : List ℕ → Type 0 = λ x. HasOnly (version_in c.args.router x) (is_some c.args.router) x c.feed.new.units.items c.in_ok-fault.fault in
    subst P all (laws.fed_some c.args.router (is_some c.args.router) (flat_map bytes_of (take c.loop-piece.piece-index c.args.pieces.now) ++ c.as_slice.result.now) (flat_map bytes_of (drop (c.loop-piece.piece-index + 1) c.args.pieces.now))
    c.feed.new.units.items c.feed.new.reader c.in_ok-fault.fault some
    (c.in_ok-fault.ensures c.args.router (is_some c.args.router) (flat_map bytes_of (take c.loop-piece.piece-index c.args.pieces.now)) c.loop-piece.invariant))

pub loop-piece-preserved : goal.loop-piece-preserved
loop-piece-preserved c =
    let item : c.as_slice.result.now ≡ bytes_of c.piece-item.result = c.as_slice.ensures.value in
    let next : flat_map bytes_of (take (c.loop-piece.piece-index + 1) c.args.pieces.now) ≡ flat_map bytes_of (take c.loop-piece.piece-index c.args.pieces.now) ++ c.as_slice.result.now =
    laws.pieces_more bytes_of c.args.pieces.now c.loop-piece.piece-index c.piece-item.result c.loop-piece-test.true
    ∙ ap (λ x. flat_map bytes_of (take c.loop-piece.piece-index c.args.pieces.now) ++ x) (ap bytes_of (sym c.piece-item.is) ∙ sym item) in
    let none = sym c.is_some.ensures ∙ c.if-is_some.false in
    let P : List ℕ → Type 0 = λ x. HasBegun c.args.router (is_some c.args.router) x c.feed.new.units.items c.feed.new.reader in
    subst P (sym next) (laws.fed_none c.args.router (is_some c.args.router) (flat_map bytes_of (take c.loop-piece.piece-index c.args.pieces.now) ++ c.as_slice.result.now) c.feed.new.units.items c.feed.new.reader c.in_ok-fault.fault none
    (c.in_ok-fault.ensures c.args.router (is_some c.args.router) (flat_map bytes_of (take c.loop-piece.piece-index c.args.pieces.now)) c.loop-piece.invariant))

pub returns : goal.returns
returns c =
    let all = laws.pieces_all bytes_of c.loop-piece.piece-index c.args.pieces.now (omega (arith, c.loop-piece-test.false)) in
    let P : List ℕ → Type 0 = λ x. HasOnly (version_in c.args.router x) (is_some c.args.router) x c.loop-piece.units.items None in
    subst P all (laws.has_only (version_in c.args.router (flat_map bytes_of (take c.loop-piece.piece-index c.args.pieces.now))) (is_some c.args.router) (flat_map bytes_of (take c.loop-piece.piece-index c.args.pieces.now)) c.loop-piece.units.items c.loop-piece.reader.held None
    (laws.splits_begun c.args.router (is_some c.args.router) (flat_map bytes_of (take c.loop-piece.piece-index c.args.pieces.now)) c.loop-piece.units.items c.loop-piece.reader c.loop-piece.invariant))
