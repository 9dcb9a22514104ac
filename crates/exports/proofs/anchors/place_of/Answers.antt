use Rattle.std.proofs.Common.{◌≡◌, ◌∙◌, ◌+◌, ap, false, true, drop, length, map, refl, string_bytes, sym, arith}
use Rattle.std.proofs.lemmas.List.{length-map}
use Rattle.std.proofs.lemmas.Option.{slice_get_read}
use Rattle.std.specs.Str.{bytes_eq}
use Rattle.exports.specs.Anchors.{place_from}
use Rattle.exports.proofs.Naming.{drop_name, drop_past, place_here, place_later}
use Rattle.exports.proofs.anchors.place_of.Goals as goal

pub returns-then-eq : goal.returns-then-eq
returns-then-eq c =
    let names = map string_bytes c.args.names.now in
    let here = slice_get_read c.args.names.now (length c.args.names.now) c.loop-index.index c.index-names-index.result refl c.loop-index-test.true c.index-names-index.is in
    let same : bytes_eq (string_bytes c.index-names-index.result) c.args.name.now ≡ true = ap (λ n. bytes_eq n c.args.name.now) (sym c.as_str.ensures.value) ∙ sym c.eq.ensures ∙ c.if-eq.true in
    place_here c.loop-index.index (string_bytes c.index-names-index.result) c.args.name.now (drop c.loop-index.index names) (drop (c.loop-index.index + 1) names)
    (drop_name string_bytes c.args.names.now c.loop-index.index c.index-names-index.result here) same
    ∙ c.loop-index.invariant

pub loop-index-preserved : goal.loop-index-preserved
loop-index-preserved c =
    let names = map string_bytes c.args.names.now in
    let here = slice_get_read c.args.names.now (length c.args.names.now) c.loop-index.index c.index-names-index.result refl c.loop-index-test.true c.index-names-index.is in
    let other : bytes_eq (string_bytes c.index-names-index.result) c.args.name.now ≡ false = ap (λ n. bytes_eq n c.args.name.now) (sym c.as_str.ensures.value) ∙ sym c.eq.ensures ∙ c.if-eq.false in
    place_later c.loop-index.index (string_bytes c.index-names-index.result) c.args.name.now (drop c.loop-index.index names) (drop (c.loop-index.index + 1) names)
    (drop_name string_bytes c.args.names.now c.loop-index.index c.index-names-index.result here) other
    ∙ c.loop-index.invariant

pub returns : goal.returns
returns c =
    let names = map string_bytes c.args.names.now in
    ap (λ ns. place_from c.loop-index.index ns c.args.name.now) (sym (drop_past names c.loop-index.index (omega (arith, length-map c.args.names.now string_bytes, c.loop-index-test.false)))) ∙ c.loop-index.invariant
