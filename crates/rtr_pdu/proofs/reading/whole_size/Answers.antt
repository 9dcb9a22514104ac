use Rattle.std.proofs.Common.{◌≡◌, ℕ, ◌+◌, ◌-◌, ◌≤◌, ◌++◌, length, take, drop, List, sym, ap, ◌∙◌, subst, arith}
use Rattle.std.specs.Prelude.{Bool, None}
use Rattle.std.proofs.Math.Seq.{take-add}
use Rattle.std.proofs.lemmas.List.{length-take}
use Rattle.rtr_pdu.specs.declared.version.Version.{Version}
use Rattle.rtr_pdu.specs.Stream.{as_read, header_fault, length_of}
use Rattle.rtr_pdu.specs.Reading.{filled, number_at, IsBody}
use Rattle.rtr_pdu.proofs.ReaderLaws as laws
use Rattle.rtr_pdu.proofs.BodyLaws as bodies
use Rattle.rtr_pdu.proofs.PrefixLaws as whole
use Rattle.rtr_pdu.proofs.reading.whole_size.Goals as goal

-- a whole PDU at the front of bytes, whose header gives its size
body_at : (version : Version) (any : Bool) (bytes : List ℕ) (size : ℕ) → 8 ≤ length bytes → header_fault version (as_read version any (take 8 bytes)) ≡ None
    → size ≡ length_of (as_read version any (take 8 bytes)) → size ≤ length bytes → IsBody version any (take size bytes)
body_at version any bytes size long none is fits =
    let eight : length (take 8 bytes) ≡ 8 = omega (arith, length-take 8 bytes, long) in
    let least = bodies.header_least version any (take 8 bytes) none (omega (arith, eight)) in
    let room : length (take 8 bytes) ≤ length_of (as_read version any (take 8 bytes)) = omega (arith, eight, least) in
    let same : filled (length_of (as_read version any (take 8 bytes))) (take 8 bytes) (drop 8 bytes) ≡ take size bytes =
    ap (λ n. take 8 bytes ++ take n (drop 8 bytes)) (let e : length_of (as_read version any (take 8 bytes)) - length (take 8 bytes) ≡ size - 8 = omega (arith, eight, is) in e)
    ∙ sym (take-add 8 (size - 8) bytes) ∙ ap (λ n. take n bytes) (let e : 8 + (size - 8) ≡ size = omega (arith, is, least) in e) in
    let enough : length_of (as_read version any (take 8 bytes)) ≤ length (filled (length_of (as_read version any (take 8 bytes))) (take 8 bytes) (drop 8 bytes)) =
    omega (arith, ap length same, length-take size bytes, is, fits) in
    let body = bodies.is_body version any (filled (length_of (as_read version any (take 8 bytes))) (take 8 bytes) (drop 8 bytes))
    (laws.body_whole version any (take 8 bytes) (drop 8 bytes) none (omega (arith, eight)) room enough)
    (laws.body_size version any (take 8 bytes) (drop 8 bytes) none (omega (arith, eight)) room enough) in
    subst (λ x. IsBody version any x) same body

pub returns-clause-body : goal.returns-clause-body
returns-clause-body c =
    body_at c.args.version c.args.any c.args.bytes.now c.number_32-size.result (omega (arith, c.if-bytes-lt8.false))
    (ap (λ x. header_fault c.args.version (as_read c.args.version c.args.any x)) (sym c.split_at.ensures.front) ∙ sym c.judge.ensures ∙ laws.none_found c.judge.result (sym c.is_some.ensures ∙ c.if-is_some.false))
    (c.number_32-size.ensures ∙ ap (λ x. number_at 4 4 x) c.split_at.ensures.front ∙ bodies.header_size c.args.version c.args.any (take 8 c.args.bytes.now))
    (omega (arith, c.if-bytes-size.false))

pub returns-then-bytes-lt8-clause-none : goal.returns-then-bytes-lt8-clause-none
returns-then-bytes-lt8-clause-none c = whole.not_short c.args.version c.args.any c.args.bytes.now (omega (arith, c.if-bytes-lt8.true))

pub returns-then-is_some-clause-none : goal.returns-then-is_some-clause-none
returns-then-is_some-clause-none c =
    whole.not_bad c.args.version c.args.any c.args.bytes.now c.judge.result (omega (arith, c.if-bytes-lt8.false)) (sym c.is_some.ensures ∙ c.if-is_some.true)
    (c.judge.ensures ∙ ap (λ x. header_fault c.args.version (as_read c.args.version c.args.any x)) c.split_at.ensures.front)

pub returns-then-bytes-size-clause-none : goal.returns-then-bytes-size-clause-none
returns-then-bytes-size-clause-none c =
    whole.not_cut c.args.version c.args.any c.args.bytes.now c.number_32-size.result (omega (arith, c.if-bytes-lt8.false))
    (c.number_32-size.ensures ∙ ap (λ x. number_at 4 4 x) c.split_at.ensures.front ∙ bodies.header_size c.args.version c.args.any (take 8 c.args.bytes.now))
    (omega (arith, c.if-bytes-size.true))
