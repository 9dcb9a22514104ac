use Rattle.std.proofs.Common.{rules, ◌≡◌, ℕ, ◌+◌, List, [], ◌∷◌, ◌++◌, length, take, drop, sym, ap, ◌∙◌, append_assoc, arith}
use Rattle.std.specs.Int.{byte_at}
use Rattle.std.proofs.lemmas.List.{drop-drop, length-drop, length-take, take-append-drop}
use Rattle.prefixes.specs.declared.prefix.IpPrefix.TheVariants.{V4}
use Rattle.rtr_pdu.specs.Unit.{prefix_bytes, zeros}
use Rattle.rtr_pdu.proofs.WritingLaws.{each_four, in_fours, left, left_is, puts_behind}
use Rattle.rtr_pdu.proofs.writing.put_ipv4.Goals as goal

pub returns : goal.returns
returns c =
    let front : List ℕ = take c.args.at c.args.out.now in
    let rest : List ℕ = drop c.args.at c.args.out.now in
    let begins : length front ≡ c.args.at = omega (arith, length-take c.args.at c.args.out.now, c.requires) in
    let e = each_four 5 rest (omega (arith, length-drop c.args.at c.args.out.now, c.requires)) in
    let b0 : List ℕ = take 4 rest in
    let b1 : List ℕ = take 4 (drop 4 rest) in
    let b2 : List ℕ = take 4 (drop 4 (drop 4 rest)) in
    let b3 : List ℕ = take 4 (drop 4 (drop 4 (drop 4 rest))) in
    let b4 : List ℕ = take 4 (drop 4 (drop 4 (drop 4 (drop 4 rest)))) in
    let tail : List ℕ = left 5 rest in
    let all = sym (take-append-drop c.args.at c.args.out.now) ∙ ap (λ x. front ++ x) (in_fours 5 rest) in
    let w3 : List ℕ = byte_at 3 c.addr.result ∷ byte_at 2 c.addr.result ∷ byte_at 1 c.addr.result ∷ byte_at 0 c.addr.result ∷ [] in
    let s0 = puts_behind front (b0 ∷ b1 ∷ b2 ∷ []) b3 (b4 ++ tail) (c.args.at + 12) _ _ _ _ c.args.out.now c.put_word.new.out c.put_word.ensures.puts all (omega (arith, begins, e.0, e.1.0, e.1.1.0)) e.1.1.1.0 in
    let w4 : List ℕ = byte_at 3 c.asn.result.0 ∷ byte_at 2 c.asn.result.0 ∷ byte_at 1 c.asn.result.0 ∷ byte_at 0 c.asn.result.0 ∷ [] in
    let s1 = puts_behind front (b0 ∷ b1 ∷ b2 ∷ w3 ∷ []) b4 tail (c.args.at + 16) _ _ _ _ c.put_word.new.out c.put_word-2.new.out c.put_word-2.ensures.puts s0 (omega (arith, begins, e.0, e.1.0, e.1.1.0, e.1.1.1.0)) e.1.1.1.1.0 in
    let w2 : List ℕ = c.flag_of.result ∷ c.len.result ∷ c.max_len.result ∷ 0 ∷ [] in
    let s2 = puts_behind front (b0 ∷ b1 ∷ []) b2 (w3 ++ (w4 ++ tail)) (c.args.at + 8) _ _ _ _ c.put_word-2.new.out c.put_four.new.out c.put_four.ensures.puts s1 (omega (arith, begins, e.0, e.1.0)) e.1.1.0 in
    let w0 : List ℕ = c.number.result ∷ 4 ∷ 0 ∷ 0 ∷ [] in
    let s3 = puts_behind front ([]) b0 (b1 ++ (w2 ++ (w3 ++ (w4 ++ tail)))) c.args.at _ _ _ _ c.put_four.new.out c.put_four-2.new.out c.put_four-2.ensures.puts s2 (omega (arith, begins)) e.0 in
    let w1 : List ℕ = 0 ∷ 0 ∷ 0 ∷ 20 ∷ [] in
    let s4 = puts_behind front (w0 ∷ []) b1 (w2 ++ (w3 ++ (w4 ++ tail))) (c.args.at + 4) _ _ _ _ c.put_four-2.new.out c.put_four-3.new.out c.put_four-3.ensures.puts s3 (omega (arith, begins, e.0)) e.1.0 in
    let unit : (w0 ++ (w1 ++ (w2 ++ (w3 ++ w4)))) ≡ prefix_bytes c.args.version c.args.announce (V4 c.args.prefix.now) c.args.vrp.now.max_len c.args.vrp.now.asn zeros = search rules in
    let behind_it : tail ≡ drop (c.args.at + 20) c.args.out.now = left_is 5 rest ∙ drop-drop 20 c.args.at c.args.out.now in
    s4 ∙ (λ i. front ++ (unit i ++ behind_it i)) ∙ sym (append_assoc front (unit 1) (behind_it 1))
