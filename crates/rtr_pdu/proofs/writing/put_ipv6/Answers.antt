use Rattle.std.proofs.Common.{rules, ◌≡◌, ℕ, ◌+◌, List, [], ◌∷◌, ◌++◌, length, take, drop, sym, ap, ◌∙◌, append_assoc, arith}
use Rattle.std.specs.Prelude.{slice_index}
use Rattle.std.specs.Int.{byte_at}
use Rattle.std.proofs.lemmas.List.{drop-drop, length-drop, length-take, take-append-drop}
use Rattle.prefixes.specs.declared.prefix.IpPrefix.TheVariants.{V6}
use Rattle.byteorder.specs.Endian.{big_bytes}
use Rattle.rtr_pdu.specs.Version.{version_number}
use Rattle.rtr_pdu.specs.Unit.{flag, prefix_bytes, zeros}
use Rattle.rtr_pdu.proofs.WritingLaws.{each_four, in_fours, left, left_is, puts_behind}
use Rattle.rtr_pdu.proofs.writing.put_ipv6.Goals as goal

pub returns : goal.returns
returns c =
    let front : List ℕ = take c.args.at c.args.out.now in
    let rest : List ℕ = drop c.args.at c.args.out.now in
    let begins : length front ≡ c.args.at = omega (arith, length-take c.args.at c.args.out.now, c.requires) in
    let e = each_four 8 rest (omega (arith, length-drop c.args.at c.args.out.now, c.requires)) in
    let b0 : List ℕ = take 4 rest in
    let b1 : List ℕ = take 4 (drop 4 rest) in
    let b2 : List ℕ = take 4 (drop 4 (drop 4 rest)) in
    let b3 : List ℕ = take 4 (drop 4 (drop 4 (drop 4 rest))) in
    let b4 : List ℕ = take 4 (drop 4 (drop 4 (drop 4 (drop 4 rest)))) in
    let b5 : List ℕ = take 4 (drop 4 (drop 4 (drop 4 (drop 4 (drop 4 rest))))) in
    let b6 : List ℕ = take 4 (drop 4 (drop 4 (drop 4 (drop 4 (drop 4 (drop 4 rest)))))) in
    let b7 : List ℕ = take 4 (drop 4 (drop 4 (drop 4 (drop 4 (drop 4 (drop 4 (drop 4 rest))))))) in
    let tail : List ℕ = left 8 rest in
    let all = sym (take-append-drop c.args.at c.args.out.now) ∙ ap (λ x. front ++ x) (in_fours 8 rest) in
    let w3 : List ℕ = slice_index c.to_be_bytes-a.result 0 ∷ slice_index c.to_be_bytes-a.result 1 ∷ slice_index c.to_be_bytes-a.result 2 ∷ slice_index c.to_be_bytes-a.result 3 ∷ [] in
    let s0 = puts_behind front (b0 ∷ b1 ∷ b2 ∷ []) b3 (b4 ++ (b5 ++ (b6 ++ (b7 ++ tail)))) (c.args.at + 12) _ _ _ _ c.args.out.now c.put_four.new.out c.put_four.ensures.puts all (omega (arith, begins, e.0, e.1.0, e.1.1.0)) e.1.1.1.0 in
    let w4 : List ℕ = slice_index c.to_be_bytes-a.result 4 ∷ slice_index c.to_be_bytes-a.result 5 ∷ slice_index c.to_be_bytes-a.result 6 ∷ slice_index c.to_be_bytes-a.result 7 ∷ [] in
    let s1 = puts_behind front (b0 ∷ b1 ∷ b2 ∷ w3 ∷ []) b4 (b5 ++ (b6 ++ (b7 ++ tail))) (c.args.at + 16) _ _ _ _ c.put_four.new.out c.put_four-2.new.out c.put_four-2.ensures.puts s0 (omega (arith, begins, e.0, e.1.0, e.1.1.0, e.1.1.1.0)) e.1.1.1.1.0 in
    let w7 : List ℕ = byte_at 3 c.asn.result.0 ∷ byte_at 2 c.asn.result.0 ∷ byte_at 1 c.asn.result.0 ∷ byte_at 0 c.asn.result.0 ∷ [] in
    let s2 = puts_behind front (b0 ∷ b1 ∷ b2 ∷ w3 ∷ w4 ∷ b5 ∷ b6 ∷ []) b7 tail (c.args.at + 28) _ _ _ _ c.put_four-2.new.out c.put_word.new.out c.put_word.ensures.puts s1 (omega (arith, begins, e.0, e.1.0, e.1.1.0, e.1.1.1.0, e.1.1.1.1.0, e.1.1.1.1.1.0, e.1.1.1.1.1.1.0)) e.1.1.1.1.1.1.1.0 in
    let w5 : List ℕ = slice_index c.to_be_bytes-a.result 8 ∷ slice_index c.to_be_bytes-a.result 9 ∷ slice_index c.to_be_bytes-a.result 10 ∷ slice_index c.to_be_bytes-a.result 11 ∷ [] in
    let s3 = puts_behind front (b0 ∷ b1 ∷ b2 ∷ w3 ∷ w4 ∷ []) b5 (b6 ++ (w7 ++ tail)) (c.args.at + 20) _ _ _ _ c.put_word.new.out c.put_four-3.new.out c.put_four-3.ensures.puts s2 (omega (arith, begins, e.0, e.1.0, e.1.1.0, e.1.1.1.0, e.1.1.1.1.0)) e.1.1.1.1.1.0 in
    let w6 : List ℕ = slice_index c.to_be_bytes-a.result 12 ∷ slice_index c.to_be_bytes-a.result 13 ∷ slice_index c.to_be_bytes-a.result 14 ∷ slice_index c.to_be_bytes-a.result 15 ∷ [] in
    let s4 = puts_behind front (b0 ∷ b1 ∷ b2 ∷ w3 ∷ w4 ∷ w5 ∷ []) b6 (w7 ++ tail) (c.args.at + 24) _ _ _ _ c.put_four-3.new.out c.put_four-4.new.out c.put_four-4.ensures.puts s3 (omega (arith, begins, e.0, e.1.0, e.1.1.0, e.1.1.1.0, e.1.1.1.1.0, e.1.1.1.1.1.0)) e.1.1.1.1.1.1.0 in
    let w2 : List ℕ = c.flag_of.result ∷ c.len.result ∷ c.max_len-max_len.result ∷ 0 ∷ [] in
    let s5 = puts_behind front (b0 ∷ b1 ∷ []) b2 (w3 ++ (w4 ++ (w5 ++ (w6 ++ (w7 ++ tail))))) (c.args.at + 8) _ _ _ _ c.put_four-4.new.out c.put_four-5.new.out c.put_four-5.ensures.puts s4 (omega (arith, begins, e.0, e.1.0)) e.1.1.0 in
    let w0 : List ℕ = c.number.result ∷ 6 ∷ 0 ∷ 0 ∷ [] in
    let s6 = puts_behind front ([]) b0 (b1 ++ (w2 ++ (w3 ++ (w4 ++ (w5 ++ (w6 ++ (w7 ++ tail))))))) c.args.at _ _ _ _ c.put_four-5.new.out c.put_four-6.new.out c.put_four-6.ensures.puts s5 (omega (arith, begins)) e.0 in
    let w1 : List ℕ = 0 ∷ 0 ∷ 0 ∷ 32 ∷ [] in
    let s7 = puts_behind front (w0 ∷ []) b1 (w2 ++ (w3 ++ (w4 ++ (w5 ++ (w6 ++ (w7 ++ tail)))))) (c.args.at + 4) _ _ _ _ c.put_four-6.new.out c.put_four-7.new.out c.put_four-7.ensures.puts s6 (omega (arith, begins, e.0)) e.1.0 in
    let number : c.number.result ≡ version_number c.args.version = search rules in
    let flags : c.flag_of.result ≡ flag c.args.announce + 0 = omega (arith, c.flag_of.ensures) in
    let len : c.len.result ≡ c.args.prefix.now.len = search rules in
    let max_len : c.max_len-max_len.result ≡ c.args.vrp.now.max_len = search rules in
    let asn : c.asn.result.0 ≡ c.args.vrp.now.asn = search rules in
    let addr : c.to_be_bytes-a.result ≡ big_bytes 16 c.args.prefix.now.addr = search rules in
    let unit : (w0 ++ (w1 ++ (w2 ++ (w3 ++ (w4 ++ (w5 ++ (w6 ++ w7))))))) ≡ prefix_bytes c.args.version c.args.announce (V6 c.args.prefix.now) c.args.vrp.now.max_len c.args.vrp.now.asn zeros =
    λ i. number i ∷ 6 ∷ 0 ∷ 0 ∷ 0 ∷ 0 ∷ 0 ∷ 32 ∷ flags i ∷ len i ∷ max_len i ∷ 0 ∷ slice_index (addr i) 0 ∷ slice_index (addr i) 1 ∷ slice_index (addr i) 2 ∷ slice_index (addr i) 3 ∷ slice_index (addr i) 4 ∷ slice_index (addr i) 5 ∷ slice_index (addr i) 6 ∷ slice_index (addr i) 7 ∷ slice_index (addr i) 8 ∷ slice_index (addr i) 9 ∷ slice_index (addr i) 10 ∷ slice_index (addr i) 11 ∷ slice_index (addr i) 12 ∷ slice_index (addr i) 13 ∷ slice_index (addr i) 14 ∷ slice_index (addr i) 15 ∷ byte_at 3 (asn i) ∷ byte_at 2 (asn i) ∷ byte_at 1 (asn i) ∷ byte_at 0 (asn i) ∷ [] in
    let behind_it : tail ≡ drop (c.args.at + 32) c.args.out.now = left_is 8 rest ∙ drop-drop 32 c.args.at c.args.out.now in
    s7 ∙ (λ i. front ++ (unit i ++ behind_it i)) ∙ sym (append_assoc front (unit 1) (behind_it 1))
