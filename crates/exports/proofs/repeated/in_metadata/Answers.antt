use Rattle.std.proofs.Common.{◌≡◌, ◌∙◌, None, Some, ap, arith, length, option_map, suc}
use Rattle.json.proofs.Grammar.{read_key-shorter}
use Rattle.exports.proofs.repeated.in_metadata.Goals as goal

pub returns-in_default : goal.returns-in_default
returns-in_default c =
    let less = read_key-shorter c.loop-name.reader None c.next_name.new.reader (c.in_ok-name.ensures ∙ ap (λ k. Some (option_map (λ s. s.now) k, c.next_name.new.reader)) c.in_default.is) in
    let long : length c.args.reader.now ≡ suc (length c.next.new.self) = ap length c.in_ok-token.ensures.value in
    omega (arith, less, long, c.loop-name.invariant)

pub loop-name-preserved : goal.loop-name-preserved
loop-name-preserved c =
    let less = read_key-shorter c.loop-name.reader (Some c.in-Some.name.now) c.next_name.new.reader (c.in_ok-name.ensures ∙ ap (λ k. Some (option_map (λ s. s.now) k, c.next_name.new.reader)) c.in-Some.is) in
    omega (arith, less, c.in_ok-skip_value.ensures, c.loop-name.invariant)
