use Rattle.std.proofs.Common.{◌≡◌, ℕ, ◌-◌, ◌*◌, ◌^◌, ◌%◌, sym, ap, ◌∙◌, arith}
use Rattle.std.specs.Int.{bytes_high_first}
use Rattle.std.proofs.Math.Nat.{mod-eq_of_lt}
use Rattle.prefixes.specs.Payload.{block_of, width_of}
use Rattle.prefixes.specs.declared.prefix.IpPrefix.{IpPrefix}
use Rattle.ccr.proofs.payload_set.octets.Goals as goal

pub returns-in-V4 : goal.returns-in-V4
returns-in-V4 c =
    let within : c.addr.result * 2 ^ 96 % 2 ^ 128 ≡ c.addr.result * 2 ^ 96 = mod-eq_of_lt (omega (arith, c.addr.ensures.value, c.addr.ensures.prefix.address)) in
    c.to_be_bytes.ensures ∙ ap (bytes_high_first 16) within ∙ ap (λ (n : ℕ). bytes_high_first 16 (n * 2 ^ 96)) c.addr.ensures.value
    ∙ ap (λ (p : IpPrefix). bytes_high_first 16 ((block_of p).addr * 2 ^ (128 - width_of p))) (sym c.in-V4.is)

pub returns-in-V6 : goal.returns-in-V6
returns-in-V6 c =
    let whole : c.addr-in-V6.result ≡ c.in-V6.prefix.addr * 2 ^ 0 = omega (arith, c.addr-in-V6.ensures.value) in
    c.to_be_bytes-in-V6.ensures ∙ ap (bytes_high_first 16) whole ∙ ap (λ (p : IpPrefix). bytes_high_first 16 ((block_of p).addr * 2 ^ (128 - width_of p))) (sym c.in-V6.is)
