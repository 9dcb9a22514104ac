use Rattle.std.proofs.Common.{◌≡◌, ◌∙◌, ◌++◌, ℕ, List, length, ap, arith}
use Rattle.der_lite.specs.Der.{tlv}
use Rattle.payloads.specs.RoaBytes.{address_content, maximum_bytes, entry_bytes}
use Rattle.payloads.proofs.RoaSpellings.{members_bytes, members_few, adds_same}
use Rattle.ccr.proofs.payload_set.add_entry.Goals as goal

pub sequence-requires : goal.sequence-requires
sequence-requires c =
    let prefix = c.args.prefix.now in
    let maximum = c.args.max_len in
    let same : c.as_slice.result.now ≡ members_bytes prefix maximum =
    c.as_slice.ensures ∙ c.in_ok-add_maximum.ensures
    ∙ ap (λ (l : List ℕ). l ++ maximum_bytes maximum) (c.in_ok-add_address.ensures ∙ ap (λ (l : List ℕ). l ++ tlv 3 (address_content prefix)) c.new-members.ensures) in
    omega (arith, ap (λ (l : List ℕ). length l) same, members_few prefix maximum)

pub returns : goal.returns
unfolding entry_bytes
returns c =
    let prefix = c.args.prefix.now in
    let maximum = c.args.max_len in
    let same : c.as_slice.result.now ≡ members_bytes prefix maximum =
    c.as_slice.ensures ∙ c.in_ok-add_maximum.ensures
    ∙ ap (λ (l : List ℕ). l ++ maximum_bytes maximum) (c.in_ok-add_address.ensures ∙ ap (λ (l : List ℕ). l ++ tlv 3 (address_content prefix)) c.new-members.ensures) in
    adds_same c.sequence.result 48 c.as_slice.result.now c.args.list.now c.sequence.new.self _ (ap (λ (l : List ℕ). tlv 48 l) same) c.sequence.ensures
