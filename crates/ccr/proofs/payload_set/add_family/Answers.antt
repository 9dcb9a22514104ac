use Rattle.std.proofs.Common.{◌≡◌, ◌≢◌, ◌∙◌, ◌++◌, ◌∷◌, ℕ, List, [], length, true, false, ap, sym, arith}
use Rattle.std.proofs.lemmas.Bool.{eqb-true, eq-eqb}
use Rattle.der_lite.specs.Der.{tlv}
use Rattle.payloads.specs.RoaReading.{family_in}
use Rattle.payloads.proofs.RoaSpellings.{family_members, members_length, family_none, family_some, adds_same}
use Rattle.ccr.specs.Families.{family_content}
use Rattle.ccr.proofs.payload_set.add_family.Goals as goal

pub returns-then-is_empty : goal.returns-then-is_empty
returns-then-is_empty c = family_none (family_in (family_content c.args.family)) c.args.list.now c.args.families.now (eqb-true (length c.args.list.now) 0 (sym c.is_empty.ensures ∙ c.if-is_empty.true))

pub sequence-requires-2 : goal.sequence-requires-2
sequence-requires-2 c =
    let list = c.args.list.now in
    let family = family_in (family_content c.args.family) in
    let same : c.as_slice.result.now ≡ family_members family list =
    c.as_slice.ensures ∙ c.in_ok-sequence.ensures
    ∙ ap (λ (l : List ℕ). l ++ tlv 48 list) (c.in_ok-octets.ensures ∙ ap (λ (l : List ℕ). l ++ tlv 4 (0 ∷ c.number.result ∷ [])) c.new-members.ensures ∙ ap (λ (n : ℕ). tlv 4 (0 ∷ n ∷ [])) c.number.ensures) in
    omega (arith, ap (λ (l : List ℕ). length l) same, members_length family list, c.requires)

pub returns : goal.returns
returns c =
    let list = c.args.list.now in
    let family = family_in (family_content c.args.family) in
    let same : c.as_slice.result.now ≡ family_members family list =
    c.as_slice.ensures ∙ c.in_ok-sequence.ensures
    ∙ ap (λ (l : List ℕ). l ++ tlv 48 list) (c.in_ok-octets.ensures ∙ ap (λ (l : List ℕ). l ++ tlv 4 (0 ∷ c.number.result ∷ [])) c.new-members.ensures ∙ ap (λ (n : ℕ). tlv 4 (0 ∷ n ∷ [])) c.number.ensures) in
    let some : length list ≢ 0 = λ e. (let k : true ≡ false = sym (c.is_empty.ensures ∙ eq-eqb (length list) 0 e) ∙ c.if-is_empty.false in cc) in
    adds_same c.sequence-2.result 48 c.as_slice.result.now c.args.families.now c.sequence-2.new.self _ (ap (λ (l : List ℕ). tlv 48 l) same ∙ sym (family_some family list some)) c.sequence-2.ensures
