-- The turns of reading a list in its plain form.
use Rattle.std.proofs.Common.{◌≡◌, ℕ, suc, ◌-◌, ◌<◌, ◌≤◌, List, ◌∷◌, length, Option, Some, None, option_map, Bor, refl, sym, ap, ◌∙◌, subst, arith}
use Rattle.std.specs.Prelude.{OnSome, codes, option_and_then}
use Rattle.serde_json.specs.Find.{as_number, as_str, as_u64}
use Rattle.payload_lists.specs.EntrySteps.{MakesPayload}
use Rattle.json.specs.Token.{Token}
use Rattle.json.specs.Json as json
use Rattle.json.specs.Json.{Parse, parse_map, read_key, after_end_array, items, members, value}
use Rattle.json.proofs.Grammar.{value_is, value-begin_object, read_key-shorter, members_more, members_end}
use Rattle.serde_json.specs.Data.{Data, Members, no_members, object, number, string, unsigned, put}
use Rattle.serde_json.specs.Read.{of_json, of_members, converted}
use Rattle.prefixes.specs.Payload.{Payload}
use Rattle.prefixes.specs.Text.{PrefixText}
use Rattle.payload_lists.specs.PayloadList.{IsEntry, text_at, whole_at}
use Rattle.payload_lists.specs.PlainForm.{HoldsMembers, ReadsMember, ReadsObject, ReadsEntry, ReadsNoEntry}
use Rattle.payload_lists.specs.declared.plain.Plain.{Plain}
use Rattle.payload_lists.proofs.Entries.{is_entry, one_some}

pub with_member : (k : List ℕ) (j : json.Json) (d : Data) (old : Members) → of_json j ≡ Some d → (o : Option (json.Members × List Token))
    → converted (λ ms. of_members ms old) (parse_map (json.member k j) o) ≡ converted (λ ms. of_members ms (put k d old)) o
with_member k j d old e None = refl
with_member k j d old e (Some p) = rw e

pub member_is : (old s new : List Token) (k : List ℕ) (t : Token) (j : json.Json) (d : Data) (before now : Plain) (result : Option (Unit {0})) → read_key old ≡ Some (Some k, s) → s ≡ t ∷ new
    → ((depth : ℕ) → value depth (t ∷ new) ≡ Some (j, new)) → of_json j ≡ Some d → OnSome result ((ms : Members) → HoldsMembers ms before → HoldsMembers (put k d ms) now)
    → OnSome result (ReadsMember old new before now)
member_is old s new k t j d before now None key first is made h = tt
member_is old s new k t j d before now (Some done) key first is made h =
    let less = read_key-shorter old (Some k) s key in
    let long : length s ≡ suc (length new) = ap length first in (
      omega (arith, less, long),
      λ depth n ms some holds. (
        put k d ms,
        h ms holds,
        ap (converted (λ x. of_members x ms)) (members_more (value depth) n k old s new j some key (ap (value depth) first ∙ is depth))
            ∙ with_member k j d ms made (members (value depth) (n - 1) new),
      ),
    )

pub number_read : (s : List ℕ) (new : List Token) (depth : ℕ) → value depth (Token.number s ∷ new) ≡ Some (json.number s, new)
number_read s new depth = value_is depth (Token.number s ∷ new)

pub string_read : (s : List ℕ) (new : List Token) (depth : ℕ) → value depth (Token.string s ∷ new) ≡ Some (json.string s, new)
string_read s new depth = value_is depth (Token.string s ∷ new)

-- ---- an entry

pub converted-object : (o : Option (json.Members × List Token)) → converted of_json (parse_map json.object o) ≡ parse_map object (converted (λ ms. of_members ms no_members) o)
converted-object None = refl
converted-object (Some p) = by (of_members p.0 no_members)
  where
    by : (x : Option Members) → option_map (λ b. (b, p.1)) (option_map object x) ≡ parse_map object (option_map (λ a. (a, p.1)) x)
    by None = refl
    by (Some a) = refl

abbrev pub nothing : Plain
nothing = record { asn = None; max_len = None; prefix = None }

holds_nothing : HoldsMembers no_members nothing
holds_nothing = record { asn = refl; max_len = refl; prefix = refl; count = refl }

pub members_are : (depth : ℕ) (ts s₁ s₂ s₃ rest : List Token) (p₁ p₂ p₃ : Plain) → ReadsMember ts s₁ nothing p₁ → ReadsMember s₁ s₂ p₁ p₂ → ReadsMember s₂ s₃ p₂ p₃ → read_key s₃ ≡ Some (None, rest)
    → (ms : Members) × HoldsMembers ms p₃ × (converted (λ x. of_members x no_members) (members (value depth) (length ts) ts) ≡ Some (ms, rest))
members_are depth ts s₁ s₂ s₃ rest p₁ p₂ p₃ one two three end =
    let n = length ts in
    let some₁ : 0 < n = omega (arith, one.0) in
    let some₂ : 0 < n - 1 = omega (arith, one.0, two.0) in
    let some₃ : 0 < n - 1 - 1 = omega (arith, one.0, two.0, three.0) in
    let enough : length s₃ ≤ n - 1 - 1 - 1 = omega (arith, one.0, two.0, three.0) in
    let m₁ = one.1 depth n no_members some₁ holds_nothing in
    let m₂ = two.1 depth (n - 1) m₁.0 some₂ m₁.1 in
    let m₃ = three.1 depth (n - 1 - 1) m₂.0 some₃ m₂.1 in
    (m₃.0, m₃.1, m₁.2 ∙ m₂.2 ∙ m₃.2 ∙ ap (converted (λ x. of_members x m₃.0)) (members_end (value depth) (n - 1 - 1 - 1) s₃ rest enough end))

pub object_is : (old ts s₁ s₂ s₃ rest : List Token) (p₁ p₂ : Plain) (asn max_len : ℕ) (text : Bor (List ℕ)) → old ≡ Token.begin_object ∷ ts
    → ReadsMember ts s₁ nothing p₁ → ReadsMember s₁ s₂ p₁ p₂ → ReadsMember s₂ s₃ p₂ (record { asn = Some asn; max_len = Some max_len; prefix = Some text }) → read_key s₃ ≡ Some (None, rest)
    → ReadsObject old rest asn max_len text
object_is old ts s₁ s₂ s₃ rest p₁ p₂ asn max_len text first one two three end =
    let last = read_key-shorter s₃ None rest end in
    let long : length old ≡ suc (length ts) = ap length first in (
      omega (arith, last, long, one.0, two.0, three.0),
      λ depth some.
          let m = members_are (depth - 1) ts s₁ s₂ s₃ rest p₁ p₂ _ one two three end in (
            m.0,
            m.1,
            ap (converted of_json) (ap (value depth) first ∙ value-begin_object depth ts some) ∙ converted-object (members (value (depth - 1)) (length ts) ts) ∙ ap (parse_map object) m.2,
          ),
    )

whole_is : (d : Option Data) (n : ℕ) → d ≡ Some (number (unsigned n)) → option_and_then as_u64 (option_and_then as_number d) ≡ Some n
whole_is d n e = ap (λ x. option_and_then as_u64 (option_and_then as_number x)) e

text_is : (d : Option Data) (s : List ℕ) → d ≡ Some (string s) → option_and_then as_str d ≡ Some s
text_is d s e = ap (λ x. option_and_then as_str x) e

-- An object of three members is the entry of a payload that they make, and of no other one.
pub entry_is : (old new : List Token) (asn max_len : ℕ) (text : Bor (List ℕ)) (v : Payload) → ReadsObject old new asn max_len text → MakesPayload asn max_len text.now v → ReadsEntry old new v
entry_is old new asn max_len text v h made = (
  h.0,
  λ depth some.
      let m = h.1 depth some in (
        object m.0,
        is_entry (object m.0) m.0 asn max_len text.now v refl m.1.count (sym (whole_is _ asn m.1.asn)) (sym (whole_is _ max_len m.1.max_len)) (sym (text_is _ text.now m.1.prefix)) made,
        m.2,
      ),
)

makes : (ms : Members) (asn max_len : ℕ) (text : Bor (List ℕ)) (v : Payload) → HoldsMembers ms (record { asn = Some asn; max_len = Some max_len; prefix = Some text })
    → IsEntry (object ms) v → MakesPayload asn max_len text.now v
makes ms asn max_len text v holds h = record {
  asn_is = one_some asn v.asn (whole_at (codes "asn") (object ms)) (whole_is _ asn holds.asn) h.asn;
  max_len_is = one_some max_len v.max_len (whole_at (codes "maxLength") (object ms)) (whole_is _ max_len holds.max_len) h.max_len;
  prefix = subst (λ t. PrefixText v.prefix t) (one_some h.text text.now (text_at (codes "prefix") (object ms)) h.has_text (text_is _ text.now holds.prefix)) h.prefix;
  payload = h.payload;
}

pub no_entry_is : (old new : List Token) (asn max_len : ℕ) (text : Bor (List ℕ)) → ReadsObject old new asn max_len text → ((v : Payload) → ¬ (MakesPayload asn max_len text.now v)) → ReadsNoEntry old new
no_entry_is old new asn max_len text h none =
    (h.0, λ depth some. let m = h.1 depth some in (object m.0, λ v is. none v (makes m.0 asn max_len text v m.1 is), m.2))
