-- Steps of reading a list in its plain form, token by token.
use Rattle.std.specs.Prelude.{◌≡◌, ℕ, suc, ◌+◌, ◌-◌, ◌<◌, List, length, Option, Some, None, option_map, codes}
use Rattle.std.specs.Borrow.{Bor}
use Rattle.json.specs.Token.{Token}
use Rattle.json.specs.Json.{items, members, value}
use Rattle.serde_json.specs.Data.{Data, object, number, string, unsigned, Items, Members}
use Rattle.serde_json.specs.Find.{get_member}
use Rattle.serde_json.specs.Read.{of_items, of_json, of_members, converted}
use Rattle.prefixes.specs.Payload.{Payload}
use Rattle.payload_lists.specs.PayloadList.{AreEntries, IsEntry, member_count}
use Rattle.payload_lists.specs.declared.plain.Plain.{Plain}

abbrev pub one_if : {A : Type 0} → Option A → ℕ
one_if None = 0
one_if (Some a) = 1

-- The members are those that were read, and no others.
pub record HoldsMembers (ms : Members) (p : Plain) : Type 0 where
  pub asn : get_member (codes "asn") ms ≡ option_map (λ n. number (unsigned n)) p.asn
  pub max_len : get_member (codes "maxLength") ms ≡ option_map (λ n. number (unsigned n)) p.max_len
  pub prefix : get_member (codes "prefix") ms ≡ option_map (λ s. string s.now) p.prefix
  pub count : member_count ms ≡ one_if p.asn + one_if p.max_len + one_if p.prefix

-- A member was read of these tokens, and these are left.
abbrev pub ReadsMember : List Token → List Token → Plain → Plain → Type 0
ReadsMember old new before after =
    (length new < length old)
    × ((depth n : ℕ) (ms : Members) → 0 < n → HoldsMembers ms before →
    (more : Members) × HoldsMembers more after × (converted (λ x. of_members x ms) (members (value depth) n old) ≡ converted (λ x. of_members x more) (members (value depth) (n - 1) new)))

-- An object of these three members was read.
abbrev pub ReadsObject : List Token → List Token → ℕ → ℕ → Bor (List ℕ) → Type 0
ReadsObject old new asn max_len prefix =
    (length new < length old)
    × ((depth : ℕ) → 0 < depth →
    (ms : Members) × HoldsMembers ms (record { asn = Some asn; max_len = Some max_len; prefix = Some prefix }) × (converted of_json (value depth old) ≡ Some (object ms, new)))

-- A value of this kind was read.
abbrev pub ReadsSome : (Data → Type 0) → List Token → List Token → Type 0
ReadsSome Is old new =
    (length new < length old) × ((depth : ℕ) → 0 < depth → (d : Data) × Is d × (converted of_json (value depth old) ≡ Some (d, new)))

-- An entry of this payload was read.
abbrev pub ReadsEntry : List Token → List Token → Payload → Type 0
ReadsEntry old new v = ReadsSome (λ d. IsEntry d v) old new

-- A value was read that is the entry of no payload.
abbrev pub ReadsNoEntry : List Token → List Token → Type 0
ReadsNoEntry old new = ReadsSome (λ d. (v : Payload) → ¬ (IsEntry d v)) old new

-- The entries of an array were read to its end.
abbrev pub ReadsItems : List Token → List Token → List Payload → Type 0
ReadsItems old new vs =
    (depth : ℕ) → (ds : Items) × AreEntries ds vs × (converted of_items (items (value (suc depth)) (length old) old) ≡ Some (ds, new))

-- If the rest of an array can be read at all, its items are the entries of no payloads.
abbrev pub RefusesItems : List Token → Type 0
RefusesItems old =
    (depth : ℕ) (ds : Items) (new : List Token) → converted of_items (items (value (suc depth)) (length old) old) ≡ Some (ds, new) → (vs : List Payload) → ¬ (AreEntries ds vs)
