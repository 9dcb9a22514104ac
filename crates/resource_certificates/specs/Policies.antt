-- certificatePolicies (RFC 6487 section 4.8.9, RFC 7318): one policy, without qualifiers or with one, which is a CPS.
use Rattle.std.specs.Prelude.{ℕ, not, List, [], ◌∷◌, Option, Result}
use Rattle.der_lite.specs.Place.{Fault, place_of}
use Rattle.der_lite.specs.Der.{IA5_STRING, OBJECT_IDENTIFIER, SEQUENCE, head_rules, is_ia5}
use Rattle.der_lite.specs.DerReading.{element_at, content_at, ia5_at}
use Rattle.der_lite.specs.Grammar.{Element, Members, element, constructed, plain, last, member, optional}
use Rattle.der_lite.specs.Decoding.{Read, read_constructed, read_member}
use Rattle.der_lite.specs.Fields.{last_at, optional_at}
use Rattle.der_forms.specs.Combinators.{no_rules, told, fixed}
use Rattle.der_forms.specs.CombinatorReading.{opened_at, told_at, fixed_field}
use Rattle.resource_certificates.specs.Keys.{second_part}

-- id-cp: id-cp-ipAddr-asNumber is its 2 (RFC 6484), and id-cp-ipAddr-asNumber-v2 its 3 (RFC 8360 section 4.2.1)
abbrev pub id_cp : ℕ → List ℕ
id_cp arc = 0x2b ∷ 6 ∷ 1 ∷ 5 ∷ 5 ∷ 7 ∷ 14 ∷ arc ∷ []

-- id-qt-cps (RFC 5280 section 4.2.1.4)
abbrev pub id_cps : List ℕ
id_cps = 0x2b ∷ 6 ∷ 1 ∷ 5 ∷ 5 ∷ 7 ∷ 2 ∷ 1 ∷ []

-- CPSuri
abbrev pub cps_uri : Element (List ℕ)
cps_uri = plain IA5_STRING (λ content. (4, not (is_ia5 content)) ∷ [])

-- PolicyQualifierInfo: a CPS
unfoldable pub qualifier : Element (List ℕ)
qualifier = element SEQUENCE (head_rules SEQUENCE) (constructed no_rules (told second_part (member (fixed 27 OBJECT_IDENTIFIER id_cps) (λ _. last cps_uri))) no_rules)

-- policyQualifiers: one
unfoldable pub qualifiers : Element (List ℕ)
qualifiers = element SEQUENCE (head_rules SEQUENCE) (constructed no_rules (last qualifier) no_rules)

-- PolicyInformation, of this policy: the CPS, if there is one
unfoldable pub policy : ℕ → Element (Option (List ℕ))
policy arc = element SEQUENCE (head_rules SEQUENCE) (constructed no_rules (told second_part (member (fixed 27 OBJECT_IDENTIFIER (id_cp arc)) (λ _. optional qualifiers))) no_rules)

-- certificatePolicies: one
unfoldable pub policies : ℕ → Element (Option (List ℕ))
policies arc = element SEQUENCE (head_rules SEQUENCE) (constructed no_rules (last (policy arc)) no_rules)

-- the value of the extension, and nothing after it
abbrev pub policies_value : ℕ → Members (Option (List ℕ))
policies_value arc = last (policies arc)

-- ---- reading

unfoldable pub qualifier_at : Read (List ℕ)
qualifier_at p =
    opened_at (element_at SEQUENCE p) p.at
    (read_constructed no_rules (told_at second_part (read_member (λ q. fixed_field (content_at OBJECT_IDENTIFIER no_rules q) q.at 27 id_cps) (λ _. last_at ia5_at))) no_rules)

unfoldable pub qualifiers_at : Read (List ℕ)
qualifiers_at p = opened_at (element_at SEQUENCE p) p.at (read_constructed no_rules (last_at qualifier_at) no_rules)

unfoldable pub policy_at : ℕ → Read (Option (List ℕ))
policy_at arc p =
    opened_at (element_at SEQUENCE p) p.at
    (read_constructed no_rules (told_at second_part (read_member (λ q. fixed_field (content_at OBJECT_IDENTIFIER no_rules q) q.at 27 (id_cp arc)) (λ _. optional_at qualifiers_at))) no_rules)

unfoldable pub policies_at : ℕ → Read (Option (List ℕ))
policies_at arc p = opened_at (element_at SEQUENCE p) p.at (read_constructed no_rules (last_at (policy_at arc)) no_rules)

-- what was read of a value, or the first fault
unfoldable pub policies_all : ℕ → List ℕ → Result (Option (List ℕ)) Fault
policies_all arc value = last_at (policies_at arc) (place_of 0 value)
