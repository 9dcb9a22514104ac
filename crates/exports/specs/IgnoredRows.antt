-- What is not served of an export, worked out.
use Rattle.std.specs.Prelude.{◌≡◌, ℕ, List, Option, Some, option_and_then, codes, refl}
use Rattle.serde_json.specs.Data.{Data, no_items, item, array, object, no_members, member}
use Rattle.serde_json.specs.Read as json
use Rattle.serde_json.proofs.OnLiterals.{serde_json_on_literals}
use Rattle.exports.specs.Ignored.{IsIgnored, elements_at}

-- how many elements the member of this name has in the value of a text
abbrev elements_in : List ℕ → List ℕ → Option ℕ
elements_in name text = option_and_then (λ d. Some (elements_at name d)) (json.read text)

-- ---- ASPAs: none, one, two

aspas_missing : elements_in (codes "aspas") (codes "{\"roas\":[]}") ≡ Some 0
unfolding serde_json_on_literals
aspas_missing = refl

no_aspas : elements_in (codes "aspas") (codes "{\"aspas\":[],\"roas\":[]}") ≡ Some 0
unfolding serde_json_on_literals
no_aspas = refl

-- as rpki-client writes one: what an element has within does not count
one_aspa : elements_in (codes "aspas") (codes "{\"roas\":[],\"aspas\":[{\"customer_asid\":64496,\"providers\":[64497,64498]}]}") ≡ Some 1
unfolding serde_json_on_literals
one_aspa = refl

two_aspas : elements_in (codes "aspas") (codes "{\"roas\":[],\"aspas\":[{\"aspas\":[1,2,3]},[7,[]]]}") ≡ Some 2
unfolding serde_json_on_literals
two_aspas = refl

-- ---- router keys, under either name

one_bgpsec_key : elements_in (codes "bgpsec_keys") (codes "{\"bgpsec_keys\":[{\"asn\":64496}]}") ≡ Some 1
unfolding serde_json_on_literals
one_bgpsec_key = refl

two_bgpsec_keys : elements_in (codes "bgpsec_keys") (codes "{\"bgpsec_keys\":[{},{}]}") ≡ Some 2
unfolding serde_json_on_literals
two_bgpsec_keys = refl

one_router_key : elements_in (codes "routerKeys") (codes "{\"routerKeys\":[{\"asn\":\"AS64496\"}]}") ≡ Some 1
unfolding serde_json_on_literals
one_router_key = refl

two_router_keys : elements_in (codes "routerKeys") (codes "{\"routerKeys\":[{},{}],\"bgpsec_keys\":[{}]}") ≡ Some 2
unfolding serde_json_on_literals
two_router_keys = refl

-- ---- what is counted of no other value

-- an object in place of the array, a member of metadata, and an array as the root
not_an_array : elements_in (codes "aspas") (codes "{\"aspas\":{\"ipv4\":[1,2]}}") ≡ Some 0
unfolding serde_json_on_literals
not_an_array = refl

not_in_the_root : elements_in (codes "aspas") (codes "{\"metadata\":{\"aspas\":[1,2]}}") ≡ Some 0
unfolding serde_json_on_literals
not_in_the_root = refl

not_in_a_list : elements_in (codes "aspas") (codes "[{\"aspas\":[1,2]}]") ≡ Some 0
unfolding serde_json_on_literals
not_in_a_list = refl

-- ---- both kinds: one ASPA, and three keys under two names

abbrev one : Data
one = array (item (object no_members) no_items)

abbrev two : Data
two = array (item (object no_members) (item (object no_members) no_items))

both_kinds : IsIgnored (object (member (codes "aspas") one (member (codes "bgpsec_keys") one (member (codes "routerKeys") two no_members)))) (record { aspas = 1; router_keys = 3 })
both_kinds = record { aspas = refl; router_keys = refl }
