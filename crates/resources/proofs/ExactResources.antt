-- Reading resources is exact.
use Rattle.std.proofs.Common.{ℕ, Bool, true, false, List, [], refl, sym}
use Rattle.der_lite.specs.Der.{head_rules, number}
use Rattle.der_lite.specs.Values.{bits_value, between_rules}
use Rattle.der_lite.specs.Grammar.{element, primitive, constructed, last, member, optional, each}
use Rattle.der_lite.specs.DerReading.{content_at}
use Rattle.der_lite.specs.Decoding.{read_constructed, read_member, read_each}
use Rattle.der_lite.specs.Fields.{field_at, last_at, optional_at}
use Rattle.der_lite.specs.Der.{IntSpells}
use Rattle.std.specs.Prelude.{pos}
use Rattle.der_lite.proofs.Exact.{ExactElement, ExactMembers, exact_primitive, exact_constructed, exact_member, exact_each}
use Rattle.der_lite.proofs.FieldLaws.{exact_field, exact_last_at, exact_optional_at}
use Rattle.der_lite.proofs.Integers.{exact_between}
use Rattle.der_forms.specs.Combinators.{no_rules, told_content, told_element, sole, fixed}
use Rattle.der_forms.specs.CombinatorReading.{told_content_at, told_element_at, sole_at}
use Rattle.der_forms.proofs.ExactCombinators.{exact_opened, exact_fixed, exact_told_content, exact_told_element, exact_either, exact_sole}
use Rattle.resources.specs.declared.kind.ResourceKind.{ResourceKind}
use Rattle.resources.specs.declared.kind.ResourceKind.TheVariants.{Ipv4, Ipv6, As}
use Rattle.resources.specs.Resources as a
use Rattle.resources.specs.Reading as r

-- bits that keep rules
exact_bits : (rules : List ℕ → List (ℕ × Bool)) → ExactElement (element 3 (head_rules 3) (primitive a.BitsSpell rules)) (λ p. field_at (content_at 3 no_rules p) p.at rules bits_value)
exact_bits rules = exact_field 3 no_rules rules bits_value a.BitsSpell (exact_primitive a.BitsSpell rules bits_value (λ content bytes kept. refl) (λ content bits kept s. sym s))

exact_prefix : (width : ℕ) → ExactElement (a.prefix width) (r.prefix_at width)
unfolding a.prefix r.prefix_at
exact_prefix width = exact_told_element (a.prefix_of width) (element 3 (head_rules 3) (primitive a.BitsSpell (a.address_rules width))) (λ p. field_at (content_at 3 no_rules p) p.at (a.address_rules width) bits_value) (exact_bits (a.address_rules width))

exact_bound : (bit : Bool) (width : ℕ) → ExactElement (a.bound bit width) (r.bound_at bit width)
unfolding a.bound r.bound_at
exact_bound bit width = exact_bits (a.bound_rules bit width)

exact_address_range : (width : ℕ) → ExactElement (a.address_range width) (r.address_range_at width)
unfolding a.address_range r.address_range_at
exact_address_range width =
    let members = member (a.bound false width) (λ _. last (a.bound true width)) in
    let read = read_member (r.bound_at false width) (λ _. last_at (r.bound_at true width)) in
    exact_opened 48 (told_content (a.between width) (constructed no_rules members (a.bounds_rules width))) (told_content_at (a.between width) (read_constructed no_rules read (a.bounds_rules width)))
    (exact_told_content (a.between width) (constructed no_rules members (a.bounds_rules width)) (read_constructed no_rules read (a.bounds_rules width))
    (exact_constructed no_rules members read (a.bounds_rules width)
    (exact_member (a.bound false width) (r.bound_at false width) (exact_bound false width) (λ _. last (a.bound true width)) (λ _. last_at (r.bound_at true width)) (λ _. exact_last_at (a.bound true width) (r.bound_at true width) (exact_bound true width)))))

exact_address_block : (width : ℕ) → ExactElement (a.address_block width) (r.address_block_at width)
unfolding a.address_block r.address_block_at
exact_address_block width = exact_either 3 (a.prefix width) (a.address_range width) (r.prefix_at width) (r.address_range_at width) (exact_prefix width) (exact_address_range width)

exact_as_number : ExactElement a.as_number r.as_number_at
unfolding a.as_number r.as_number_at
exact_as_number = exact_field 2 no_rules (between_rules 0 4294967295 14) number (λ n content. IntSpells (pos n) content) (exact_between 0 4294967295 14)

exact_as_range : ExactElement a.as_range r.as_range_at
unfolding a.as_range r.as_range_at
exact_as_range =
    let members = member a.as_number (λ _. last a.as_number) in
    let read = read_member r.as_number_at (λ _. last_at r.as_number_at) in
    exact_opened 48 (told_content a.from_to (constructed no_rules members a.from_to_rules)) (told_content_at a.from_to (read_constructed no_rules read a.from_to_rules))
    (exact_told_content a.from_to (constructed no_rules members a.from_to_rules) (read_constructed no_rules read a.from_to_rules)
    (exact_constructed no_rules members read a.from_to_rules
    (exact_member a.as_number r.as_number_at exact_as_number (λ _. last a.as_number) (λ _. last_at r.as_number_at) (λ _. exact_last_at a.as_number r.as_number_at exact_as_number))))

exact_as_block : ExactElement a.as_block r.as_block_at
unfolding a.as_block r.as_block_at
exact_as_block =
    exact_either 2 (told_element a.alone a.as_number) a.as_range (told_element_at a.alone r.as_number_at) r.as_range_at
    (exact_told_element a.alone a.as_number r.as_number_at exact_as_number) exact_as_range

exact_block : (kind : ResourceKind) → ExactElement (a.block kind) (r.block_at kind)
unfolding a.block r.block_at
exact_block Ipv4 = exact_address_block 32
exact_block Ipv6 = exact_address_block 128
exact_block As = exact_as_block

exact_blocks : (kind : ResourceKind) → ExactElement (a.blocks kind) (r.blocks_at kind)
unfolding a.blocks r.blocks_at
exact_blocks kind =
    exact_opened 48 (constructed no_rules (each (λ _. a.block kind)) a.block_rules) (read_constructed no_rules (read_each (λ _. r.block_at kind)) a.block_rules)
    (exact_constructed no_rules (each (λ _. a.block kind)) (read_each (λ _. r.block_at kind)) a.block_rules (exact_each (λ _. a.block kind) (λ _. r.block_at kind) (λ _. exact_block kind)))

exact_null : ExactElement (fixed 15 5 []) r.null_at
unfolding r.null_at
exact_null = exact_fixed 15 5 []

exact_choice : (kind : ResourceKind) → ExactElement (a.choice kind) (r.choice_at kind)
unfolding a.choice r.choice_at
exact_choice kind =
    exact_either 5 (told_element a.inherits (fixed 15 5 [])) (told_element a.lists (a.blocks kind)) (told_element_at a.inherits r.null_at) (told_element_at a.lists (r.blocks_at kind))
    (exact_told_element a.inherits (fixed 15 5 []) r.null_at exact_null) (exact_told_element a.lists (a.blocks kind) (r.blocks_at kind) (exact_blocks kind))

exact_family : ExactElement a.family r.family_at
unfolding a.family r.family_at
exact_family =
    exact_field 4 no_rules a.family_rules a.family_kind a.FamilySpells
    (exact_primitive a.FamilySpells a.family_rules a.family_kind (λ content bytes kept. refl) (λ content kind kept s. sym s))

exact_address_family : ExactElement a.address_family r.address_family_at
unfolding a.address_family r.address_family_at
exact_address_family =
    let members = member a.family (λ kind. last (a.choice kind)) in
    let read = read_member r.family_at (λ kind. last_at (r.choice_at kind)) in
    exact_opened 48 (constructed no_rules members no_rules) (read_constructed no_rules read no_rules)
    (exact_constructed no_rules members read no_rules
    (exact_member a.family r.family_at exact_family (λ kind. last (a.choice kind)) (λ kind. last_at (r.choice_at kind)) (λ kind. exact_last_at (a.choice kind) (r.choice_at kind) (exact_choice kind))))

exact_ip_addr_blocks : ExactElement a.ip_addr_blocks r.ip_addr_blocks_at
unfolding a.ip_addr_blocks r.ip_addr_blocks_at
exact_ip_addr_blocks =
    let members = member a.address_family (λ _. optional a.address_family) in
    let read = read_member r.address_family_at (λ _. optional_at r.address_family_at) in
    exact_opened 48 (told_content a.ip_of (constructed no_rules members a.order_rules)) (told_content_at a.ip_of (read_constructed no_rules read a.order_rules))
    (exact_told_content a.ip_of (constructed no_rules members a.order_rules) (read_constructed no_rules read a.order_rules)
    (exact_constructed no_rules members read a.order_rules
    (exact_member a.address_family r.address_family_at exact_address_family (λ _. optional a.address_family) (λ _. optional_at r.address_family_at)
    (λ _. exact_optional_at a.address_family r.address_family_at exact_address_family))))

pub exact_ip_value : ExactMembers a.ip_value (last_at r.ip_addr_blocks_at)
unfolding a.ip_value
exact_ip_value = exact_last_at a.ip_addr_blocks r.ip_addr_blocks_at exact_ip_addr_blocks

exact_asnum : ExactElement a.asnum r.asnum_at
unfolding a.asnum r.asnum_at
exact_asnum =
    exact_opened 160 (constructed no_rules (last (a.choice As)) no_rules) (read_constructed no_rules (last_at (r.choice_at As)) no_rules)
    (exact_constructed no_rules (last (a.choice As)) (last_at (r.choice_at As)) no_rules (exact_last_at (a.choice As) (r.choice_at As) (exact_choice As)))

exact_as_identifiers : ExactElement a.as_identifiers r.as_identifiers_at
unfolding a.as_identifiers r.as_identifiers_at
exact_as_identifiers =
    exact_opened 48 (constructed no_rules (sole 16 a.asnum) no_rules) (read_constructed no_rules (sole_at 16 r.asnum_at) no_rules)
    (exact_constructed no_rules (sole 16 a.asnum) (sole_at 16 r.asnum_at) no_rules (exact_sole 16 a.asnum r.asnum_at exact_asnum))

pub exact_as_value : ExactMembers a.as_value (last_at r.as_identifiers_at)
unfolding a.as_value
exact_as_value = exact_last_at a.as_identifiers r.as_identifiers_at exact_as_identifiers
