-- The attributes of an object that is spelled have fewer than 2^32 octets.
use Rattle.std.proofs.Common.{ℕ, ◌<◌, ◌^◌, List, length, subst}
use Rattle.signed_objects.specs.Attributes.{Said}
use Rattle.signed_objects.specs.Cms.{signed_attributes, SignedParts, signed_members, Signer, signer_info, signer_infos, ObjectParts, signed_data, wrapped_data, content_info, object}

-- a list is short
abbrev pub IsShort : List ℕ → Type 0
IsShort octets = length octets < 2 ^ 32

attributes_short : (v : List ℕ × Said) (bytes : List ℕ) → signed_attributes.Spells v bytes → IsShort v.0
unfolding signed_attributes
attributes_short v bytes s = subst IsShort s.2.0 s.1.short

members_short : (v : SignedParts) (bytes : List ℕ) → signed_members.Spells v bytes → IsShort v.0.0
members_short v bytes s = subst (λ (w : SignedParts). IsShort w.0.0) s.2 (attributes_short s.0.1.0 s.1.4.0 s.1.4.3)

signer_short : (v : Signer) (bytes : List ℕ) → signer_info.Spells v bytes → IsShort v.octets
unfolding signer_info
signer_short v bytes s =
    let m = s.2.1 in
    subst (λ (w : Signer). IsShort w.octets) m.2 (members_short m.0.1.1 m.1.4.1 m.1.4.4)

signers_short : (v : Signer) (bytes : List ℕ) → signer_infos.Spells v bytes → IsShort v.octets
unfolding signer_infos
signers_short v bytes s =
    let m = s.2.1 in
    subst (λ (w : Signer). IsShort w.octets) m.2 (signer_short m.0.0 m.1.0 m.1.3)

data_short : (o : ObjectParts) (bytes : List ℕ) → signed_data.Spells o bytes → IsShort o.signer.octets
unfolding signed_data
data_short o bytes s =
    let m = s.2.1 in
    let by = m.1.4.4.4 in
    subst (λ (w : ObjectParts). IsShort w.signer.octets) m.2 (signers_short m.0.1.1.1.1 by.1 by.4)

-- as in the object
pub octets_short : (o : ObjectParts) (der : List ℕ) → object.Spells o der → IsShort o.signer.octets
unfolding object content_info wrapped_data
octets_short o der s =
    let m = s.2.1 in
    let w = m.1.4 in
    subst (λ (x : ObjectParts). IsShort x.signer.octets) m.2 (data_short m.0.1 w.0 w.2.1)
