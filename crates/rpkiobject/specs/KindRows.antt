-- Kinds that the program knows, worked out.
use Rattle.std.specs.Prelude.{◌≡◌, codes, Some, None, refl}
use Rattle.file_kinds.specs.declared.kind.FileKind.TheVariants.{Certificate, Roa, TrustAnchorKey, PrefixList}
use Rattle.rpkiobject.specs.Kinds.{known_of, word_of}

a_roa : known_of (Some Roa) ≡ Some Roa
a_roa = refl

a_key : word_of (Some TrustAnchorKey) ≡ codes "trust-anchor-key"
a_key = refl

-- a file that is named as a certificate may hold any content, and so may one that is named as a list of prefixes
a_certificate : known_of (Some Certificate) ≡ None
a_certificate = refl

a_prefix_list : known_of (Some PrefixList) ≡ None
a_prefix_list = refl

of_a_prefix_list : word_of (Some PrefixList) ≡ codes "other"
of_a_prefix_list = refl
