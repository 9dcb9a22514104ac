-- Trust anchor locators, worked out.
use Rattle.std.specs.Prelude.{◌≡◌, true, false, [], ◌∷◌, ◌++◌, map, length, replicate, refl, codes}
use Rattle.std.specs.Str.Lines.{strip_carriage_return}
use Rattle.base64.specs.Rfc4648.{encode_symbols}
use Rattle.trust_anchors.specs.Keys.{base64, key_head, key_tail}
use Rattle.trust_anchors.specs.Locators.{has_scheme, rsync, https}

-- RFC 4648 section 10
examples : map base64 ([] ∷ codes "f" ∷ codes "fo" ∷ codes "foo" ∷ codes "foob" ∷ codes "fooba" ∷ codes "foobar" ∷ [])
    ≡ [] ∷ codes "Zg==" ∷ codes "Zm8=" ∷ codes "Zm9v" ∷ codes "Zm9vYg==" ∷ codes "Zm9vYmE=" ∷ codes "Zm9vYmFy" ∷ []
unfolding encode_symbols
examples = refl

-- how the key of each RIR begins
begins : base64 key_head ≡ codes "MIIBIjANBgkqhkiG9w0BAQEFAAOCAQ8AMIIBCgKCAQEA"
unfolding encode_symbols
begins = refl

-- `openssl genrsa 2048 | openssl rsa -pubout -outform DER | wc -c`
key_length : length (key_head ++ (replicate 256 255 ++ key_tail)) ≡ 294
key_length = refl

schemes : (rsync ≡ codes "rsync://") × (https ≡ codes "https://")
schemes = (refl, refl)

-- the URI of an RIR
of_rsync : has_scheme (codes "rsync://rpki.ripe.net/ta/ripe-ncc-ta.cer") ≡ true
of_rsync = refl

of_https : has_scheme (codes "https://rpki.ripe.net/ta/ripe-ncc-ta.cer") ≡ true
of_https = refl

of_http : has_scheme (codes "http://rpki.ripe.net/ta/ripe-ncc-ta.cer") ≡ false
of_http = refl

in_capitals : has_scheme (codes "RSYNC://rpki.ripe.net/ta/ripe-ncc-ta.cer") ≡ false
in_capitals = refl

-- one CR alone is of the line break
returns : (strip_carriage_return (codes "a\r") ≡ codes "a") × (strip_carriage_return (codes "a\r\r") ≡ codes "a\r") × (strip_carriage_return [] ≡ [])
returns = (refl, refl, refl)
