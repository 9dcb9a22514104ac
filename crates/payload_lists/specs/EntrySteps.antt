-- Steps of reading a payload list.
use Rattle.std.specs.Prelude.{◌≡◌, ℕ, List}
use Rattle.prefixes.specs.Payload.{Payload, IsPayload}
use Rattle.prefixes.specs.Text.{PrefixText}

-- These numbers and this text make this payload.
pub record MakesPayload (asn max_len : ℕ) (text : List ℕ) (v : Payload) : Type 0 where
  pub asn_is : asn ≡ v.asn
  pub max_len_is : max_len ≡ v.max_len
  pub prefix : PrefixText v.prefix text
  pub payload : IsPayload v
