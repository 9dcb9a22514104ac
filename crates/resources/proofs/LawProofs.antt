-- The laws of resources, and what reading a whole value gives.
use Rattle.std.proofs.Common.{ℕ, List, Result, Ok, Err}
use Rattle.der_lite.specs.Place.{place_of}
use Rattle.der_lite.specs.Der.{IsBytes}
use Rattle.der_lite.specs.Fields.{last_at}
use Rattle.der_lite.specs.Grammar.{Members}
use Rattle.der_lite.specs.Decoding.{ReadAll}
use Rattle.der_lite.proofs.Exact.{ExactMembers}
use Rattle.der_lite.proofs.GrammarLaws as laws
use Rattle.resources.specs.declared.fault.ResourceError.{ResourceError}
use Rattle.resources.specs.declared.fault.ResourceError.TheVariants.{At, Memory}
use Rattle.resources.specs.Faults.{fault_of}
use Rattle.resources.specs.Gives.{GivesAllOrMemory, Reads}
use Rattle.resources.specs.Resources as a
use Rattle.resources.specs.Reading as r
use Rattle.resources.specs.Laws.{IsOneOrFaulty, OneIpValue, OneAsValue}
use Rattle.resources.proofs.ExactResources.{exact_ip_value, exact_as_value}

one_or_faulty : {V : Type 0} (m : Members V) (read : ReadAll V) → ExactMembers m read → IsOneOrFaulty m
one_or_faulty m read exact = record {
  one_value = λ octets v w a b. laws.one_value m read exact (place_of 0 octets) v w a b;
  one_fault = λ octets f g a b. laws.one_fault m read exact (place_of 0 octets) f g a b;
  apart = λ octets v f a b. laws.apart m read exact (place_of 0 octets) v f a b;
  either = λ octets are. laws.either m read exact (place_of 0 octets) are;
}

pub ip_law : OneIpValue
ip_law = one_or_faulty a.ip_value (last_at r.ip_addr_blocks_at) exact_ip_value

pub as_law : OneAsValue
as_law = one_or_faulty a.as_value (last_at r.as_identifiers_at) exact_as_value

-- what was read to the end is what the octets spell
read_whole : {V : Type 0} (m : Members V) (read : ReadAll V) → ExactMembers m read → (octets : List ℕ) → IsBytes octets → (result : Result V ResourceError) → GivesAllOrMemory (λ v. v) result (read (place_of 0 octets)) → Reads m result octets
read_whole m read x octets bytes (Ok v) h = x.takes (place_of 0 octets) v bytes h
read_whole m read x octets bytes (Err (At fault)) h = x.faults (place_of 0 octets) (fault_of fault) bytes h
read_whole m read x octets bytes (Err Memory) h = tt

pub ip_read : (octets : List ℕ) → IsBytes octets → (result : Result _ ResourceError) → GivesAllOrMemory (λ v. v) result (r.ip_all octets) → Reads a.ip_value result octets
unfolding r.ip_all
ip_read = read_whole a.ip_value (last_at r.ip_addr_blocks_at) exact_ip_value

pub as_read : (octets : List ℕ) → IsBytes octets → (result : Result _ ResourceError) → GivesAllOrMemory (λ v. v) result (r.as_all octets) → Reads a.as_value result octets
unfolding r.as_all
as_read = read_whole a.as_value (last_at r.as_identifiers_at) exact_as_value
