-- PDUs at the front of a stream (RFC 8210 section 5).
use Rattle.std.specs.Prelude.{◌≡◌, ℕ, Bool, true, false, ◌&&◌, if◌then◌else◌, List, [], ◌∷◌, ◌++◌, drop, refl}
use Rattle.std.proofs.Common.{sym, ap, ◌∙◌, subst, append_assoc}
use Rattle.std.specs.List.{AllByRecursion}
use Rattle.prefixes.specs.declared.prefix.IpPrefix.{IpPrefix}
use Rattle.prefixes.specs.declared.prefix.IpPrefix.TheVariants.{V4, V6}
use Rattle.rtr_pdu.specs.Stream.{AreRead, NoBeginning, WrittenIsRead, as_read, is_notify, is_notify_header}
use Rattle.rtr_pdu.specs.Unit.{IsUnitOf, Reads, prefix_bytes, zeros}
use Rattle.rtr_pdu.specs.declared.unit.Unit.{Unit}
use Rattle.rtr_pdu.specs.declared.unit.Unit.TheVariants.{SerialNotify, SerialQuery, ResetQuery, CacheResponse, Prefix, EndOfData, EndOfData0, CacheReset, RouterKey, ErrorReport}
use Rattle.rtr_pdu.specs.declared.version.Version.{Version}
use Rattle.rtr_pdu.specs.declared.version.Version.TheVariants.{V1}
use Rattle.rtr_ends.specs.Answer.{sent, sent_all}

-- Each PDU is sent in version 1.
begins : (u : Unit) → (bytes : List ℕ) × (sent V1 u ≡ 1 ∷ bytes)
begins (SerialNotify session serial) = (_, refl)
begins (SerialQuery session serial) = (_, refl)
begins ResetQuery = (_, refl)
begins (CacheResponse session) = (_, refl)
begins (Prefix announce v) = by_family v.prefix
  where
    by_family : (p : IpPrefix) → (bytes : List ℕ) × (prefix_bytes V1 announce p v.max_len v.asn zeros ≡ 1 ∷ bytes)
    by_family (V4 p) = (_, refl)
    by_family (V6 p) = (_, refl)
begins (EndOfData session serial refresh retry expire) = (_, refl)
begins (EndOfData0 session serial) = (_, refl)
begins CacheReset = (_, refl)
begins (RouterKey k) = (_, refl)
begins (ErrorReport r) = (_, refl)

-- Such bytes are read as they are, before agreement too.
read_none : (any : Bool) → as_read V1 any [] ≡ []
unfolding as_read
read_none true = refl
read_none false = refl

read_one : (any : Bool) (bytes : List ℕ) → as_read V1 any (1 ∷ bytes) ≡ 1 ∷ bytes
unfolding as_read
read_one any bytes = by_test (any && is_notify_header (1 ∷ bytes))
  where
    by_test : (b : Bool) → (if b then 1 ∷ drop 1 (1 ∷ bytes) else 1 ∷ bytes) ≡ 1 ∷ bytes
    by_test true = refl
    by_test false = refl

head_of : (x y : ℕ) (xs ys : List ℕ) → x ∷ xs ≡ y ∷ ys → x ≡ y
head_of x y xs ys e = cc

read_front : (any : Bool) (front back other : List ℕ) → front ++ back ≡ 1 ∷ other → as_read V1 any front ≡ front
read_front any [] back other e = read_none any
read_front any (b ∷ front) back other e = subst (λ x. as_read V1 any (x ∷ front) ≡ x ∷ front) (sym (head_of b 1 (front ++ back) other e)) (read_one any front)

no_front : (front back : List ℕ) → front ++ back ≡ [] → front ≡ []
no_front [] back e = refl
no_front (b ∷ front) back e = cc

module _ (apart : NoBeginning) (written : WrittenIsRead) where
  -- No PDU is without a byte.
  pub never_empty : (version : Version) (u : Unit) → Reads version u [] → ⊥
  never_empty version u r = let e = (apart version u ResetQuery [] (sent version ResetQuery) (sent version ResetQuery) [] r (written version ResetQuery tt refl) refl).1 in cc

  -- What is read from a beginning of PDUs as they are sent are the first of them.
  pub read_are_first : (any : Bool) (all units : List Unit) (front back : List ℕ) → AllByRecursion (IsUnitOf V1) all → AreRead V1 any units front → front ++ back ≡ sent_all V1 all → (rest : List Unit) × (units ++ rest ≡ all)
  read_are_first any all [] front back fit read e = (all, refl)
  read_are_first any [] (u ∷ units) front back fit read e =
      let parts : read.0 ++ (read.1 ++ back) ≡ [] = sym (append_assoc read.0 read.1 back) ∙ ap (λ f. f ++ back) (sym read.2) ∙ e in
      let none : read.0 ≡ [] = no_front read.0 (read.1 ++ back) parts in
      absurd (never_empty V1 u (subst (λ b. Reads V1 u b) (ap (as_read V1 any) none ∙ read_none any) read.3))
  read_are_first any (v ∷ all) (u ∷ units) front back fit read e =
      let start = begins v in
      let parts : read.0 ++ (read.1 ++ back) ≡ sent V1 v ++ sent_all V1 all = sym (append_assoc read.0 read.1 back) ∙ ap (λ f. f ++ back) (sym read.2) ∙ e in
      let seen : as_read V1 any read.0 ≡ read.0 = read_front any read.0 (read.1 ++ back) (start.0 ++ sent_all V1 all) (parts ∙ ap (λ b. b ++ sent_all V1 all) start.1) in
      let same = apart V1 u v read.0 (sent V1 v) (read.1 ++ back) (sent_all V1 all) (subst (λ b. Reads V1 u b) seen read.3) (written V1 v fit.0.0 fit.0.1) parts in
      let later = read_are_first (any && is_notify u) all units read.1 back fit.1 read.4 same.1 in
      (later.0, λ i. same.0 i ∷ later.1 i)
