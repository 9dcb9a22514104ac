-- The records that cover a route are of three kinds.
use Rattle.std.proofs.Common.{◌≡◌, ◌∙◌, ℕ, suc, ◌+◌, Bool, true, false, not, ◌&&◌, ◌||◌, cond, List, [], ◌∷◌, length, filter, refl, sym, subst, ap, arith}
use Rattle.std.specs.List.{list_any}
use Rattle.prefixes.specs.Payload.{Payload}
use Rattle.vrps.specs.Origin.{covers_route, is_origin, matches}
use Rattle.vrps.specs.VrpSet.{listing}
use Rattle.vrps.specs.declared.origin.OriginState.TheVariants.{Valid, Invalid, NotFound}
use Rattle.status_pages.specs.Kinds.{ListsCover, OneKindEach, OriginIsTooShort, is_within}

-- one of three, by three tests
matching : (c w o : Bool) → (c && (w && o)) ≡ (c && (not (c && not w) && not (c && (w && not o))))
matching false w o = refl
matching true false o = refl
matching true true false = refl
matching true true true = refl

too_small : (c w o : Bool) → (c && not w) ≡ (c && (not (c && (w && o)) && not (c && (w && not o))))
too_small false w o = refl
too_small true false o = refl
too_small true true false = refl
too_small true true true = refl

other_as : (c w o : Bool) → (c && (w && not o)) ≡ (c && (not (c && (w && o)) && not (c && not w)))
other_as false w o = refl
other_as true false o = refl
other_as true true false = refl
other_as true true true = refl

pub one_kind_each : OneKindEach
one_kind_each r v = record {
  matching = matching (covers_route r v) (is_within r v) (is_origin r.origin v.asn);
  too_small = too_small (covers_route r v) (is_within r v) (is_origin r.origin v.asn);
  other_as = other_as (covers_route r v) (is_within r v) (is_origin r.origin v.asn);
}

-- one member more in one of three lists
one_more : (w o : Bool) (v : Payload) (n : ℕ) (ms ss os : List Payload) → n ≡ length ms + length ss + length os
    → suc n ≡ length (cond (w && o) (v ∷ ms) ms) + length (cond (not w) (v ∷ ss) ss) + length (cond (w && not o) (v ∷ os) os)
one_more false o v n ms ss os h = omega (arith, h)
one_more true false v n ms ss os h = omega (arith, h)
one_more true true v n ms ss os h = omega (arith, h)

module _ (c w o : Payload → Bool) where
  abbrev ms : List Payload → List Payload
  ms vs = filter (λ v. c v && (w v && o v)) vs

  abbrev ss : List Payload → List Payload
  ss vs = filter (λ v. c v && not (w v)) vs

  abbrev os : List Payload → List Payload
  os vs = filter (λ v. c v && (w v && not (o v))) vs

  step : (v : Payload) (vs : List Payload) (b : Bool) → c v ≡ b → length vs ≡ length (ms vs) + length (ss vs) + length (os vs)
      → length (cond b (v ∷ vs) vs) ≡ length (ms (cond b (v ∷ vs) vs)) + length (ss (cond b (v ∷ vs) vs)) + length (os (cond b (v ∷ vs) vs))
  step v vs false is h = h
  step v vs true is h =
      subst (λ (b : Bool). suc (length vs) ≡ length (cond (b && (w v && o v)) (v ∷ ms vs) (ms vs)) + length (cond (b && not (w v)) (v ∷ ss vs) (ss vs)) + length (cond (b && (w v && not (o v))) (v ∷ os vs) (os vs)))
      (sym is) (one_more (w v) (o v) v (length vs) (ms vs) (ss vs) (os vs) h)

  pub parted : (vs : List Payload) → length (filter c vs) ≡ length (ms (filter c vs)) + length (ss (filter c vs)) + length (os (filter c vs))
  parted [] = refl
  parted (v ∷ vs) = step v (filter c vs) (c v) refl (parted vs)

pub lists_cover : ListsCover
lists_cover s r = parted (covers_route r) (is_within r) (λ v. is_origin r.origin v.asn) (listing s)

-- what some member of a filtered list passes
any_kept : (p q : Payload → Bool) (vs : List Payload) → list_any q (filter p vs) ≡ list_any (λ v. p v && q v) vs
any_kept p q [] = refl
any_kept p q (v ∷ vs) =
    elim (p v) as (λ b. list_any q (cond b (v ∷ filter p vs) (filter p vs)) ≡ ((b && q v) || list_any (λ u. p u && q u) vs)) [
      | true ↦ ap (λ b. q v || b) (any_kept p q vs)
      | false ↦ any_kept p q vs
    ]

neither : (a b : Bool) → (a || b) ≡ false → (a ≡ false) × (b ≡ false)
neither false b h = (refl, h)
neither true b h = absurd (let e : true ≡ false = h in cc)

-- a covering record of the origin that does not match is too short
unmatched : (c w o : Bool) → (c && (w && o)) ≡ false → (c && ((c && not w) && o)) ≡ (c && o)
unmatched false w o h = refl
unmatched true false o h = refl
unmatched true true false h = refl
unmatched true true true h = absurd (let e : true ≡ false = h in cc)

module _ (c w o : Payload → Bool) where
  too_short_alike : (vs : List Payload) → list_any (λ v. c v && (w v && o v)) vs ≡ false
      → list_any (λ v. c v && ((c v && not (w v)) && o v)) vs ≡ list_any (λ v. c v && o v) vs
  too_short_alike [] h = refl
  too_short_alike (v ∷ vs) h =
      let n = neither (c v && (w v && o v)) _ h in
      ap (λ b. b || list_any (λ u. c u && ((c u && not (w u)) && o u)) vs) (unmatched (c v) (w v) (o v) n.0)
      ∙ ap (λ b. (c v && o v) || b) (too_short_alike vs n.1)

  pub origin_too_short : (vs : List Payload) → list_any (λ v. c v && (w v && o v)) vs ≡ false
      → list_any o (filter (λ v. c v && not (w v)) (filter c vs)) ≡ list_any o (filter c vs)
  origin_too_short vs h =
      any_kept (λ v. c v && not (w v)) o (filter c vs) ∙ any_kept c (λ v. (c v && not (w v)) && o v) vs
      ∙ too_short_alike vs h ∙ sym (any_kept c o vs)

none_matches : (m k : Bool) → cond m Valid (cond k Invalid NotFound) ≡ Invalid → m ≡ false
none_matches false k h = refl
none_matches true k h = absurd (let e : Valid ≡ Invalid = h in cc)

pub origin_is_too_short : OriginIsTooShort
origin_is_too_short s r is =
    origin_too_short (covers_route r) (is_within r) (λ v. is_origin r.origin v.asn) (listing s)
    (none_matches (list_any (matches r) (listing s)) (list_any (covers_route r) (listing s)) is)
