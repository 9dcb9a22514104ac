-- A flat value lies over one spelled tree only.
use Rattle.std.proofs.Common.{◌≡◌, ◌≢◌, ℕ, Bool, true, false, not, ◌||◌, eqb, ltb, List, [], ◌∷◌, ◌++◌, length, get_or, Option, Some, None, refl, sym, ap, subst, ◌∙◌}
use Rattle.std.proofs.lemmas.Bool.{or_parts, eq-eqb}
use Rattle.std.proofs.lemmas.List.{append-nil}
use Rattle.der_lite.specs.Grammar.{EachSpells, OptionSpells}
use Rattle.prefixes.specs.declared.prefix.IpPrefix.{IpPrefix}
use Rattle.prefixes.specs.declared.prefix.IpPrefix.TheVariants.{V4, V6}
use Rattle.der_lite.proofs.Rules.{kept_first}
use Rattle.payloads.specs.declared.roa_family.AddressFamily.{AddressFamily}
use Rattle.payloads.specs.declared.roa_family.AddressFamily.TheVariants.{Ipv4, Ipv6}
use Rattle.payloads.specs.declared.roa_entry.RoaEntry.{RoaEntry}
use Rattle.payloads.specs.Roa.{family_number, is_family, address_family, address, of_bits, ip_address, entry_behind, addresses, Family, ip_family, ip_addr_blocks, RoaTree, route_origin_attestation, roa_payload}
use Rattle.payloads.specs.RoaValues.{RoaValue, entries_of, flat, TreeSpells, RoaSpells}

-- ---- entries of one family

-- the family of a prefix
abbrev pub family_of : IpPrefix → AddressFamily
family_of (V4 p) = Ipv4
family_of (V6 p) = Ipv6

-- that of bits
pub family_of_bits : (family : AddressFamily) (bits : List Bool) → family_of (of_bits family bits) ≡ family
family_of_bits Ipv4 bits = refl
family_of_bits Ipv6 bits = refl

-- all are of this family
abbrev pub AllIn : AddressFamily → List RoaEntry → Type 0
AllIn family [] = Unit {0}
AllIn family (e ∷ es) = (family_of e.prefix ≡ family) × AllIn family es

-- the first of them, if there is one, is of another family
abbrev HeadOther : AddressFamily → List RoaEntry → Type 0
HeadOther family [] = Unit {0}
HeadOther family (e ∷ es) = family_of e.prefix ≢ family

-- two lists that are one begin with the same
first_is : (a b : RoaEntry) (xs ys : List RoaEntry) → a ∷ xs ≡ b ∷ ys → (a ≡ b) × (xs ≡ ys)
first_is a b xs ys e = (let h = e in cc, let h = e in cc)

-- a list is split where the family changes
split_one : (family : AddressFamily) (xs ys a b : List RoaEntry) → AllIn family xs → AllIn family ys → HeadOther family a → HeadOther family b → xs ++ a ≡ ys ++ b → (xs ≡ ys) × (a ≡ b)
split_one family [] [] a b s t ha hb e = (refl, e)
split_one family [] (y ∷ ys) [] b s t ha hb e = absurd (let h = e in cc)
split_one family [] (y ∷ ys) (c ∷ a) b s t ha hb e = absurd (ha (ap (λ (x : RoaEntry). family_of x.prefix) (first_is c y a (ys ++ b) e).0 ∙ t.0))
split_one family (x ∷ xs) [] a [] s t ha hb e = absurd (let h = e in cc)
split_one family (x ∷ xs) [] a (c ∷ b) s t ha hb e = absurd (hb (ap (λ (x : RoaEntry). family_of x.prefix) (sym (first_is x c (xs ++ a) b e).0) ∙ s.0))
split_one family (x ∷ xs) (y ∷ ys) a b s t ha hb e =
    let f = first_is x y (xs ++ a) (ys ++ b) e in
    let r = split_one family xs ys a b s.1 t.1 ha hb f.1 in
    (ap (λ (z : RoaEntry). z ∷ xs) f.0 ∙ ap (λ (l : List RoaEntry). y ∷ l) r.0, r.1)

-- ---- trees

-- a family with entries of it
pub record IsAddresses (family : Family) : Type 0 where
  pub some : family.1 ≢ []
  pub all : AllIn family.0 family.1

-- a second family that is another
abbrev IsMore : AddressFamily → Option Family → Type 0
IsMore first None = Unit {0}
IsMore first (Some more) = (more.0 ≢ first) × IsAddresses more

-- what the trees are that bytes spell
pub record IsTree (tree : RoaTree) : Type 0 where
  pub first : IsAddresses tree.1.0
  pub more : IsMore tree.1.0.0 tree.1.1

-- the entries of another family
more_other : (family : AddressFamily) (more : Option Family) → IsMore family more → HeadOther family (entries_of more)
more_other family None m = tt
more_other family (Some (other, [])) m = absurd (m.1.some refl)
more_other family (Some (other, x ∷ xs)) m = λ e. m.0 (sym m.1.all.0 ∙ e)

-- two lists that begin the same begin with one family
family_same : (f g : AddressFamily) (xs ys a b : List RoaEntry) → IsAddresses (f, xs) → IsAddresses (g, ys) → xs ++ a ≡ ys ++ b → f ≡ g
family_same f g [] ys a b i j e = absurd (i.some refl)
family_same f g (x ∷ xs) [] a b i j e = absurd (j.some refl)
family_same f g (x ∷ xs) (y ∷ ys) a b i j e = sym i.all.0 ∙ ap (λ (z : RoaEntry). family_of z.prefix) (first_is x y (xs ++ a) (ys ++ b) e).0 ∙ j.all.0

-- a family and its entries, and what is behind them
addresses_one : (f g : AddressFamily) (xs ys a b : List RoaEntry) → IsAddresses (f, xs) → IsAddresses (g, ys) → HeadOther f a → HeadOther g b → xs ++ a ≡ ys ++ b → (f ≡ g) × (xs ≡ ys) × (a ≡ b)
addresses_one f g xs ys a b i j ha hb e =
    let same = family_same f g xs ys a b i j e in
    let r = split_one f xs ys a b i.all (subst (λ (n : AddressFamily). AllIn n ys) (sym same) j.all) ha (subst (λ (n : AddressFamily). HeadOther n b) (sym same) hb) e in
    (same, r.0, r.1)

-- a family that is there
abbrev some_family : Family → Option Family
some_family x = Some x

-- the second families
more_one : (first second : AddressFamily) (m n : Option Family) → IsMore first m → IsMore second n → entries_of m ≡ entries_of n → m ≡ n
more_one first second None None i j e = refl
more_one first second None (Some (g, [])) i j e = absurd (j.1.some refl)
more_one first second None (Some (g, y ∷ ys)) i j e = absurd (let h = e in cc)
more_one first second (Some (f, [])) None i j e = absurd (i.1.some refl)
more_one first second (Some (f, x ∷ xs)) None i j e = absurd (let h = e in cc)
more_one first second (Some (f, xs)) (Some (g, ys)) i j e =
    let r = addresses_one f g xs ys [] [] i.1 j.1 tt tt (append-nil xs ∙ e ∙ sym (append-nil ys)) in
    ap (λ (n : AddressFamily). some_family (n, xs)) r.0 ∙ ap (λ (l : List RoaEntry). some_family (g, l)) r.1

-- a flat value has one such tree
flat_one : (t u : RoaTree) → IsTree t → IsTree u → flat t ≡ flat u → t ≡ u
flat_one (asn, ((f, xs), m)) (other, ((g, ys), n)) i j e =
    let r = addresses_one f g xs ys (entries_of m) (entries_of n) i.first j.first (more_other f m i.more) (more_other g n j.more) (ap (λ (r : RoaValue). r.entries) e) in
    let rest = more_one f g m n i.more j.more r.2 in
    ap (λ (k : ℕ). (k, ((f, xs), m))) (ap (λ (r : RoaValue). r.asn) e) ∙ ap (λ (k : AddressFamily). (other, ((k, xs), m))) r.0
    ∙ ap (λ (l : List RoaEntry). (other, ((g, l), m))) r.1 ∙ ap (λ (o : Option Family). (other, ((g, ys), o))) rest

-- ---- the trees that are spelled

-- spelled entries are of their family
all_in : (family : AddressFamily) (count : ℕ) (before es : List RoaEntry) (bytes : List ℕ) → EachSpells (entry_behind family count) before es bytes → AllIn family es
unfolding ip_address address
all_in family count before [] bytes s = tt
all_in family count before (e ∷ es) bytes s =
    let spelled = s.3.2.1.3.2.0 in
    (ap family_of spelled.is ∙ family_of_bits family spelled.bits, all_in family count (before ++ e ∷ []) es s.1 s.4)

-- bytes that are there spell an entry
some_of : (family : AddressFamily) (count : ℕ) (es : List RoaEntry) (inner : List ℕ) → EachSpells (entry_behind family count) [] es inner → eqb (length inner) 0 ≡ false → es ≢ []
some_of family count [] inner e h n = let k : eqb (length inner) 0 ≡ true = ap (λ (l : List ℕ). eqb (length l) 0) e in cc
some_of family count (x ∷ xs) inner e h n = cc

pub addresses_are : (family : AddressFamily) (count : ℕ) (es : List RoaEntry) (bytes : List ℕ) → (addresses family count).Spells es bytes → IsAddresses (family, es)
unfolding addresses
addresses_are family count es bytes s = record { some = some_of family count es s.0 s.2.1 (kept_first 9 (eqb (length s.0) 0) [] s.2.0).0; all = all_in family count [] es s.0 s.2.1 }

-- a family behind another is not that one
family_is_other : (first family : AddressFamily) (bytes : List ℕ) → (address_family (Some first)).Spells family bytes → family ≢ first
unfolding address_family
family_is_other first family bytes s e =
    let k = kept_first 8 (not (is_family s.0) || eqb (get_or s.0 1 0) (family_number first)) ((12, ltb (get_or s.0 1 0) (family_number first)) ∷ []) s.2.1 in
    let o = or_parts (not (is_family s.0)) (eqb (get_or s.0 1 0) (family_number first)) k.0 in
    let same : eqb (get_or s.0 1 0) (family_number first) ≡ true = eq-eqb (get_or s.0 1 0) (family_number first) (ap (λ (l : List ℕ). get_or l 1 0) s.2.0 ∙ ap family_number e) in
    let h = o.1 in cc

more_are : (first : Family) (more : Option Family) (count : ℕ) (bytes : List ℕ) → OptionSpells (ip_family (Some first.0) count).Spells more bytes → IsMore first.0 more
unfolding ip_family
more_are first None count bytes s = tt
more_are first (Some more) count bytes s = (family_is_other first.0 more.0 s.2.1.0 s.2.1.3, addresses_are more.0 count more.1 s.2.1.1 s.2.1.4)

tree_spelled : (tree : RoaTree) (bytes : List ℕ) → TreeSpells tree bytes → IsTree tree
unfolding TreeSpells roa_payload route_origin_attestation ip_addr_blocks ip_family
tree_spelled tree bytes s =
    let blocks = s.2.1.4 in
    let families = blocks.2.1 in
    let first = families.3 in
    record { first = addresses_are tree.1.0.0 0 tree.1.0.1 first.2.1.1 first.2.1.4; more = more_are tree.1.0 tree.1.1 (length tree.1.0.1) families.1 families.4 }

-- two spellings of a value have one tree
pub one_tree : (roa : RoaValue) (a b : List ℕ) (s : RoaSpells roa a) (t : RoaSpells roa b) → s.tree ≡ t.tree
one_tree roa a b s t = flat_one s.tree t.tree (tree_spelled s.tree a s.spelled) (tree_spelled t.tree b t.spelled) (s.is_flat ∙ sym t.is_flat)
