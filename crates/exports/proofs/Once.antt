-- What an entry lists, and what is wrong with it, is one thing.
use Rattle.std.proofs.Common.{◌≡◌, ℕ, zero, suc, ◌<◌, ◌^◌, ◌++◌, Bool, true, false, List, [], ◌∷◌, Option, Some, None, refl, sym, ap, ap₂, subst, ◌∙◌, inl, inr, arith, codes}
use Rattle.std.specs.Fmt.{decimal}
use Rattle.std.proofs.lemmas.Fmt.{decimal_injective}
use Rattle.prefixes.proofs.Decimals.{decimal_lacks}
use Rattle.prefixes.proofs.Lacks.{Lacks}
use Rattle.prefixes.specs.Text.{OneReading}
use Rattle.prefixes.specs.declared.prefix.IpPrefix.{IpPrefix}
use Rattle.prefix_texts.specs.MixedLaws.{OneSaying}
use Rattle.prefix_texts.specs.MixedText.{SaysText}
use Rattle.serde_json.specs.Data.{Data, Items, no_items, item}
use Rattle.payload_lists.proofs.Entries.{one_some}
use Rattle.prefix_texts.specs.AsnText.{AsnText}
use Rattle.exports.specs.Entry.{AreEntries, FailsAt, IsEntry, IsNoEntry, Said, SaysAsn, SaysEntry, SaysExpiry, SaysFault, SaysMaxLen, SaysPrefix, SpellsAsn, said}
use Rattle.exports.specs.declared.entry.ExportEntry.{ExportEntry}
use Rattle.exports.specs.declared.fault.EntryFault.{EntryFault}
use Rattle.exports.specs.declared.fault.EntryFault.TheVariants as faults

-- No text says two things, neither one of a payload list nor one of an entry.
pub record OneMeaning : Type 0 where
  pub of_lists : OneReading
  pub of_entries : OneSaying

no_as_before : (n m : ℕ) → n < 2 ^ 32 → ¬ (decimal n ≡ codes "AS" ++ decimal m)
no_as_before n m small e = let lacks : Lacks 65 (codes "AS" ++ decimal m) = subst (λ t. Lacks 65 t) e (decimal_lacks 65 n (omega arith) (omega arith)) in lacks.0 refl

one_number : (n m : ℕ) (t : List ℕ) → n < 2 ^ 32 → m < 2 ^ 32 → AsnText n t → AsnText m t → n ≡ m
one_number n m t a b (inl h) (inl k) = decimal_injective n m (omega arith) (omega arith) (sym h ∙ k)
one_number n m t a b (inl h) (inr k) = absurd (no_as_before n m a (sym h ∙ k))
one_number n m t a b (inr h) (inl k) = absurd (no_as_before m n b (sym k ∙ h))
one_number n m t a b (inr h) (inr k) =
    let same : codes "AS" ++ decimal n ≡ codes "AS" ++ decimal m = sym h ∙ k in let rest : decimal n ≡ decimal m = cc in decimal_injective n m (omega arith) (omega arith) rest

spelled_once : (o : Option ℕ) (p : Option (List ℕ)) (n m : ℕ) → n < 2 ^ 32 → m < 2 ^ 32 → SpellsAsn o p n → SpellsAsn o p m → n ≡ m
spelled_once (Some k) p n m a b h i = sym h ∙ i
spelled_once None p n m a b h i = one_number n m h.0 a b h.2 (subst (λ t. AsnText m t) (one_some i.0 h.0 p i.1 h.1) i.2)

one_asn : (s : Said) (n m : ℕ) → SaysAsn s n → SaysAsn s m → n ≡ m
one_asn s n m h i = spelled_once s.asn_number s.asn_text n m h.0 i.0 h.1 i.1

one_prefix : OneSaying → (s : Said) (p q : IpPrefix) → SaysPrefix s p → SaysPrefix s q → p ≡ q
one_prefix one s p q h i = one h.0 p q h.2.says (subst (λ t. SaysText q t) (one_some i.0 h.0 s.prefix i.1 h.1) i.2.says)

one_expiry : (s : Said) (a b : Option ℕ) → SaysExpiry s a → SaysExpiry s b → a ≡ b
one_expiry s None None h i = refl
one_expiry s None (Some u) h i = absurd (cc)
one_expiry s (Some t) None h i = absurd (cc)
one_expiry s (Some t) (Some u) h i = cc

one_listed : OneSaying → (s : Said) (e f : ExportEntry) → SaysEntry s e → SaysEntry s f → e ≡ f
one_listed one s e f h i =
    let p = one_prefix one s e.payload.prefix f.payload.prefix h.prefix i.prefix in
    let m = one_some e.payload.max_len f.payload.max_len s.max_len h.max_len.0 i.max_len.0 in
    let n = one_asn s e.payload.asn f.payload.asn h.asn i.asn in
    let t = one_expiry s e.expires f.expires h.expires i.expires in
    λ i. record { payload = record { prefix = p i; max_len = m i; asn = n i }; expires = t i }

pub one_entry : OneSaying → (d : Data) (e f : ExportEntry) → IsEntry d e → IsEntry d f → e ≡ f
one_entry one d e f h i = one_listed one (said d) e f h.1 i.1

-- ---- faults

right_maximum : OneSaying → (s : Said) (p : IpPrefix) (v : IpPrefix) (m : ℕ) → SaysPrefix s p → SaysPrefix s v → SaysMaxLen s v m → SaysMaxLen s p m
right_maximum one s p v m hp hv h = subst (λ q. SaysMaxLen s q m) (one_prefix one s v p hv hp) h

no_fault_said : OneSaying → (s : Said) (e : ExportEntry) (w : EntryFault) → SaysEntry s e → SaysFault s w → ⊥
no_fault_said one s e faults.NoObject h k = k
no_fault_said one s e faults.Asn h k = k e.payload.asn h.asn
no_fault_said one s e faults.Prefix h k = k.1 e.payload.prefix h.prefix
no_fault_said one s e faults.MaxLength h k = k.1.2 e.payload.max_len (right_maximum one s k.1.0 e.payload.prefix e.payload.max_len k.1.1 h.prefix h.max_len)
no_fault_said one s e faults.Expires h k = k.2 e.expires h.expires

one_fault_said : OneSaying → (s : Said) (v w : EntryFault) → SaysFault s v → SaysFault s w → v ≡ w
one_fault_said one s faults.NoObject w h k = absurd h
one_fault_said one s faults.Asn faults.NoObject h k = absurd k
one_fault_said one s faults.Asn faults.Asn h k = refl
one_fault_said one s faults.Asn faults.Prefix h k = absurd (h k.0.0 k.0.1)
one_fault_said one s faults.Asn faults.MaxLength h k = absurd (h k.0.0 k.0.1)
one_fault_said one s faults.Asn faults.Expires h k = absurd (h k.0.0 k.0.1)
one_fault_said one s faults.Prefix faults.NoObject h k = absurd k
one_fault_said one s faults.Prefix faults.Asn h k = absurd (k h.0.0 h.0.1)
one_fault_said one s faults.Prefix faults.Prefix h k = refl
one_fault_said one s faults.Prefix faults.MaxLength h k = absurd (h.1 k.1.0 k.1.1)
one_fault_said one s faults.Prefix faults.Expires h k = absurd (h.1 k.1.0 k.1.1)
one_fault_said one s faults.MaxLength faults.NoObject h k = absurd k
one_fault_said one s faults.MaxLength faults.Asn h k = absurd (k h.0.0 h.0.1)
one_fault_said one s faults.MaxLength faults.Prefix h k = absurd (k.1 h.1.0 h.1.1)
one_fault_said one s faults.MaxLength faults.MaxLength h k = refl
one_fault_said one s faults.MaxLength faults.Expires h k = absurd (h.1.2 k.1.2.0 (right_maximum one s h.1.0 k.1.0 k.1.2.0 h.1.1 k.1.1 k.1.2.1))
one_fault_said one s faults.Expires faults.NoObject h k = absurd k
one_fault_said one s faults.Expires faults.Asn h k = absurd (k h.0.0 h.0.1)
one_fault_said one s faults.Expires faults.Prefix h k = absurd (k.1 h.1.0 h.1.1)
one_fault_said one s faults.Expires faults.MaxLength h k = absurd (k.1.2 h.1.2.0 (right_maximum one s k.1.0 h.1.0 h.1.2.0 k.1.1 h.1.1 h.1.2.1))
one_fault_said one s faults.Expires faults.Expires h k = refl

apart : {P : Type 0} (b : Bool) → b ≡ true → b ≡ false → P
apart b t f = let no : true ≡ false = sym t ∙ f in absurd (cc)

no_fault : OneSaying → (d : Data) (e : ExportEntry) (w : EntryFault) → IsEntry d e → IsNoEntry d w → ⊥
no_fault one d e w h (inl k) = apart _ h.0 k.0
no_fault one d e w h (inr k) = no_fault_said one (said d) e w h.1 k.1

one_fault : OneSaying → (d : Data) (v w : EntryFault) → IsNoEntry d v → IsNoEntry d w → v ≡ w
one_fault one d v w (inl h) (inl k) = h.1 ∙ sym k.1
one_fault one d v w (inl h) (inr k) = apart _ k.0 h.0
one_fault one d v w (inr h) (inl k) = apart _ h.0 k.0
one_fault one d v w (inr h) (inr k) = one_fault_said one (said d) v w h.1 k.1

-- ---- entries

pub one_entries : OneSaying → (ds : Items) (es fs : List ExportEntry) → AreEntries ds es → AreEntries ds fs → es ≡ fs
one_entries one no_items [] [] h k = refl
one_entries one no_items [] (f ∷ fs) h k = absurd k
one_entries one no_items (e ∷ es) fs h k = absurd h
one_entries one (item d ds) (e ∷ es) (f ∷ fs) h k = ap₂ (λ x xs. x ∷ xs) (one_entry one d e f h.0 k.0) (one_entries one ds es fs h.1 k.1)
one_entries one (item d ds) (e ∷ es) [] h k = absurd k
one_entries one (item d ds) [] fs h k = absurd h

pub none_fails : OneSaying → (ds : Items) (es : List ExportEntry) (i : ℕ) (w : EntryFault) → AreEntries ds es → FailsAt ds i w → ⊥
none_fails one no_items es i w h k = k
none_fails one (item d ds) [] i w h k = h
none_fails one (item d ds) (e ∷ es) zero w h k = no_fault one d e w h.0 k
none_fails one (item d ds) (e ∷ es) (suc i) w h k = none_fails one ds es i w h.1 k.1

pub one_fails : OneSaying → (ds : Items) (i j : ℕ) (v w : EntryFault) → FailsAt ds i v → FailsAt ds j w → (i ≡ j) × (v ≡ w)
one_fails one no_items i j v w h k = absurd h
one_fails one (item d ds) zero zero v w h k = (refl, one_fault one d v w h k)
one_fails one (item d ds) zero (suc j) v w h k = absurd (no_fault one d k.0.0 v k.0.1 h)
one_fails one (item d ds) (suc i) zero v w h k = absurd (no_fault one d h.0.0 w h.0.1 k)
one_fails one (item d ds) (suc i) (suc j) v w h k = let more = one_fails one ds i j v w h.1 k.1 in (ap suc more.0, more.1)
