-- The laws of the grammar of a ROA.
use Rattle.std.proofs.Common.{ℕ, List, [], ◌++◌, Result, refl, sym, ap, subst, ◌∙◌, inl, inr}
use Rattle.std.proofs.lemmas.List.{append-nil}
use Rattle.der_lite.specs.Place.{Place, Fault, place_of}
use Rattle.der_lite.specs.Fields.{last_at}
use Rattle.der_lite.proofs.GrammarLaws as laws
use Rattle.payloads.specs.Roa.{RoaTree, roa_payload, route_origin_attestation}
use Rattle.payloads.specs.RoaReading.{attestation_at}
use Rattle.payloads.specs.RoaValues.{flat, TreeSpells, RoaSpells, RoaFaultAt}
use Rattle.payloads.specs.PayloadLaws.{OneFaultOf, OneSpellingOf}
use Rattle.payloads.proofs.Roas.{exact_roa, exact_attestation}
use Rattle.payloads.proofs.RoaOnce.{once_tree}
use Rattle.payloads.proofs.RoaFlats.{one_tree}

-- the whole payload, and its reading
abbrev read_roa : Place → Result RoaTree Fault
read_roa = last_at attestation_at

-- a fault by its offset and number
abbrev pub at_offset : ℕ → ℕ → Fault
at_offset offset number = record { number = number; offset = offset }

pub roa_faults : OneFaultOf RoaSpells RoaFaultAt
unfolding RoaFaultAt TreeSpells
roa_faults = (
  (λ bytes offset other number second f g.
      let same = laws.one_fault roa_payload read_roa exact_roa (place_of 0 bytes) (at_offset offset number) (at_offset other second) f g in
      (ap (λ (d : Fault). d.offset) same, ap (λ (d : Fault). d.number) same)),
  (λ bytes offset number v f s. laws.apart roa_payload read_roa exact_roa (place_of 0 bytes) s.tree (at_offset offset number) s.spelled f),
  (λ bytes are. elim (laws.either roa_payload read_roa exact_roa (place_of 0 bytes) are) [
    | inl s ↦ inl (flat s.0, record { tree = s.0; spelled = s.1; is_flat = refl })
    | inr f ↦ inr (f.0.offset, f.0.number, f.1)
  ]),
)

pub roa_spellings : OneSpellingOf RoaSpells
unfolding TreeSpells roa_payload
roa_spellings = (
  (λ v a b ba bb s t. once_tree t.tree a b ba bb (subst (λ (x : RoaTree). TreeSpells x a) (one_tree v a b s t) s.spelled) t.spelled),
  (λ bytes v w s t. sym s.is_flat ∙ ap flat (laws.one_value roa_payload read_roa exact_roa (place_of 0 bytes) s.tree t.tree s.spelled t.spelled) ∙ t.is_flat),
  (λ a b more v w s t h.
      let e = laws.one_front route_origin_attestation attestation_at exact_attestation s.tree t.tree a b more [] s.spelled t.spelled (h ∙ sym (append-nil b)) in
      sym (append-nil a) ∙ ap (λ (l : List ℕ). a ++ l) (sym e.1) ∙ h),
)
