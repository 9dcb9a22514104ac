-- Reading of URIs is exact.
use Rattle.std.proofs.Common.{◌≡◌, ℕ, List, ◌++◌, Result, Ok, refl, sym, ap, subst, ◌∙◌}
use Rattle.der_lite.specs.Place.{Place, Fault, place_of}
use Rattle.der_lite.specs.Der.{Tlv, tag_of}
use Rattle.der_lite.specs.DerReading.{◌>>=◌, content_at, oid_at}
use Rattle.der_lite.specs.Grammar.{Stands, constructed, plain, last, member, each}
use Rattle.der_lite.specs.Decoding.{read_constructed, read_member, read_each}
use Rattle.der_lite.specs.Fields.{last_at}
use Rattle.der_lite.proofs.Rules.{bind_ok, ok_is}
use Rattle.der_lite.proofs.Exact.{ExactElement, exact_constructed, exact_member, exact_each, mapped_err}
use Rattle.der_lite.proofs.ContentReads.{exact_plain}
use Rattle.der_lite.proofs.FieldLaws.{exact_last_at}
use Rattle.der_forms.specs.Combinators.{no_rules, told_content}
use Rattle.der_forms.specs.CombinatorReading.{told_content_at}
use Rattle.der_forms.proofs.ExactCombinators.{exact_opened, exact_told_content}
use Rattle.resource_certificates.specs.Places as p

-- a tag with the content, and the place behind
named : ℕ → List ℕ × Place → p.GeneralName × Place
named tag x = ((tag, x.0), x.1)

-- an element begins with its tag
tag_is : (tag : ℕ) (content front rest : List ℕ) → Tlv tag content front → tag_of (front ++ rest) ≡ tag
tag_is tag content front rest s = ap (λ (l : List ℕ). tag_of (l ++ rest)) s.spelled

pub exact_any : ExactElement p.any_element p.any_at
unfolding p.any_at named
exact_any = record {
  takes = λ q v n bytes d.
      let tag = tag_of q.rest in
      let r = bind_ok (content_at tag no_rules q) (λ x. Ok (named tag x)) (v, n) d in
      let t = (exact_plain tag no_rules).takes q r.0.0 r.0.1 bytes r.1 in
      let spelled : Tlv tag r.0.0 t.front = subst (λ (l : List ℕ). Tlv tag l t.front) (sym t.spelled.2.0) t.spelled.1 in
      let whole : Stands p.any_element.Spells q (tag, r.0.0) r.0.1 = record { front = t.front; parts = t.parts; spelled = spelled; behind = t.behind } in
      subst (λ (y : p.GeneralName × Place). Stands p.any_element.Spells q y.0 y.1) (ok_is (named tag r.0) (v, n) r.2) whole;
  again = λ at v front rest s.
      ap (λ (tag : ℕ). content_at tag no_rules (place_of at (front ++ rest)) >>= λ x. Ok (named tag x)) (tag_is v.0 v.1 front rest s)
      ∙ ap (λ (r : Result (List ℕ × Place) Fault). r >>= λ x. Ok (named v.0 x)) ((exact_plain v.0 no_rules).again at v.1 front rest (v.1, s, (refl, refl)));
  faults = λ q f bytes d. (exact_plain (tag_of q.rest) no_rules).faults q f bytes (mapped_err (content_at (tag_of q.rest) no_rules q) (named (tag_of q.rest)) f d);
  refuses = λ q f d. ap (λ (r : Result (List ℕ × Place) Fault). r >>= λ x. Ok (named (tag_of q.rest) x)) ((exact_plain (tag_of q.rest) no_rules).refuses q f d);
  some = λ v front s. (exact_plain v.0 no_rules).some v.1 front (v.1, s, (refl, refl));
}

exact_full_name : ExactElement p.full_name p.full_name_at
unfolding p.full_name p.full_name_at
exact_full_name =
    let content = constructed no_rules (each (λ before. p.any_element)) no_rules in
    let read = read_constructed no_rules (read_each (λ before. p.any_at)) no_rules in
    exact_opened 160 (told_content p.first_uri content) (told_content_at p.first_uri read)
    (exact_told_content p.first_uri content read (exact_constructed no_rules (each (λ before. p.any_element)) (read_each (λ before. p.any_at)) no_rules (exact_each (λ before. p.any_element) (λ before. p.any_at) (λ before. exact_any))))

exact_distribution_name : ExactElement p.distribution_name p.distribution_name_at
unfolding p.distribution_name p.distribution_name_at
exact_distribution_name =
    exact_opened 160 (constructed no_rules (last p.full_name) no_rules) (read_constructed no_rules (last_at p.full_name_at) no_rules)
    (exact_constructed no_rules (last p.full_name) (last_at p.full_name_at) no_rules (exact_last_at p.full_name p.full_name_at exact_full_name))

exact_distribution_point : ExactElement p.distribution_point p.distribution_point_at
unfolding p.distribution_point p.distribution_point_at
exact_distribution_point =
    exact_opened 48 (constructed no_rules (last p.distribution_name) no_rules) (read_constructed no_rules (last_at p.distribution_name_at) no_rules)
    (exact_constructed no_rules (last p.distribution_name) (last_at p.distribution_name_at) no_rules (exact_last_at p.distribution_name p.distribution_name_at exact_distribution_name))

pub exact_distribution_points : ExactElement p.distribution_points p.distribution_points_at
unfolding p.distribution_points p.distribution_points_at
exact_distribution_points =
    exact_opened 48 (constructed no_rules (last p.distribution_point) no_rules) (read_constructed no_rules (last_at p.distribution_point_at) no_rules)
    (exact_constructed no_rules (last p.distribution_point) (last_at p.distribution_point_at) no_rules (exact_last_at p.distribution_point p.distribution_point_at exact_distribution_point))

exact_access : ExactElement p.access p.access_at
unfolding p.access p.access_at
exact_access =
    let members = member (plain 6 no_rules) (λ method. last p.any_element) in
    let read = read_member oid_at (λ method. last_at p.any_at) in
    exact_opened 48 (constructed no_rules members no_rules) (read_constructed no_rules read no_rules)
    (exact_constructed no_rules members read no_rules (exact_member (plain 6 no_rules) oid_at (exact_plain 6 no_rules) (λ method. last p.any_element) (λ method. last_at p.any_at) (λ method. exact_last_at p.any_element p.any_at exact_any)))

pub exact_access_list : ExactElement p.access_list p.access_list_at
unfolding p.access_list p.access_list_at
exact_access_list =
    let content = constructed no_rules (each (λ before. p.access)) no_rules in
    let read = read_constructed no_rules (read_each (λ before. p.access_at)) no_rules in
    exact_opened 48 (told_content p.accesses_in content) (told_content_at p.accesses_in read)
    (exact_told_content p.accesses_in content read (exact_constructed no_rules (each (λ before. p.access)) (read_each (λ before. p.access_at)) no_rules (exact_each (λ before. p.access) (λ before. p.access_at) (λ before. exact_access))))
