-- Sets by their members.
use Rattle.std.specs.Prelude.{◌≡◌, ◌↔◌, Bool, true, false, not, ◌||◌, cond, IsTrue, List, [], ◌∷◌, None, is_some}
use Rattle.std.proofs.Common.{ap, sym, ◌∙◌}
use Rattle.std.proofs.Math.Bool.{or-false}
use Rattle.std.proofs.lemmas.Map.Views.{Contains-from_any, list_any-from_Contains, tells_apart}
use Rattle.std.specs.Cmp.{eq_by_cmp_equiv}
use Rattle.std.specs.FinMap as map
use Rattle.std.specs.Ordering.{eq_by_cmp}
use Rattle.der_lite.specs.Moments.{CivilMoment}
use Rattle.prefixes.specs.Orders.{vrp_exact, vrp_total}
use Rattle.prefixes.specs.Payload.{Payload, vrp_cmp}
use Rattle.points.specs.InUse.{Lists, Payloads, Points}
use Rattle.vrps.specs.VrpSet.{SameMembers, VrpSet, empty, has, listing, set_of, with_all, without}
use Rattle.rtr_ends.specs.Transcript.{is_among, led_to}
use Rattle.prefixes.proofs.Basics.{or_swap}
use Rattle.vrps.proofs.SetLaws.{has-empty, some_or}

has_with_all : (s : VrpSet) (vs : List Payload) (q : Payload) → has (with_all s vs) q ≡ (has s q || is_among q vs)
has_with_all s [] q = sym (or-false _)
has_with_all s (v ∷ vs) q =
    ap is_some (map.get-insert vrp_total (with_all s vs) v tt q) ∙ some_or _ _
    ∙ ap (λ b. eq_by_cmp vrp_cmp q v || b) (has_with_all s vs q) ∙ or_swap (eq_by_cmp vrp_cmp q v) (has s q) _

-- A list's set has what is listed.
has_set_of : (vs : List Payload) (q : Payload) → has (set_of vs) q ≡ is_among q vs
has_set_of vs q = has_with_all empty vs q ∙ ap (λ b. b || is_among q vs) (has-empty q)

none_in : (p : Payload → Bool) (q : Payload) → ((x : Payload) → p x ≡ true) → has (map.retain_keys empty p) q ≡ false
none_in p q all = ap is_some (map.get-retain_keys empty p q (λ x e. all x ∙ sym (all q)) ∙ ap (λ b. cond b (map.get empty q) None) (all q)) ∙ has-empty q

-- From nothing, what is announced is all, in any order.
pub led_from_nothing : SameMembers → (set : VrpSet) (vs : List Payload) → ((q : Payload) → is_among q vs ≡ is_among q (listing set)) → led_to empty [] vs ≡ set
unfolding led_to
led_from_nothing same set vs h = same _ _ (λ q.
    has_with_all (without empty (set_of [])) (listing (set_of vs)) q
    ∙ ap (λ b. b || is_among q (listing (set_of vs))) (none_in (λ v. not (has (set_of []) v)) q (λ x. ap not (has-empty x)))
    ∙ sym (map.contains_key-keys (set_of vs) q) ∙ has_set_of vs q ∙ h q ∙ sym (map.contains_key-keys set q))

-- The set of the payloads that are listed as in use has these and no others.
pub used_members : (vs : List Payload) (points : Points) (now : CivilMoment) → Lists vs points now → (vrp : Payload) → IsTrue (has (set_of vs) vrp) ↔ Payloads points now vrp
used_members vs points now lists vrp = (
  (λ h. (lists.those vrp).0 (Contains-from_any (tells_apart vrp_exact) vrp vs (sym (has_set_of vs vrp) ∙ h))),
  (λ used. has_set_of vs vrp ∙ list_any-from_Contains (eq_by_cmp_equiv vrp_total) vrp vs ((lists.those vrp).1 used)),
)
