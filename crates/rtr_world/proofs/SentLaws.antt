-- What comes to a router: PDUs in the version of the connection, and notifies of version 1 before the cache has read a header.
use Rattle.rtr_world.proofs.Words.{◌≡◌, Bool, true, false, List, [], ◌∷◌, ◌++◌, length, refl, ℕ, AllByRecursion, sym, ap, subst, inl, inr, all_both, Instance, versions_from, serial_at, VrpSet, is_notify, Unit, SerialNotify, Version, V1, session_in, IsLater, Sent, in_version, notice}
use Rattle.rtr_world.specs.OneAnswer.{AreIn, NotifiesOf, OwnNotifies, units_in, without_notifies}
use Rattle.rtr_world.proofs.AnswerLaws.{notifies-append}
use Rattle.rtr_world.proofs.Invariant.{IsEarly}

-- A PDU is a notify, or is among those that are none.
pub data HeadCase (u : Unit) (more : List Unit) : Type 0 where
  a_notify : (session serial : ℕ) → u ≡ SerialNotify session serial → HeadCase u more
  another : is_notify u ≡ false → without_notifies (u ∷ more) ≡ u ∷ without_notifies more → HeadCase u more

pub head_case : (u : Unit) (more : List Unit) → HeadCase u more
head_case (SerialNotify session serial) more = a_notify session serial refl
head_case u more = another refl refl

notifies_rest : (session : ℕ) (u : Unit) (units : List Unit) → NotifiesOf session (u ∷ units) → NotifiesOf session units
notifies_rest session (SerialNotify one serial) units h = h.1
notifies_rest session u units h = h

-- PDUs of the version may come whether it is agreed on or not,
in_own : (agreed : Bool) (version : Version) (home : Instance) (coming : List Sent) → AreIn version home coming → OwnNotifies agreed version home coming
in_own true version home coming h = h
in_own false version home [] h = tt
in_own false version home (u ∷ coming) h = inl h

in_rest : (version : Version) (home : Instance) (u : Sent) (more : List Sent) → AreIn version home (u ∷ more) → AreIn version home more
in_rest version home u more h = (h.0.1, notifies_rest (session_in version home) u.unit (units_in more) h.1)

-- and so may those behind the first. If that is no notify, it agrees on the version.
pub own_rest : (old now : Bool) (version : Version) (home : Instance) (u : Sent) (more : List Sent) → (is_notify u.unit ≡ true → now ≡ old) → OwnNotifies old version home (u ∷ more) → OwnNotifies now version home more
own_rest true now version home u more same h = in_own now version home more (in_rest version home u more h)
own_rest false now version home u more same (inl h) = in_own now version home more (in_rest version home u more h)
own_rest false now version home u more same (inr early) = subst (λ b. OwnNotifies b version home more) (sym (same (ap (λ (x : Sent). is_notify x.unit) early.1))) early.2

pub units_more : (version : Version) (coming : List Sent) (units : List Unit) → units_in (coming ++ in_version version units) ≡ units_in coming ++ units
units_more version [] [] = refl
units_more version [] (u ∷ units) = ap (λ x. u ∷ x) (units_more version [] units)
units_more version (p ∷ coming) units = ap (λ x. p.unit ∷ x) (units_more version coming units)

in-append : (version : Version) (home : Instance) (coming : List Sent) (units : List Unit) → AreIn version home coming → NotifiesOf (session_in version home) units → AreIn version home (coming ++ in_version version units)
in-append version home coming units h more = (
  all_both (λ (p : Sent). p.version ≡ version) coming (in_version version units) h.0 (each units),
  subst (NotifiesOf (session_in version home)) (sym (units_more version coming units)) (notifies-append (session_in version home) (units_in coming) units h.1 more),
)
  where
    each : (units : List Unit) → AllByRecursion (λ (p : Sent). p.version ≡ version) (in_version version units)
    each [] = tt
    each (u ∷ units) = (refl, each units)

-- PDUs of the version come behind,
pub own-append : (agreed : Bool) (version : Version) (home : Instance) (coming : List Sent) (units : List Unit) → OwnNotifies agreed version home coming → NotifiesOf (session_in version home) units → OwnNotifies agreed version home (coming ++ in_version version units)
own-append true version home coming units h more = in-append version home coming units h more
own-append false version home [] units h more = in_own false version home (in_version version units) (in-append version home [] units (tt, tt) more)
own-append false version home (u ∷ coming) units (inl h) more = inl (in-append version home (u ∷ coming) units h more)
own-append false version home (u ∷ coming) units (inr early) more = inr (early.0, early.1, own-append false version home coming units early.2 more)

-- and notifies of version 1 if no others come.
pub early_own : (version : Version) (home : Instance) (coming : List Sent) → AllByRecursion (IsEarly home) coming → OwnNotifies false version home coming
early_own version home [] h = tt
early_own version home (u ∷ coming) h = inr (h.0.0, h.0.1, early_own version home coming h.1)

pub early_notice : (home i : Instance) (sets : List VrpSet) → IsLater home i → AllByRecursion (IsEarly home) (in_version V1 (notice (session_in V1 i) (versions_from i.start sets)))
early_notice home i [] later = tt
early_notice home i (x ∷ older) later = ((serial_at i.start (length older), ap (λ s. record { version = V1; unit = SerialNotify s (serial_at i.start (length older)) }) (sym later.session)), tt)
