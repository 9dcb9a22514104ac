-- Between events no link has ended, nothing is on the way to a closed one, and the clean-up has nothing to do.
use Rattle.rtr_world.proofs.Words.{◌≡◌, ◌⊎◌, ℕ, Bool, true, false, List, [], ◌∷◌, Option, Some, None, if◌then◌else◌, ⊤, refl, zero, suc, map, AllByRecursion, option_map, sym, ap, ◌∙◌, subst, inl, inr, Instance, Conn, closed_at, Link, Closed, Ended, is_closed, false_true}
use Rattle.rtr_world.specs.Claims.{Settles, OthersStay}
use Rattle.rtr_world.specs.History.{Entry, IsEvent, Leads, Made, MayEnd, Memory, Outcome, Done, after, refusal, side_at}
use Rattle.rtr_world.specs.World.{Event, On, Side, World, goes_through, close_ended, instances, is_ended, is_refused, noted, on_side, settle, settle_conn, settle_link, settle_rest, settle_wire, settled, side_refused, tell_closed, side_step}
use Rattle.rtr_world.proofs.EventCalls.{closed_by, told_closes}
use Rattle.rtr_world.proofs.Invariant.{Good, GoodLink}
use Rattle.rtr_world.proofs.SideLaws.{all_map, all_new, all_weaker, map_there, elsewhere}
use Rattle.rtr_world.proofs.KeptTables.{AllTell}
use Rattle.rtr_world.proofs.WorldSteps.{GoodWorld, part_so, through_good, known_leads}

-- a connection at the cache that has not ended, or has bytes due
abbrev pub GoesOn : Option Conn → Type 0
GoesOn None = ⊤
GoesOn (Some o) = o.state.ended ≡ true → o.state.due ≡ [] → ⊥

pub record IsTold (s : Side) : Type 0 where
  pub closed : is_closed s.router.link ≡ true
  pub home : s.home ≡ None
  pub read : s.read_at ≡ None
  pub up : s.up ≡ []

-- no link has ended, and nothing is on the way to a closed one
pub record Cleared (s : Side) : Type 0 where
  pub conn_on : GoesOn s.conn
  pub link_on : is_ended s.router.link ≡ false
  pub none_down : is_closed s.router.link ≡ true → s.down ≡ []
  pub none_open : is_closed s.router.link ≡ true → s.up ≡ [] → s.conn ≡ None

pub record Rests (s : Side) : Type 0 where
  pub cleared : Cleared s
  pub open cleared use *
  pub told : s.conn ≡ None → s.down ≡ [] → IsTold s

closed_goes_on : (l : Link) → is_closed l ≡ true → is_ended l ≡ false
closed_goes_on (Ended end) h = false_true h
closed_goes_on _ h = refl

-- what a notification of a close changes, and what not
record Tells (s n : Side) : Type 0 where
  pub conn : n.conn ≡ s.conn
  pub down : n.down ≡ s.down
  pub up : n.up ≡ s.up
  pub home : n.home ≡ None
  pub read : n.read_at ≡ None

tells : (all : List Instance) (s : Side) → Tells s (tell_closed all s)
tells all s = closed_by (Tells s) all s (λ e. record { conn = refl; down = refl; up = refl; home = refl; read = refl }) (λ e. record { conn = refl; down = refl; up = refl; home = refl; read = refl })

-- step by step: a connection at the cache continues, or it ended with nothing pending and is closed
conn_case : (s : Side) (o : Option Conn) → (GoesOn o × (settle_conn s o ≡ s)) ⊎ ((GoesOn o → ⊥) × (settle_conn s o ≡ record s { conn = None }))
conn_case s None = inl (tt, refl)
conn_case s (Some o) = by_end o.state.ended o.state.due
  where
    by_end : (ended : Bool) (due : List ℕ) → ((ended ≡ true → due ≡ [] → ⊥) × (close_ended s ended due ≡ s)) ⊎ (((ended ≡ true → due ≡ [] → ⊥) → ⊥) × (close_ended s ended due ≡ record s { conn = None }))
    by_end true [] = inr ((λ on. on refl refl), refl)
    by_end true (b ∷ due) = inl ((λ ended none. let h : b ∷ due ≡ [] = none in cc), refl)
    by_end false due = inl ((λ ended none. let h : false ≡ true = ended in cc), refl)

conn_goes_on : (s : Side) (o : Option Conn) → s.conn ≡ o → GoesOn (settle_conn s o).conn
conn_goes_on s o is = elim (conn_case s o) [ inl on ↦ subst (λ (x : Side). GoesOn x.conn) (sym on.1) (subst GoesOn (sym is) on.0) | inr shut ↦ subst (λ (x : Side). GoesOn x.conn) (sym shut.1) tt ]

pub conn_router : (s : Side) (o : Option Conn) → (settle_conn s o).router ≡ s.router
conn_router s o = elim (conn_case s o) [ inl on ↦ ap (λ (x : Side). x.router) on.1 | inr shut ↦ ap (λ (x : Side). x.router) shut.1 ]

-- a link that ended
link_conn : (all : List Instance) (s : Side) (l : Link) (out : List ℕ) → (settle_link all s l out).conn ≡ s.conn
link_conn all s (Ended end) [] = (tells all s).conn
link_conn all s _ _ = refl

link_goes_on : (all : List Instance) (s : Side) (l : Link) (out : List ℕ) → s.router.link ≡ l → (is_ended l ≡ true → out ≡ []) → is_ended (settle_link all s l out).router.link ≡ false
link_goes_on all s (Ended end) [] is none = closed_goes_on (tell_closed all s).router.link (told_closes all s)
link_goes_on all s (Ended end) (b ∷ out) is none = absurd (let h : b ∷ out ≡ [] = none refl in cc)
link_goes_on all s _ out is none = ap is_ended is

-- what is on the way to a closed link
pub not_closed : (s : Side) (l : Link) → s.router.link ≡ l → is_closed l ≡ false → GoesOn s.conn → is_ended s.router.link ≡ false → Cleared s
not_closed s l is differs on h = record {
  conn_on = on;
  link_on = h;
  none_down = λ c. false_true (sym (ap is_closed is ∙ differs) ∙ c);
  none_open = λ c. false_true (sym (ap is_closed is ∙ differs) ∙ c);
}

rest_clears : (s : Side) (l : Link) (up : List ℕ) → s.router.link ≡ l → s.up ≡ up → GoesOn s.conn → is_ended s.router.link ≡ false → Cleared (settle_rest s l up)
rest_clears s Closed [] is e on h = record { conn_on = tt; link_on = h; none_down = λ c. refl; none_open = λ c none. refl }
rest_clears s Closed (b ∷ up) is e on h = record { conn_on = on; link_on = h; none_down = λ c. refl; none_open = λ c none. absurd (let k : b ∷ up ≡ [] = sym e ∙ none in cc) }
rest_clears s l up is e on h = not_closed s l is refl on h

-- no connection
wire_rests : (all : List Instance) (s : Side) (o : Option Conn) (down : List ℕ) → s.conn ≡ o → s.down ≡ down → Cleared s → Rests (settle_wire all s o down)
wire_rests all s None [] is e h =
    let t = tells all s in
    record {
      cleared = record {
        conn_on = subst GoesOn (sym (t.conn ∙ is)) tt;
        link_on = closed_goes_on (tell_closed all s).router.link (told_closes all s);
        none_down = λ c. t.down ∙ e;
        none_open = λ c none. t.conn ∙ is;
      };
      told = λ n d. record { closed = told_closes all s; home = t.home; read = t.read; up = refl };
    }
wire_rests all s None (b ∷ down) is e h = record {
  cleared = h;
  told = λ n d. absurd (let k : b ∷ down ≡ [] = sym e ∙ d in cc);
}
wire_rests all s (Some o) down is e h = record {
  cleared = h;
  told = λ n d. absurd (let k : Some o ≡ None = sym is ∙ n in cc);
}

settle_rests : (all : List Instance) (s : Side) → (is_ended s.router.link ≡ true → s.router.out ≡ []) → Rests (settle all s)
unfolding settle
settle_rests all s none =
    let a : Side = settle_conn s s.conn in
    let b : Side = settle_link all (settle_conn s s.conn) (settle_conn s s.conn).router.link (settle_conn s s.conn).router.out in
    let c : Side = settle_rest b b.router.link b.up in
    wire_rests all c c.conn c.down refl refl
    (rest_clears b b.router.link b.up refl refl (subst GoesOn (sym (link_conn all a a.router.link a.router.out)) (conn_goes_on s s.conn refl))
    (link_goes_on all a a.router.link a.router.out refl (subst (λ r. is_ended r.link ≡ true → r.out ≡ []) (sym (conn_router s s.conn)) none)))

-- Once more changes nothing.
conn_stays : (s : Side) (o : Option Conn) → GoesOn o → settle_conn s o ≡ s
conn_stays s o on = elim (conn_case s o) [ inl same ↦ same.1 | inr shut ↦ absurd (shut.0 on) ]

link_stays : (all : List Instance) (s : Side) (l : Link) (out : List ℕ) → is_ended l ≡ false → settle_link all s l out ≡ s
link_stays all s (Ended end) out on = false_true (sym on)
link_stays all s _ out on = refl

rest_stays : (s : Side) (l : Link) (up : List ℕ) → s.router.link ≡ l → s.up ≡ up → Rests s → settle_rest s l up ≡ s
rest_stays s Closed [] is e h = λ i. record s { conn = sym (h.none_open (ap is_closed is) e) i; down = sym (h.none_down (ap is_closed is)) i }
rest_stays s Closed (b ∷ up) is e h = λ i. record s { down = sym (h.none_down (ap is_closed is)) i }
rest_stays s _ up is e h = refl

wire_stays : (all : List Instance) (s : Side) (o : Option Conn) (down : List ℕ) → s.conn ≡ o → s.down ≡ down → Rests s → settle_wire all s o down ≡ s
wire_stays all s None [] is e h =
    let t = h.told is e in
    ap (λ b. record (if b then record s { home = None; read_at = None } else record (noted all (closed_at s.router.now s.router) s) { home = None; read_at = None }) { up = [] }) t.closed
    ∙ (λ i. record s { home = sym t.home i; read_at = sym t.read i; up = sym t.up i })
wire_stays all s None (b ∷ down) is e h = refl
wire_stays all s (Some o) down is e h = refl

pub stays : (all : List Instance) (s : Side) → Rests s → settle all s ≡ s
unfolding settle
stays all s h =
    (λ i. let a : Side = conn_stays s s.conn h.conn_on i in let b : Side = settle_link all a a.router.link a.router.out in let c : Side = settle_rest b b.router.link b.up in settle_wire all c c.conn c.down)
    ∙ (λ i. let b : Side = link_stays all s s.router.link s.router.out h.link_on i in let c : Side = settle_rest b b.router.link b.up in settle_wire all c c.conn c.down)
    ∙ (λ i. let c : Side = rest_stays s s.router.link s.up refl refl h i in settle_wire all c c.conn c.down)
    ∙ wire_stays all s s.conn s.down refl refl h

-- A link that ended has nothing to be pulled.
none_out : (keep : ℕ) (past : List Instance) (i : Instance) (s : Side) → Good keep past i s → is_ended s.router.link ≡ true → s.router.out ≡ []
none_out keep past i s g ended = by_link s.router.link g.router.link ended
  where
    by_link : (l : Link) → GoodLink (i ∷ past) i g.seen l s.router s.conn s.up s.down → is_ended l ≡ true → s.router.out ≡ []
    by_link (Ended end) h e = h
    by_link Closed h e = h.3
    by_link _ h e = false_true e

settled_rests : (w : World) → GoodWorld w → AllByRecursion Rests (settled w).sides
unfolding settled
settled_rests w g = all_map (Good w.keep w.past w.present) Rests (settle (instances w)) w.sides (λ s h. settle_rests (instances w) s (none_out w.keep w.past w.present s h)) g.sides

after_rests : (event : Event) (outcome : Outcome) (w : World) → IsEvent event → MayEnd (refusal w event) w event outcome → GoodWorld w → AllTell w → AllByRecursion Rests w.sides → AllByRecursion Rests (after event outcome w).sides
unfolding is_refused
after_rests event (Done wanting) w fits may g t h = settled_rests (goes_through event wanting w) (through_good event wanting w fits may g t)
after_rests (On r event) (Memory bytes wanting) w fits may g t h = settled_rests (record w { sides = on_side r (side_refused w event bytes wanting) w.sides }) (part_so r event bytes wanting w g t)
after_rests _ _ w fits may g t h = h

pub history_rests : (made : Made) (history : List Entry) (w : World) → Leads made history w → AllByRecursion Rests w.sides
history_rests made history w leads =
    (known_leads (λ x. AllByRecursion Rests x.sides) after_rests made history w leads
    (all_new Rests (record { cleared = record { conn_on = tt; link_on = refl; none_down = λ c. refl; none_open = λ c none. refl }; told = λ n d. record { closed = refl; home = refl; read = refl; up = refl } }) made.routers)).2

-- The clean-up after an event leaves nothing to be done.
pub settles : Settles
settles made history w leads = all_weaker Rests (λ s. settle (instances w) s ≡ s) w.sides (stays (instances w)) (history_rests made history w leads)

-- What happens at one router leaves the others.
rests_there : (r : ℕ) (f : Side → Side) (sides : List Side) → AllByRecursion (λ s. f s ≡ s) sides → option_map f (side_at r sides) ≡ side_at r sides
rests_there r f [] h = refl
rests_there zero f (s ∷ sides) h = ap (λ x. Some x) h.0
rests_there (suc r) f (s ∷ sides) h = rests_there r f sides h.1

so : (r d : ℕ) (f g : Side → Side) (sides : List Side) → ¬ (d ≡ r) → AllByRecursion (λ s. f s ≡ s) sides → side_at d (map f (on_side r g sides)) ≡ side_at d sides
so r d f g sides h rest = map_there d f (on_side r g sides) ∙ ap (option_map f) (elsewhere r d g sides h) ∙ rests_there d f sides rest

pub others_stay : OthersStay
unfolding goes_through is_refused settled
others_stay made history w leads r d event (Done wanting) h = so r d (settle (instances w)) (side_step w event wanting) w.sides h (settles made history w leads)
others_stay made history w leads r d event (Memory bytes wanting) h = so r d (settle (instances w)) (side_refused w event bytes wanting) w.sides h (settles made history w leads)
others_stay made history w leads r d event _ h = refl
