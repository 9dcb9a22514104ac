-- A PDU that comes to the router keeps the invariant.
use Rattle.rtr_world.proofs.Words.{◌≡◌, ℕ, ◌<◌, Bool, true, false, not, ◌&&◌, ◌||◌, nat_lt, List, [], ◌∷◌, ◌++◌, Option, Some, None, if◌then◌else◌, refl, sym, ap, ◌∙◌, append_assoc, subst, subst₂, arith, inl, inr, append-nil, Payload, Instance, VrpSet, has, size, IsUnitOf, Unit, CacheResponse, Prefix, Version, Sent, bytes_sent, in_version, sent, sent_all, session_in, Conn, Commits, Router, Stays, Wrong, Over, asking, stage, commit, on_unit, either, is_notify, Link, Closed, Idle, Answering, Ended, is_reading, choose, Begun, Committed, Question, AskReset, AskSerial, query, is_among, led_to, base_of, is_same, of_version, sum_of, retry_of, false_true, default_config, RouterConfig}
use Rattle.rtr_world.proofs.UnitEffects.{Belongs, by_shape, fits_mine}
use Rattle.rtr_world.specs.History.{conn_due}
use Rattle.rtr_world.specs.OneAnswer.{EndsWith, OwnNotifies, announced_in, units_in, withdrawn_in, without_notifies}
use Rattle.rtr_world.proofs.Invariant.{after_stage, FromCache, InOrder, Leads, NoneWithdrawn, WithdrawsFirst, read_of, records_of, Mine, OwnSession, QuestionFits, OfAnswer, nothing_yet, Shape, IfOpen, Open, Live, Flow, GoodLink, GoodRouter, if_open}
use Rattle.rtr_world.proofs.UnitStreams.{Stream, stream-append}
use Rattle.rtr_world.proofs.Versions.{HeldAt, TableAt, held_at, Seen}

-- a query fits its fields
pub query_unit : (all : List Instance) (pv : Version) (session : ℕ) (q : Question) (version : Option Committed) (table : VrpSet) → QuestionFits session q version → HeldAt all pv version table → IsUnitOf pv (query q)
query_unit all pv session AskReset version table f t = (tt, refl)
query_unit all pv session (AskSerial one serial) None table f t = absurd f
query_unit all pv session (AskSerial one serial) (Some version) table f t =
    ((subst (λ x. x < 65536) (sym f.0) t.low, (let n = t.serial_is in let e = f.1 in omega (arith, n, e))), refl)

-- A router asks what fits, whatever is committed.
pub first_fits : (session : ℕ) (version : Option Committed) (mark : Bool) → mark ≡ false → QuestionFits session (choose version mark) version
first_fits session None mark unmarked = tt
first_fits session (Some version) true unmarked = false_true (sym unmarked)
first_fits session (Some version) false unmarked = (refl, refl)

-- A question is put if none is on its way.
pub asked_on : (up : List ℕ) (pv : Version) (q : Question) (wanted : List Unit) (held : List ℕ) → wanted ≡ [] → IsUnitOf pv (query q) → Stream held (up ++ []) (in_version pv wanted) → Stream held (up ++ sent pv (query q)) (in_version pv (query q ∷ []))
asked_on up pv q wanted held e fit s =
    subst (λ x. Stream held x (in_version pv (query q ∷ []))) (ap (λ x. x ++ sent_all pv (query q ∷ [])) (append-nil up) ∙ ap (λ x. up ++ x) (append-nil (sent pv (query q))))
    (stream-append pv held (up ++ []) [] (query q ∷ []) (subst (λ x. Stream held (up ++ []) (in_version pv x)) e s) (fit, tt))

pub nothing_right : {A : Type 0} (xs ys : List A) → xs ++ ys ≡ [] → ys ≡ []
nothing_right [] ys e = e
nothing_right (x ∷ xs) ys e = cc

-- A record is staged before the others.
staged_is : (base : VrpSet) (a : Begun) (announce : Bool) (v : Payload) (b : Begun) → stage 16777215 base a announce v ≡ Stays b → (if announce then record a { announced = v ∷ a.announced } else record a { withdrawn = v ∷ a.withdrawn }) ≡ b
staged_is base a false v b e = by_test (has base v && not (is_among v a.withdrawn)) e
  where
    by_test : (t : Bool) → (if t then Stays (record a { withdrawn = v ∷ a.withdrawn }) else Wrong 6) ≡ Stays b → record a { withdrawn = v ∷ a.withdrawn } ≡ b
    by_test true e = cc
    by_test false e = absurd (let h : Wrong 6 ≡ Stays b = e in cc)
staged_is base a true v b e = by_test (has base v || is_among v a.announced) (nat_lt 16777215 (size (led_to base a.withdrawn (v ∷ a.announced)))) e
  where
    by_test : (t s : Bool) → (if t then Wrong 7 else if s then Over else Stays (record a { announced = v ∷ a.announced })) ≡ Stays b → record a { announced = v ∷ a.announced } ≡ b
    by_test true s e = absurd (let h : Wrong 7 ≡ Stays b = e in cc)
    by_test false true e = absurd (let h : Over ≡ Stays b = e in cc)
    by_test false false e = cc

-- what is staged belongs to the same question and session
pub stage_keeps : (base : VrpSet) (a : Begun) (announce : Bool) (v : Payload) (b : Begun) → stage 16777215 base a announce v ≡ Stays b → (b.question ≡ a.question) × (b.session ≡ a.session)
stage_keeps base a false v b e = subst (λ x. (x.question ≡ a.question) × (x.session ≡ a.session)) (staged_is base a false v b e) (refl, refl)
stage_keeps base a true v b e = subst (λ x. (x.question ≡ a.question) × (x.session ≡ a.session)) (staged_is base a true v b e) (refl, refl)

-- what is read once a record is staged
none_first : (units : List Unit) → NoneWithdrawn units → WithdrawsFirst units
none_first [] h = tt
none_first (Prefix true v ∷ units) h = h
none_first (Prefix false v ∷ units) h = absurd h
none_first (u ∷ units) h = none_first units h

read_withdrawn : (a : Begun) (v : Payload) → a.announced ≡ [] → read_of (record a { withdrawn = v ∷ a.withdrawn }) ≡ read_of a ++ Prefix false v ∷ []
read_withdrawn a v none =
    ap (λ x. CacheResponse a.session ∷ x)
    (ap (λ x. (records_of false a.withdrawn ++ Prefix false v ∷ []) ++ records_of true x) none ∙ append-nil (records_of false a.withdrawn ++ Prefix false v ∷ [])
    ∙ ap (λ x. x ++ Prefix false v ∷ []) (sym (append-nil (records_of false a.withdrawn)) ∙ ap (λ x. records_of false a.withdrawn ++ records_of true x) (sym none)))

read_announced : (a : Begun) (v : Payload) → read_of (record a { announced = v ∷ a.announced }) ≡ read_of a ++ Prefix true v ∷ []
read_announced a v = ap (λ x. CacheResponse a.session ∷ x) (sym (append_assoc (records_of false a.withdrawn) (records_of true a.announced) (Prefix true v ∷ [])))

pub stage_reads : (base : VrpSet) (a : Begun) (announce : Bool) (v : Payload) (b : Begun) (rest : List Unit) → stage 16777215 base a announce v ≡ Stays b → InOrder a (Prefix announce v ∷ rest) → (read_of b ≡ read_of a ++ Prefix announce v ∷ []) × InOrder b rest
stage_reads base a false v b rest e h =
    let none : a.announced ≡ [] = elim (h.1) [ inl none ↦ none | inr k ↦ absurd k ] in
    subst (λ x. (read_of x ≡ read_of a ++ Prefix false v ∷ []) × InOrder x rest) (staged_is base a false v b e) (read_withdrawn a v none, (h.0, inl none))
stage_reads base a true v b rest e h = subst (λ x. (read_of x ≡ read_of a ++ Prefix true v ∷ []) × InOrder x rest) (staged_is base a true v b e) (read_announced a v, (none_first rest h.0, inr h.0))

-- the rest of an answer once a record is staged
staged_answer : (all : List Instance) (pv : Version) (home : Seen) (base : VrpSet) (a : Begun) (announce : Bool) (v : Payload) (b : Begun) (rest : List Unit) → stage 16777215 base a announce v ≡ Stays b → OfAnswer all pv home base a (Prefix announce v ∷ rest) → OfAnswer all pv home base b rest
staged_answer all pv home base a announce v b rest e o =
    let same = stage_keeps base a announce v b e in
    let read = stage_reads base a announce v b rest e o.order in
    let units : read_of a ++ (Prefix announce v ∷ rest) ≡ read_of b ++ rest = sym (append_assoc (read_of a) (Prefix announce v ∷ []) rest) ∙ ap (λ x. x ++ rest) (sym read.0) in
    record {
      serial = o.serial;
      set = o.set;
      stands = o.stands;
      leads = subst (λ s. after_stage s (λ b. Leads base b rest home.session o.serial o.set)) e o.leads;
      since = o.since;
      from = subst₂ (λ q x. FromCache all pv home q x) (sym same.0) units o.from;
      ends = subst (λ x. EndsWith home.session o.serial x) units o.ends;
      commits = subst (λ x. Commits base (withdrawn_in x) (announced_in x) o.set) units o.commits;
      order = read.1;
    }

-- What is committed is of its session.
committed_mine : (pv : Version) (version : Committed) (session : ℕ) → version.session ≡ session → Mine session (of_version pv (Some version))
committed_mine pv version session e = either (Mine session) (is_same pv version.version) (Some version) None (λ same. e) (λ other. tt)

module _ (all : List Instance) (i : Instance) (home : Option Seen) (conn : Option Conn) (up down : List ℕ) where
  abbrev GoodR : Router → Type 0
  GoodR r = GoodRouter all i home conn up down r

  -- a link that lives
  pub live_link : (r : Router) (l : Link) → r.link ≡ l → is_reading l ≡ true → Live all i home r conn up down → GoodLink all i home r.link r conn up down
  live_link r Closed is live h = false_true live
  live_link r (Ended end) is live h = false_true live
  live_link r _ is live h = subst (λ x. GoodLink all i home x r conn up down) (sym is) h

  -- what is known of the wires when a PDU has just been read, and `more` are to come, whether the version is then agreed on or not
  pub record Comes (pv : Version) (May : Bool → Type 0) (more : List Sent) : Type 0 where
    pub h : Seen
    pub is_home : home ≡ Some h
    pub lost : List ℕ
    pub wanted : List Unit
    pub version : h.version ≡ pv
    pub session : h.session ≡ session_in pv h.made
    pub downward : Stream [] (down ++ (conn_due conn ++ lost)) more
    pub open_at : (agreed : Bool) → May agreed → IfOpen conn (Open i pv h [] up wanted more agreed lost)
    pub notifies : (agreed : Bool) → May agreed → OwnNotifies agreed pv h.made more

  -- what a PDU leaves, save the End of Data of an answer
  pub record Kept (bytes out : List ℕ) (version : Option Committed) (set : VrpSet) (mark : Bool) (own : RouterConfig) : Type 0 where
    pub held : bytes ≡ []
    pub none : out ≡ []
    pub table : TableAt all version set
    pub unmarked : mark ≡ false
    pub config : own ≡ default_config

  -- and of the router
  pub record Reads (May : Bool → Type 0) (r : Router) (more : List Sent) : Type 0 where
    pub comes : Comes r.spoken May more
    pub open comes use *
    pub kept : Kept r.held r.out r.version r.table r.mark r.config
    pub open kept use *
    pub may : May r.agreed
    pub own : OwnSession h.session r.session
    pub mine : r.agreed ≡ true → Mine h.session (of_version r.spoken r.version)

  -- a router in this link, of which all else is known
  same_good : (May : Bool → Type 0) (r : Router) (more : List Sent) (l : Link) (d : Reads May r more) → r.link ≡ l → is_reading l ≡ true → Shape all r.spoken d.h l r.agreed r.version r.table d.wanted (without_notifies (units_in more)) → GoodR r
  same_good May r more l d is live shape = record {
    table = d.table;
    unmarked = d.unmarked;
    config = d.config;
    link = live_link r l is live (
      d.h,
      d.is_home,
      record {
        said = record { wanted = d.wanted; coming = more; version = d.version; session = d.session; notifies = d.notifies r.agreed d.may; own = d.own; mine = d.mine; shape = subst (λ x. Shape all r.spoken d.h x r.agreed r.version r.table d.wanted (without_notifies (units_in more))) (sym is) shape };
        lost = d.lost;
        downward = subst (λ x. Stream x (down ++ (conn_due conn ++ d.lost)) more) (sym d.held) d.downward;
        open_at = subst (λ x. IfOpen conn (Open i r.spoken d.h x up d.wanted more r.agreed d.lost)) (sym d.none) (d.open_at r.agreed d.may);
      },
    );
  }

  quiet_out : (out held : List ℕ) (pv : Version) (wanted : List Unit) → wanted ≡ [] → Stream held (up ++ out) (in_version pv wanted) → out ≡ []
  quiet_out out held pv wanted e s = nothing_right up out (nothing_right held (up ++ out) (s.whole ∙ ap (λ x. bytes_sent (in_version pv x)) e))

  -- An idle link asks.
  pub asking_good : (r : Router) (q : Question) → r.link ≡ Idle → ((session : ℕ) → Mine session (of_version r.spoken r.version) → QuestionFits session q (of_version r.spoken r.version)) → GoodR r → GoodR (asking q r)
  asking_good r q is may g =
      let l : Live all i home r conn up down = subst (λ x. GoodLink all i home x r conn up down) is g.link in
      let f : Flow all i l.0 r conn up down = l.2 in
      let s = subst (λ x. Shape all r.spoken l.0 x r.agreed r.version r.table f.wanted (without_notifies (units_in f.coming))) is f.shape in
      let fits = may l.0.session (f.mine s.2) in
      let fit = query_unit all r.spoken l.0.session q (of_version r.spoken r.version) r.table fits (held_at all r.spoken r.version r.table g.table) in
      record {
        table = g.table;
        unmarked = g.unmarked;
        config = g.config;
        link = (
          l.0,
          l.1,
          record {
            said = record { wanted = query q ∷ []; coming = f.coming; version = f.version; session = f.session; notifies = f.notifies; own = f.own; mine = f.mine; shape = (fits, inl (refl, s.1)) };
            lost = f.lost;
            downward = f.downward;
            open_at = if_open (Open i r.spoken l.0 r.out up f.wanted f.coming r.agreed f.lost) (Open i r.spoken l.0 (sent r.spoken (query q)) up (query q ∷ []) f.coming r.agreed f.lost) conn
                (λ o op. record { linked = op.linked; upward = asked_on up r.spoken q f.wanted o.held s.0 fit (subst (λ x. Stream o.held (up ++ x) (in_version r.spoken f.wanted)) (quiet_out r.out o.held r.spoken f.wanted s.0 op.upward) op.upward); spoken = op.spoken; unheard = op.unheard }) f.open_at;
          },
        );
      }

  -- every PDU that may come
  pub unit_good : (May : Bool → Type 0) (r : Router) (more : List Sent) (u : Unit) (d : Reads May r more) → (is_notify u ≡ false → May true) → Belongs all d.h r u (units_in more) d.wanted → GoodR (on_unit r.link u r)
  unit_good May r more u d agrees c = by_shape all d.h r (λ l v k. (is_notify v ≡ false → May true) → GoodR k) u (units_in more) d.wanted c (record {
    asks = λ one serial is s may. asking_good r (choose v r.mark) is (λ session mine. first_fits session v r.mark d.unmarked) (same_good May r more Idle d is refl s);
    stays = λ l one serial is live s may. same_good May r more l d is live s;
    replies = λ w. record {
      idles = λ copy e f one may. same_good May (record r { agreed = true; link = Idle; due = Some (sum_of r.now (retry_of r.config r.version)); no_data = true }) more Idle (record { comes = d.comes; kept = d.kept; may = may refl; own = d.own; mine = λ a. f }) refl refl (w, e, refl);
      again = λ serial e f one may. asking_good (record r { agreed = true; link = Idle }) AskReset refl (λ session mine. mine)
          (same_good May (record r { agreed = true; link = Idle }) more Idle (record { comes = d.comes; kept = d.kept; may = may refl; own = d.own; mine = λ a. fits_mine d.h.session (AskSerial d.h.session serial) v f refl }) refl refl (w, e, refl));
      other = λ session serial copy differs f one may. record { table = refl; unmarked = refl; config = d.config; link = d.none };
      lacks = λ q e f one may. record { table = d.table; unmarked = d.unmarked; config = d.config; link = d.none };
      begins = λ q own a f one may. same_good May (record r { agreed = true; session = Some d.h.session; link = Answering (nothing_yet q d.h.session) }) more (Answering (nothing_yet q d.h.session))
          (record { comes = d.comes; kept = d.kept; may = may refl; own = refl; mine = λ b. fits_mine d.h.session q v f own }) refl refl (w, refl, refl, f, a);
    };
    stages = λ a announce p b w ag se f o e may.
        let same = stage_keeps (base_of a.question r.table) a announce p b e in
        same_good May (record r { link = Answering b }) more (Answering b) (record { comes = d.comes; kept = d.kept; may = d.may; own = d.own; mine = d.mine }) refl refl (
          w,
          ag,
          same.1 ∙ se,
          subst (λ x. QuestionFits d.h.session x v) (sym same.0) f,
          subst (λ x. OfAnswer all r.spoken d.h (base_of x r.table) b (without_notifies (units_in more))) (sym same.0) (staged_answer all r.spoken d.h (base_of a.question r.table) a announce p b (without_notifies (units_in more)) e o),
        );
    commits = λ a x one number intervals w e ag own stands since may.
        same_good May (commit a (record { version = r.spoken; session = one; serial = number; moment = r.now; intervals = intervals }) r) more Idle
        (record { comes = d.comes; kept = record { none = d.none; held = d.held; table = stands; unmarked = refl; config = d.config }; may = d.may; own = d.own; mine = λ b. committed_mine r.spoken (record { version = r.spoken; session = one; serial = number; moment = r.now; intervals = intervals }) d.h.session own })
        refl refl (w, e, ag);
  }) agrees
    where
      v : Option Committed
      v = of_version r.spoken r.version
