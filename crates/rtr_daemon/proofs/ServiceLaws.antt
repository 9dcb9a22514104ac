-- The steps from one service to another.
use Rattle.std.specs.Prelude.{◌≡◌, ℕ, ◌==◌, true, false, List, [], ◌∷◌, ◌++◌, Option, Some, None, Result, Ok, Err, refl, if◌then◌else◌, ⊤}
use Rattle.std.proofs.Common.{ap, inl, inr, sym, subst, ◌∙◌, length}
use Rattle.std.specs.List.{AllByRecursion}
use Rattle.std.specs.declared.alloc.AllocError.{AllocError}
use Rattle.std.proofs.lemmas.List.{append_assoc}
use Rattle.vrps.specs.Instance.{Instance, NumberedSet, versions, versions_from}
use Rattle.vrps.specs.Store.{is_current, published}
use Rattle.vrps.specs.Stores.{newest}
use Rattle.vrps.specs.Serial.{serial_at}
use Rattle.vrps.specs.VrpSet.{VrpSet}
use Rattle.vrps.specs.declared.store.Published.{Published}
use Rattle.vrps.specs.declared.store.Published.TheVariants.{New, Unchanged}
use Rattle.vrps.proofs.SetVersions.{same_exactly}
use Rattle.rtr_ends.specs.CacheState.{CacheCall, CacheState, Close, Notify, Open, Publish, Pull, Receive, cache_called, ran}
use Rattle.rtr_server.specs.Clients.{AdmitsTo, GoesOnAfter, IsNotice, IsOn, Past, PublishesTo, ShowsServer, and_calls, made, present}
use Rattle.rtr_server.specs.declared.server.AdmitFault.{AdmitFault}
use Rattle.rtr_server.specs.declared.server.AdmitFault.TheVariants.{Memory, TooManyClients}
use Rattle.rtr_server.specs.declared.server.Client.{Client}
use Rattle.rtr_server.specs.declared.server.Server.{Server}
use Rattle.rtr_server.specs.declared.turn.Turn.{Turn}
use Rattle.rtr_server.specs.declared.turn.Turn.TheVariants.{Busy, Gone, WaitsToRead, WaitsToWrite}
use Rattle.sources.specs.declared.sources.Sources.{Sources}
use Rattle.prefixes.proofs.Basics.{eq_of, false_if_never}
use Rattle.der_lite.specs.Moments.{CivilMoment}
use Rattle.der_lite.specs.Seconds.{seconds_of}
use Rattle.points.specs.InUse.{no_points}
use Rattle.session_names.specs.Runs.{may_publish}
use Rattle.rtr_daemon.specs.Families.{families_in, families_of}
use Rattle.rtr_daemon.specs.Serving.{Adds, Continues, GoesOn, IsFresh, IsLater, IsMadeWith, IsNewestAt, IsServedAt, IsOfSecond, Issues, KeepsVersions, LeadsToService, OpensNone, PublishesAt, PublishesOnce, SameExpired, SameSources, ShowsService, with_version}
use Rattle.rtr_daemon.specs.declared.cache_settings.CacheSettings.{CacheSettings}
use Rattle.rtr_daemon.specs.declared.service.Service.{Service}
use Rattle.rtr_daemon.proofs.Expiry.{served_later}

-- No calls are added.
pub no_later : (p : Past) → IsLater p p
no_later p = record { more = []; calls = refl; keep = refl; timing = refl; first = refl; most = refl; begun = λ c h. refl }

-- If calls open no connection of a number, no part of them does.
opens_parts : (c : ℕ) (a b : List CacheCall) → OpensNone c (a ++ b) → OpensNone c a × OpensNone c b
opens_parts c [] b h = (tt, h)
opens_parts c (Open d ∷ a) b h = ((h.0, (opens_parts c a b h.1).0), (opens_parts c a b h.1).1)
opens_parts c (Publish set ∷ a) b h = opens_parts c a b h
opens_parts c (Close d ∷ a) b h = opens_parts c a b h
opens_parts c (Receive d wanting piece ∷ a) b h = opens_parts c a b h
opens_parts c (Pull d most ∷ a) b h = opens_parts c a b h
opens_parts c (Notify d ∷ a) b h = opens_parts c a b h

pub later_on : (p q r : Past) → IsLater p q → IsLater q r → IsLater p r
later_on p q r a b = record {
  more = b.more ++ a.more;
  calls = b.calls ∙ ap (λ l. b.more ++ l) a.calls ∙ sym (append_assoc b.more a.more p.calls);
  keep = b.keep ∙ a.keep;
  timing = b.timing ∙ a.timing;
  first = b.first ∙ a.first;
  most = b.most ∙ a.most;
  begun = λ c h. b.begun c (opens_parts c b.more a.more h).0 ∙ a.begun c (opens_parts c b.more a.more h).1;
}

-- A later past has the same settings.
pub made_on : (settings : CacheSettings) (session0 : ℕ) (p q : Past) → IsLater p q → IsMadeWith settings session0 p → IsMadeWith settings session0 q
made_on settings session0 p q later h = record {
  keep = later.keep ∙ h.keep;
  timing = later.timing ∙ h.timing;
  most = later.most ∙ h.most;
  session0_is = ap (λ i. i.session0) later.first ∙ h.session0_is;
}

-- Two steps that publish nothing, one after the other
pub then_on : {S T : Type 0} (holds : ℕ → Instance → S → Type 0) (remaining contents : T → Option (List ℕ)) (a b c : Service S T) → Continues holds remaining contents a b → Continues holds remaining contents b c → Continues holds remaining contents a c
then_on holds remaining contents a b c f g p h =
    let one = f p h in
    let two = g one.0 one.2 in
    (two.0, later_on p one.0 two.0 one.1 two.1, two.2, two.3 ∙ one.3, two.4 ∙ one.4)

once_after : {S T : Type 0} (clock : ℕ → Type 0) (a b c : Service S T) (p q r : Past) → KeepsVersions p q → b.pace ≡ a.pace → PublishesOnce clock b c q r → PublishesOnce clock a c p r
once_after clock a b c p q r same pace (inl kept) = inl (kept.0 ∙ same, kept.1 ∙ pace)
once_after clock a b c p q r same pace (inr h) = inr (record {
  now = h.now;
  answered = h.answered;
  set = h.set;
  served = h.served;
  differs = subst (λ i. is_current i.sets h.set ≡ false) same h.differs;
  adds = h.adds ∙ ap (λ i. with_version h.set i) same;
  second = h.second;
  later = subst (λ last. may_publish last h.second ≡ true) pace h.later;
  paced = h.paced;
})

-- A step that publishes nothing, then one that publishes at most one version
pub then_goes : {S T : Type 0} (clock : ℕ → Type 0) (holds : ℕ → Instance → S → Type 0) (remaining contents : T → Option (List ℕ)) (a b c : Service S T) → Continues holds remaining contents a b → GoesOn clock holds remaining contents b c → GoesOn clock holds remaining contents a c
then_goes clock holds remaining contents a b c f g p h =
    let one = f p h in
    let two = g one.0 one.2 in
    (two.0, later_on p one.0 two.0 one.1 two.1, two.2, once_after clock a b c p one.0 two.0 one.3 one.4 two.3)

-- From a new service to that of an open daemon
pub leads_on : {S T : Type 0} (clock : ℕ → Type 0) (holds : ℕ → Instance → S → Type 0) (remaining contents : T → Option (List ℕ)) (a b : Service S T) (p : Past) (start : ℕ) → clock start → a.pace ≡ Some start → ShowsService holds remaining contents p a
    → Continues holds remaining contents a b → LeadsToService clock holds remaining contents p b
leads_on clock holds remaining contents a b p start answered pace h f =
    let on = f p h in
    (on.0, on.1, on.2, on.3, (start, answered, on.4 ∙ pace))

-- A step that publishes nothing publishes at most one version.
pub goes : {S T : Type 0} (clock : ℕ → Type 0) (holds : ℕ → Instance → S → Type 0) (remaining contents : T → Option (List ℕ)) (a b : Service S T) → Continues holds remaining contents a b → GoesOn clock holds remaining contents a b
goes clock holds remaining contents a b f p h =
    let one = f p h in
    (one.0, one.1, one.2, inl (one.3, one.4))

pub stays : {S T : Type 0} (holds : ℕ → Instance → S → Type 0) (remaining contents : T → Option (List ℕ)) (a : Service S T) → Continues holds remaining contents a a
stays holds remaining contents a p h = (p, no_later p, h, refl, refl)

-- a call that publishes nothing
abbrev PublishesNone : CacheCall → Type 0
PublishesNone (Publish set) = ⊥
PublishesNone (Open c) = ⊤
PublishesNone (Close c) = ⊤
PublishesNone (Receive c wanting piece) = ⊤
PublishesNone (Pull c most) = ⊤
PublishesNone (Notify c) = ⊤

one_keeps : (call : CacheCall) (m : CacheState) → PublishesNone call → (cache_called call m).cache ≡ m.cache
one_keeps (Publish set) m h = absurd h
one_keeps (Open c) m h = refl
one_keeps (Close c) m h = refl
one_keeps (Receive c wanting piece) m h = refl
one_keeps (Pull c most) m h = refl
one_keeps (Notify c) m h = refl

-- Calls that publish nothing keep the instance.
all_keep : (calls rest : List CacheCall) (m : CacheState) → AllByRecursion PublishesNone calls → (ran (calls ++ rest) m).cache ≡ (ran rest m).cache
all_keep [] rest m h = refl
all_keep (call ∷ calls) rest m h = one_keeps call (ran (calls ++ rest) m) h.0 ∙ all_keep calls rest m h.1

on_none : (c : ℕ) (calls : List CacheCall) → AllByRecursion (IsOn c) calls → AllByRecursion PublishesNone calls
on_none c [] h = tt
on_none c (Receive d wanting piece ∷ calls) h = (tt, on_none c calls h.1)
on_none c (Pull d most ∷ calls) h = (tt, on_none c calls h.1)
on_none c (Notify d ∷ calls) h = (tt, on_none c calls h.1)
on_none c (Publish set ∷ calls) h = absurd h.0
on_none c (Open d ∷ calls) h = absurd h.0
on_none c (Close d ∷ calls) h = absurd h.0

notice_none : (calls : List CacheCall) → AllByRecursion IsNotice calls → AllByRecursion PublishesNone calls
notice_none [] h = tt
notice_none (Notify d ∷ calls) h = (tt, notice_none calls h.1)
notice_none (Receive d wanting piece ∷ calls) h = absurd h.0
notice_none (Pull d most ∷ calls) h = absurd h.0
notice_none (Publish set ∷ calls) h = absurd h.0
notice_none (Open d ∷ calls) h = absurd h.0
notice_none (Close d ∷ calls) h = absurd h.0

-- more calls that publish nothing
more_calls : (more : List CacheCall) (p : Past) → IsLater p (and_calls more p)
more_calls more p = record { more = more; calls = refl; keep = refl; timing = refl; first = refl; most = refl; begun = λ c h. refl }

-- A turn of a client publishes nothing.
pub served_on : {S T : Type 0} (holds : ℕ → Instance → S → Type 0) (remaining contents : T → Option (List ℕ)) (p : Past) (c : ℕ) (turn : Option Turn) (new : Server S T) → GoesOnAfter holds remaining contents p c turn new
    → (q : Past) × IsLater p q × ShowsServer holds remaining contents q new × KeepsVersions p q
served_on holds remaining contents p c None new h = (p, no_later p, h, refl)
served_on holds remaining contents p c (Some (Gone how)) new h = (_, more_calls (Close c ∷ h.0) p, h.2, all_keep (Close c ∷ h.0) p.calls (made p) (tt, on_none c h.0 h.1))
served_on holds remaining contents p c (Some Busy) new h = (_, more_calls h.0 p, h.2, all_keep h.0 p.calls (made p) (on_none c h.0 h.1))
served_on holds remaining contents p c (Some WaitsToRead) new h = (_, more_calls h.0 p, h.2, all_keep h.0 p.calls (made p) (on_none c h.0 h.1))
served_on holds remaining contents p c (Some WaitsToWrite) new h = (_, more_calls h.0 p, h.2, all_keep h.0 p.calls (made p) (on_none c h.0 h.1))

adds_new : (set : VrpSet) (i : Instance) → is_current i.sets set ≡ false → published set i ≡ with_version set i
adds_new set i h = ap (λ b. if b then i else record i { sets = set ∷ i.sets }) h

-- The newest version has this set.
pub record NewestIs (set : VrpSet) (found : Option NumberedSet) : Type 0 where
  pub version : NumberedSet
  pub is : found ≡ Some version
  pub set_is : version.set ≡ set

by_same : (set : VrpSet) (start : ℕ) (sets : List VrpSet) → is_current sets set ≡ true → NewestIs set (newest (versions_from start sets))
by_same set start [] h = absurd (cc)
by_same set start (now ∷ older) h = record { version = record { serial = serial_at start (length older); set = now }; is = refl; set_is = (same_exactly now set).0 h }

-- the result of a publication: it is added and is the newest version, or nothing changed
abbrev pub Published_is : VrpSet → Result Published AllocError → Past → Past → Type 0
Published_is set (Ok x) p q = NewestIs set (newest (versions (present q).cache)) × Adds x set (present p).cache (present q).cache
Published_is set (Err e) p q = (present q).cache ≡ (present p).cache

pub published_on : {S T : Type 0} (holds : ℕ → Instance → S → Type 0) (remaining contents : T → Option (List ℕ)) (p : Past) (set : VrpSet) (result : Result Published AllocError) (old new : Server S T) → PublishesTo holds remaining contents p set result old new
    → (q : Past) × IsLater p q × ShowsServer holds remaining contents q new × Published_is set result p q
published_on holds remaining contents p set (Ok (New serial)) old new h =
    let cached : (present (record p { calls = h.notices ++ Publish set ∷ p.calls })).cache ≡ with_version set (present p).cache =
    all_keep h.notices (Publish set ∷ p.calls) (made p) (notice_none h.notices h.are) ∙ adds_new set (present p).cache h.differs in (
      record p { calls = h.notices ++ Publish set ∷ p.calls },
      record { more = h.notices ++ Publish set ∷ []; calls = sym (append_assoc h.notices (Publish set ∷ []) p.calls); keep = refl; timing = refl; first = refl; most = refl; begun = λ c none. refl },
      h.shows,
      (record { version = record { serial = serial_at (present p).cache.start (length (present p).cache.sets); set = set }; is = ap (λ i. newest (versions i)) cached; set_is = refl }, (h.differs, h.serial_is, cached)),
    )
published_on holds remaining contents p set (Ok Unchanged) old new h = (p, no_later p, h.1, (by_same set (present p).cache.start (present p).cache.sets h.0, (h.0, refl)))
published_on holds remaining contents p set (Err e) old new h = (p, no_later p, h.0, refl)

-- A version becomes pending.
pub pending_on : {S T : Type 0} (holds : ℕ → Instance → S → Type 0) (remaining contents : T → Option (List ℕ)) (old new : Service S T) → new.server ≡ old.server → new.is_pending ≡ true → new.pace ≡ old.pace → new.families ≡ old.families
    → ((old.has_points ≡ false → old.sources.repository ≡ no_points) → new.has_points ≡ false → new.sources.repository ≡ no_points) → ((p : Past) → IsMadeWith old.settings old.session0 p → IsMadeWith new.settings new.session0 p) → Continues holds remaining contents old new
pending_on holds remaining contents old new same pending pace families points made p h =
    (p, no_later p, record { server = subst (λ s. ShowsServer holds remaining contents p s) (sym same) h.server; newest = λ e. absurd (let never : true ≡ false = sym pending ∙ e in cc); families = families ∙ h.families; points = points h.points; made_with = made p h.made_with }, refl, pace)

same_newest : (now : ℕ) (i : Instance) (a b : Sources) → SameSources a b → IsNewestAt now i a → IsNewestAt now i b
same_newest now i a b e h = record {
  version = h.version;
  is = h.is;
  served = record { at = h.served.at; seconds = h.served.seconds; served = rw (e.lists, e.exceptions, e.repository, e.settings.leaves_out) h.served.served };
}

-- The sources are unchanged.
pub same_on : {S T : Type 0} (holds : ℕ → Instance → S → Type 0) (remaining contents : T → Option (List ℕ)) (old : Service S T) (sources : Sources) → SameSources old.sources sources → Continues holds remaining contents old (record old { sources = sources })
same_on holds remaining contents old sources same p h =
    (p, no_later p, record { server = h.server; newest = λ e. same_newest old.current_at (present p).cache old.sources sources same (h.newest e); families = h.families; points = λ e. same.repository ∙ h.points e; made_with = h.made_with }, refl, refl)

-- The server continues, and nothing is published.
pub server_on : {S T : Type 0} (holds : ℕ → Instance → S → Type 0) (remaining contents : T → Option (List ℕ)) (old : Service S T) (server : Server S T)
    → ((p : Past) → ShowsServer holds remaining contents p old.server → (q : Past) × IsLater p q × ShowsServer holds remaining contents q server × KeepsVersions p q) → Continues holds remaining contents old (record old { server = server })
server_on holds remaining contents old server goes p h =
    let on = goes p h.server in
    (on.0, on.1, record { server = on.2; newest = λ e. subst (λ i. IsNewestAt old.current_at i old.sources) (sym on.3) (h.newest e); families = h.families ∙ ap (λ i. families_in (newest (versions i))) (sym on.3); points = h.points; made_with = made_on old.settings old.session0 p on.0 on.1 h.made_with }, on.3, refl)

-- The newest version is the set of the sources at another second too.
pub current_on : {S T : Type 0} (holds : ℕ → Instance → S → Type 0) (remaining contents : T → Option (List ℕ)) (old : Service S T) (now : ℕ) (m : CivilMoment) → seconds_of m ≡ now → old.has_points ≡ false → SameExpired old.current_at now old.sources.lists.items
    → Continues holds remaining contents old (record old { current_at = now; judged_at = now })
current_on holds remaining contents old now m seconds none same p h =
    (p, no_later p, record { server = h.server; newest = λ e. let was = h.newest e in record { version = was.version; is = was.is; served = served_later old.current_at now old.sources was.version.set (h.points none) m seconds same was.served }; families = h.families; points = h.points; made_with = h.made_with }, refl, refl)

differs : (a b : ℕ) → ¬ (b ≡ a) → (a == b) ≡ false
differs a b h = false_if_never (a == b) (λ e. h (sym (eq_of a b e)))

-- To admit a stream publishes nothing.
pub admitted_on : {S T : Type 0} (holds : ℕ → Instance → S → Type 0) (remaining contents : T → Option (List ℕ)) (p : Past) (stream : T) (result : Result Client AdmitFault) (old new : Server S T) → ShowsServer holds remaining contents p old
    → AdmitsTo holds remaining contents p stream result old new → (q : Past) × IsLater p q × ShowsServer holds remaining contents q new × KeepsVersions p q
admitted_on holds remaining contents p stream (Ok client) old new is h =
    (_, record { more = Open client.0.0 ∷ []; calls = refl; keep = refl; timing = refl; first = refl; most = refl; begun = λ c none. ap (λ b. if b then record { before = remaining stream; had = contents stream } else p.begun c) (differs c client.0.0 none.0) }, h.shows, refl)
admitted_on holds remaining contents p stream (Err TooManyClients) old new is h = (p, no_later p, subst (λ s. ShowsServer holds remaining contents p s) (sym h.1) is, refl)
admitted_on holds remaining contents p stream (Err Memory) old new is h = (p, no_later p, h.1, refl)

-- To drop a client publishes nothing.
pub dropped_on : {S T : Type 0} (holds : ℕ → Instance → S → Type 0) (remaining contents : T → Option (List ℕ)) (p : Past) (c : ℕ) (new : Server S T) → ShowsServer holds remaining contents (record p { calls = Close c ∷ p.calls }) new
    → (q : Past) × IsLater p q × ShowsServer holds remaining contents q new × KeepsVersions p q
dropped_on holds remaining contents p c new h = (_, record { more = Close c ∷ []; calls = refl; keep = refl; timing = refl; first = refl; most = refl; begun = λ d none. refl }, h, refl)

newest_served : (now : ℕ) (s : Sources) (set : VrpSet) (i : Instance) → IsServedAt now s set → NewestIs set (newest (versions i)) → IsNewestAt now i s
newest_served now s set i h n = record { version = n.version; is = n.is; served = subst (λ t. IsServedAt now s t) (sym n.set_is) h }

-- The set of the sources is published.
pub issues : {S T : Type 0} (holds : ℕ → Instance → S → Type 0) (remaining contents : T → Option (List ℕ)) (old new : Service S T) (now : ℕ) (set : VrpSet) (x : Published) → IsServedAt now old.sources set → new.sources ≡ old.sources → new.families ≡ families_of set
    → ((p : Past) → ShowsServer holds remaining contents p old.server → PublishesTo holds remaining contents p set (Ok x) old.server new.server) → Issues holds remaining contents now x old new
issues holds remaining contents old new now set x served same families publishes p h =
    let on = published_on holds remaining contents p set (Ok x) old.server new.server (publishes p h) in
    let serves = subst (λ s. IsServedAt now s set) (sym same) served in
    (on.0, on.1, on.2, newest_served now new.sources set (present on.0).cache serves on.3.0, record { set = set; served = serves; adds = on.3.1 }, families ∙ sym (ap families_in on.3.0.is ∙ ap families_of on.3.0.set_is))

publishes_once : {S T : Type 0} (now second : ℕ) (x : Published) (old new : Service S T) (p q : Past) → PublishesAt now new.sources x p q → may_publish old.pace second ≡ true → IsOfSecond x second old.pace new.pace → PublishesOnce (λ at. at ≡ now) old new p q
publishes_once now second (New serial) old new p q h later pace =
    inr (record { now = now; answered = refl; set = h.set; served = h.served; differs = h.adds.0; adds = h.adds.2; second = second; later = later; paced = pace })
publishes_once now second Unchanged old new p q h later pace = inl (h.adds.1, pace)

-- What was published is of this second of the pace.
pub issued_on : {S T : Type 0} (holds : ℕ → Instance → S → Type 0) (remaining contents : T → Option (List ℕ)) (old new : Service S T) (now second : ℕ) (x : Published) → Issues holds remaining contents now x old new → new.sources ≡ old.sources → new.current_at ≡ now → new.has_points ≡ old.has_points → new.settings ≡ old.settings → new.session0 ≡ old.session0
    → may_publish old.pace second ≡ true → IsOfSecond x second old.pace new.pace → GoesOn (λ at. at ≡ now) holds remaining contents old new
issued_on holds remaining contents old new now second x h same at points settings session0 later pace p is =
    let on = h p is.server in (
      on.0,
      on.1,
      record { server = on.2; newest = λ e. subst (λ second. IsNewestAt second (present on.0).cache new.sources) (sym at) on.3; families = on.5; points = λ e. ap (λ s. s.repository) same ∙ is.points (sym points ∙ e); made_with = subst (λ s. IsMadeWith s new.session0 on.0) (sym settings) (subst (λ n. IsMadeWith old.settings n on.0) (sym session0) (made_on old.settings old.session0 p on.0 on.1 is.made_with)) },
      publishes_once now second x old new p on.0 on.4 later pace,
    )

by_clock : {S T : Type 0} (clock : ℕ → Type 0) (old new : Service S T) (p q : Past) (now : ℕ) → clock now → PublishesOnce (λ at. at ≡ now) old new p q → PublishesOnce clock old new p q
by_clock clock old new p q now answered (inl kept) = inl kept
by_clock clock old new p q now answered (inr h) = inr (record {
  now = h.now;
  answered = subst clock (sym h.answered) answered;
  set = h.set;
  served = h.served;
  differs = h.differs;
  adds = h.adds;
  second = h.second;
  later = h.later;
  paced = h.paced;
})

-- The second of a publication is one that the clock answered.
pub at_clock : {S T : Type 0} (clock : ℕ → Type 0) (holds : ℕ → Instance → S → Type 0) (remaining contents : T → Option (List ℕ)) (old new : Service S T) (now : ℕ) → clock now → GoesOn (λ at. at ≡ now) holds remaining contents old new → GoesOn clock holds remaining contents old new
at_clock clock holds remaining contents old new now answered goes p is =
    let on = goes p is in
    (on.0, on.1, on.2, by_clock clock old new p on.0 now answered on.3)

pub fresh_at : {S T : Type 0} (clock : ℕ → Type 0) (service : Service S T) (now : ℕ) → clock now → IsFresh (λ at. at ≡ now) service → IsFresh clock service
fresh_at clock service now answered (inl pending) = inl pending
fresh_at clock service now answered (inr same) = inr (subst clock (sym same) answered)

-- Memory ran out, and nothing is published.
pub unissued_on : {S T : Type 0} (holds : ℕ → Instance → S → Type 0) (remaining contents : T → Option (List ℕ)) (old : Service S T) (server : Server S T) (set : VrpSet) (error : AllocError)
    → ((p : Past) → ShowsServer holds remaining contents p old.server → PublishesTo holds remaining contents p set (Err error) old.server server) → Continues holds remaining contents old (record old { server = server })
unissued_on holds remaining contents old server set error publishes =
    server_on holds remaining contents old server (λ p is. published_on holds remaining contents p set (Err error) old.server server (publishes p is))
