-- What holds after every list of events.
use Rattle.std.specs.Prelude.{◌≡◌, ◌⊎◌, ℕ, ◌≤◌, ◌==◌, Bool, true, false, List, [], ◌∷◌, length, if◌then◌else◌, Option, Some, None, IfSome, ⊤, zero, suc, map}
use Rattle.std.specs.List.{AllByRecursion}
use Rattle.prefixes.specs.declared.route.Route.{Route}
use Rattle.vrps.specs.Instance.{Instance, IsInstance, named}
use Rattle.vrps.specs.Store.{is_current}
use Rattle.vrps.specs.Origin.{HasState, state}
use Rattle.vrps.specs.VrpSet.{VrpSet, empty}
use Rattle.vrps.specs.declared.origin.OriginState.{OriginState}
use Rattle.rtr_pdu.specs.declared.version.Version.{Version}
use Rattle.rtr_pdu.specs.declared.version.Version.TheVariants.{V1}
use Rattle.rtr_ends.specs.Answer.{session_in}
use Rattle.rtr_ends.specs.declared.link.End.{End}
use Rattle.rtr_ends.specs.declared.link.End.TheVariants as ends
use Rattle.rtr_ends.specs.Cache.{Conn, ConnCall, IsConnCall, serving}
use Rattle.rtr_ends.specs.Consumed.{IsRouterCall}
use Rattle.rtr_ends.specs.LinkRules.{Router}
use Rattle.rtr_ends.specs.Router.{RouterCall, played}
use Rattle.rtr_ends.specs.RouterLaws.{IsKept}
use Rattle.rtr_ends.specs.RouterLink.{Ended, is_reading}
use Rattle.rtr_ends.specs.Transcript.{Begun, Item, Question, AskSerial, Committed, Refused, Restarts, base_of, is_commit, kept, under_way}
use Rattle.rtr_ends.specs.Commit.{Commits}
use Rattle.rtr_world.specs.VersionPlaces.{NeverBack, VersionPlace, version_place_of}
use Rattle.rtr_world.specs.World.{Side, World, Event, On, Publish, Ending, RouterGets, RouterRestart, Speak, SideEvent, cache_gets, ending_at, instances, settle, side_part, side_refused, side_step, timing}
use Rattle.rtr_world.specs.History.{Outcome, Done, Memory, refusal, MayEnd, Made, IsMade, Entry, IsEvent, Leads, after, conn_due, moved, most_of, side_at}
use Rattle.rtr_world.specs.OneAnswer.{Between, IsOfNow}

-- a fact of each router of each world to which a history leads
abbrev pub Always : (World → Side → Type 0) → Type 0
Always Holds = (made : Made) (history : List Entry) (w : World) → Leads made history w → AllByRecursion (Holds w) w.sides

-- The tables: what a router holds, when it asks, and the greatest moment it was given are those of its transcript, and its link is as
-- that says.
abbrev pub Tables : Type 0
Tables = Always (λ w s. IsKept s.router s.items)

-- One answer at most, nothing on the wire to a closed link, and no link that has ended
abbrev pub OneAnswerAlways : Type 0
OneAnswerAlways = Always (λ w s. Between w s s.router.link)

-- When bytes arrive at the cache from a router on a live link, nothing more is due than was. Or its question was read, and what is due is
-- the answer of the cache as it is then, or Error Report 1 if memory ran out.
abbrev pub AnswersNow : Type 0
AnswersNow = Always (λ w s.
    is_reading s.router.link ≡ true → (most : ℕ) (wanting : Option ℕ) →
    (conn_due (cache_gets w most wanting s).conn ≡ conn_due s.conn) ⊎ IsOfNow s.router.spoken w.present w.keep wanting s.router.link (conn_due (cache_gets w most wanting s).conn))

-- The clean-up after an event leaves nothing to be done: once more, it changes nothing.
abbrev pub Settles : Type 0
Settles = Always (λ w s. settle (instances w) s ≡ s)

-- The headline: the table is empty if no session is held. Otherwise it is the set that was published under the version, the session and the
-- serial of what was committed last, by the transcript.
abbrev pub IsNamed : List Instance → Option Committed → VrpSet → Type 0
IsNamed all None table = table ≡ empty
IsNamed all (Some held) table = named (session_in held.version) all held.session held.serial ≡ Some table

abbrev pub Headline : Type 0
Headline = Always (λ w s. IsNamed (instances w) (kept s.items).version s.router.table)

-- What a router answers for a route is its state over that set, or over the empty one (RFC 6811 section 2).
abbrev pub IsRouteJudged : List Instance → Option Committed → Route → OriginState → Type 0
IsRouteJudged all None route answer = HasState empty route answer
IsRouteJudged all (Some held) route answer = (set : VrpSet) × (named (session_in held.version) all held.session held.serial ≡ Some set) × HasState set route answer

-- Each commit starts from the table that was held, or from the empty one after a Reset Query. Each announcement and each withdrawal of the
-- answer acted, and acted once, and they led to the table that was held then.
abbrev pub ActsOnce : Bool → Option Begun → VrpSet → VrpSet → Type 0
ActsOnce false answer old new = ⊤
ActsOnce true None old new = ⊥
ActsOnce true (Some a) old new = Commits (base_of a.question old) a.withdrawn a.announced new

abbrev pub EachOnce : List Item → Type 0
EachOnce [] = ⊤
EachOnce (item ∷ items) = ActsOnce (is_commit (item ∷ items)) (under_way items) (kept items).table (kept (item ∷ items)).table × EachOnce items

abbrev pub ActExactlyOnce : Type 0
ActExactlyOnce = Always (λ w s. EachOnce s.items)

-- the whole sentence
pub record HoldsNamed (all : List Instance) (items : List Item) (table : VrpSet) : Type 0 where
  pub named_so : IsNamed all (kept items).version table
  pub once : EachOnce items
  pub routes : (route : Route) → IsRouteJudged all (kept items).version route (state table route)

abbrev pub RouteStates : Type 0
RouteStates = Always (λ w s. (route : Route) → IsRouteJudged (instances w) (kept s.items).version route (state s.router.table route))

-- No way back: no version is committed that was published before one that was committed earlier.
abbrev pub NoWayBack : Type 0
NoWayBack = Always (λ w s. NeverBack s.places)

-- How many commits a transcript has, those before a restart of the router included
abbrev pub commits_in : List Item → ℕ
commits_in [] = 0
commits_in (item ∷ items) = if is_commit (item ∷ items) then suc (commits_in items) else commits_in items

-- If a version is held, the last place is its own among all that was published so far.
abbrev pub IsLastPlace : List Instance → Option Committed → List (Option VersionPlace) → Type 0
IsLastPlace all None places = ⊤
IsLastPlace all (Some version) [] = ⊥
IsLastPlace all (Some version) (last ∷ earlier) = last ≡ version_place_of all (Some version)

-- Each commit has a place, and each place is a commit's.
pub record HasPlaces (all : List Instance) (items : List Item) (places : List (Option VersionPlace)) : Type 0 where
  pub count : length places ≡ commits_in items
  pub last : IsLastPlace all (kept items).version places

abbrev pub PlacesNoted : Type 0
PlacesNoted = Always (λ w s. HasPlaces (instances w) s.items s.places)

-- A link ends by running out of memory, by its expiry, or by a report, and by nothing else. The report has code 1, or code 0 and answers a
-- Serial Query of another session than the cache's in the version of the connection.
abbrev pub OfAnother : Option Question → Version → Option Instance → Type 0
OfAnother (Some (AskSerial session serial)) version (Some home) = session ≡ session_in version home → ⊥
OfAnother question version home = ⊥

abbrev pub IsLawfulEnd : End → Option Question → Version → Option Instance → Type 0
IsLawfulEnd ends.Memory question version home = ⊤
IsLawfulEnd ends.Expired question version home = ⊤
IsLawfulEnd (ends.Told (suc zero)) question version home = ⊤
IsLawfulEnd (ends.Told zero) question version home = OfAnother question version home
IsLawfulEnd end question version home = ⊥

abbrev pub AreLawful : List Ending → Type 0
AreLawful endings = AllByRecursion (λ (e : Ending). IsLawfulEnd e.end e.question e.version e.home) endings

abbrev pub LawfulEnds : Type 0
LawfulEnds = Always (λ w s. AreLawful s.endings)

-- An end that is noted is before all ends that were noted, and the clean-up after the event leaves it there.
abbrev pub IsNoted : World → Ending → List Ending → Side → Type 0
IsNoted w ending before s = (s.endings ≡ ending ∷ before) × ((settle (instances w) s).endings ≡ ending ∷ before)

-- A link that ends by an event is noted, with its question and the version and the instance of its connection.
abbrev pub NotesEnd : World → SideEvent → Option ℕ → Side → Type 0
NotesEnd w event wanting s =
    let t : Side = side_step w event wanting s in
    (end : End) → t.router.link ≡ Ended end → IsNoted w (ending_at s end t.items) s.endings t

-- So is one that ends by what moves before memory runs out and the event is refused.
abbrev pub NotesRefused : World → SideEvent → ℕ → Option ℕ → Side → Type 0
NotesRefused w event bytes wanting s =
    let part : Side = side_part w event bytes wanting s in
    (end : End) → part.router.link ≡ Ended end → IsNoted w (ending_at s end part.items) s.endings (side_refused w event bytes wanting s)

pub record NotesEnds (w : World) (s : Side) : Type 0 where
  pub through : (event : SideEvent) (wanting : Option ℕ) → NotesEnd w event wanting s
  pub refused : (event : SideEvent) (bytes : ℕ) (wanting : Option ℕ) → NotesRefused w event bytes wanting s

abbrev pub EndsNoted : Type 0
EndsNoted = Always NotesEnds

-- What was noted is never dropped: after an event and its clean-up, the ends of each router are those before it, with at most one in front.
abbrev pub OneMore : List Ending → List Ending → Type 0
OneMore old new = (new ≡ old) ⊎ ((end : Ending) × (new ≡ end ∷ old))

abbrev pub NoneDropped : List Side → List Side → Type 0
NoneDropped [] [] = ⊤
NoneDropped (s ∷ sides) (n ∷ news) = OneMore s.endings n.endings × NoneDropped sides news
NoneDropped sides news = ⊥

abbrev pub EndsKept : Type 0
EndsKept = (w : World) (event : Event) (outcome : Outcome) → NoneDropped w.sides (after event outcome w).sides

-- No outcome of bytes that arrive at a router names a PDU.
abbrev pub NamesNone : Event → Outcome → Type 0
NamesNone (On r (RouterGets most)) (Done wanting) = wanting ≡ None
NamesNone (On r (RouterGets most)) (Memory bytes wanting) = wanting ≡ None
NamesNone event outcome = ⊤

-- Then no link ended by running out of memory at its router.
abbrev pub NotByMemory : End → Type 0
NotByMemory ends.Memory = ⊥
NotByMemory end = ⊤

abbrev pub NoneByMemory : Type 0
NoneByMemory =
    (made : Made) (history : List Entry) (w : World) → Leads made history w → AllByRecursion (λ (e : Entry). NamesNone e.event e.outcome) history →
    AllByRecursion (λ (s : Side). AllByRecursion (λ (e : Ending). NotByMemory e.end) s.endings) w.sides

-- What happens at one router, refused or not, leaves the others as they are.
abbrev pub OthersStay : Type 0
OthersStay =
    (made : Made) (history : List Entry) (w : World) → Leads made history w → (r d : ℕ) (event : SideEvent) (outcome : Outcome) → ¬ (d ≡ r) →
    side_at d (after (On r event) outcome w).sides ≡ side_at d w.sides

-- Bytes: an event at a router moves at most what it says, and at most what it moves with memory if that runs out at a PDU of it. If it is
-- refused for want of memory, at most this many have moved.
pub record MovesAtMost (w : World) (r : ℕ) (event : SideEvent) (wanting : Option ℕ) : Type 0 where
  pub said : moved w (On r event) wanting ≤ most_of event
  pub fewer : moved w (On r event) wanting ≤ moved w (On r event) None
  pub told : (bytes : ℕ) → MayEnd (refusal w (On r event)) w (On r event) (Memory bytes wanting) → (bytes ≤ most_of event) × (bytes ≤ moved w (On r event) None)

abbrev pub MovesNoMore : Type 0
MovesNoMore = (w : World) (r : ℕ) (event : SideEvent) (wanting : Option ℕ) → MovesAtMost w r event wanting

-- A set that is current already is never refused. If a refusal is due there is no other outcome, out of memory included.
pub record Refuses (w : World) : Type 0 where
  pub never : (set : VrpSet) → is_current w.present.sets set ≡ true → refusal w (Publish set) ≡ None
  pub alone : (event : Event) (refused outcome : Outcome) → refusal w event ≡ Some refused → MayEnd (refusal w event) w event outcome → outcome ≡ refused

abbrev pub RefusesRightly : Type 0
RefusesRightly = (w : World) → Refuses w

-- what a router was given, asked and read since it was last restarted
abbrev pub since_restart : List Item → List Item
since_restart [] = []
since_restart (Restarts ∷ items) = []
since_restart (Refused ∷ items) = since_restart items
since_restart (item ∷ items) = item ∷ since_restart items

-- Calls that can be lead to the router, and to its transcript since it was restarted, refused events aside.
pub record IsRun (r : Router) (items : List Item) : Type 0 where
  pub calls : List RouterCall
  pub can_be : AllByRecursion IsRouterCall calls
  pub router_is : (played calls).router ≡ r
  pub items_are : (played calls).items ≡ since_restart items

abbrev pub RoutersRun : Type 0
RoutersRun = Always (λ w s. IsRun s.router s.items)

-- Calls that can be lead to a connection since it was opened, and to the cache as it is now. If the router knows of a connection, it was
-- opened at the instance as it was then.
pub record IsConnRun (keep : ℕ) (present : Instance) (home : Option Instance) (o : Conn) : Type 0 where
  pub opened : Instance
  pub can_open : IsInstance opened
  pub home_is : IfSome home (λ i. i ≡ opened)
  pub calls : List ConnCall
  pub can_be : AllByRecursion IsConnCall calls
  pub conn_is : (serving keep timing opened calls).conn ≡ o
  pub cache_is : (serving keep timing opened calls).cache ≡ present

abbrev pub ConnsRun : Type 0
ConnsRun = Always (λ w s. IfSome s.conn (IsConnRun w.keep w.present s.home))

-- The version that is set for a router: by a Speak that goes through; and version 1 again if it restarts.
abbrev pub told_by : ℕ → Event → Outcome → Version → Version
told_by r (On d (Speak new)) (Done wanting) version = if d == r then new else version
told_by r (On d RouterRestart) (Done wanting) version = if d == r then V1 else version
told_by r event outcome version = version

abbrev pub told_since : ℕ → Version → List Entry → Version
told_since r version [] = version
told_since r version (entry ∷ history) = told_since r (told_by r entry.event entry.outcome version) history

-- The version that was set last for a router since it last restarted, 1 if none was set
abbrev pub told : ℕ → List Entry → Version
told r history = told_since r V1 history

-- A router speaks the version that was set.
abbrev pub EachSpeaks : Type 0
EachSpeaks = (made : Made) (history : List Entry) (w : World) → Leads made history w → (r : ℕ) (s : Side) → side_at r w.sides ≡ Some s → s.router.speaks ≡ told r history

-- The steps: a history leads to one world, and every list of events has outcomes with which it leads somewhere.
abbrev pub OneWorld : Type 0
OneWorld = (made : Made) (history : List Entry) (w v : World) → Leads made history w → Leads made history v → w ≡ v

abbrev pub EachLeads : Type 0
EachLeads =
    (made : Made) (events : List Event) → IsMade made → AllByRecursion IsEvent events →
    (history : List Entry) × (w : World) × (map (λ e. e.event) history ≡ events) × Leads made history w
