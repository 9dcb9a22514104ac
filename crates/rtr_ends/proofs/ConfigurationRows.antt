-- What a configuration does, worked out: which intervals a commit has, when a router asks and forgets, and how many records it takes.
use Rattle.rtr_ends.proofs.Words.{Bool, List, None, Option, Some, [], arith, ap, false, if◌then◌else◌, nat_lt, nat_tests, refl, true, ℕ, ◌+◌, ◌≤◌, ◌||◌, ◌∙◌, ◌∷◌, ◌≡◌, Payload, VrpSet, empty, has, size, has-empty, len-empty, lt_true, vrp_cmp, judge, as_read, CacheResponse, EndOfData, EndOfData0, V0, V1, Version, Unit, ⊤}
use Rattle.rtr_ends.specs.Configuration.{chosen, default_config, limit_of}
use Rattle.rtr_ends.specs.LinkRules.{Over, Router, Stays, Wrong, new_router, on_unit, stage}
use Rattle.rtr_ends.specs.Router.{Configures, Connects, Receives, called, clocked, connects_at, played, receives, router_byte}
use Rattle.rtr_ends.specs.RouterLink.{Answering, Ended}
use Rattle.rtr_ends.specs.Timing.{Intervals, default_intervals, intervals}
use Rattle.rtr_ends.specs.Transcript.{AskReset, Asks, At, Begun, Committed, Configured, Item, Opened, Reads, Restarts, Shut, bounded, configured, due, is_among, kept, led_to, under_way, waiting}
use Rattle.rtr_ends.specs.declared.configuration.RouterConfig.{RouterConfig}
use Rattle.rtr_ends.specs.declared.link.End.TheVariants as ends
use Rattle.rtr_ends.proofs.LinkCells.{by_stage}
use Rattle.rtr_ends.proofs.StagingLaws.{led_none, size_announced}
use Rattle.rtr_ends.proofs.WholeAnswerRows.{end_bytes, v, v_bytes}

-- Its own intervals are 900, 60 and 1800. Of these it keeps some.
abbrev keeps : Bool → Bool → Bool → RouterConfig
keeps refresh retry expire = record { intervals = intervals 900 60 1800; keeps_refresh = refresh; keeps_retry = retry; keeps_expire = expire; most = 16777215 }

abbrev none : RouterConfig
none = keeps false false false

abbrev all : RouterConfig
all = keeps true true true

-- An End of Data has 3600, 600 and 7200. Each interval that is kept is its own, and no other.
each_is_kept : (chosen none (bounded 3600 600 7200) ≡ intervals 3600 600 7200) × (chosen (keeps true false false) (bounded 3600 600 7200) ≡ intervals 900 600 7200)
    × (chosen (keeps false true false) (bounded 3600 600 7200) ≡ intervals 3600 60 7200) × (chosen (keeps false false true) (bounded 3600 600 7200) ≡ intervals 3600 600 1800)
    × (chosen all (bounded 3600 600 7200) ≡ intervals 900 60 1800)
each_is_kept = (refl, refl, refl, refl, refl)

-- One that is not kept is brought into its range, and one that is kept is not what came.
out_of_range : (chosen (keeps true false false) (bounded 86401 0 172801) ≡ intervals 900 1 172800) × (chosen all (bounded 0 7201 599) ≡ intervals 900 60 1800)
out_of_range = (refl, refl)

-- A router that was never configured has what comes.
never_configured : (refresh retry expire : ℕ) → chosen default_config (bounded refresh retry expire) ≡ bounded refresh retry expire
never_configured refresh retry expire = refl

-- the first connection of a version, made at 100, and an answer without records to its Reset Query
abbrev answered : Version → Unit → List Item → List Item
answered version end before = Reads end ∷ At 200 ∷ Reads (CacheResponse 0x1234) ∷ At 100 ∷ Asks AskReset ∷ Opened version ∷ At 100 ∷ before

abbrev end_1 : Unit
end_1 = EndOfData 0x1234 5 3600 600 7200

abbrev end_0 : Unit
end_0 = EndOfData0 0x1234 5

abbrev with_intervals : Version → Intervals → Committed
with_intervals version own = record { version = version; session = 0x1234; serial = 5; moment = 200; intervals = own }

-- A commit of version 1 has those of its own intervals that are kept, one of version 0 has all. The next question is due by them.
commits_own : ((kept (answered V1 end_1 (Configured (keeps false true false) ∷ []))).version ≡ Some (with_intervals V1 (intervals 3600 60 7200)))
    × ((kept (answered V0 end_0 (Configured none ∷ []))).version ≡ Some (with_intervals V0 (intervals 900 60 1800)))
    × ((kept (answered V0 end_0 [])).version ≡ Some (with_intervals V0 default_intervals)) × (due (answered V1 end_1 (Configured all ∷ [])) ≡ Some 1100)
    × (due (answered V1 end_1 (Configured none ∷ [])) ≡ Some 3800) × (due (answered V0 end_0 (Configured none ∷ [])) ≡ Some 1100)
commits_own = (refl, refl, refl, refl, refl, refl)

-- Before a commit it tries again after its own retry interval, whether that is kept or not; after one, after the interval of the commit.
retries : (due (Shut ∷ Configured none ∷ Opened V1 ∷ At 100 ∷ []) ≡ Some 160) × (due (Shut ∷ Opened V1 ∷ At 100 ∷ []) ≡ Some 700)
    × (due (Shut ∷ answered V1 end_1 (Configured none ∷ [])) ≡ Some 800) × (due (Shut ∷ answered V1 end_1 (Configured all ∷ [])) ≡ Some 260)
retries = (refl, refl, refl, refl)

-- What is committed is dropped once its own expire interval has passed, if that is kept.
drops : ((kept (At 2000 ∷ answered V1 end_1 (Configured all ∷ []))).version ≡ Some (with_intervals V1 (intervals 900 60 1800))) × ((kept (At 2001 ∷ answered V1 end_1 (Configured all ∷ []))).version ≡ None)
    × ((kept (At 2001 ∷ answered V1 end_1 (Configured none ∷ []))).version ≡ Some (with_intervals V1 default_intervals))
drops = (refl, refl, refl)

-- What is committed keeps its intervals behind a later configuration. The next commit has those of that one.
later_configured : ((kept (Configured all ∷ answered V1 end_1 [])).version ≡ Some (with_intervals V1 default_intervals)) × (due (Configured all ∷ answered V1 end_1 []) ≡ Some 3800)
    × (due (Shut ∷ Configured all ∷ answered V1 end_1 []) ≡ Some 800) × ((kept (answered V1 end_1 (Configured all ∷ answered V1 end_1 []))).version ≡ Some (with_intervals V1 (intervals 900 60 1800)))
later_configured = (refl, refl, refl, refl)

-- One that comes in an answer counts at its end, and leaves the answer under way, and so a question that waits.
in_an_answer : ((kept (Reads end_1 ∷ Configured all ∷ Reads (CacheResponse 0x1234) ∷ Asks AskReset ∷ Opened V1 ∷ At 200 ∷ [])).version ≡ Some (with_intervals V1 (intervals 900 60 1800)))
    × (waiting (Configured all ∷ Asks AskReset ∷ Opened V1 ∷ []) ≡ Some AskReset)
    × (under_way (Configured all ∷ Reads (CacheResponse 0x1234) ∷ Asks AskReset ∷ []) ≡ Some (record { question = AskReset; session = 0x1234; withdrawn = []; announced = [] }))
in_an_answer = (refl, refl, refl)

-- The second counts, and a new router has the default.
second_counts : (configured (Configured all ∷ At 5 ∷ Configured none ∷ []) ≡ all) × (configured (Restarts ∷ Configured all ∷ []) ≡ default_config) × ((played (Configures all ∷ Connects 100 ∷ Configures none ∷ [])).router.config ≡ all)
unfolding connects_at clocked
second_counts = (refl, refl, refl)

-- The call changes the configuration alone: nothing is sent, and the rest stays.
changes_nothing_else : (config : RouterConfig) (r : Router) → called (Configures config) r ≡ record { router = record r { config = config }; items = Configured config ∷ [] }
changes_nothing_else config r = refl

-- A router of this configuration has put its first question at 100, and nothing of the answer is read but its beginning.
abbrev begun_with : RouterConfig → Router
begun_with config = record new_router { config = config; now = 100; agreed = true; session = Some 0x1234; link = Answering (record { question = AskReset; session = 0x1234; withdrawn = []; announced = [] }) }

abbrev committed_by : RouterConfig → Option Committed
committed_by config = (called (Receives 200 None (end_bytes 5)) (begun_with config)).router.version

-- It reads the bytes of an End of Data of 3600, 600 and 7200.
reads_end : (committed_by all ≡ Some (with_intervals V1 (intervals 900 60 1800))) × (committed_by (keeps false false true) ≡ Some (with_intervals V1 (intervals 3600 600 1800))) × (committed_by default_config ≡ Some (with_intervals V1 default_intervals))
unfolding receives router_byte clocked on_unit judge as_read
reads_end = (refl, refl, refl)

-- The limit
abbrev at_most : ℕ → RouterConfig
at_most most = record default_config { most = most }

limits : (limit_of default_config ≡ 16777215) × (limit_of (at_most 16777216) ≡ 16777215) × (limit_of (at_most 16777215) ≡ 16777215) × (limit_of (at_most 16777214) ≡ 16777214) × (limit_of (at_most 0) ≡ 0)
limits = (refl, refl, refl, refl, refl)

-- A record more is staged up to the limit, and is too many beyond it.
module _ (base : VrpSet) (a : Begun) (x : Payload) (known : has base x ≡ false) (once : is_among x a.announced ≡ false) where
  more : size (led_to base a.withdrawn (x ∷ a.announced)) ≡ size (led_to base a.withdrawn a.announced) + 1
  more = size_announced base a.withdrawn a.announced x known once

  beyond : (most : ℕ) → size (led_to base a.withdrawn a.announced) ≡ most → stage most base a true x ≡ Over
  beyond most full =
      let much : nat_lt most (size (led_to base a.withdrawn (x ∷ a.announced))) ≡ true = lt_true most (size (led_to base a.withdrawn (x ∷ a.announced))) (omega (arith, more, full)) in
      λ i. if known i || once i then Wrong 7 else if much i then Over else Stays (record a { announced = x ∷ a.announced })

  up_to : (most : ℕ) → size (led_to base a.withdrawn a.announced) + 1 ≡ most → stage most base a true x ≡ Stays (record a { announced = x ∷ a.announced })
  up_to most room =
      let fits : nat_lt most (size (led_to base a.withdrawn (x ∷ a.announced))) ≡ false = not_less most (size (led_to base a.withdrawn (x ∷ a.announced))) (omega (arith, more, room)) in
      λ i. if known i || once i then Wrong 7 else if fits i then Over else Stays (record a { announced = x ∷ a.announced })
    where
      not_less : (n m : ℕ) → m ≤ n → nat_lt n m ≡ false
      not_less n m h = grind (arith, nat_tests)

-- The first record, if none and if one may be staged
abbrev no_records : Begun
no_records = record { question = AskReset; session = 0x1234; withdrawn = []; announced = [] }

none_led : size (led_to empty [] []) ≡ 0
none_led = ap (λ s. size s) (led_none empty) ∙ len-empty vrp_cmp ⊤

-- The link ends at it, and nothing is sent. Or it is staged.
first_record : ((called (Receives 100 None v_bytes) (begun_with (at_most 0))).router ≡ record (begun_with (at_most 0)) { link = Ended ends.TooMany })
    × ((called (Receives 100 None v_bytes) (begun_with (at_most 1))).router ≡ record (begun_with (at_most 1)) { link = Answering (record no_records { announced = v ∷ [] }) })
unfolding receives router_byte clocked on_unit judge as_read
first_record = (
  ap (λ st. (by_stage 100 v true (begun_with (at_most 0)) st).router) (beyond empty no_records v (has-empty v) refl 0 none_led),
  ap (λ st. (by_stage 100 v true (begun_with (at_most 1)) st).router) (up_to empty no_records v (has-empty v) refl 1 (ap (λ n. n + 1) none_led)),
)
