-- Seconds of the pace, runs, and overdue clients, worked out.
use Rattle.std.specs.Prelude.{◌≡◌, true, false, [], ◌∷◌, None, Some, refl}
use Rattle.rtr_daemon.specs.Due.{second_of_pace}
use Rattle.rtr_daemon.specs.Pacing.{last_of}
use Rattle.rtr_daemon.specs.Overdue.{is_slow, is_stalled, outstanding_after}

at_the_start : second_of_pace 1764096000 5000 5000 ≡ 1764096000
at_the_start = refl

last_millisecond : second_of_pace 1764096000 5000 5999 ≡ 1764096000
last_millisecond = refl

second_after : second_of_pace 1764096000 5000 6000 ≡ 1764096001
second_after = refl

-- before the start: a monotonic clock does not answer that
before_the_start : second_of_pace 1764096000 5000 4000 ≡ 1764096000
before_the_start = refl

in_64_bits : second_of_pace 18446744073709551615 0 1000 ≡ 18446744073709551615
in_64_bits = refl

no_version : last_of 1764096000 [] ≡ 1764096000
no_version = refl

two_versions : last_of 1764096000 (1764096001 ∷ 1764096007 ∷ []) ≡ 1764096007
two_versions = refl

not_blocked : is_stalled None 60000 0 ≡ false
not_blocked = refl

almost : is_stalled (Some 5000) 34999 30000 ≡ false
almost = refl

stalled : is_stalled (Some 5000) 35000 30000 ≡ true
stalled = refl

-- one query came, and its answer has not left
first_query : outstanding_after None 1 0 5000 ≡ Some (record { query = 1; since = 5000 })
first_query = refl

same_query : outstanding_after (Some (record { query = 1; since = 5000 })) 1 0 9000 ≡ Some (record { query = 1; since = 5000 })
same_query = refl

-- its answer left, and the next query has a time of its own
next_query : outstanding_after (Some (record { query = 1; since = 5000 })) 2 1 9000 ≡ Some (record { query = 2; since = 9000 })
next_query = refl

no_query : outstanding_after (Some (record { query = 2; since = 9000 })) 2 2 10000 ≡ None
no_query = refl

nothing_outstanding : is_slow None 7200000 3600000 ≡ false
nothing_outstanding = refl

almost_an_hour : is_slow (Some (record { query = 1; since = 5000 })) 3604999 3600000 ≡ false
almost_an_hour = refl

an_hour : is_slow (Some (record { query = 1; since = 5000 })) 3605000 3600000 ≡ true
an_hour = refl
