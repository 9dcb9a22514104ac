-- The numbers of a call's answers, as the header has them.
use Rattle.std.specs.Prelude.{ℤ, pos}
use Rattle.rpkirtr_c.specs.declared.call_status.CallStatus.{CallStatus}
use Rattle.rpkirtr_c.specs.declared.call_status.CallStatus.TheVariants.{Done, Empty, Live, NoMemory, BadRecord, BadRoute, BadVersion, OutOfRange, NotLinked, Busy, BadPayload, BadTiming, NoConnection, NoData, BadKeep, BadStructure}

-- the number of an answer
abbrev pub number : CallStatus → ℤ
number Done = pos 0
number Empty = pos 1
number Live = pos 2
number NoMemory = pos 3
number BadRecord = pos 4
number BadRoute = pos 5
number BadVersion = pos 6
number OutOfRange = pos 7
number NotLinked = pos 8
number Busy = pos 9
number BadPayload = pos 10
number BadTiming = pos 11
number NoConnection = pos 12
number NoData = pos 13
number BadKeep = pos 14
number BadStructure = pos 15
