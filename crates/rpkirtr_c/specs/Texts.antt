-- What a status means, and the version, as texts for C.
use Rattle.std.specs.Prelude.{◌≡◌, ◌⊎◌, ℕ, ◌-◌, ℤ, List, ◌++◌, length, replicate, codes}
use Rattle.rpkirtr_c.specs.Answers.{number}
use Rattle.rpkirtr_c.specs.declared.call_status.CallStatus.{CallStatus}
use Rattle.rpkirtr_c.specs.declared.call_status.CallStatus.TheVariants.{Done, Empty, Live, NoMemory, BadRecord, BadRoute, BadVersion, OutOfRange, NotLinked, Busy, BadPayload, BadTiming, NoConnection, NoData, BadKeep, BadStructure}
use Rattle.rpkirtr_c.specs.declared.texts.CText.{CText}

-- A text in its room, which ends in zeros
abbrev pub in_room : List ℕ → CText
in_room text = record { text = text ++ replicate (64 - length text) 0 }

abbrev pub meaning : CallStatus → List ℕ
meaning Done = codes "the call succeeded"
meaning Empty = codes "the handle is empty"
meaning Live = codes "the handle is live and has to be freed first"
meaning NoMemory = codes "out of memory"
meaning BadRecord = codes "a malformed record"
meaning BadRoute = codes "a malformed route"
meaning BadVersion = codes "no such version of the protocol"
meaning OutOfRange = codes "an index at or past the end, or too many records"
meaning NotLinked = codes "no connection, or one that has ended"
meaning Busy = codes "a query is outstanding"
meaning BadPayload = codes "a malformed payload"
meaning BadTiming = codes "intervals that are not valid"
meaning NoConnection = codes "no connection has this number"
meaning NoData = codes "nothing is published"
meaning BadKeep = codes "no version to be kept, or too many"
meaning BadStructure = codes "a structure of another size, or a malformed one"

-- The text is the meaning of the status of this number, if there is one.
abbrev pub Means : ℤ → CText → Type 0
Means code text = ((s : CallStatus) × (number s ≡ code) × (text ≡ in_room (meaning s))) ⊎ (((s : CallStatus) → ¬ (number s ≡ code)) × (text ≡ in_room (codes "no such status")))
