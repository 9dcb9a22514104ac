-- What a record does to what is staged.
use Rattle.std.specs.Prelude.{◌≡◌, ℕ, Bool, Result, Ok, Err, ⊤}
use Rattle.prefixes.specs.Payload.{Payload}
use Rattle.vrps.specs.VrpSet.{VrpSet}
use Rattle.vrps.specs.declared.set.SetFault.{SetFault}
use Rattle.vrps.specs.declared.set.SetFault.TheVariants.{TooMany, Memory}
use Rattle.rtr_ends.specs.LinkRules as rules
use Rattle.rtr_ends.specs.Transcript.{Begun, led_to}
use Rattle.rtr_ends.specs.Seen.{IsStaged}
use Rattle.rtr_ends.specs.declared.staging.Staging.{Staging}
use Rattle.rtr_ends.specs.declared.staging.Staged.{Staged}
use Rattle.rtr_ends.specs.declared.staging.Staged.TheVariants.{Stays, Wrong}

-- Memory runs out only if the record would be staged.
abbrev pub StagesRecord : VrpSet → Begun → rules.Staged → Result Staged SetFault → Staging → Type 0
StagesRecord base b (rules.Stays a) (Ok Stays) new = IsStaged base a.withdrawn a.announced new × (a.question ≡ b.question) × (a.session ≡ b.session)
StagesRecord base b (rules.Stays a) (Err Memory) new = ⊤
StagesRecord base b (rules.Wrong code) (Ok (Wrong told)) new = told ≡ code
StagesRecord base b rules.Over (Err TooMany) new = ⊤
StagesRecord base b staged answer new = ⊥

abbrev pub GoesTo : (most : ℕ) → VrpSet → Begun → Bool → Payload → Result Staged SetFault → Staging → Type 0
GoesTo most base b announce v answer new = StagesRecord base b (rules.stage most base b announce v) answer new

-- The answer ends. Out of memory is the only error.
abbrev pub LeadsToSet : VrpSet → Begun → Result VrpSet SetFault → Type 0
LeadsToSet base b (Ok table) = table ≡ led_to base b.withdrawn b.announced
LeadsToSet base b (Err fault) = fault ≡ Memory
