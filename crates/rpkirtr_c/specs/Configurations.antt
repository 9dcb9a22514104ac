-- The configuration of a router as C has it.
use Rattle.std.specs.Prelude.{◌≡◌, ◌⊎◌, ℕ, ℤ, Bool, not, ◌==◌}
use Rattle.std.specs.Int.{from_bool}
use Rattle.rtr_ends.specs.Router as model
use Rattle.rtr_ends.specs.Timing.{InRange, Intervals, IsTiming, OutlastsOthers, intervals, timing_fault_number}
use Rattle.rtr_ends.specs.declared.configuration.RouterConfig.{RouterConfig}
use Rattle.rtr_ends.specs.declared.timing.TimingFault.TheVariants as timing
use Rattle.rpkirtr_c.specs.Answers.{number}
use Rattle.rpkirtr_c.specs.Sessions.{Makes}
use Rattle.rpkirtr_c.specs.declared.configuration.CConfig.{CConfig}
use Rattle.rpkirtr_c.specs.declared.configuration.ConfigFault.{ConfigFault}
use Rattle.rpkirtr_c.specs.declared.configuration.ConfigFault.TheVariants.{Structure, NoRoom}
use Rattle.rpkirtr_c.specs.declared.configuration.ConfigFault.TheVariants.{Intervals as BadIntervals}
use Rattle.rpkirtr_c.specs.declared.session.Session.{Session}
use Rattle.rpkirtr_c.specs.declared.call_status.CallStatus.{CallStatus}
use Rattle.rpkirtr_c.specs.declared.call_status.CallStatus.TheVariants.{Done, BadStructure, BadTiming, OutOfRange}

-- whether a byte says yes
abbrev pub is_yes : ℕ → Bool
is_yes byte = not (byte == 0)

abbrev pub own_intervals : CConfig → Intervals
own_intervals c = intervals c.refresh c.retry c.expire

-- the configuration that a structure has
abbrev pub config_of : CConfig → RouterConfig
config_of c = record { intervals = own_intervals c; keeps_refresh = is_yes c.keeps_refresh; keeps_retry = is_yes c.keeps_retry; keeps_expire = is_yes c.keeps_expire; most = c.most }

-- the structure that has a configuration
abbrev pub told_config : RouterConfig → CConfig
told_config c = record {
  size_ = 24;
  refresh = c.intervals.refresh;
  retry = c.intervals.retry;
  expire = c.intervals.expire;
  most = c.most;
  keeps_refresh = from_bool c.keeps_refresh;
  keeps_retry = from_bool c.keeps_retry;
  keeps_expire = from_bool c.keeps_expire;
  zero_ = 0;
}

-- It has the size of this header, and zero padding.
pub record IsStructure (c : CConfig) : Type 0 where
  pub size : c.size_ ≡ 24
  pub padding : c.zero_ ≡ 0

-- The router may hold a record too.
abbrev pub HasRoom : CConfig → Type 0
HasRoom c = IsStructure c × ¬ (c.most ≡ 0)

-- It has valid intervals too.
abbrev pub IsValid : CConfig → Type 0
IsValid c = HasRoom c × IsTiming (own_intervals c)

-- why a configuration is refused: the structure is judged first, then how many records the router may hold
abbrev pub IsConfigFault : CConfig → ConfigFault → Type 0
IsConfigFault c Structure = ¬ (IsStructure c)
IsConfigFault c NoRoom = IsStructure c × (c.most ≡ 0)
IsConfigFault c (BadIntervals timing.OutOfRange) = HasRoom c × ¬ (InRange (own_intervals c))
IsConfigFault c (BadIntervals timing.ExpireTooSmall) = HasRoom c × InRange (own_intervals c) × ¬ (OutlastsOthers (own_intervals c))

abbrev pub config_status : ConfigFault → CallStatus
config_status Structure = BadStructure
config_status NoRoom = OutOfRange
config_status (BadIntervals fault) = BadTiming

-- the number of what is at fault in the intervals, and 0 if they are not at fault
abbrev pub config_number : ConfigFault → ℕ
config_number Structure = 0
config_number NoRoom = 0
config_number (BadIntervals fault) = timing_fault_number fault

-- A configuration is written, if the structure has the size of this header. If it has another size, nothing is written, and the answer says so.
abbrev pub IsConfigTold : RouterConfig → ℤ → CConfig → CConfig → Type 0
IsConfigTold c answer old new =
    ((old.size_ ≡ 24) × (answer ≡ number Done) × (new ≡ told_config c)) ⊎ ((¬ (old.size_ ≡ 24)) × (answer ≡ number BadStructure) × (new ≡ old))

-- The router is configured so, or nothing changes for a fault, which is written.
abbrev pub IsConfigured : CConfig → ℤ → ℕ → Session → Session → Type 0
IsConfigured c answer told s t =
    (IsValid c × (answer ≡ number Done) × (told ≡ 0) × Makes (model.Configures (config_of c)) s t)
    ⊎ ((fault : ConfigFault) × IsConfigFault c fault × (answer ≡ number (config_status fault)) × (told ≡ config_number fault) × (t ≡ s))
