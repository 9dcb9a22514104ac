-- What a run reports that only checks its configuration.
use Rattle.std.specs.Prelude.{◌≡◌, ℕ, ◌+◌, length, min}
use Rattle.vrps.specs.VrpSet.{VrpSet}
use Rattle.rtr_daemon.specs.Families.{families_of}
use Rattle.rtr_daemon.specs.Serving.{IsServedAt}
use Rattle.rtr_daemon.specs.declared.daemon.CheckReport.{CheckReport}
use Rattle.rtr_daemon.specs.declared.daemon.Daemon.{Daemon}

-- how many files and publication points are watched, in 64 bits
abbrev pub source_count : {S T : Type 0} → Daemon S T → ℕ
source_count d = min (min (length d.exports.items + length d.slurms.items) 18446744073709551615 + length d.points.items) 18446744073709551615

-- How many VRPs of each family the set of the sources has at a time, and how many sources there are
pub record IsCheckReport {S T : Type 0} (now : ℕ) (d : Daemon S T) (report : CheckReport) : Type 0 where
  pub set : VrpSet
  pub served : IsServedAt now d.service.sources set
  pub ipv4 : report.ipv4 ≡ (families_of set).ipv4
  pub ipv6 : report.ipv6 ≡ (families_of set).ipv6
  pub files : report.files ≡ source_count d
