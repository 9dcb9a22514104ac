-- What is noted of a client that was closed.
use Rattle.std.specs.Prelude.{ℕ, is_some, ◌+◌, ◌-◌, ◌^◌, min, Bool, false, not, nat_le, nat_lt, ◌&&◌, ◌==◌, slice_index, slice_set, Option, None, Some, option_map, if◌then◌else◌}
use Rattle.rtr_pdu.specs.Code.{UNSUPPORTED_VERSION}
use Rattle.rtr_pdu.specs.declared.version.Version.{Version}
use Rattle.rtr_server.specs.Reports.{Said}
use Rattle.rtr_server.specs.declared.turn.Parted.{Parted}
use Rattle.status_pages.specs.declared.status.ErrorReports.{ErrorReports}
use Rattle.status_pages.specs.declared.status.ReportsByCode.{ReportsByCode}

-- The versions 0 and 1 are served (RFC 6810, RFC 8210).
abbrev pub is_served : Option ℕ → Bool
is_served None = false
is_served (Some version) = nat_le version 1

-- The version on which the client had agreed: the one in which it spoke. On one that is not served nothing is agreed (RFC 8210 section 7).
abbrev pub agreed_version : Parted → Option Version
agreed_version p = if is_served p.asked then p.version else None

-- A client was served: it had agreed on a version.
abbrev pub has_agreed : Option Parted → Bool
has_agreed None = false
has_agreed (Some p) = is_some (agreed_version p)

-- The version in which the client asked, if that is why it was closed: the version is not served, and it was sent Error Report 4, Unsupported
-- Protocol Version
abbrev pub refused_by : Option ℕ → Option ℕ → Option ℕ
refused_by None asked = None
refused_by (Some code) asked = if code == UNSUPPORTED_VERSION && not (is_served asked) then asked else None

abbrev pub refused_version : Parted → Option ℕ
refused_version p = refused_by p.sent_report p.asked

-- One Error Report more
abbrev pub and_report : Option ℕ → ReportsByCode → ReportsByCode
and_report None counts = counts
and_report (Some code) counts =
    if nat_lt code 9 then record counts { known = slice_set counts.known code (min (slice_index counts.known code + 1) (2 ^ 64 - 1)) }
    else record counts { others = min (counts.others + 1) (2 ^ 64 - 1) }

-- the last Error Reports of the client in both directions
abbrev pub and_reports : Option Parted → ErrorReports → ErrorReports
and_reports None counts = counts
and_reports (Some p) counts = record {
  received = and_report (option_map (λ (said : Said). said.code) p.received_report) counts.received;
  sent = and_report p.sent_report counts.sent;
}
