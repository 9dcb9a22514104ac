-- What links, committed versions and versions of the protocol are in C.
use Rattle.std.specs.Prelude.{ℕ, ◌-◌, ◌^◌, ◌==◌, Option, Some, None, if◌then◌else◌}
use Rattle.rtr_pdu.specs.Version.{version_number}
use Rattle.rtr_pdu.specs.declared.version.Version.{Version}
use Rattle.rtr_pdu.specs.declared.version.Version.TheVariants.{V0, V1}
use Rattle.rtr_ends.specs.RouterLink.{end_number}
use Rattle.rtr_ends.specs.Transcript.{Committed}
use Rattle.rtr_ends.specs.declared.link.End.{End}
use Rattle.rtr_ends.specs.declared.link.End.TheVariants.{Reported, Told}
use Rattle.rtr_ends.specs.declared.link.Link.{Link}
use Rattle.rtr_ends.specs.declared.link.Link.TheVariants.{Closed, Idle, Asked, Answering, Ended}
use Rattle.rpkirtr_c.specs.declared.links.CCommitted.{CCommitted}
use Rattle.rpkirtr_c.specs.declared.links.CLink.{CLink}

-- the moment of what never happens
abbrev pub never : ℕ
never = 2 ^ 64 - 1

abbrev pub moment_of : Option ℕ → ℕ
moment_of None = never
moment_of (Some at) = at

-- the code of an end's Error Report
abbrev pub code_of : End → ℕ
code_of (Reported code) = code
code_of (Told code) = code
code_of end = 0

abbrev pub link_of : Link → CLink
link_of Closed = record { state = 0; end = 0; code = 0 }
link_of Idle = record { state = 1; end = 0; code = 0 }
link_of Asked = record { state = 2; end = 0; code = 0 }
link_of Answering = record { state = 3; end = 0; code = 0 }
link_of (Ended end) = record { state = 4; end = end_number end; code = code_of end }

abbrev pub committed_of : Option Committed → CCommitted
committed_of None = record { moment = 0; serial = 0; refresh = 0; retry = 0; expire = 0; zero_ = 0; session = 0; version = 0; is_committed = 0 }
committed_of (Some v) = record {
  moment = v.moment;
  serial = v.serial;
  refresh = v.intervals.refresh;
  retry = v.intervals.retry;
  expire = v.intervals.expire;
  zero_ = 0;
  session = v.session;
  version = version_number v.version;
  is_committed = 1;
}

-- the version of the protocol of a number
abbrev pub version_of : ℕ → Option Version
version_of number = if number == 0 then Some V0 else if number == 1 then Some V1 else None
