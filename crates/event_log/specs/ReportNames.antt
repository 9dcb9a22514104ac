-- The names of the codes of an Error Report, as in RFC 8210 section 12.
use Rattle.std.specs.Prelude.{ℕ, ◌==◌, if◌then◌else◌, List, codes}

-- the code by which a protocol version is refused (RFC 8210 sections 7 and 12)
abbrev pub UNSUPPORTED : ℕ
UNSUPPORTED = 4

abbrev pub report_name : ℕ → List ℕ
report_name code =
    if code == 0 then codes "Corrupt Data"
    else if code == 1 then codes "Internal Error"
    else if code == 2 then codes "No Data Available"
    else if code == 3 then codes "Invalid Request"
    else if code == 4 then codes "Unsupported Protocol Version"
    else if code == 5 then codes "Unsupported PDU Type"
    else if code == 6 then codes "Withdrawal of Unknown Record"
    else if code == 7 then codes "Duplicate Announcement Received"
    else if code == 8 then codes "Unexpected Protocol Version"
    else codes "unknown"
