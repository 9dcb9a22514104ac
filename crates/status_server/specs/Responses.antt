-- What is added to a response: its status (RFC 9110 section 15), headers, and a body.
use Rattle.std.specs.Prelude.{◌≡◌, ◌⊎◌, ◌↔◌, ℕ, ◌<◌, ◌≤◌, Bool, true, false, IsTrue, List, [], ◌∷◌, ◌++◌, codes}
use Rattle.std.specs.Fmt.{decimal}
use Rattle.std.specs.List.{concat}
use Rattle.http1.specs.Fields.{Header}
use Rattle.http_header.specs.FieldValue.{FieldValue}
use Rattle.http_header.specs.HeaderMap.{Entries}
use Rattle.http_server.specs.Response.{fields_of}
use Rattle.http_server.specs.declared.response.Response.{Response}
use Rattle.httpdate.specs.Date.{date_text, unix_secs}
use Rattle.httpdate.specs.declared.date.HttpDate.{HttpDate}
use Rattle.status_server.specs.Conditions.{HasTag}
use Rattle.status_server.specs.declared.plan.Plan.{Plan}
use Rattle.status_server.specs.declared.plan.Plan.TheVariants as plans

-- The response has this status. These headers follow those that it had, and this text its body.
abbrev pub Sends : ℕ → List Header → List ℕ → Response → Response → Type 0
Sends status headers text old new =
    (new.status ≡ status) × (fields_of new ≡ fields_of old ++ headers) × (new.body.items ≡ old.body.items ++ text)

-- The headers of each body: its media type, no guess of another one, and no use of a stored response without asking (RFC 9111 section 5.2.2.4)
abbrev pub body_headers : List ℕ → List Header
body_headers kind =
    (codes "content-type", kind) ∷ (codes "cache-control", codes "no-cache") ∷ (codes "x-content-type-options", codes "nosniff") ∷ []

abbrev pub text_kind : List ℕ
text_kind = codes "text/plain; charset=utf-8"

abbrev pub json_kind : List ℕ
json_kind = codes "application/json; charset=utf-8"

abbrev pub csv_kind : List ℕ
csv_kind = codes "text/csv; charset=utf-8; header=present"

abbrev pub html_kind : List ℕ
html_kind = codes "text/html; charset=utf-8"

-- the text format of Prometheus
abbrev pub metrics_kind : List ℕ
metrics_kind = codes "text/plain; version=0.0.4; charset=utf-8"

-- What a page may load, and the destination of its form: nothing from elsewhere.
abbrev pub policy : List ℕ
policy = codes "default-src 'none'; style-src 'unsafe-inline'; base-uri 'none'; form-action 'self'; frame-ancestors 'none'"

abbrev pub page_headers : List Header
page_headers =
    (codes "content-type", html_kind) ∷ (codes "cache-control", codes "no-cache") ∷ (codes "x-content-type-options", codes "nosniff")
    ∷ (codes "content-security-policy", policy) ∷ []

-- a text for people, with this status
abbrev pub SendsText : ℕ → List ℕ → Response → Response → Type 0
SendsText status text = Sends status (body_headers text_kind) text

-- No version is published yet. The client asks again a second later.
abbrev pub SendsEarly : Response → Response → Type 0
SendsEarly = Sends 503 ((codes "retry-after", codes "1") ∷ body_headers text_kind) (codes "no version is published yet: ask again in a second\n")

-- A representation with an entity tag (RFC 9110 section 8.8.3) and such a text. A client that has it gets 304 without a body (section 15.4.5).
abbrev pub SendsTagged : Bool → List ℕ → List ℕ → (List ℕ → Type 0) → Response → Response → Type 0
SendsTagged true tag kind is old new = Sends 304 ((codes "etag", tag) ∷ (codes "cache-control", codes "no-cache") ∷ []) [] old new
SendsTagged false tag kind is old new = (text : List ℕ) × is text × Sends old.status ((codes "etag", tag) ∷ body_headers kind) text old new

abbrev pub SendsUnder : Entries FieldValue → List ℕ → List ℕ → (List ℕ → Type 0) → Response → Response → Type 0
SendsUnder headers tag kind is old new = (has : Bool) × (IsTrue has ↔ HasTag headers tag) × SendsTagged has tag kind is old new

-- the tag of the lists of a version,
abbrev pub list_tag : ℕ → ℕ → List ℕ
list_tag session serial = concat (codes "\"" ∷ decimal session ∷ codes "-" ∷ decimal serial ∷ codes "\"" ∷ [])

-- and of its export, which says when its records were made
abbrev pub export_tag : ℕ → ℕ → ℕ → List ℕ
export_tag session serial made = concat (codes "\"" ∷ decimal session ∷ codes "-" ∷ decimal serial ∷ codes "-" ∷ decimal made ∷ codes "\"" ∷ [])

-- the date of this second since 1970 (RFC 9110 section 5.6.7)
abbrev pub IsDateOf : ℕ → List ℕ → Type 0
IsDateOf seconds text = (d : HttpDate) × (unix_secs d ≡ seconds) × (text ≡ date_text d)

-- A response of this second has its date (RFC 9110 section 6.6.1), up to the end of the year 9999.
abbrev pub IsDated : ℕ → Response → Response → Type 0
IsDated seconds old new =
    ((253402300800 ≤ seconds) × Sends old.status [] [] old new)
    ⊎ ((seconds < 253402300800) × ((date : List ℕ) × IsDateOf seconds date × Sends old.status ((codes "date", date) ∷ []) [] old new))

-- the paths, for those who ask for another
abbrev pub paths_text : List ℕ
paths_text = codes "not found; resources: /, /metrics, /health, /ready, /live, /vrps.json, /rpki.json, /json, /list.json, /vrps.csv, /csv, /validity, /api/v1/status and /api/v1/validity/NUMBER/PREFIX\n"

-- what a plan refuses
abbrev pub Refuses : Plan → Response → Response → Type 0
Refuses plans.InvalidHost = SendsText 400 (codes "a request must have exactly one Host header\n")
Refuses plans.NotServed = SendsText 421 (codes "this name is not served here: use an address, or start rpkirtrd with --status-name NAME\n")
Refuses plans.NotFound = SendsText 404 paths_text
Refuses plans.NotAllowed = Sends 405 ((codes "allow", codes "GET, HEAD") ∷ body_headers text_kind) (codes "only GET and HEAD are answered\n")
Refuses plan = λ old new. ⊥
