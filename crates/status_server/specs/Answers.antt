-- The answers, by what the source answers.
use Rattle.std.specs.Prelude.{◌≡◌, ◌⊎◌, ℕ, Bool, true, false, if◌then◌else◌, List, [], ◌∷◌, ◌++◌, codes, Option, Some, None, IfSome, Result, Ok, Err, ⊤, option_map, slice_get, length, ◌-◌, unwrap_or}
use Rattle.std.specs.Io.KnownBytes.{Appends}
use Rattle.event_log.specs.Clock.{IsTimeOf}
use Rattle.http.specs.declared.request.Parts.{Parts}
use Rattle.http_header.specs.FieldValue.{FieldValue}
use Rattle.http_header.specs.HeaderMap.{Entries}
use Rattle.http_server.specs.Response.{IsBlank, IsResponse}
use Rattle.http_server.specs.declared.response.Response.{Response}
use Rattle.http_uri.specs.Uri.{uri_path, uri_query}
use Rattle.prefixes.specs.declared.route.Route.{Route}
use Rattle.status_pages.specs.ApiStatus.{IsApiText}
use Rattle.status_pages.specs.Export.{export_head, routinator_head}
use Rattle.status_pages.specs.Health.{IsHealthText}
use Rattle.status_pages.specs.Made.{oldest}
use Rattle.status_pages.specs.Query.{Finds, FindsInPath}
use Rattle.status_pages.specs.Validity.{IsValidity}
use Rattle.status_pages.specs.Reasons.{is_healthy, is_ready, served_vrps}
use Rattle.status_pages.specs.ValidityText.{validity_text}
use Rattle.status_pages.specs.declared.query_fault.QueryFault.{QueryFault}
use Rattle.status_pages.specs.declared.query_fault.QueryFault.TheVariants as fault
use Rattle.status_pages.specs.declared.status.Status.{Status}
use Rattle.status_pages.specs.declared.validity.Validity.{Validity}
use Rattle.vrps.specs.VrpSet.{VrpSet}
use Rattle.status_server.specs.Lists.{kind_of}
use Rattle.status_server.specs.Plans.{IsRoute, PlansSo}
use Rattle.status_server.specs.Resources.{route_path}
use Rattle.status_server.specs.Responses.{IsDated, Refuses, Sends, SendsEarly, SendsText, SendsUnder, body_headers, export_tag, json_kind, list_tag, metrics_kind, page_headers}
use Rattle.status_server.specs.declared.list_forms.ExportForm.{ExportForm}
use Rattle.status_server.specs.declared.list_forms.ExportForm.TheVariants as export
use Rattle.status_server.specs.declared.list_forms.ListForm.{ListForm}
use Rattle.status_server.specs.declared.list_forms.ListForm.TheVariants as form
use Rattle.status_server.specs.declared.plan.Plan.{Plan}
use Rattle.status_server.specs.declared.plan.Plan.TheVariants as plans
use Rattle.status_server.specs.declared.resources.Resource.TheVariants as resources

-- What a source answers to each request, if that is known: its status, its records in each form, and the set whose validity it answers
pub record Shown : Type 0 where
  pub status : Option Status
  pub payloads : Option (Option (List ℕ))
  pub roas : Option (Option (List ℕ))
  pub csv : Option (Option (List ℕ))
  pub routinator_csv : Option (Option (List ℕ))
  pub set : Option (Option VrpSet)

-- nothing is known
abbrev pub nothing_shown : Shown
nothing_shown = record { status = None; payloads = None; roas = None; csv = None; routinator_csv = None; set = None }

-- the records in a form
abbrev pub shown_list : ListForm → Shown → Option (Option (List ℕ))
shown_list form.Payloads shown = shown.payloads
shown_list form.Roas shown = shown.roas
shown_list form.Csv shown = shown.csv
shown_list form.RoutinatorCsv shown = shown.routinator_csv

-- An answer is as it is known, if it is known.
abbrev pub IsShown : {A : Type 0} → Option A → A → Type 0
IsShown known answer = IfSome known (λ a. answer ≡ a)

-- The validity of a route under a set, or none without a set
abbrev pub IsValidityIn : Route → Option VrpSet → Option Validity → Type 0
IsValidityIn route None None = ⊤
IsValidityIn route (Some set) (Some v) = IsValidity set route v
IsValidityIn route set answer = ⊥

-- Of a known set it is the validity under that set.
abbrev pub IsShownValidity : Option (Option VrpSet) → Route → Option Validity → Type 0
IsShownValidity known route answer = IfSome known (λ set. IsValidityIn route set answer)

-- What is sent of a version that has this serial and this list. Before the first one there is none.
abbrev pub SendsVersion : Option ℕ → Option (List ℕ) → (ℕ → List ℕ → Response → Response → Type 0) → Response → Response → Type 0
SendsVersion (Some serial) (Some list) sends = sends serial list
SendsVersion (Some serial) None sends = SendsEarly
SendsVersion None list sends = SendsEarly

-- The records of the served set in a form, by its media type
abbrev pub SendsList : Entries FieldValue → List ℕ → Status → Option (List ℕ) → Response → Response → Type 0
SendsList headers kind s list = SendsVersion s.serial list (λ serial list. SendsUnder headers (list_tag s.session serial) kind (λ text. text ≡ list))

-- When the served data were made: at the earliest time of a source, or when the version was published if no source has a time
abbrev pub published_at : Status → Option ℕ
published_at s = option_map (λ c. c.at) (slice_get s.changes.items (length s.changes.items - 1))

abbrev pub made_at : Status → ℕ
made_at s = unwrap_or (oldest s.files.items) (unwrap_or (published_at s) s.now)

-- The metadata of an export: as rpki-client and StayRTR write them, or as Routinator does
abbrev pub metadata_text : ExportForm → List ℕ → ℕ → ℕ → List ℕ
metadata_text export.RpkiClient time made vrps = export_head time made vrps
metadata_text export.Routinator time made vrps = routinator_head time made

-- the form of its records
abbrev pub records_of : ExportForm → ListForm
records_of export.RpkiClient = form.Payloads
records_of export.Routinator = form.Roas

-- The start of an export, with the time at which its data were made
abbrev pub IsExportHead : ExportForm → ℕ → ℕ → List ℕ → Type 0
IsExportHead f made vrps text = (time : List ℕ) × IsTimeOf made time × (text ≡ metadata_text f time made vrps)

-- That is appended.
abbrev pub BeginsAs : ExportForm → Option (List ℕ) → Option (List ℕ) → ℕ → ℕ → Type 0
BeginsAs f old new made vrps = (time : List ℕ) × IsTimeOf made time × Appends old new (metadata_text f time made vrps)

-- The export: the metadata, and the records
abbrev pub IsExport : ExportForm → Status → List ℕ → List ℕ → Type 0
IsExport f s list text = (head : List ℕ) × IsExportHead f (made_at s) (served_vrps s) head × (text ≡ head ++ list ++ codes "}")

abbrev pub SendsExport : Entries FieldValue → ExportForm → Status → Option (List ℕ) → Response → Response → Type 0
SendsExport headers f s list =
    SendsVersion s.serial list (λ serial records. SendsUnder headers (export_tag s.session serial (made_at s)) json_kind (IsExport f s records))

-- 200 if the cache is healthy, and 503 with the reasons if it is not
abbrev pub SendsHealth : Status → Response → Response → Type 0
SendsHealth s old new =
    (text : List ℕ) × IsHealthText s text
    × SendsText (if is_healthy s then old.status else 503) text old new

-- 200 if routers can be sent to the cache, and 503 with the reasons why it is not well if they cannot
abbrev pub IsReadyText : Bool → Status → List ℕ → Type 0
IsReadyText true s text = text ≡ codes "ok\n"
IsReadyText false s text = IsHealthText s text

abbrev pub SendsReady : Status → Response → Response → Type 0
SendsReady s old new =
    (text : List ℕ) × IsReadyText (is_ready s) s text × SendsText (if is_ready s then old.status else 503) text old new

-- The status as JSON. Before the first version there is none.
abbrev pub SendsApiOf : Option ℕ → Status → Response → Response → Type 0
SendsApiOf None s old new = SendsEarly old new
SendsApiOf (Some serial) s old new = (text : List ℕ) × IsApiText s serial text × Sends old.status (body_headers json_kind) text old new

abbrev pub SendsApi : Status → Response → Response → Type 0
SendsApi s = SendsApiOf s.serial s

-- The validity of a route as JSON, with the current time
abbrev pub SendsValidityText : Route → Validity → Response → Response → Type 0
SendsValidityText route v old new =
    (now : ℕ) × (time : List ℕ) × IsTimeOf now time × Sends old.status (body_headers json_kind) (validity_text route v time) old new

-- or as a page of HTML
abbrev pub SendsValidity : Bool → Route → Option Validity → Response → Response → Type 0
SendsValidity is_html route None old new = SendsEarly old new
SendsValidity true route (Some v) old new = (text : List ℕ) × Sends old.status page_headers text old new
SendsValidity false route (Some v) old new = SendsValidityText route v old new

-- Each of these is of what the source answers, if that is known.
abbrev pub SendsKnownHealth : Shown → Response → Response → Type 0
SendsKnownHealth shown old new = (s : Status) × IsShown shown.status s × SendsHealth s old new

abbrev pub SendsKnownReady : Shown → Response → Response → Type 0
SendsKnownReady shown old new = (s : Status) × IsShown shown.status s × SendsReady s old new

abbrev pub SendsKnownApi : Shown → Response → Response → Type 0
SendsKnownApi shown old new = (s : Status) × IsShown shown.status s × SendsApi s old new

abbrev pub SendsKnownExport : Shown → ExportForm → Entries FieldValue → Response → Response → Type 0
SendsKnownExport shown f headers old new =
    (s : Status) × IsShown shown.status s × ((list : Option (List ℕ)) × IsShown (shown_list (records_of f) shown) list × SendsExport headers f s list old new)

abbrev pub SendsKnownList : Shown → ListForm → Entries FieldValue → Response → Response → Type 0
SendsKnownList shown f headers old new =
    (s : Status) × IsShown shown.status s × ((list : Option (List ℕ)) × IsShown (shown_list f shown) list × SendsList headers (kind_of f) s list old new)

abbrev pub SendsKnownValidity : Shown → Bool → Route → Response → Response → Type 0
SendsKnownValidity shown is_html route old new =
    (answer : Option Validity) × IsShownValidity shown.set route answer × SendsValidity is_html route answer old new

-- Why a query names no route, as a text, or as a page with the form. To ask for the empty form is no mistake.
abbrev pub SendsFault : Bool → List ℕ → Response → Response → Type 0
SendsFault false query old new = (text : List ℕ) × SendsText 400 text old new
SendsFault true [] old new = (text : List ℕ) × Sends old.status page_headers text old new
SendsFault true (b ∷ query) old new = (text : List ℕ) × Sends 400 page_headers text old new

-- The validity of the route that a query asks about, or why it names none
abbrev pub SendsJudged : Shown → Bool → List ℕ → Result Route QueryFault → Response → Response → Type 0
SendsJudged shown is_html query (Ok route) old new = SendsKnownValidity shown is_html route old new
SendsJudged shown is_html query (Err fault.Memory) old new = ⊥
SendsJudged shown is_html query (Err why) old new = SendsFault is_html query old new

-- The form depends on what the client accepts, which the response says (RFC 9110 section 12.5.5).
pub record SendsQuery (shown : Shown) (p : Parts) (old new : Response) : Type 0 where
  pub varied : Response
  pub varies : Sends old.status ((codes "vary", codes "Accept") ∷ []) [] old varied
  pub is_html : Bool
  pub found : Result Route QueryFault
  pub finds : Finds (unwrap_or (uri_query p.uri) []) found
  pub judged : SendsJudged shown is_html (unwrap_or (uri_query p.uri) []) found varied new

-- The route is the one that the end of a path names.
pub record SendsRoute (shown : Shown) (path : List ℕ) (old new : Response) : Type 0 where
  pub rest : List ℕ
  pub ends : IsRoute path → path ≡ route_path rest
  pub found : Result Route QueryFault
  pub finds : FindsInPath rest found
  pub judged : SendsJudged shown false [] found old new

-- A plan is carried out: a resource is sent as the source has it, and a refusal has its status and its text.
abbrev pub CarriesOut : Shown → Parts → Plan → Response → Response → Type 0
CarriesOut shown p (plans.Resource resources.Status) old new = (text : List ℕ) × Sends old.status page_headers text old new
CarriesOut shown p (plans.Resource resources.Metrics) old new = (text : List ℕ) × Sends old.status (body_headers metrics_kind) text old new
CarriesOut shown p (plans.Resource resources.Health) old new = SendsKnownHealth shown old new
CarriesOut shown p (plans.Resource resources.Ready) old new = SendsKnownReady shown old new
CarriesOut shown p (plans.Resource resources.Live) old new = SendsText old.status (codes "ok\n") old new
CarriesOut shown p (plans.Resource resources.ApiStatus) old new = SendsKnownApi shown old new
CarriesOut shown p (plans.Resource resources.Export) old new = SendsKnownExport shown export.RpkiClient p.headers old new
CarriesOut shown p (plans.Resource resources.StayRtrExport) old new = SendsKnownExport shown export.RpkiClient p.headers old new
CarriesOut shown p (plans.Resource resources.RoutinatorExport) old new = SendsKnownExport shown export.Routinator p.headers old new
CarriesOut shown p (plans.Resource resources.List) old new = SendsKnownList shown form.Payloads p.headers old new
CarriesOut shown p (plans.Resource resources.Csv) old new = SendsKnownList shown form.Csv p.headers old new
CarriesOut shown p (plans.Resource resources.RoutinatorCsv) old new = SendsKnownList shown form.RoutinatorCsv p.headers old new
CarriesOut shown p (plans.Resource resources.Validity) old new = SendsQuery shown p old new
CarriesOut shown p plans.Route old new = SendsRoute shown (uri_path p.uri) old new
CarriesOut shown p plan old new = Refuses plan old new

-- The answer is what was planned for the request, carried out. It has its date.
pub record IsPlanned (shown : Shown) (name : Option (List ℕ)) (p : Parts) (r : Response) : Type 0 where
  pub plan : Plan
  pub plans : PlansSo name p plan
  pub blank : Response
  pub is_blank : IsBlank blank
  pub now : ℕ
  pub dated : Response
  pub is_dated : IsDated now blank dated
  pub carries : CarriesOut shown p plan dated r

-- That is the answer, or a 503 with no body, if memory ran out.
abbrev pub AnswersSo : Shown → Option (List ℕ) → Parts → Response → Type 0
AnswersSo shown name p r = IsPlanned shown name p r ⊎ IsResponse 503 [] [] r

-- what answers: a source, and the name that is served
pub record Answering (S : Type 0) : Type 0 where
  pub source : S
  pub name : Option (List ℕ)

-- It answers as before, and serves the same name.
abbrev pub AnswersOn : {S : Type 0} → (S → Shown) → Answering S → Answering S → Type 0
AnswersOn shows a b = (shows b.source ≡ shows a.source) × (b.name ≡ a.name)
