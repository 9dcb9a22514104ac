-- The forms in which the records of a version are written, and what is kept of them.
use Rattle.std.specs.Prelude.{ℕ, List, Option, Some, None}
use Rattle.payload_lists.specs.PayloadList.{list_text}
use Rattle.prefixes.specs.Payload.{Payload}
use Rattle.status_pages.specs.Csv.{csv_text, routinator_csv_text}
use Rattle.status_pages.specs.Roas.{roas_text}
use Rattle.status_server.specs.Responses.{csv_kind, json_kind}
use Rattle.status_server.specs.declared.list_forms.ListForm.{ListForm}
use Rattle.status_server.specs.declared.list_forms.ListForm.TheVariants as form
use Rattle.status_server.specs.declared.list_forms.ListTexts.{ListTexts}

-- the records in a form
abbrev pub form_text : ListForm → List Payload → List ℕ
form_text form.Payloads vs = list_text vs
form_text form.Roas vs = roas_text vs
form_text form.Csv vs = csv_text vs
form_text form.RoutinatorCsv vs = routinator_csv_text vs

-- the media type of a form
abbrev pub kind_of : ListForm → List ℕ
kind_of form.Payloads = json_kind
kind_of form.Roas = json_kind
kind_of form.Csv = csv_kind
kind_of form.RoutinatorCsv = csv_kind

-- Nothing is kept in any form.
abbrev pub no_texts : ListTexts
no_texts = record { payloads = None; roas = None; csv = None; routinator_csv = None }

-- what is kept in a form
abbrev pub kept_text : ListForm → ListTexts → Option (List ℕ)
kept_text form.Payloads kept = kept.payloads
kept_text form.Roas kept = kept.roas
kept_text form.Csv kept = kept.csv
kept_text form.RoutinatorCsv kept = kept.routinator_csv

-- A text in a form is kept from now on.
abbrev pub with_text : ListForm → List ℕ → ListTexts → ListTexts
with_text form.Payloads text kept = record kept { payloads = Some text }
with_text form.Roas text kept = record kept { roas = Some text }
with_text form.Csv text kept = record kept { csv = Some text }
with_text form.RoutinatorCsv text kept = record kept { routinator_csv = Some text }
