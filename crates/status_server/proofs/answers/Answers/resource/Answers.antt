use Rattle.std.proofs.Common.{OnOk, subst, sym}
use Rattle.http.specs.Request.{head_of}
use Rattle.http_header.specs.FieldValue.{FieldValue}
use Rattle.http_header.specs.HeaderMap.{Entries}
use Rattle.status_server.specs.Answers.{CarriesOut, SendsKnownExport, SendsKnownList}
use Rattle.status_server.specs.declared.list_forms.ExportForm.TheVariants as export
use Rattle.status_server.specs.declared.list_forms.ListForm.TheVariants as form
use Rattle.status_server.specs.declared.plan.Plan.TheVariants as plans
use Rattle.status_server.specs.declared.resources.Resource.{Resource}
use Rattle.status_server.proofs.answers.Answers.resource.Goals as goal

pub returns-in-Export-clause-carries : goal.returns-in-Export-clause-carries
returns-in-Export-clause-carries g c =
    let shown = g.S.StatusSource.shows c.args.self.now.source in
    let x = c.args.response.now in
    let z = c.export.new.response in
    subst (λ (r : Resource). OnOk c.export.result (CarriesOut shown (head_of c.args.request.now) (plans.Resource r) x z)) (sym c.in-Export.is)
    (subst (λ (headers : Entries FieldValue). OnOk c.export.result (SendsKnownExport shown export.RpkiClient headers x z)) c.headers.ensures c.export.ensures.sends)

pub returns-in-StayRtrExport-clause-carries : goal.returns-in-StayRtrExport-clause-carries
returns-in-StayRtrExport-clause-carries g c =
    let shown = g.S.StatusSource.shows c.args.self.now.source in
    let x = c.args.response.now in
    let z = c.export-in-StayRtrExport.new.response in
    subst (λ (r : Resource). OnOk c.export-in-StayRtrExport.result (CarriesOut shown (head_of c.args.request.now) (plans.Resource r) x z)) (sym c.in-StayRtrExport.is)
    (subst (λ (headers : Entries FieldValue). OnOk c.export-in-StayRtrExport.result (SendsKnownExport shown export.RpkiClient headers x z)) c.headers-in-StayRtrExport.ensures c.export-in-StayRtrExport.ensures.sends)

pub returns-in-RoutinatorExport-clause-carries : goal.returns-in-RoutinatorExport-clause-carries
returns-in-RoutinatorExport-clause-carries g c =
    let shown = g.S.StatusSource.shows c.args.self.now.source in
    let x = c.args.response.now in
    let z = c.export-in-RoutinatorExport.new.response in
    subst (λ (r : Resource). OnOk c.export-in-RoutinatorExport.result (CarriesOut shown (head_of c.args.request.now) (plans.Resource r) x z)) (sym c.in-RoutinatorExport.is)
    (subst (λ (headers : Entries FieldValue). OnOk c.export-in-RoutinatorExport.result (SendsKnownExport shown export.Routinator headers x z)) c.headers-in-RoutinatorExport.ensures c.export-in-RoutinatorExport.ensures.sends)

pub returns-in-List-clause-carries : goal.returns-in-List-clause-carries
returns-in-List-clause-carries g c =
    let shown = g.S.StatusSource.shows c.args.self.now.source in
    let x = c.args.response.now in
    let z = c.list.new.response in
    subst (λ (r : Resource). OnOk c.list.result (CarriesOut shown (head_of c.args.request.now) (plans.Resource r) x z)) (sym c.in-List.is)
    (subst (λ (headers : Entries FieldValue). OnOk c.list.result (SendsKnownList shown form.Payloads headers x z)) c.headers-in-List.ensures c.list.ensures.sends)

pub returns-in-Csv-clause-carries : goal.returns-in-Csv-clause-carries
returns-in-Csv-clause-carries g c =
    let shown = g.S.StatusSource.shows c.args.self.now.source in
    let x = c.args.response.now in
    let z = c.list-in-Csv.new.response in
    subst (λ (r : Resource). OnOk c.list-in-Csv.result (CarriesOut shown (head_of c.args.request.now) (plans.Resource r) x z)) (sym c.in-Csv.is)
    (subst (λ (headers : Entries FieldValue). OnOk c.list-in-Csv.result (SendsKnownList shown form.Csv headers x z)) c.headers-in-Csv.ensures c.list-in-Csv.ensures.sends)

pub returns-in-RoutinatorCsv-clause-carries : goal.returns-in-RoutinatorCsv-clause-carries
returns-in-RoutinatorCsv-clause-carries g c =
    let shown = g.S.StatusSource.shows c.args.self.now.source in
    let x = c.args.response.now in
    let z = c.list-in-RoutinatorCsv.new.response in
    subst (λ (r : Resource). OnOk c.list-in-RoutinatorCsv.result (CarriesOut shown (head_of c.args.request.now) (plans.Resource r) x z)) (sym c.in-RoutinatorCsv.is)
    (subst (λ (headers : Entries FieldValue). OnOk c.list-in-RoutinatorCsv.result (SendsKnownList shown form.RoutinatorCsv headers x z)) c.headers-in-RoutinatorCsv.ensures c.list-in-RoutinatorCsv.ensures.sends)
