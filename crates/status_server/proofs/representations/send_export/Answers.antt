use Rattle.std.proofs.Common.{◌≡◌, ◌++◌, ℕ, [], Ok, ap, refl, subst, append_assoc, ◌∙◌, codes}
use Rattle.std.specs.Prelude.{⊤}
use Rattle.status_server.specs.Answers.{IsExport, IsExportHead, made_at}
use Rattle.status_server.specs.Responses.{SendsUnder, export_tag, json_kind}
use Rattle.status_server.proofs.Sending.{of_version, on_ok, tagged, unchanged, under}
use Rattle.status_server.proofs.representations.send_export.Goals as goal

pub returns-then-branch : goal.returns-then-branch
returns-then-branch c =
    let s = c.args.status.now in
    let list = c.in-Some-Some.list in
    let x = c.args.response.now in
    let z = c.add_tag.new.response in
    let tag = c.in_ok-tag.ensures.ok ∙ ap (λ made. export_tag s.session c.in-Some-Some.serial made) c.made_at-made.ensures in
    of_version {T = ⊤} {E = ⊤} (Ok tt) s.serial c.args.list c.in-Some-Some.serial list (λ serial records. SendsUnder c.args.headers.now (export_tag s.session serial (made_at s)) json_kind (IsExport c.args.form s records)) x z
    c.in-Some-Some.is-0 c.in-Some-Some.is-1
    (under {T = ⊤} {E = ⊤} (Ok tt) c.args.headers.now c.in_ok-tag.tag.bytes.items (export_tag s.session c.in-Some-Some.serial (made_at s)) json_kind (IsExport c.args.form s list) c.in_ok-add_tag.field-0 x z tag c.in_ok-add_tag.ensures.known
    (unchanged c.in_ok-tag.tag.bytes.items json_kind (IsExport c.args.form s list) (λ text. text ≡ []) c.in_ok-add_tag.field-0 x z c.if-branch.true c.in_ok-add_tag.ensures.sends))

pub returns : goal.returns
returns c =
    let s = c.args.status.now in
    let headers = c.args.headers.now in
    let list = c.in-Some-Some.list in
    let made = c.made_at-made.ensures in
    let tag = c.in_ok-tag.ensures.ok ∙ ap (λ made. export_tag s.session c.in-Some-Some.serial made) made in
    let x = c.args.response.now in
    let y = c.add_tag.new.response in
    let z = record y { body = c.put_slice-2.new.self } in
    let head = c.in_ok-head.head.items in
    let body = c.in_ok-push.ensures ∙ ap (λ l. l ++ list) (c.in_ok-put_slice.ensures.ok ∙ ap (λ h. y.body.items ++ h) c.deref.ensures.value) in
    let is_head = subst (λ (n : ℕ). IsExportHead c.args.form (made_at s) n head) c.served_vrps.ensures (subst (λ (m : ℕ). IsExportHead c.args.form m c.served_vrps.result head) made c.in_ok-head.ensures) in
    of_version c.put_slice-2.result s.serial c.args.list c.in-Some-Some.serial list (λ serial records. SendsUnder headers (export_tag s.session serial (made_at s)) json_kind (IsExport c.args.form s records)) x z c.in-Some-Some.is-0 c.in-Some-Some.is-1
    (under c.put_slice-2.result headers c.in_ok-tag.tag.bytes.items (export_tag s.session c.in-Some-Some.serial (made_at s)) json_kind (IsExport c.args.form s list) c.in_ok-add_tag.field-0 x z tag c.in_ok-add_tag.ensures.known
    (tagged c.put_slice-2.result c.in_ok-tag.tag.bytes.items json_kind (head ++ list ++ codes "}") (IsExport c.args.form s list) c.in_ok-add_tag.field-0 x y z c.if-branch.false c.in_ok-add_tag.ensures.sends refl refl
    (head, is_head, refl) (on_ok c.put_slice-2.result c.put_slice-2.ensures.ok (λ e. e ∙ ap (λ l. l ++ codes "}") (body ∙ append_assoc y.body.items head list) ∙ append_assoc y.body.items (head ++ list) (codes "}")))))
