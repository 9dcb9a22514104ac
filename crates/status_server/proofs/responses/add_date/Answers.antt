use Rattle.std.proofs.Common.{◌∙◌, ap, inr, refl, sym}
use Rattle.std.proofs.lemmas.List.{append-nil}
use Rattle.status_server.proofs.Sending.{on_ok}
use Rattle.status_server.proofs.responses.add_date.Goals as goal

pub returns-in-Ok-from_bytes : goal.returns-in-Ok-from_bytes
returns-in-Ok-from_bytes c = on_ok c.add_header.result c.add_header.ensures.headers (λ f. inr (
  c.in-Ok.ensures.succeeds.0 refl,
  (
    c.in-Ok-from_bytes.value.bytes,
    (c.in-Ok.date, c.in-Ok.ensures.value, ap (λ v. v.bytes) c.in-Ok-from_bytes.ensures.ok ∙ c.to_bytes.ensures),
    (c.add_header.ensures.status, f, ap (λ b. b.items) c.add_header.ensures.body ∙ sym (append-nil c.args.response.now.body.items)),
  ),
))
