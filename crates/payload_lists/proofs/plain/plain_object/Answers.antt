use Rattle.std.proofs.Common.{Some, ◌∷◌, ap, ◌∙◌, subst, option_map}
use Rattle.json.specs.Reads.{token_of}
use Rattle.payload_lists.specs.PlainForm.{ReadsMember}
use Rattle.payload_lists.proofs.PlainTurns.{object_is}
use Rattle.payload_lists.proofs.plain.plain_object.Goals as goal

pub returns-in_ok-found-in-Ok-None-3 : goal.returns-in_ok-found-in-Ok-None-3
returns-in_ok-found-in-Ok-None-3 c =
    let asn = c.in_ok-found-in-Ok-None.was in
    let max_len = c.in_ok-found-in-Ok-None-2.was in
    let prefix = c.in_ok-found-in-Ok-None-3.was in
    object_is c.args.reader.now c.next.new.self c.plain_member.new.reader c.plain_member-2.new.reader c.plain_member-3.new.reader c.next_key.new.self c.plain_member.new.found c.plain_member-2.new.found
    c.in_ok-found-in-Ok-None.field-0 c.in_ok-found-in-Ok-None-2.field-0 c.in_ok-found-in-Ok-None-3.field-0
    (c.in_ok-next.ensures.value ∙ ap (λ t. token_of t ∷ c.next.new.self) c.in-BeginObject.is) c.in_ok-plain_member.ensures c.in_ok-plain_member-2.ensures
    (subst (λ p. ReadsMember c.plain_member-2.new.reader c.plain_member-3.new.reader c.plain_member-2.new.found p) (λ i. record { asn = asn i; max_len = max_len i; prefix = prefix i }) c.in_ok-plain_member-3.ensures)
    (c.in-Ok-None.ensures.value ∙ ap (λ k. Some (option_map (λ s. s.now) k, c.next_key.new.self)) c.in-Ok-None.field-0-is)
