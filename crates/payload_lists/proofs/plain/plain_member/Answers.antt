use Rattle.std.proofs.Common.{refl, Some, ◌∷◌, ap, ◌∙◌, option_map}
use Rattle.json.specs.Token.{Token}
use Rattle.json.specs.Json as json
use Rattle.json.specs.Reads.{token_of}
use Rattle.serde_json.specs.Data.{number, string, unsigned}
use Rattle.payload_lists.proofs.PlainTurns.{member_is, number_read, string_read}
use Rattle.payload_lists.proofs.plain.plain_member.Goals as goal

pub returns-in_ok-plain_number-in-Number : goal.returns-in_ok-plain_number-in-Number
returns-in_ok-plain_number-in-Number c =
    member_is c.args.reader.now c.next_key.new.self c.next.new.self c.in-Ok-Some.name.now (Token.number c.in-Number.text.now) (json.number c.in-Number.text.now) (number (unsigned c.in_ok-plain_number-in-Number.field-0)) c.args.found.now c.add_number.new.found c.add_number.result
    (c.in-Ok-Some.ensures.value ∙ ap (λ k. Some (option_map (λ s. s.now) k, c.next_key.new.self)) c.in-Ok-Some.field-0-is) (c.in_ok-text.ensures.value ∙ ap (λ t. token_of t ∷ c.next.new.self) c.in-Number.is) (number_read c.in-Number.text.now c.next.new.self) (ap (option_map number) c.in_ok-plain_number-in-Number.ensures) c.add_number.ensures

pub returns-in-String : goal.returns-in-String
returns-in-String c =
    member_is c.args.reader.now c.next_key.new.self c.next.new.self c.in-Ok-Some.name.now (Token.string c.in-String.text.now) (json.string c.in-String.text.now) (string c.in-String.text.now) c.args.found.now c.add_text.new.found c.add_text.result
    (c.in-Ok-Some.ensures.value ∙ ap (λ k. Some (option_map (λ s. s.now) k, c.next_key.new.self)) c.in-Ok-Some.field-0-is) (c.in_ok-text.ensures.value ∙ ap (λ t. token_of t ∷ c.next.new.self) c.in-String.is) (string_read c.in-String.text.now c.next.new.self) refl c.add_text.ensures
