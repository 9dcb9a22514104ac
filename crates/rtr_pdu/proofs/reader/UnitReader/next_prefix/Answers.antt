use Rattle.std.proofs.Common.{◌≡◌, ℕ, List, [], ap, ◌∙◌, ◌++◌, sym, subst, arith, drop, Some}
use Rattle.std.specs.Prelude.{Bool}
use Rattle.std.proofs.lemmas.List.{take-append-drop}
use Rattle.rtr_pdu.specs.declared.version.Version.{Version}
use Rattle.rtr_pdu.specs.declared.unit.Unit.TheVariants.{Prefix}
use Rattle.rtr_pdu.specs.declared.unit.Next.TheVariants as next
use Rattle.rtr_pdu.specs.Reader.{IsReader, Reader, ReaderTakes, version_with}
use Rattle.rtr_pdu.specs.Stream.{as_read}
use Rattle.rtr_pdu.specs.Unit.{Reads}
use Rattle.prefixes.specs.Payload.{Payload}
use Rattle.rtr_pdu.proofs.PrefixLaws.{same_front, whole_front}
use Rattle.rtr_pdu.proofs.ReaderLaws as laws
use Rattle.rtr_pdu.proofs.reader.UnitReader.next_prefix.Goals as goal

pub returns-in_default-clause-reader : goal.returns-in_default-clause-reader
returns-in_default-clause-reader c =
    subst (λ r. IsReader (version_with r c.args.piece.now.now) r) c.self.view_is
    (laws.reader_with c.self.inside.version c.self.inside.fault c.self.inside.any c.self.inside.buffer.items c.args.piece.now.now c.self.invariant)

pub returns-in_default-read_prefix-clause-reader : goal.returns-in_default-read_prefix-clause-reader
returns-in_default-read_prefix-clause-reader c =
    subst (λ r. IsReader (version_with r c.args.piece.now.now) r) c.self.view_is
    (laws.reader_with c.self.inside.version c.self.inside.fault c.self.inside.any c.self.inside.buffer.items c.args.piece.now.now c.self.invariant)

pub returns-clause-reader : goal.returns-clause-reader
returns-clause-reader c =
    subst (λ r. IsReader (version_with r c.args.piece.now.now) r) c.self.view_is
    (laws.reader_with c.self.inside.version c.self.inside.fault c.self.inside.any c.self.inside.buffer.items c.args.piece.now.now c.self.invariant)

pub invariant_of-self : goal.invariant_of-self
invariant_of-self c =
    let none = laws.none_found c.self.inside.fault (sym c.is_some.ensures ∙ c.if-is_some.false) in
    let version : Version = c.version_with-version.result in
    laws.standing_from version c.self.inside.fault c.self.inside.later c.self.inside.buffer.items none
    (laws.partial_short version c.self.inside.later c.self.inside.buffer.items (omega (arith, c.len.ensures.value, c.if-len-gt0.false)))

pub returns-clause-some : goal.returns-clause-some
returns-clause-some c =
    let none = laws.none_found c.self.inside.fault (sym c.is_some.ensures ∙ c.if-is_some.false) in
    subst (λ r. ReaderTakes (version_with r c.args.piece.now.now) r c.args.piece.now.now (next.Unit (Prefix c.in-Some-read_prefix.found.0 c.in-Some-read_prefix.found.1)) c.split_at.result.1.now
    (record { version = Some c.version_with-version.result; held = c.self.inside.buffer.items; any = c.self.inside.later; later = c.self.inside.later; fault = c.self.inside.fault })) c.self.view_is
    (laws.takes_prefix (record { version = c.self.inside.version; held = c.self.inside.buffer.items; any = c.self.inside.any; later = c.self.inside.later; fault = c.self.inside.fault })
    c.version_with-version.result c.args.piece.now.now c.split_at.result.0.now c.split_at.result.1.now (Prefix c.in-Some-read_prefix.found.0 c.in-Some-read_prefix.found.1) none
    (omega (arith, c.len.ensures.value, c.if-len-gt0.false)) (c.version_with-version.ensures ∙ sym (ap (λ r. version_with r c.args.piece.now.now) c.self.view_is))
    (sym (take-append-drop c.in-Some.size c.args.piece.now.now) ∙ ap (λ x. x ++ drop c.in-Some.size c.args.piece.now.now) (sym c.split_at.ensures.front) ∙ ap (λ x. c.split_at.result.0.now ++ x) (sym c.split_at.ensures.back))
    c.in-Some-read_prefix.ensures.some)

-- A Prefix that would be consumed is at the front of the piece.
front_of : (r : Reader) (version : Version) (any : Bool) (piece : List ℕ) (announce : Bool) (v : Payload) (rest : List ℕ) (now : Reader) → version ≡ version_with r piece → any ≡ r.any → r.held ≡ []
    → ReaderTakes (version_with r piece) r piece (next.Unit (Prefix announce v)) rest now → (front : List ℕ) × (piece ≡ front ++ rest) × Reads version (Prefix announce v) (as_read version any front)
front_of r version any piece announce v rest now of_version of_any empty t = (
  t.taken,
  t.piece_is,
  subst (λ a. Reads version (Prefix announce v) (as_read version a t.taken)) (sym of_any)
      (subst (λ w. Reads w (Prefix announce v) (as_read w r.any t.taken)) (sym of_version) (subst (λ h. Reads (version_with r piece) (Prefix announce v) (as_read (version_with r piece) r.any (h ++ t.taken))) empty t.gives.1.reads)),
)

pub returns-in_default-clause-only : goal.returns-in_default-clause-only
returns-in_default-clause-only c empty announce v rest now t =
    let f = front_of c.args.self.now c.version_with-version.result c.self.inside.any c.args.piece.now.now announce v rest now c.version_with-version.ensures (ap (λ r. r.any) c.self.view_is) empty t in
    c.in_default.ensures.none (whole_front c.version_with-version.result c.self.inside.any (Prefix announce v) c.args.piece.now.now f.0 rest f.1 f.2)

pub returns-in_default-read_prefix-clause-only : goal.returns-in_default-read_prefix-clause-only
returns-in_default-read_prefix-clause-only c empty announce v rest now t =
    let version : Version = c.version_with-version.result in
    let any : Bool = c.self.inside.any in
    let f = front_of c.args.self.now version any c.args.piece.now.now announce v rest now c.version_with-version.ensures (ap (λ r. r.any) c.self.view_is) empty t in
    let same = same_front version any (Prefix announce v) c.args.piece.now.now f.0 rest c.in-Some.size f.1 f.2 c.in-Some.ensures.within c.in-Some.ensures.body ∙ sym c.split_at.ensures.front in
    c.in_default-read_prefix.ensures.none announce v (subst (λ x. Reads version (Prefix announce v) (as_read version any x)) same f.2)
