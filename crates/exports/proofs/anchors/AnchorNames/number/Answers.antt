use Rattle.std.proofs.Common.{◌≡◌, ◌∙◌, ◌<◌, ◌++◌, ◌∷◌, [], Some, ap, inl, inr, length, map, option_map, string_bytes, sym, arith}
use Rattle.std.proofs.lemmas.List.{length-map, map-append}
use Rattle.exports.specs.Anchors.{number_in, place_from, short}
use Rattle.exports.specs.Names.{with_name}
use Rattle.exports.proofs.Naming.{kept_name, new_name, new_number}
use Rattle.exports.proofs.anchors.AnchorNames.number.Goals.{then-place-via-then-place, then-place-via-else-place+then-len-ge-MOST_NAMES}
use Rattle.exports.proofs.anchors.AnchorNames.number.Goals as goal

pub returns-then-place-clause-names : goal.returns-then-place-clause-names
returns-then-place-clause-names c =
    let names = map string_bytes c.args.self.now.names.items in
    let q = c.in-Some.text.now in
    let told : short (option_map (λ s. s.now) c.args.name) ≡ Some q = sym c.short.ensures ∙ ap (λ o. option_map (λ s. s.now) o) c.in-Some.is in
    let place : c.place_of-place.result ≡ place_from 0 names q = c.place_of-place.ensures ∙ ap (λ xs. place_from 0 (map string_bytes xs) q) c.as_slice.ensures.value in
    (elim c.then-place.branch [
      | then-place-via-then-place w ↦ kept_name names q (inl (λ e. w.if-place.true (place ∙ e)))
      | then-place-via-else-place+then-len-ge-MOST_NAMES w ↦ kept_name names q (inr (omega (arith, length-map c.args.self.now.names.items string_bytes, w.len.ensures, c.args.self.now.names.ok.0, w.if-len-ge-MOST_NAMES.true)))
    ]) ∙ ap (λ o. with_name names o) (sym told)

pub returns-clause-names : goal.returns-clause-names
returns-clause-names c =
    let names = map string_bytes c.args.self.now.names.items in
    let q = c.in-Some.text.now in
    let told : short (option_map (λ s. s.now) c.args.name) ≡ Some q = sym c.short.ensures ∙ ap (λ o. option_map (λ s. s.now) o) c.in-Some.is in
    let place : c.place_of-place.result ≡ place_from 0 names q = c.place_of-place.ensures ∙ ap (λ xs. place_from 0 (map string_bytes xs) q) c.as_slice.ensures.value in
    let few : length names < 32 = omega (arith, length-map c.args.self.now.names.items string_bytes, c.len.ensures, c.args.self.now.names.ok.0, c.if-len-ge-MOST_NAMES.false) in
    ap (map string_bytes) c.in_ok-push.ensures.items ∙ map-append string_bytes c.args.self.now.names.items (c.in_ok-from_str.field-0 ∷ []) ∙ ap (λ n. names ++ n ∷ []) c.in_ok-from_str.ensures.ok
    ∙ new_name names q (sym place ∙ c.if-place.false) few ∙ ap (λ o. with_name names o) (sym told)

pub returns-clause-number : goal.returns-clause-number
returns-clause-number c =
    let names = map string_bytes c.args.self.now.names.items in
    let q = c.in-Some.text.now in
    let told : short (option_map (λ s. s.now) c.args.name) ≡ Some q = sym c.short.ensures ∙ ap (λ o. option_map (λ s. s.now) o) c.in-Some.is in
    let place : c.place_of-place.result ≡ place_from 0 names q = c.place_of-place.ensures ∙ ap (λ xs. place_from 0 (map string_bytes xs) q) c.as_slice.ensures.value in
    let few : length names < 32 = omega (arith, length-map c.args.self.now.names.items string_bytes, c.len.ensures, c.args.self.now.names.ok.0, c.if-len-ge-MOST_NAMES.false) in
    let pushed : map string_bytes c.push.new.self.items ≡ names ++ q ∷ [] =
    ap (map string_bytes) c.in_ok-push.ensures.items ∙ map-append string_bytes c.args.self.now.names.items (c.in_ok-from_str.field-0 ∷ []) ∙ ap (λ n. names ++ n ∷ []) c.in_ok-from_str.ensures.ok in
    omega (arith, c.len-next.ensures, c.args.self.now.names.ok.0) ∙ sym (length-map c.args.self.now.names.items string_bytes) ∙ sym (new_number names q (sym place ∙ c.if-place.false) few) ∙ (λ i. number_in (sym pushed i) (sym told i))
