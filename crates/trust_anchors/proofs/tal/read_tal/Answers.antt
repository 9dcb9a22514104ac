use Rattle.std.proofs.Common.{◌≡◌, ◌==◌, true, ◌+◌, ◌≢◌, List, ℕ, [], length, map, refl, sym, ap, subst, ◌∙◌, arith, Vec, Global}
use Rattle.std.proofs.lemmas.List.{length-map, nil_from_length}
use Rattle.std.specs.Vec.{vec_len}
use Rattle.std.proofs.lemmas.Bool.{eqb-true}
use Rattle.trust_anchors.specs.Lines.{IsLine, Joins}
use Rattle.trust_anchors.specs.Keys.{IsKeyText}
use Rattle.std.proofs.lemmas.Result.{err_from_is_err_and}
use Rattle.trust_anchors.specs.declared.fault.TalFaultKind.TheVariants.{NoBreak, NoUri, Uri}
use Rattle.trust_anchors.specs.Locators.{Tal, Ends, no_break, no_uri, bad_uri}
use Rattle.trust_anchors.proofs.Locating.{begins_with, begins_shorter, fault_at, key_fault}
use Rattle.trust_anchors.proofs.tal.read_tal.Goals as goal

pub overflow_add-line : goal.overflow_add-line
overflow_add-line c =
    let e = c.read_comments-comments.ensures in
    let us = map (λ u. u.now) c.in_ok-found.found.uris.items in
    let b = begins_with c.args.bytes.now c.read_comments-comments.result.rest.now c.in_ok-found.found.rest.now e.0 us e.2 c.in_ok-found.ensures in
    let s = begins_shorter c.args.bytes.now c.in_ok-found.found.rest.now e.0 us b in
    let n = length-map c.in_ok-found.found.uris.items (λ u. u.now) in
    let k = c.in_ok-found.found.uris.ok.0 in
    omega (arith, s, e.1, n, k, c.len.ensures)

pub overflow_add-line-2 : goal.overflow_add-line-2
overflow_add-line-2 c =
    let e = c.read_comments-comments.ensures in
    let us = map (λ u. u.now) c.in_ok-found.found.uris.items in
    let b = begins_with c.args.bytes.now c.read_comments-comments.result.rest.now c.in_ok-found.found.rest.now e.0 us e.2 c.in_ok-found.ensures in
    let s = begins_shorter c.args.bytes.now c.in_ok-found.found.rest.now e.0 us b in
    let n = length-map c.in_ok-found.found.uris.items (λ u. u.now) in
    let k = c.in_ok-found.found.uris.ok.0 in
    omega (arith, s, e.1, n, k, c.len.ensures)

pub overflow_add-line-3 : goal.overflow_add-line-3
overflow_add-line-3 c =
    let e = c.read_comments-comments.ensures in
    let us = map (λ u. u.now) c.in_ok-found.found.uris.items in
    let b = begins_with c.args.bytes.now c.read_comments-comments.result.rest.now c.in_ok-found.found.rest.now e.0 us e.2 c.in_ok-found.ensures in
    let s = begins_shorter c.args.bytes.now c.in_ok-found.found.rest.now e.0 us b in
    let n = length-map c.in_ok-found.found.uris.items (λ u. u.now) in
    let k = c.in_ok-found.found.uris.ok.0 in
    omega (arith, s, e.1, n, k, c.len.ensures)

pub returns-in_default : goal.returns-in_default
returns-in_default c =
    let e = c.read_comments-comments.ensures in
    let us = map (λ u. u.now) c.in_ok-found.found.uris.items in
    let b = begins_with c.args.bytes.now c.read_comments-comments.result.rest.now c.in_ok-found.found.rest.now e.0 us e.2 c.in_ok-found.ensures in
    let n : length us ≡ c.len.result = length-map c.in_ok-found.found.uris.items (λ u. u.now) ∙ sym c.in_ok-found.found.uris.ok.0 ∙ sym c.len.ensures in
    rw c.at.ensures (fault_at c.args.bytes.now c.in_ok-found.found.rest.now e.0 us NoBreak 1 c.read_comments-comments.result.count c.len.result
    (c.read_comments-comments.result.count + c.len.result + 1) b (no_break c.in_default.ensures) e.1 n refl)

pub returns-then-not-is_empty : goal.returns-then-not-is_empty
returns-then-not-is_empty c =
    let e = c.read_comments-comments.ensures in
    let us = map (λ u. u.now) c.in_ok-found.found.uris.items in
    let b = begins_with c.args.bytes.now c.read_comments-comments.result.rest.now c.in_ok-found.found.rest.now e.0 us e.2 c.in_ok-found.ensures in
    let n : length us ≡ c.len.result = length-map c.in_ok-found.found.uris.items (λ u. u.now) ∙ sym c.in_ok-found.found.uris.ok.0 ∙ sym c.len.ensures in
    let t = c.in-Some.empty.text.now in
    let some : t ≢ [] = λ z. (let h = c.is_empty.ensures in let k : (length t == 0) ≡ true = ap (λ (l : List ℕ). length l == 0) z in let f = c.if-not-is_empty.true in cc) in
    rw c.at-then-not-is_empty.ensures (fault_at c.args.bytes.now c.in_ok-found.found.rest.now e.0 us Uri 1 c.read_comments-comments.result.count c.len.result
    (c.read_comments-comments.result.count + c.len.result + 1) b (bad_uri t c.in-Some.empty.rest.now c.in-Some.ensures some) e.1 n refl)

pub returns-then-is_empty : goal.returns-then-is_empty
returns-then-is_empty c =
    let e = c.read_comments-comments.ensures in
    let us = map (λ u. u.now) c.in_ok-found.found.uris.items in
    let b = begins_with c.args.bytes.now c.read_comments-comments.result.rest.now c.in_ok-found.found.rest.now e.0 us e.2 c.in_ok-found.ensures in
    let n : length us ≡ c.len.result = length-map c.in_ok-found.found.uris.items (λ u. u.now) ∙ sym c.in_ok-found.found.uris.ok.0 ∙ sym c.len.ensures in
    let t = c.in-Some.empty.text.now in
    let blank : t ≡ [] = nil_from_length t (eqb-true (length t) 0 (sym c.is_empty.ensures ∙ c.if-not-is_empty.false)) in
    let none : us ≡ [] =
    nil_from_length us (length-map c.in_ok-found.found.uris.items (λ u. u.now) ∙ sym c.in_ok-found.found.uris.ok.0
    ∙ eqb-true (vec_len c.in_ok-found.found.uris) 0 (sym c.is_empty-2.ensures ∙ c.if-is_empty.true)) in
    rw c.at-then-is_empty.ensures (fault_at c.args.bytes.now c.in_ok-found.found.rest.now e.0 us NoUri 1 c.read_comments-comments.result.count c.len.result
    (c.read_comments-comments.result.count + c.len.result + 1) b
    (no_uri c.in-Some.empty.rest.now none (subst (λ (l : List ℕ). IsLine l c.in-Some.empty.rest.now c.in_ok-found.found.rest.now) blank c.in-Some.ensures)) e.1 n refl)

pub returns-in_err-modulus : goal.returns-in_err-modulus
returns-in_err-modulus c =
    let e = c.read_comments-comments.ensures in
    let us = map (λ u. u.now) c.in_ok-found.found.uris.items in
    let b = begins_with c.args.bytes.now c.read_comments-comments.result.rest.now c.in_ok-found.found.rest.now e.0 us e.2 c.in_ok-found.ensures in
    let m : vec_len c.in_ok-found.found.uris ≡ length us = c.in_ok-found.found.uris.ok.0 ∙ sym (length-map c.in_ok-found.found.uris.items (λ u. u.now)) in
    let t = c.in-Some.empty.text.now in
    let blank : t ≡ [] = nil_from_length t (eqb-true (length t) 0 (sym c.is_empty.ensures ∙ c.if-not-is_empty.false)) in
    let empty = subst (λ (l : List ℕ). IsLine l c.in-Some.empty.rest.now c.in_ok-found.found.rest.now) blank c.in-Some.ensures in
    let some : us ≢ [] = λ z. (
    let k : (vec_len c.in_ok-found.found.uris == 0) ≡ true = ap (λ (x : ℕ). x == 0) (m ∙ ap length z) in
    let h = c.is_empty-2.ensures in let f = c.if-is_empty.false in cc) in
    let p = err_from_is_err_and c.from_residual-in_err-modulus.result c.from_residual-in_err-modulus.ensures.1 in
    let joins : Joins c.as_slice.result.now c.in-Some.empty.rest.now =
    subst (λ (l : List ℕ). Joins l c.in-Some.empty.rest.now) (sym c.as_slice.ensures.value) c.in_ok-text.ensures in
    rw (p.1, p.2) (key_fault {X = Vec ℕ Global} (λ modulus. modulus.items) c.args.bytes.now c.in_ok-found.found.rest.now c.in-Some.empty.rest.now c.as_slice.result.now e.0 us
    c.read_comments-comments.result.count c.len.result (c.read_comments-comments.result.count + c.len.result + 1 + 1) c.in_err-modulus.field-0.0 b some empty joins
    c.in_err-modulus.ensures e.1 (sym m ∙ sym c.len.ensures) (omega arith))

pub returns : goal.returns
returns c =
    let e = c.read_comments-comments.ensures in
    let us = map (λ u. u.now) c.in_ok-found.found.uris.items in
    let b = begins_with c.args.bytes.now c.read_comments-comments.result.rest.now c.in_ok-found.found.rest.now e.0 us e.2 c.in_ok-found.ensures in
    let m : vec_len c.in_ok-found.found.uris ≡ length us = c.in_ok-found.found.uris.ok.0 ∙ sym (length-map c.in_ok-found.found.uris.items (λ u. u.now)) in
    let t = c.in-Some.empty.text.now in
    let blank : t ≡ [] = nil_from_length t (eqb-true (length t) 0 (sym c.is_empty.ensures ∙ c.if-not-is_empty.false)) in
    let empty = subst (λ (l : List ℕ). IsLine l c.in-Some.empty.rest.now c.in_ok-found.found.rest.now) blank c.in-Some.ensures in
    let some : us ≢ [] = λ z. (
    let k : (vec_len c.in_ok-found.found.uris == 0) ≡ true = ap (λ (x : ℕ). x == 0) (m ∙ ap length z) in
    let h = c.is_empty-2.ensures in let f = c.if-is_empty.false in cc) in
    let tal : Tal = record { uris = us; modulus = c.in_ok-modulus.modulus.items } in
    let ends : Ends tal c.in_ok-found.found.rest.now = record {
      some = some;
      after = c.in-Some.empty.rest.now;
      empty = empty;
      text = c.in_ok-text.text.items;
      joined = c.in_ok-text.ensures;
      key = subst (λ (l : List ℕ). IsKeyText c.in_ok-modulus.modulus.items l) c.as_slice.ensures.value c.in_ok-modulus.ensures;
    } in
    record { comments = e.0; rest = c.in_ok-found.found.rest.now; begins = b; ends = ends }
