use Rattle.std.proofs.Common.{◌≡◌, ◌∙◌, ℕ, List, Some, true, option_map, Option, Bor, bytes_eq, sym, ap}
use Rattle.std.proofs.lemmas.Result.{err_from_is_err_and}
use Rattle.sha2.specs.Sha256.{sha256}
use Rattle.points.specs.declared.file.FileIn.{FileIn}
use Rattle.points.specs.Files.{is_roa_name, file_named, has_hash}
use Rattle.points.proofs.Taking.{goes_on, stops, is_roa}
use Rattle.points.proofs.judging.take_file.Goals as goal

pub returns : goal.returns
returns c = λ files are.
    let listed = c.args.listed.now in
    let file = c.in-Some.file.now in
    let named : file_named listed.name files ≡ Some file =
    ap (λ (n : List ℕ). file_named n files) (sym c.name.ensures) ∙ sym (c.named.ensures files are) ∙ ap (λ (r : Option (Bor FileIn)). option_map (λ (f : Bor FileIn). f.now) r) c.in-Some.is in
    let hashed : has_hash listed file ≡ true = ap (λ (h : List ℕ). bytes_eq (sha256 file.object.now) h) (sym c.hash.ensures.value) ∙ sym c.if-not-has_hash.ensures in
    let ends : is_roa_name listed.name ≡ true = ap (λ (n : List ℕ). is_roa_name n) (sym c.name-2.ensures) ∙ sym c.if-not-is_roa_name.ensures in
    let roa = c.in_ok-roa.roa in
    (goes_on c.args.index listed files file named hashed ends roa c.in_ok-roa.ensures, (ends, is_roa c.args.index listed files file named hashed ends roa c.in_ok-roa.ensures))

pub returns-in_err-roa : goal.returns-in_err-roa
returns-in_err-roa c = λ files are.
    let p = err_from_is_err_and c.from_residual.result c.from_residual.ensures.1 in
    let listed = c.args.listed.now in
    let file = c.in-Some.file.now in
    let named : file_named listed.name files ≡ Some file =
    ap (λ (n : List ℕ). file_named n files) (sym c.name.ensures) ∙ sym (c.named.ensures files are) ∙ ap (λ (r : Option (Bor FileIn)). option_map (λ (f : Bor FileIn). f.now) r) c.in-Some.is in
    let hashed : has_hash listed file ≡ true = ap (λ (h : List ℕ). bytes_eq (sha256 file.object.now) h) (sym c.hash.ensures.value) ∙ sym c.if-not-has_hash.ensures in
    let ends : is_roa_name listed.name ≡ true = ap (λ (n : List ℕ). is_roa_name n) (sym c.name-2.ensures) ∙ sym c.if-not-is_roa_name.ensures in
    rw (p.1, p.2) (stops c.args.index listed files file named hashed ends c.in_err-roa.field-0.0 c.in_err-roa.ensures)
