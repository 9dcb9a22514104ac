-- An element by its head.
use Rattle.std.proofs.Common.{◌≡◌, ℕ, ◌+◌, ◌-◌, List, length, drop, Some, Ok, Err, sym, ap, ◌∙◌, arith, length-drop}
use Rattle.std.specs.Prelude.{slice_range}
use Rattle.std.proofs.lemmas.List.{take_all}
use Rattle.der_lite.specs.declared.head.Head.{Head}
use Rattle.der_lite.specs.Place.{place_of, first_of}
use Rattle.der_lite.specs.Der.{head_rules}
use Rattle.der_lite.specs.DerReading.{element_at, content_place, next_place}
use Rattle.der_lite.specs.Cursors.{HeadOf}
use Rattle.der_lite.proofs.Rules.{judged-kept, judged-broken}

-- all that is behind b
rest_range : (b : ℕ) (rest : List ℕ) → drop b rest ≡ slice_range rest b (length rest)
rest_range b rest = sym (take_all (length rest - b) (drop b rest) (omega (arith, length-drop b rest)))

-- if a head is, the places of the content and behind the element are found
pub element_found : (tag at : ℕ) (rest : List ℕ) (head : Head) → HeadOf tag rest head
    → element_at tag (place_of at rest) ≡ Ok (place_of (at + head.length_end) (slice_range rest head.length_end head.content_end), place_of (at + head.content_end) (slice_range rest head.content_end (length rest)))
unfolding element_at content_place next_place
element_found tag at rest head h =
    let p = place_of at rest in
    judged-kept (head_rules tag rest) at (Ok (content_place p, next_place p)) h.kept
    ∙ rw (← h.length_is, ← h.content_is) (ap (λ (l : List ℕ). Ok (place_of (at + head.length_end) (slice_range rest head.length_end head.content_end), place_of (at + head.content_end) l)) (rest_range head.content_end rest))

-- if a rule of the head is broken, that is the fault
pub element_not_found : (tag at n : ℕ) (rest : List ℕ) → first_of (head_rules tag rest) ≡ Some n → element_at tag (place_of at rest) ≡ Err (record { number = n; offset = at })
unfolding element_at
element_not_found tag at n rest broken = judged-broken (head_rules tag rest) at n _ broken
