-- What each step of a walk keeps true.
use Rattle.std.proofs.Common.{◌≡◌, ◌⊎◌, inl, inr, ℕ, zero, suc, ◌+◌, sym, subst, refl, ◌↔◌, arith}
use Rattle.prefixes.specs.Payload.{Payload}
use Rattle.authority_walk.specs.Hierarchy.{Hierarchy, IsWithin, IsValidated, HasDeeper}
use Rattle.authority_walk.specs.Walks.{IsWalk, With}

-- what is within a depth is within the next
pub within_deeper : {A : Type 0} (h : Hierarchy A) (d : ℕ) (x : A) → IsWithin h d x → IsWithin h (d + 1) x
within_deeper h d x (n, le, at) = (n, omega arith, at)

-- what an authority issues is within the next depth
pub within_issued : {A : Type 0} (h : Hierarchy A) (d : ℕ) (by x : A) → IsWithin h d by → h.Issues by x → IsWithin h (d + 1) x
within_issued h d by x (n, le, at) issues = (suc n, omega arith, (by, at, issues))

-- what is within the next depth is within this one, or one that is issued it
pub within_cases : {A : Type 0} (h : Hierarchy A) (d : ℕ) (x : A) → IsWithin h (d + 1) x → IsWithin h d x ⊎ ((by : A) × IsWithin h d by × h.Issues by x)
within_cases h d x (zero, le, at) = inl (zero, omega arith, at)
within_cases h d x (suc n, le, (by, at, issues)) = inr (by, (n, omega arith, at), issues)

-- what is at depth 0 is a trust anchor
pub within_none : {A : Type 0} (h : Hierarchy A) (x : A) → IsWithin h 0 x → h.IsAnchor x
within_none h x (zero, le, at) = at
within_none h x (suc n, le, at) = absurd (omega arith)

module _ {A : Type 0} (h : Hierarchy A) where
  -- a walk begins at the trust anchors
  pub started : (Visited Waiting Below : A → Type 0) (Listed : Payload → Type 0) → ((x : A) → ¬ (Visited x)) → ((x : A) → Waiting x ↔ h.IsAnchor x) → ((x : A) → ¬ (Below x)) → ((p : Payload) → ¬ (Listed p))
      → IsWalk h 0 Visited Waiting Below Listed
  started Visited Waiting Below Listed visited waiting below listed = record {
    visited_within = λ x v. absurd (visited x v);
    waiting_within = λ x w. (0, omega arith, (waiting x).0 w);
    below_within = λ x b. absurd (below x b);
    complete = λ x k. inr ((waiting x).1 (within_none h x k));
    followed = λ by x v. absurd (visited by v);
    listed = λ p l. absurd (listed p l);
    validated = λ x p v. absurd (visited x v);
  }

  -- the same ones wait
  pub waits : (d : ℕ) (Visited Waiting Waiting2 Below : A → Type 0) (Listed : Payload → Type 0) → ((x : A) → Waiting x ↔ Waiting2 x) → IsWalk h d Visited Waiting Below Listed → IsWalk h d Visited Waiting2 Below Listed
  waits d Visited Waiting Waiting2 Below Listed same w = record {
    visited_within = w.visited_within;
    waiting_within = λ x k. w.waiting_within x ((same x).1 k);
    below_within = w.below_within;
    complete = λ x k. elim (w.complete x k) [ inl v ↦ inl v | inr k1 ↦ inr ((same x).0 k1) ];
    followed = λ by x v i. elim (w.followed by x v i) [ inl v1 ↦ inl v1 | inr r ↦ elim r [ inl k ↦ inr (inl ((same x).0 k)) | inr b ↦ inr (inr b) ] ];
    listed = w.listed;
    validated = w.validated;
  }

  -- one that waited was visited before
  pub again : (d : ℕ) (a : A) (Visited Waiting Below : A → Type 0) (Listed : Payload → Type 0) → Visited a → IsWalk h d Visited (With Waiting a) Below Listed → IsWalk h d Visited Waiting Below Listed
  again d a Visited Waiting Below Listed seen w = record {
    visited_within = w.visited_within;
    waiting_within = λ x k. w.waiting_within x (inl k);
    below_within = w.below_within;
    complete = λ x k. elim (w.complete x k) [ inl v ↦ inl v | inr r ↦ elim r [ inl k1 ↦ inr k1 | inr e ↦ inl (subst Visited e seen) ] ];
    followed = λ by x v i. elim (w.followed by x v i) [
      | inl v1 ↦ inl v1
      | inr r ↦ elim r [ inl r1 ↦ elim r1 [ inl k ↦ inr (inl k) | inr e ↦ inl (subst Visited e seen) ] | inr b ↦ inr (inr b) ]
    ];
    listed = w.listed;
    validated = w.validated;
  }

  -- one that waited is visited
  pub visited : (d : ℕ) (a : A) (Visited Visited2 Waiting Below Below2 : A → Type 0) (Listed Listed2 : Payload → Type 0) → ((x : A) → Visited2 x ↔ With Visited a x) → ((x : A) → Below2 x ↔ (Below x ⊎ h.Issues a x)) → ((p : Payload) → Listed2 p ↔ (Listed p ⊎ h.Validates a p))
      → IsWalk h d Visited (With Waiting a) Below Listed → IsWalk h d Visited2 Waiting Below2 Listed2
  visited d a Visited Visited2 Waiting Below Below2 Listed Listed2 marks finds lists w =
      let here : IsWithin h d a = w.waiting_within a (inr refl) in
      let kept : (x : A) → Visited x → Visited2 x = λ x v. (marks x).1 (inl v) in
      let now : (x : A) → a ≡ x → Visited2 x = λ x e. (marks x).1 (inr e) in
      let still : (x : A) → Visited x ⊎ (With Waiting a x ⊎ Below x) → Visited2 x ⊎ (Waiting x ⊎ Below2 x) = λ x k. elim k [
        | inl v ↦ inl (kept x v)
        | inr r ↦ elim r [ inl r1 ↦ elim r1 [ inl k1 ↦ inr (inl k1) | inr e ↦ inl (now x e) ] | inr b ↦ inr (inr ((finds x).1 (inl b))) ]
      ] in
      record {
        visited_within = λ x v. elim ((marks x).0 v) [ inl v1 ↦ w.visited_within x v1 | inr e ↦ subst (IsWithin h d) e here ];
        waiting_within = λ x k. w.waiting_within x (inl k);
        below_within = λ x b. elim ((finds x).0 b) [ inl b1 ↦ w.below_within x b1 | inr i ↦ within_issued h d a x here i ];
        complete = λ x k. elim (w.complete x k) [ inl v ↦ inl (kept x v) | inr r ↦ elim r [ inl k1 ↦ inr k1 | inr e ↦ inl (now x e) ] ];
        followed = λ by x v i. elim ((marks by).0 v) [
          | inl v1 ↦ still x (w.followed by x v1 i)
          | inr e ↦ inr (inr ((finds x).1 (inr (subst (λ b. h.Issues b x) (sym e) i))))
        ];
        listed = λ p l. elim ((lists p).0 l) [ inl l1 ↦ w.listed p l1 | inr k ↦ (a, here, k) ];
        validated = λ x p v k. elim ((marks x).0 v) [
          | inl v1 ↦ (lists p).1 (inl (w.validated x p v1 k))
          | inr e ↦ (lists p).1 (inr (subst (λ b. h.Validates b p) (sym e) k))
        ];
      }

  -- after all of a depth were visited, those below wait
  pub deepened : (d : ℕ) (Visited Waiting Waiting2 Below Below2 : A → Type 0) (Listed : Payload → Type 0) → ((x : A) → ¬ (Waiting x)) → ((x : A) → Waiting2 x ↔ Below x) → ((x : A) → ¬ (Below2 x))
      → IsWalk h d Visited Waiting Below Listed → IsWalk h (d + 1) Visited Waiting2 Below2 Listed
  deepened d Visited Waiting Waiting2 Below Below2 Listed none moved empty w = record {
    visited_within = λ x v. within_deeper h d x (w.visited_within x v);
    waiting_within = λ x k. w.below_within x ((moved x).0 k);
    below_within = λ x b. absurd (empty x b);
    complete = λ x k. elim (within_cases h d x k) [
      | inl k1 ↦ elim (w.complete x k1) [ inl v ↦ inl v | inr n ↦ absurd (none x n) ]
      | inr (by, k2, i) ↦ elim (w.complete by k2) [
        | inl v ↦ elim (w.followed by x v i) [ inl v1 ↦ inl v1 | inr r ↦ elim r [ inl n ↦ absurd (none x n) | inr b ↦ inr ((moved x).1 b) ] ]
        | inr n ↦ absurd (none by n)
      ]
    ];
    followed = λ by x v i. elim (w.followed by x v i) [ inl v1 ↦ inl v1 | inr r ↦ elim r [ inl n ↦ absurd (none x n) | inr b ↦ inr (inl ((moved x).1 b)) ] ];
    listed = λ p l. let (x, k, v) = w.listed p l in (x, within_deeper h d x k, v);
    validated = w.validated;
  }

  -- after all of the last depth were visited, their VRPs are those that are validated
  pub lists_exactly : (d : ℕ) (Visited Waiting Below : A → Type 0) (Listed : Payload → Type 0) → IsWalk h d Visited Waiting Below Listed → d ≡ 32 → ((x : A) → ¬ (Waiting x)) → (p : Payload) → Listed p ↔ IsValidated h p
  lists_exactly d Visited Waiting Below Listed w e none p = (
    λ l. (let (x, k, v) = w.listed p l in record { authority = x; within = subst (λ n. IsWithin h n x) e k; validates = v }),
    λ k. elim (w.complete k.authority (subst (λ n. IsWithin h n k.authority) (sym e) k.within)) [ inl v ↦ w.validated k.authority p v k.validates | inr n ↦ absurd (none k.authority n) ],
  )

  -- and those below that were not visited are one deeper
  pub deeper_exactly : (d : ℕ) (Visited Waiting Below : A → Type 0) (Listed : Payload → Type 0) → IsWalk h d Visited Waiting Below Listed → d ≡ 32 → ((x : A) → ¬ (Waiting x)) → ((x : A) × Below x × ¬ (Visited x)) ↔ HasDeeper h
  deeper_exactly d Visited Waiting Below Listed w e none = (
    λ k. (let (x, b, un) = k in record {
      authority = x;
      below = subst (λ n. IsWithin h (n + 1) x) e (w.below_within x b);
      passed = λ within. elim (w.complete x (subst (λ n. IsWithin h n x) (sym e) within)) [ inl v ↦ un v | inr n ↦ none x n ];
    }),
    λ k. (
        let x = k.authority in
        let un : ¬ (Visited x) = λ v. k.passed (subst (λ n. IsWithin h n x) e (w.visited_within x v)) in
        elim (within_cases h 32 x k.below) [
          | inl k1 ↦ absurd (k.passed k1)
          | inr (by, k2, i) ↦ elim (w.complete by (subst (λ n. IsWithin h n by) (sym e) k2)) [
            | inl v ↦ elim (w.followed by x v i) [ inl v1 ↦ absurd (un v1) | inr r ↦ elim r [ inl n ↦ absurd (none x n) | inr b ↦ (x, b, un) ] ]
            | inr n ↦ absurd (none by n)
          ]
        ]
        ),
  )
