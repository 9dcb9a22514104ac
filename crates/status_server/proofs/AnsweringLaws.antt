-- The calls of a service, one after the other, and what they answered.
use Rattle.std.proofs.Common.{◌++◌, List, [], ◌∷◌, Option, ℕ, All, ap, append_assoc, refl, subst, sym, ◌∙◌}
use Rattle.std.proofs.lemmas.List.{append-nil}
use Rattle.std.proofs.lemmas.List.Elements.{All-cons, All-nil}
use Rattle.http.specs.Request.{head_of}
use Rattle.http.specs.declared.request.Request.{Request}
use Rattle.http_server.specs.Exchange.{Call, Calls, Chain}
use Rattle.http_server.specs.declared.response.Response.{Response}
use Rattle.status_server.specs.Answers.{Answering, AnswersOn, AnswersSo, Shown}

module _ {S : Type 0} (answers : S → Request (List ℕ) → Response → S → Type 0) where
  pub none_answered : (s : S) (calls : List Call) → Calls answers s s calls calls
  none_answered s calls = ([], sym (append-nil calls), refl)

  chain_on : (a b c : S) (xs ys : List Call) → Chain answers a xs b → Chain answers b ys c → Chain answers a (xs ++ ys) c
  chain_on a b c [] ys e k = subst (λ (s : S). Chain answers s ys c) e k
  chain_on a b c (x ∷ xs) ys h k = (h.0, h.1, chain_on h.0 b c xs ys h.2 k)

  pub answered_on : (a b c : S) (xs ys zs : List Call) → Calls answers a b xs ys → Calls answers b c ys zs → Calls answers a c xs zs
  answered_on a b c xs ys zs h k = (h.0 ++ k.0, k.1 ∙ ap (λ l. l ++ k.0) h.1 ∙ append_assoc xs h.0 k.0, chain_on a b c h.0 k.0 h.2 k.2)

-- what answers as before
pub on_refl : {S : Type 0} (shows : S → Shown) (a : Answering S) → AnswersOn shows a a
on_refl shows a = (refl, refl)

pub on_on : {S : Type 0} (shows : S → Shown) (a b c : Answering S) → AnswersOn shows a b → AnswersOn shows b c → AnswersOn shows a c
on_on shows a b c h k = (k.0 ∙ h.0, k.1 ∙ h.1)

module _ {S : Type 0} (shows : S → Shown) where
  -- A call was answered by what answers here.
  abbrev So : Answering S → Call → Type 0
  So a c = AnswersSo (shows a.source) a.name (head_of c.0) c.1

  -- Each call of a chain was answered by what answered at its beginning.
  pub all_so : (a b : Answering S) (calls : List Call) → Chain (λ old request response new. AnswersSo (shows old.source) old.name (head_of request) response × AnswersOn shows old new) a calls b
      → All (λ c. AnswersSo (shows a.source) a.name (head_of c.0) c.1) calls × AnswersOn shows a b
  all_so a b [] e = (All-nil (So a), (ap (λ s. shows s.source) e, ap (λ s. s.name) e))
  all_so a b (c ∷ calls) h =
      let rest = all_so h.0 b calls h.2 in
      (All-cons (So a) c calls h.1.0 (back a h.0 calls h.1.1 rest.0), on_on shows a h.0 b h.1.1 rest.1) where
        back : (a b : Answering S) (calls : List Call) → AnswersOn shows a b → All (λ c. AnswersSo (shows b.source) b.name (head_of c.0) c.1) calls
            → All (λ c. AnswersSo (shows a.source) a.name (head_of c.0) c.1) calls
        back a b calls on all =
            subst (λ (k : Shown). All (λ c. AnswersSo k a.name (head_of c.0) c.1) calls) on.0
            (subst (λ (n : Option (List ℕ)). All (λ c. AnswersSo (shows b.source) n (head_of c.0) c.1) calls) on.1 all)
