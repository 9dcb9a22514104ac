-- What is sent in parts, one after the other.
use Rattle.std.proofs.Common.{◌≡◌, ◌++◌, ◌↔◌, ℕ, Bool, false, true, IsTrue, List, [], Option, Some, Result, Ok, Err, OnOk, ap, append_assoc, subst, sym, ◌∙◌}
use Rattle.std.proofs.lemmas.List.{append-nil}
use Rattle.http1.specs.Fields.{Header}
use Rattle.http_header.specs.FieldValue.{FieldValue}
use Rattle.http_header.specs.HeaderMap.{Entries}
use Rattle.http_server.specs.Response.{fields_of}
use Rattle.http_server.specs.declared.response.Response.{Response}
use Rattle.status_server.specs.Answers.{SendsVersion}
use Rattle.status_server.specs.Conditions.{HasTag}
use Rattle.status_server.specs.Responses.{Sends, SendsTagged, SendsUnder}

pub on_ok : {T E A B : Type 0} (r : Result T E) → OnOk r A → (A → B) → OnOk r B
on_ok (Ok t) a f = f a
on_ok (Err e) a f = tt

-- a part with the status that the response has then
pub more : (s : ℕ) (h k : List Header) (a b : List ℕ) (x y z : Response) → Sends s h a x y → Sends y.status k b y z → Sends s (h ++ k) (a ++ b) x z
more s h k a b x y z f g = (
  g.0 ∙ f.0,
  g.1 ∙ ap (λ l. l ++ k) f.1 ∙ append_assoc (fields_of x) h k,
  g.2 ∙ ap (λ l. l ++ b) f.2 ∙ append_assoc x.body.items a b,
)

pub then : {T E : Type 0} (r : Result T E) (s : ℕ) (h k : List Header) (a b : List ℕ) (x y z : Response) → Sends s h a x y → OnOk r (Sends y.status k b y z) → OnOk r (Sends s (h ++ k) (a ++ b) x z)
then r s h k a b x y z f g = on_ok r g (more s h k a b x y z f)

-- a part with another status
pub then_as : {T E : Type 0} (r : Result T E) (s t : ℕ) (h k : List Header) (a b : List ℕ) (x y z : Response) → Sends s h a x y → OnOk r (Sends t k b y z) → OnOk r (Sends t (h ++ k) (a ++ b) x z)
then_as r s t h k a b x y z f g = on_ok r g (λ n. (
  n.0,
  n.1 ∙ ap (λ l. l ++ k) f.1 ∙ append_assoc (fields_of x) h k,
  n.2 ∙ ap (λ l. l ++ b) f.2 ∙ append_assoc x.body.items a b,
))

-- a body behind the headers
pub with_body : {T E : Type 0} (r : Result T E) (s : ℕ) (h : List Header) (b : List ℕ) (x y z : Response) → Sends s h [] x y → z.status ≡ y.status → fields_of z ≡ fields_of y → OnOk r (z.body.items ≡ y.body.items ++ b) → OnOk r (Sends s h b x z)
with_body r s h b x y z f status fields body = on_ok r body (λ e. (
  status ∙ f.0,
  fields ∙ f.1,
  e ∙ ap (λ l. l ++ b) (f.2 ∙ append-nil x.body.items),
))

-- a text behind the headers of a tagged representation that the client has not
pub tagged : {T E : Type 0} (r : Result T E) (tag kind text : List ℕ) (is : List ℕ → Type 0) (has : Bool) (x y z : Response) → has ≡ false → SendsTagged has tag kind (λ t. t ≡ []) x y
    → z.status ≡ y.status → fields_of z ≡ fields_of y → is text → OnOk r (z.body.items ≡ y.body.items ++ text) → OnOk r (SendsTagged has tag kind is x z)
tagged r tag kind text is has x y z off sent status fields h body =
    subst (λ (b : Bool). OnOk r (SendsTagged b tag kind is x z)) (sym off) (on_ok r body (λ e.
    let s = subst (λ (b : Bool). SendsTagged b tag kind (λ t. t ≡ []) x y) off sent in
    let put = e ∙ ap (λ l. l ++ text) (s.2.2 ∙ ap (λ t. x.body.items ++ t) s.1 ∙ append-nil x.body.items) in
    (text, h, (status ∙ s.2.0, fields ∙ s.2.1, put))))

-- the representation of a tag whose text is known, and of a version that is there
pub under : {T E : Type 0} (r : Result T E) (headers : Entries FieldValue) (tag other kind : List ℕ) (is : List ℕ → Type 0) (has : Bool) (x z : Response)
    → tag ≡ other → (IsTrue has ↔ HasTag headers tag) → OnOk r (SendsTagged has tag kind is x z) → OnOk r (SendsUnder headers other kind is x z)
under r headers tag other kind is has x z e k sent =
    subst (λ (t : List ℕ). OnOk r (SendsUnder headers t kind is x z)) e (on_ok r sent (λ s. (has, k, s)))

pub of_version : {T E : Type 0} (r : Result T E) (serial : Option ℕ) (list : Option (List ℕ)) (n : ℕ) (text : List ℕ) (sends : ℕ → List ℕ → Response → Response → Type 0) (x z : Response)
    → serial ≡ Some n → list ≡ Some text → OnOk r (sends n text x z) → OnOk r (SendsVersion serial list sends x z)
of_version r serial list n text sends x z e f h =
    subst (λ (s : Option ℕ). OnOk r (SendsVersion s list sends x z)) (sym e) (subst (λ (l : Option (List ℕ)). OnOk r (SendsVersion (Some n) l sends x z)) (sym f) h)

-- A client that has a representation gets none, whatever it is.
pub unchanged : (tag kind : List ℕ) (is other : List ℕ → Type 0) (has : Bool) (x z : Response) → has ≡ true → SendsTagged has tag kind other x z → SendsTagged has tag kind is x z
unchanged tag kind is other has x z on sent =
    subst (λ (b : Bool). SendsTagged b tag kind is x z) (sym on) (subst (λ (b : Bool). SendsTagged b tag kind other x z) on sent)
