-- What is known of a source that answers as another one.
use Rattle.std.proofs.Common.{◌≡◌, ℕ, List, Bor, Option, None, Some, IfSome, IfNone, option_copied, refl, subst}
use Rattle.std.specs.Prelude.{unwrap_or}
use Rattle.status_pages.specs.declared.status.Status.{Status}
use Rattle.status_server.specs.Answers.{IsShown, Shown, shown_list}
use Rattle.status_server.specs.Plans.{IsRoute}
use Rattle.status_server.specs.Resources.{route_path}
use Rattle.status_server.specs.declared.list_forms.ListForm.{ListForm}

pub status_shown : (loaded : Option Status) (s : Status) (a b : Shown) → IfSome loaded (λ t. IsShown a.status t) → loaded ≡ Some s → a ≡ b → IsShown b.status s
status_shown loaded s a b h e same =
    subst (λ (k : Shown). IsShown k.status s) same (subst (λ (o : Option Status). IfSome o (λ t. IsShown a.status t)) e h)

pub list_shown : (f : ListForm) (list : Option (List ℕ)) (a b : Shown) → IsShown (shown_list f a) list → a ≡ b → IsShown (shown_list f b) list
list_shown f list a b h same = subst (λ (k : Shown). IsShown (shown_list f k) list) same h

-- A text or another one, whether it is borrowed or not
pub now_or : (o : Option (Bor (List ℕ))) (d : Bor (List ℕ)) → (unwrap_or o d).now ≡ unwrap_or (option_copied o) d.now
now_or None d = refl
now_or (Some x) d = refl

-- The end of the path of a route is what follows its start.
pub end_of : (o : Option (Bor (List ℕ))) (path : List ℕ) (d : Bor (List ℕ)) → IfSome o (λ rest. path ≡ route_path rest.now) → IfNone o ((rest : List ℕ) → ¬ (path ≡ route_path rest))
    → IsRoute path → path ≡ route_path (unwrap_or o d).now
end_of None path d some none is = absurd (none is.0 is.1)
end_of (Some x) path d some none is = some
