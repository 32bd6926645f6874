-- Where a right link is followed.
use Rattle.std.proofs.Common.{ℕ, ◌≤◌, ◌≡◌, List, [], ◌∷◌, option_to_list, All, refl, ap, ap₂, sym, ◌∙◌, subst, cond, Bool, true, false, ◌||◌, ltb, Some, None}
use Rattle.std.proofs.lemmas.Bool.{le-ltb}
use Rattle.std.proofs.lemmas.List.Elements.{All-nil}
use Rattle.node.specs.Pages.{Page, followed}

pub followed-not_owed : {K : Type 0} (page : Page K) (m : ℕ) → page.owed ≡ false → followed page m ≡ cond (ltb m page.nsn) (option_to_list page.right) []
followed-not_owed page m e = ap (λ o. cond (o || ltb m page.nsn) (option_to_list page.right) []) e

pub followed-owed : {K : Type 0} (page : Page K) (s m : ℕ) → page.owed ≡ true → page.right ≡ Some s → followed page m ≡ s ∷ []
followed-owed page s m e f = ap₂ (λ o r. cond (o || ltb m page.nsn) (option_to_list r) []) e f

-- at a memo that the page's number does not pass, it is followed exactly where it is owed
pub followed-top : {K : Type 0} (page : Page K) (m : ℕ) → page.nsn ≤ m → followed page m ≡ cond page.owed (option_to_list page.right) []
followed-top page m l = ap (λ x. cond (page.owed || x) (option_to_list page.right) []) (le-ltb m page.nsn l) ∙ go page.owed
  where
    go : (o : Bool) → cond (o || false) (option_to_list page.right) [] ≡ cond o (option_to_list page.right) []
    go true = refl
    go false = refl

pub All-owed : {K : Type 0} (P : ℕ → Type 0) (page : Page K) (m : ℕ) → page.nsn ≤ m → (page.owed ≡ true → All P (option_to_list page.right)) → All P (followed page m)
All-owed P page m l h = subst (λ xs. All P xs) (sym (followed-top page m l)) (go page.owed h)
  where
    go : (o : Bool) → (o ≡ true → All P (option_to_list page.right)) → All P (cond o (option_to_list page.right) [])
    go true h = h refl
    go false h = All-nil P

pub cond_nil : (x : Bool) (xs : List ℕ) → xs ≡ [] → cond x xs [] ≡ []
cond_nil true xs e = e
cond_nil false xs e = refl

pub followed-none : {K : Type 0} (page : Page K) (m : ℕ) → page.right ≡ None → followed page m ≡ []
followed-none page m e = cond_nil (page.owed || ltb m page.nsn) (option_to_list page.right) (ap option_to_list e)
