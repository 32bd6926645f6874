-- A change that leaves the links of every page (rows, keys, covers and marks of hanging aside) leaves the pages met.
use Rattle.std.proofs.Common.{ℕ, zero, suc, ◌<◌, ◌≡◌, List, [], ◌∷◌, ◌++◌, length, map, flat_map, option_to_list, refl, ap, ap₂, sym, ◌∙◌, subst, cond, ◌||◌, ltb, inl, inr}
use mathlib.Core.Path.{fun_ext}
use Rattle.std.proofs.lemmas.List.{get_or-set_same, get_or-set_other}
use Rattle.node.specs.Pages.{Page}
use Rattle.node.specs.declared.branch.Branch.{Branch}
use Rattle.page_table.proofs.PageLists.{is_or_not, replaced-length}
use Rattle.page_table.specs.Trees.{Tree, no_page, page_at, pages_under, pages_within, replaced}

pub record SameLinks {K : Type 0} (page page' : Page K) : Type 0 where
  pub children : map (λ b. b.child) page'.branches ≡ map (λ b. b.child) page.branches
  pub right : page'.right ≡ page.right
  pub owed : page'.owed ≡ page.owed
  pub nsn : page'.nsn ≡ page.nsn

flat_map-map : {A B C : Type 0} (f : B → List C) (g : A → B) (xs : List A) → flat_map (λ x. f (g x)) xs ≡ flat_map f (map g xs)
flat_map-map f g [] = refl
flat_map-map f g (x ∷ xs) = ap (λ ys. f (g x) ++ ys) (flat_map-map f g xs)

same_within : {K : Type 0} (t t' : Tree K) → t'.counter ≡ t.counter → ((p : ℕ) → SameLinks (page_at t p) (page_at t' p)) → (n p m : ℕ) → pages_within n t' p m ≡ pages_within n t p m
unfolding pages_within
same_within t t' c same zero p m = refl
same_within {K} t t' c same (suc n) p m =
    ap₂ (λ xs ys. p ∷ (xs ++ ys))
    (flat_map-map (λ x. pages_within n t' x t'.counter) (λ (b : Branch K). b.child) (page_at t' p).branches
    ∙ ap₂ flat_map (fun_ext (λ x. ap (λ g. pages_within n t' x g) c ∙ same_within t t' c same n x t.counter)) ((same p).children)
    ∙ sym (flat_map-map (λ x. pages_within n t x t.counter) (λ (b : Branch K). b.child) (page_at t p).branches))
    (ap₂ flat_map (fun_ext (λ x. same_within t t' c same n x m))
    (ap₂ (λ o r. cond (o || ltb m (page_at t' p).nsn) (option_to_list r) []) ((same p).owed) ((same p).right)
    ∙ ap (λ k. cond ((page_at t p).owed || ltb m k) (option_to_list (page_at t p).right) []) ((same p).nsn)))

pub same_under : {K : Type 0} (t t' : Tree K) → t'.counter ≡ t.counter → length t'.pages ≡ length t.pages → ((p : ℕ) → SameLinks (page_at t p) (page_at t' p)) → (p m : ℕ) → pages_under t' p m ≡ pages_under t p m
unfolding pages_under
same_under t t' c n same p m = ap (λ k. pages_within k t' p m) n ∙ same_within t t' c same (length t.pages) p m

-- one page written anew with its links as they were
pub replaced_under : {K : Type 0} (t : Tree K) (p : ℕ) (page : Page K) → p < length t.pages → SameLinks (page_at t p) page → (q m : ℕ) → pages_under (replaced t p page) q m ≡ pages_under t q m
replaced_under {K} t p page l same = same_under t (replaced t p page) refl (replaced-length t p page) each
  where
    each : (q : ℕ) → SameLinks (page_at t q) (page_at (replaced t p page) q)
    each q = elim (is_or_not q p) [
      | inl e ↦ subst (λ x. SameLinks (page_at t x) (page_at (replaced t p page) x)) (sym e) (subst (λ x. SameLinks (page_at t p) x) (sym (get_or-set_same t.pages p page no_page l)) same)
      | inr n ↦ subst (λ x. SameLinks (page_at t q) x) (sym (get_or-set_other t.pages p q page no_page n)) (record { children = refl; right = refl; owed = refl; nsn = refl })
    ]
