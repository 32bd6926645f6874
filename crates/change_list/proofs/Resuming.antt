-- A listing up to a commit goes on with the changes after it.
use Rattle.std.proofs.Common.{◌≡◌, ◌+◌, ◌-◌, ◌≤◌, ℕ, Bool, true, false, List, [], ◌∷◌, ◌++◌, map, subst, sym, ap, ◌∙◌, arith, append_assoc}
use Rattle.std.proofs.lemmas.List.{append-nil}
use Rattle.change_list.specs.declared.write.Write.{Write}
use Rattle.change_list.specs.declared.item.Item.{Item}
use Rattle.change_list.specs.declared.item.Item.TheVariants as item
use Rattle.change_list.specs.Changes.{changes}
use Rattle.change_list.specs.Listings.{IsListingFor, BeginsListingFor, AreChanges, BeginsChanges}
use Rattle.change_list.proofs.Fitting.{begins_for, listing_push}
use Rattle.change_list.proofs.Pushing.{changes_split}

module _ {K : Type 0} (wanted : K → Bool) where
  changes_join : (s n later : ℕ) (commits : List (Write K)) → s ≤ n → n ≤ later → changes wanted s n commits ++ changes wanted n later commits ≡ changes wanted s later commits
  changes_join s n later commits b l =
      let e : n + (later - n) ≡ later = omega (arith, l) in
      ap (λ k. changes wanted s n commits ++ changes wanted n k commits) (sym e) ∙ sym (changes_split wanted s n (later - n) commits b) ∙ ap (λ k. changes wanted s k commits) e

  pub goes_on : (follows : Bool) (s n later : ℕ) (commits : List (Write K)) (given resumed : List (Item K))
      → IsListingFor follows wanted s n commits given → AreChanges wanted n later commits resumed → IsListingFor follows wanted s later commits (given ++ resumed)
  goes_on false s n later commits given resumed l a = record {
    from_before = omega (arith, l.from_before, a.from_before);
    within = a.within;
    rows = l.rows;
    each_once = l.each_once;
    is = ap (λ r. given ++ r) a.is ∙ ap (λ g. g ++ changes wanted n later commits) l.is ∙ append_assoc (map item.Row l.rows) (changes wanted s n commits) (changes wanted n later commits)
        ∙ ap (λ t. map item.Row l.rows ++ t) (changes_join s n later commits l.from_before a.from_before);
  }
  goes_on true s n later commits given resumed l a = record {
    from_before = omega (arith, l.from_before, a.from_before);
    within = a.within;
    is = ap (λ r. given ++ r) a.is ∙ ap (λ g. g ++ changes wanted n later commits) l.is ∙ changes_join s n later commits l.from_before a.from_before;
  }

  pub begun : (follows : Bool) (s n later : ℕ) (commits : List (Write K)) (given resumed : List (Item K))
      → IsListingFor follows wanted s n commits given → BeginsChanges wanted n later commits resumed → BeginsListingFor follows wanted s later commits (given ++ resumed)
  begun follows s n later commits given resumed l b =
      begins_for wanted follows s later commits (given ++ resumed) b.rest
      (subst (λ i. IsListingFor follows wanted s later commits i) (sym (append_assoc given resumed b.rest)) (goes_on follows s n later commits given (resumed ++ b.rest) l b.changes))

  pub listing_stays : (follows : Bool) (s n : ℕ) (commits further : List (Write K)) (given : List (Item K))
      → IsListingFor follows wanted s n commits given → IsListingFor follows wanted s n (commits ++ further) given
  listing_stays follows s n commits [] given l = subst (λ c. IsListingFor follows wanted s n c given) (sym (append-nil commits)) l
  listing_stays follows s n commits (write ∷ further) given l =
      subst (λ c. IsListingFor follows wanted s n c given) (append_assoc commits (write ∷ []) further)
      (listing_stays follows s n (commits ++ write ∷ []) further given (listing_push wanted follows s n commits write given l))
