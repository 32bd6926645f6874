-- What a client of a query may have been given.
use Rattle.std.specs.Prelude.{◌≡◌, ◌↔◌, ℕ, Bool, List, ◌∷◌, ◌++◌, length, IsTrue}
use Rattle.key_class.specs.declared.pred.Pred.{Pred}
use Rattle.key_class.specs.Queries.{query_of}
use Rattle.key_class.specs.Rules.{Rules, satisfies}
use Rattle.change_list.specs.declared.write.Write.{Write}
use Rattle.change_list.specs.declared.item.Item.{Item}
use Rattle.change_list.specs.declared.item.Item.TheVariants as item
use Rattle.change_list.specs.Listings.{IsListingFor, BeginsListingFor, without_marks}

module _ {K : Type 0} where
  -- What a client was given: without marks, its items begin a listing, and the items before each mark are one. If it
  -- follows commit s, a listing is only the changes after s.
  pub record IsDelivered (follows : Bool) (wanted : K → Bool) (s : ℕ) (commits : List (Write K)) (items : List (Item K)) : Type 0 where
    pub begins : BeginsListingFor follows wanted s (length commits) commits (without_marks items)
    pub marks : (before after : List (Item K)) (n : ℕ) → items ≡ before ++ item.Mark n ∷ after
        → IsListingFor follows wanted s n commits (without_marks before)

-- the result tells whether the client of a query may have been given the items
abbrev pub TellsDelivery : {K A : Type 0} → Rules K A → Pred A → Bool → ℕ → List (Write K) → List (Item K) → Bool → Type 0
TellsDelivery rules query follows s commits items told = IsTrue told ↔ IsDelivered follows (satisfies rules (query_of query)) s commits items
