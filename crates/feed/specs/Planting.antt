-- The tree of a feed: its rows have keys under which queries are looked for, and tags that are the numbers of topics.
use Rattle.std.specs.Prelude.{◌≡◌, ℕ, false, List, [], ◌++◌, All, Option, Some, None, map}
use Rattle.key_class.specs.Rules.{Rules}
use Rattle.key_class.specs.declared.pred.Pred.TheVariants.{Atom}
use Rattle.change_list.specs.declared.item.Row.{Row}
use Rattle.change_list.specs.declared.write.Write.{Write}
use Rattle.change_list.specs.Changes.{IsLegal, is_ended, row_at}
use Rattle.snapshot.specs.Snapshots.{found_in}

module _ {K : Type 0} where
  -- the row with a number is live, and is this one
  pub record LivesAs (commits : List (Write K)) (number : ℕ) (row : Row K) : Type 0 where
    pub is : row_at commits number ≡ Some row
    pub lives : is_ended commits number ≡ false

  -- some live row has the key and the tag
  pub record HasRow (commits : List (Write K)) (tag : ℕ) (key : K) : Type 0 where
    pub number : ℕ
    pub row : Row K
    pub is : LivesAs commits number row
    pub has_key : row.key ≡ key
    pub has_tag : row.tag ≡ tag

  -- the row with a number was made with this tag
  pub record IsTagged (commits : List (Write K)) (tag number : ℕ) : Type 0 where
    pub row : Row K
    pub is : row_at commits number ≡ Some row
    pub has_tag : row.tag ≡ tag

  -- further commits, which end only rows with this tag
  pub record Tends (tag : ℕ) (old new : List (Write K)) : Type 0 where
    pub more : List (Write K)
    pub is : new ≡ old ++ more
    pub legal : IsLegal new
    pub others : (number : ℕ) (row : Row K) → LivesAs old number row → (row.tag ≡ tag → ⊥) → LivesAs new number row

  -- for each key there is a live row with the tag
  abbrev pub HasRows : List (Write K) → ℕ → List K → Type 0
  HasRows commits tag keys = All (HasRow commits tag) keys

  -- each of these rows was made with this tag
  abbrev pub AreTagged : List (Write K) → ℕ → List ℕ → Type 0
  AreTagged commits tag numbers = All (IsTagged commits tag) numbers

  -- the keys were planted, and their rows have these numbers
  pub record IsPlanted (commits : List (Write K)) (tag : ℕ) (keys : List K) (numbers : List ℕ) : Type 0 where
    pub rows : HasRows commits tag keys
    pub tagged : AreTagged commits tag numbers

  -- the keys were planted, or the tree was full
  abbrev pub MayBePlanted : List (Write K) → ℕ → List K → Option (List ℕ) → Type 0
  MayBePlanted commits tag keys (Some numbers) = IsPlanted commits tag keys numbers
  MayBePlanted commits tag keys None = Unit {0}

module _ {K A : Type 0} (rules : Rules K A) (overlap_with : K → A) (commits : List (Write K)) where
  -- the tags of the live rows whose keys overlap a row's key, if there is a row
  abbrev pub tags_at : Option (Row K) → List ℕ
  tags_at (Some touched) = map (λ r. r.tag) (found_in rules (Atom (overlap_with touched.key)) commits)
  tags_at None = []
