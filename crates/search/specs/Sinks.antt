-- What a sink took of some rows.
use Rattle.std.specs.Prelude.{◌≡◌, ℕ, ◌≤◌, List, [], ◌++◌, Vec}
use Rattle.std.proofs.Common.{sym, ap, ◌∙◌, append-nil, append_assoc}
use Rattle.change_list.specs.declared.item.Row.{Row}
use Rattle.page_table.specs.Weights.{Same, weigh}
use Rattle.search.specs.declared.row_sink.Stop.{Stop}
use Rattle.search.specs.declared.row_sink.Stop.TheVariants as stop

-- some of the members of a list, none more often than it is there
abbrev pub IsSomeOf : {X : Type 0} → List X → List X → Type 0
IsSomeOf {X} some all = (w : X → ℕ) → weigh w some ≤ weigh w all

module _ {K S : Type 0} (takes : S → List (Row K) → S → Type 0) (rows : List (Row K)) where
  -- a sink took these rows, in some order
  pub record TakesAll (old new : S) : Type 0 where
    pub given : List (Row K)
    pub taken : takes old given new
    pub all : Same given rows

  -- a sink took some of these rows
  pub record TakesSome (old new : S) : Type 0 where
    pub given : List (Row K)
    pub taken : takes old given new
    pub some : IsSomeOf given rows

module _ {K Z : Type 0} where
  -- the rows follow those that a list had
  abbrev pub appends : Vec (Row K) Z → List (Row K) → Vec (Row K) Z → Type 0
  appends old rows new = new.items ≡ old.items ++ rows

  pub appends_none : (v : Vec (Row K) Z) → appends v [] v
  appends_none v = sym (append-nil v.items)

  pub appends_more : (a b c : Vec (Row K) Z) (xs ys : List (Row K)) → appends a xs b → appends b ys c → appends a (xs ++ ys) c
  appends_more a b c xs ys first then = then ∙ ap (λ l. l ++ ys) first ∙ append_assoc a.items xs ys

  -- a list takes no more only where memory ran out
  abbrev pub lacks_memory : Vec (Row K) Z → Stop → Type 0
  lacks_memory v why = why ≡ stop.OutOfMemory
