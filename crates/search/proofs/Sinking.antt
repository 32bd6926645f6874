-- How a sink takes the rows of picked entries one by one.
use Rattle.std.proofs.Common.{◌≡◌, List, [], ◌∷◌, ◌++◌, map, refl, sym, ap, subst, append-nil, append_assoc, ◌∙◌, arith}
use Rattle.std.specs.Prelude.{OnErr, Ok, Err, Result}
use Rattle.change_list.specs.declared.item.Row.{Row}
use Rattle.page_table.proofs.Weights.{weigh-append}
use Rattle.page_table.specs.Weights.{weigh}
use Rattle.row_version.specs.Entries.{Entry}
use Rattle.search.specs.Live.{row_of}
use Rattle.search.specs.Sinks.{TakesSome}

-- what holds at an error
pub on_err : {A E P : Type 0} (r : Result A E) → P → OnErr r P
on_err (Ok x) p = tt
on_err (Err e) p = p

module _ {K S : Type 0} (takes : S → List (Row K) → S → Type 0) where
  -- of some rows a sink took all but the last ones
  pub record TakesBut (all rest : List (Row K)) (old new : S) : Type 0 where
    pub given : List (Row K)
    pub taken : takes old given new
    pub is : given ++ rest ≡ all

  pub none_taken : ((s : S) → takes s [] s) → (all : List (Row K)) (old : S) → TakesBut all all old old
  none_taken takes_none all old = record { given = []; taken = takes_none old; is = refl }

  pub one_taken : ((a b c : S) (xs ys : List (Row K)) → takes a xs b → takes b ys c → takes a (xs ++ ys) c) → (all : List (Row K)) (told rest : List (Entry K)) (e : Entry K) (old mid new : S)
      → told ≡ e ∷ rest → TakesBut all (map row_of told) old mid → takes mid (row_of e ∷ []) new → TakesBut all (map row_of rest) old new
  one_taken takes_more all told rest e old mid new is but more = record {
    given = but.given ++ row_of e ∷ [];
    taken = takes_more old mid new but.given (row_of e ∷ []) but.taken more;
    is = append_assoc but.given (row_of e ∷ []) (map row_of rest) ∙ ap (λ l. but.given ++ map row_of l) (sym is) ∙ but.is;
  }

  -- at the end it took all of them
  pub all_taken : (all rest : List (Row K)) (old new : S) → rest ≡ [] → TakesBut all rest old new → takes old all new
  all_taken all rest old new none but = subst (λ l. takes old l new) (sym (append-nil but.given) ∙ ap (λ l. but.given ++ l) (sym none) ∙ but.is) but.taken

  -- where it takes no more, it has some of them
  pub some_taken : ((a b c : S) (xs ys : List (Row K)) → takes a xs b → takes b ys c → takes a (xs ++ ys) c) → (all : List (Row K)) (told rest : List (Entry K)) (e : Entry K) (old mid new : S)
      → told ≡ e ∷ rest → TakesBut all (map row_of told) old mid → TakesSome takes (row_of e ∷ []) mid new → TakesSome takes all old new
  some_taken takes_more all told rest e old mid new is but last = record {
    given = but.given ++ last.given;
    taken = takes_more old mid new but.given last.given but.taken last.taken;
    some = λ w.
        let a = weigh-append w but.given last.given in
        let b = ap (weigh w) but.is in
        let c = weigh-append w but.given (map row_of told) in
        let d = ap (λ l. weigh w (map row_of l)) is in
        omega (arith, a, b, c, d, last.some w);
  }
