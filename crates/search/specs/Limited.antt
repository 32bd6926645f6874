-- What a list of limited length has after it took rows.
use Rattle.std.specs.Prelude.{◌≡◌, ◌≤◌, List, [], ◌++◌, length, refl}
use Rattle.std.proofs.Common.{sym, ap, ◌∙◌, append-nil, append_assoc}
use Rattle.change_list.specs.declared.item.Row.{Row}
use Rattle.search.specs.declared.row_sink.Stop.{Stop}
use Rattle.search.specs.declared.row_sink.Stop.TheVariants as stop
use Rattle.search.specs.declared.at_most.AtMost.{AtMost}

module _ {K : Type 0} where
  -- the rows follow those that it had, and it has no more than it may
  pub record keeps (old : AtMost K) (rows : List (Row K)) (new : AtMost K) : Type 0 where
    pub items : new.rows.items ≡ old.rows.items ++ rows
    pub most : new.most ≡ old.most
    pub within : length old.rows.items ≤ old.most → length new.rows.items ≤ new.most

  pub keeps_none : (s : AtMost K) → keeps s [] s
  keeps_none s = record { items = sym (append-nil s.rows.items); most = refl; within = λ l. l }

  pub keeps_more : (a b c : AtMost K) (xs ys : List (Row K)) → keeps a xs b → keeps b ys c → keeps a (xs ++ ys) c
  keeps_more a b c xs ys first then = record {
    items = then.items ∙ ap (λ l. l ++ ys) first.items ∙ append_assoc a.rows.items xs ys;
    most = then.most ∙ first.most;
    within = λ l. then.within (first.within l);
  }

  -- where it has enough, it has as many rows as it may
  abbrev pub has_enough : AtMost K → Stop → Type 0
  has_enough list why = why ≡ stop.Enough → list.most ≤ length list.rows.items
