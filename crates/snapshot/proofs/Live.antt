-- Where a tree agrees with the commits, its live rows are those of the last snapshot.
use Rattle.std.proofs.Common.{◌≡◌, ℕ, Bool, true, cond, ◌&&◌, List, [], ◌∷◌, length, Option, Some, None, refl, sym, ap₂, ◌∙◌}
use Rattle.std.specs.Prelude.{nat_le}
use Rattle.std.proofs.lemmas.Bool.{le-leb, le-ltb}
use Rattle.std.proofs.lemmas.List.Elements.{All-weaker}
use Rattle.change_list.proofs.Made.{row_found}
use Rattle.change_list.proofs.Tracking.{commit_within}
use Rattle.change_list.specs.Changes.{snapshot}
use Rattle.change_list.specs.declared.item.Row.{Row}
use Rattle.change_list.specs.declared.write.Write.{Write}
use Rattle.page_table.proofs.Stacks.{left_one}
use Rattle.page_table.proofs.Under.{entries_under}
use Rattle.page_table.proofs.Weights.{weigh-each}
use Rattle.page_table.specs.Soundness.{IsSound}
use Rattle.page_table.specs.Stacks.{rows_left}
use Rattle.page_table.specs.Trees.{Tree, rows_of_tree}
use Rattle.page_table.specs.Weights.{Same}
use Rattle.row_version.specs.Entries.{Entry, lives_at}
use Rattle.scan.proofs.Opening.{open_find}
use Rattle.scan.proofs.Seen.{seen_weight, weigh_seen}
use Rattle.scan.specs.Agreement.{Agrees, IsDeath, IsEntryOf}
use Rattle.search.proofs.Found.{found_weight, weigh_found}
use Rattle.search.specs.Live.{is_live, row_of}
use Rattle.search.specs.Searches.{rows_below}

same_test : (a b c d : Bool) (x : ℕ) → b ≡ true → c ≡ d → cond (d && a) x 0 ≡ cond ((b && c) && a) x 0
same_test a b c d x hb hc = let f : Bool → Bool → ℕ = λ b c. cond ((b && c) && a) x 0 in sym (ap₂ f hb hc)

module _ {K : Type 0} (w : Row K → ℕ) (wanted : K → Bool) (commits : List (Write K)) where
  -- a live entry is one that is seen now
  live_seen : (e : Entry K) → IsEntryOf commits e → found_weight w wanted e ≡ seen_weight w wanted (length commits) e
  live_seen e a =
      same_test (wanted e.key) (nat_le e.row (length commits)) (lives_at (length commits) e.died) (is_live e.died) (w (row_of e))
      (le-leb e.row (length commits) (row_found commits e.row (row_of e) a.made).2) (lives e.died a.death)
    where
      lives : (o : Option ℕ) → IsDeath commits e.row o → lives_at (length commits) o ≡ is_live o
      lives None d = refl
      lives (Some m) d = le-ltb (length commits) m (commit_within commits m d.write d.is).1

-- THE SEARCH OF A TREE THAT STANDS STILL FINDS THE LAST SNAPSHOT
pub live_find : {K : Type 0} (is_cover : K → K → Bool) (t : Tree K) (fan : ℕ) → IsSound is_cover fan t → (commits : List (Write K)) → Agrees t commits → (wanted : K → Bool)
    → Same (rows_below wanted t 0) (snapshot wanted (length commits) commits)
live_find {K} is_cover t fan sound commits agrees wanted w =
    let s = length commits in
    weigh_found w wanted (rows_of_tree t)
    ∙ weigh-each (found_weight w wanted) (seen_weight w wanted s) (rows_of_tree t)
    (All-weaker (λ (e : Entry K). IsEntryOf commits e) (λ (e : Entry K). found_weight w wanted e ≡ seen_weight w wanted s e) (live_seen w wanted commits) (rows_of_tree t)
    (entries_under t sound.rank sound.ranked (λ e. IsEntryOf commits e) agrees.entries 0 t.counter sound.root_exists))
    ∙ sym (left_one t (seen_weight w wanted s) (record { page = 0; memo = t.counter }))
    ∙ sym (weigh_seen w wanted s (rows_left t (record { page = 0; memo = t.counter } ∷ [])))
    ∙ open_find is_cover t fan sound commits agrees wanted w
