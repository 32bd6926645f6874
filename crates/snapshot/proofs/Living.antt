-- Whether a row lives, by the page that holds it.
use Rattle.std.proofs.Common.{◌≡◌, ◌↔◌, ◌+◌, ◌-◌, ◌<◌, ◌≤◌, ℕ, length, Bool, true, false, cond, ◌&&◌, ◌||◌, List, [], ◌∷◌, Option, Some, None, refl, sym, ap, ◌∙◌, arith, subst}
use Rattle.std.specs.Prelude.{IsTrue, is_none, nat_eq}
use Rattle.std.proofs.Common.{take}
use Rattle.std.specs.Prelude.{All}
use Rattle.std.proofs.lemmas.Bool.{eqb-true}
use Rattle.std.proofs.lemmas.List.Elements.{All-head, All-tail}
use Rattle.change_list.proofs.Made.{number_of_commit, row_of_insert, row_of_move}
use Rattle.change_list.proofs.Tracking.{dead_made, legal_taken, live_from, live_kept, live_row}
use Rattle.change_list.specs.Changes.{HasKey, IsLegal, NamesLive, commit_at, is_ended, row_at, status_from, status_of}
use Rattle.change_list.specs.declared.item.Row.{Row}
use Rattle.change_list.specs.declared.write.Status.TheVariants.{Dead, NeverIssued}
use Rattle.change_list.specs.declared.write.Write.{Write}
use Rattle.change_list.specs.declared.write.Write.TheVariants.{Insert, Delete, Move}
use Rattle.page_table.proofs.Counting.{false_true}
use Rattle.page_table.specs.Soundness.{IsSound}
use Rattle.page_table.specs.Stacks.{IsStack, StackItem, root_stack}
use Rattle.page_table.specs.Trees.{Tree, page_at}
use Rattle.page_table.specs.Weights.{weigh}
use Rattle.row_version.specs.Entries.{Entry}
use Rattle.scan.proofs.Commits.{ended_by}
use Rattle.scan.proofs.Finders.{begin_finder, finder_open}
use Rattle.scan.proofs.Visiting.{next_exists}
use Rattle.scan.specs.Agreement.{Agrees, IsDeath, IsEntryOf, is_row}
use Rattle.scan.specs.Finding.{FindsHere, IsFinder, KeepsFinder}
use Rattle.snapshot.specs.Life.{TellsLife, holds_live}

module _ {K : Type 0} (commits : List (Write K)) (row : ℕ) where
  -- an entry of the row that lives, where no commit ends the row
  entry_lives : is_ended commits row ≡ false → (e : Entry K) → IsEntryOf commits e → e.row ≡ row → is_none e.died ≡ true
  entry_lives kept e is same = go e.died is.death
    where
      go : (died : Option ℕ) → IsDeath commits e.row died → is_none died ≡ true
      go None d = refl
      go (Some n) d = absurd (false_true (is_ended commits row) kept (ap (is_ended commits) (sym same) ∙ ended_by commits e.row n d))

  -- one that doesn't, where a commit ends it
  entry_dead : is_ended commits row ≡ true → (e : Entry K) → IsEntryOf commits e → e.row ≡ row → is_none e.died ≡ false
  entry_dead over e is same = go e.died is.death
    where
      go : (died : Option ℕ) → IsDeath commits e.row died → is_none died ≡ false
      go None d = absurd (false_true (is_ended commits row) (ap (is_ended commits) (sym same) ∙ d) over)
      go (Some n) d = refl

  -- entries that hold a row which no commit ends hold it alive
  live_held : is_ended commits row ≡ false → (entries : List (Entry K)) → All (λ e. IsEntryOf commits e) entries → 1 ≤ weigh (is_row row) entries → holds_live row entries ≡ true
  live_held kept [] all held = absurd (omega (arith, held))
  live_held kept (e ∷ entries) all held = go (nat_eq e.row row) refl held (λ h. live_held kept entries (All-tail (λ e. IsEntryOf commits e) e entries all) h)
    where
      go : (b : Bool) → nat_eq e.row row ≡ b → 1 ≤ cond b 1 0 + weigh (is_row row) entries → (1 ≤ weigh (is_row row) entries → holds_live row entries ≡ true) → ((b && is_none e.died) || holds_live row entries) ≡ true
      go true same h rest = rw (entry_lives kept e (All-head (λ e. IsEntryOf commits e) e entries all) (eqb-true e.row row same)) refl
      go false other h rest = rest (omega (arith, h))

  -- entries of a row that a commit ends don't
  dead_held : is_ended commits row ≡ true → (entries : List (Entry K)) → All (λ e. IsEntryOf commits e) entries → holds_live row entries ≡ false
  dead_held over [] all = refl
  dead_held over (e ∷ entries) all = go (nat_eq e.row row) refl (dead_held over entries (All-tail (λ e. IsEntryOf commits e) e entries all))
    where
      go : (b : Bool) → nat_eq e.row row ≡ b → holds_live row entries ≡ false → ((b && is_none e.died) || holds_live row entries) ≡ false
      go true same rest = rw (entry_dead over e (All-head (λ e. IsEntryOf commits e) e entries all) (eqb-true e.row row same)) rest
      go false other rest = rest

  -- a page that holds the row tells whether it lives
  pub told_there : (key : K) → HasKey commits row key → (entries : List (Entry K)) → All (λ e. IsEntryOf commits e) entries → 1 ≤ weigh (is_row row) entries → IsTrue (holds_live row entries) ↔ NamesLive commits row
  told_there key made entries all held = (
    λ lives. by_end (is_ended commits row) refl lives,
    λ live. live_held (live_kept commits row live) entries all held,
  )
    where
      by_end : (b : Bool) → is_ended commits row ≡ b → holds_live row entries ≡ true → NamesLive commits row
      by_end true over lives = absurd (false_true (holds_live row entries) (dead_held over entries all) lives)
      by_end false kept lives = live_from commits row _ made.1 kept

module _ {K : Type 0} (commits : List (Write K)) (row : ℕ) where
  -- a number of no row was never issued
  pub never_issued : IsLegal commits → row_at commits row ≡ None → status_of commits row ≡ NeverIssued
  never_issued legal none = by_commit (commit_at commits row) refl
    where
      no_insert : (key : K) (tag : ℕ) → commit_at commits row ≡ Some (Insert key tag) → ⊥
      no_insert key tag is = let made = sym none ∙ row_of_insert commits row key tag is in cc

      no_move : (other : ℕ) (key : K) → commit_at commits row ≡ Some (Move other key) → ⊥
      no_move other key is =
          let n = number_of_commit commits row (Move other key) is in
          let live = live_row (take (row - 1) commits) other (legal_taken commits (row - 1) legal) (legal (row - 1) (Move other key) n.2) in
          let made = sym none ∙ row_of_move commits row other key live.found is live.is in
          cc

      of_none : (b : Bool) → status_from {K = K} b None ≡ NeverIssued
      of_none true = refl
      of_none false = refl

      of_delete : (b : Bool) (other : ℕ) → status_from {K = K} b (Some (Delete other)) ≡ NeverIssued
      of_delete true other = refl
      of_delete false other = refl

      by_commit : (found : Option (Write K)) → commit_at commits row ≡ found → status_from (is_ended commits row) found ≡ NeverIssued
      by_commit None is = of_none (is_ended commits row)
      by_commit (Some (Insert key tag)) is = absurd (no_insert key tag is)
      by_commit (Some (Move other key)) is = absurd (no_move other key is)
      by_commit (Some (Delete other)) is = of_delete (is_ended commits row) other

  -- a row that doesn't live is dead
  pub dead_else : (r : Row K) → row_at commits row ≡ Some r → (NamesLive commits row → ⊥) → status_of commits row ≡ Dead
  dead_else r is off = by_end (is_ended commits row) refl
    where
      by_end : (b : Bool) → is_ended commits row ≡ b → status_of commits row ≡ Dead
      by_end true over = dead_made commits row r is over
      by_end false kept = absurd (off (live_from commits row r is kept))

module _ {K : Type 0} (t : Tree K) (row : ℕ) (key : K) where
  -- while the row lives, it stands once under what is still to be visited
  abbrev pub SeeksLiving : List StackItem → Type 0
  SeeksLiving stack = (commits : List (Write K)) → Agrees t commits → HasKey commits row key → NamesLive commits row → IsFinder row t stack

  pub seeking_begun : (is_cover : K → K → Bool) (fan : ℕ) → IsSound is_cover fan t → SeeksLiving (root_stack t.counter)
  seeking_begun is_cover fan sound commits agrees made live = begin_finder is_cover t fan sound commits agrees row live

  pub seeking_kept : (is_cover : K → K → Bool) (fan : ℕ) (old new : List StackItem) → IsSound is_cover fan t → KeepsFinder is_cover key row t old new → SeeksLiving old → SeeksLiving new
  seeking_kept is_cover fan old new sound keeps seeks commits agrees made live = keeps fan commits sound agrees made (seeks commits agrees made live)

  -- the page that holds the row is there
  pub here_exists : (old new : List StackItem) (page : ℕ) → IsStack t old → FindsHere row t old page new → page < length t.pages
  here_exists old new page stack here = (next_exists t old (record { page = page; memo = here.memo }) stack (record { rest = here.rest; is = here.last })).0

  pub told_here : (old new : List StackItem) (page : ℕ) → IsStack t old → FindsHere row t old page new → TellsLife t row key (holds_live row (page_at t page).rows)
  told_here old new page stack here commits agrees made =
      told_there commits row key made (page_at t page).rows (agrees.entries page (here_exists old new page stack here)) here.there

  pub told_nowhere : (stack : List StackItem) → stack ≡ [] → SeeksLiving stack → TellsLife t row key false
  told_nowhere stack over seeks commits agrees made = (
    λ lives. absurd (cc),
    λ live. absurd (finder_open row t (subst (λ s. IsFinder row t s) over (seeks commits agrees made live))),
  )
