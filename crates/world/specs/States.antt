-- What contracts see of a world.
use Rattle.std.specs.Prelude.{◌≡◌, ℕ, ◌+◌, ◌≤◌, Bool, List, [], ◌∷◌, ◌++◌, length, false, Option, Some, All}
use Rattle.key_class.specs.Limits.{greatest_serial, most_commits, most_cursors, most_finders}
use Rattle.change_list.specs.declared.config.Config.{Config}
use Rattle.change_list.specs.declared.write.Write.{Write}
use Rattle.change_list.specs.Changes.{IsLegal, is_ended}
use Rattle.page_table.specs.Trees.{Tree, new_tree}
use Rattle.page_table.specs.Stacks.{IsStack}
use Rattle.split.specs.Potential.{potential}
use Rattle.split.specs.SearchTrees.{SearchTree, IsSearchTree, with_tree}
use Rattle.scan.specs.Agreement.{Agrees}
use Rattle.cursor.specs.OpenCursors.{OpenCursor}
use Rattle.descent.specs.Finders.{OpenFinder, FindsRow, IsSeeking}
use Rattle.world.specs.Serials.{member, put, Rise, IsMember}
use Rattle.world.specs.Stamps.{Stamp}

pub record State (K A : Type 0) : Type 0 where
  -- the pages, with their limits
  pub search : SearchTree K
  -- the greatest number of commits
  pub limit : ℕ
  pub commits : List (Write K)
  -- the open cursors, by rising serial
  pub cursors : List (OpenCursor K A)
  -- the last serial that was given to a cursor
  pub last : ℕ
  -- the open finders, by rising serial
  pub finders : List (OpenFinder K)
  -- the last serial that was given to a finder
  pub last_finder : ℕ

-- a world with one empty leaf
abbrev pub new_state : {K A : Type 0} → Config → State K A
new_state config = record {
  search = record { tree = new_tree; fan = config.fan; least = config.least; limit = config.pages };
  limit = config.commits;
  commits = [];
  cursors = [];
  last = 0;
  finders = [];
  last_finder = 0;
}

module _ {K : Type 0} where
  -- Each open finder looks for a row that was made, and while the row is live, it stands once under what the finder
  -- still has to visit.
  pub record HasFinders (tree : Tree K) (commits : List (Write K)) (finders : List (OpenFinder K)) (last : ℕ) : Type 0 where
    pub seeking : All (λ k. IsSeeking tree commits k) finders
    pub serials : Rise (λ k. k.serial) 0 last finders
    pub few : length finders ≤ most_finders
    pub last_serial : last ≤ greatest_serial

module _ {K A : Type 0} where
  -- the stamp of the next commit
  abbrev pub IsNextStamp : State K A → ℕ → Write K → Stamp K → Type 0
  IsNextStamp s seat write stamp = stamp ≡ record { number = length s.commits + 1; seat = seat; write = write }

  -- the open cursor with a serial
  abbrev pub cursor_at : State K A → ℕ → Option (OpenCursor K A)
  cursor_at s c = member (λ k. k.serial) c s.cursors

  -- the open finder with a serial
  abbrev pub finder_at : State K A → ℕ → Option (OpenFinder K)
  finder_at s f = member (λ k. k.serial) f s.finders

  abbrev pub with_pages : State K A → Tree K → State K A
  with_pages s tree = record s { search = with_tree s.search tree }

  abbrev pub with_cursor : State K A → OpenCursor K A → State K A
  with_cursor s k = record s { cursors = put (λ x. x.serial) k s.cursors }

  abbrev pub with_finder : State K A → OpenFinder K → State K A
  with_finder s k = record s { finders = put (λ x. x.serial) k s.finders }

  -- the finder with the serial is open, and looks for the row
  abbrev pub IsFinderOf : State K A → ℕ → ℕ → Type 0
  IsFinderOf s f row = (k : OpenFinder K) × (finder_at s f ≡ Some k) × (k.row ≡ row)

  -- there are as many commits as allowed
  abbrev pub IsFullOfCommits : State K A → Type 0
  IsFullOfCommits s = s.limit ≤ length s.commits

  -- the commits are the old ones, followed by this one
  abbrev pub AddsCommit : State K A → Write K → State K A → Type 0
  AddsCommit old write new = new.commits ≡ old.commits ++ write ∷ []

  -- what a cursor still has to visit exists, and its position is at most the number of commits
  pub record IsAtWork (tree : Tree K) (commits : List (Write K)) (k : OpenCursor K A) : Type 0 where
    pub stack : IsStack tree k.stack
    pub from_opening : k.opened ≤ k.position
    pub within : k.position ≤ length commits

  -- a sound world: the tree is sound, its entries agree with a legal list of commits, and so do open cursors and
  -- finders
  pub record IsSoundWorld (is_cover : K → K → Bool) (s : State K A) : Type 0 where
    pub tree : IsSearchTree is_cover s.search.tree s.search.fan s.search.least s.search.limit
    pub legal : IsLegal s.commits
    pub agrees : Agrees s.search.tree s.commits
    pub at_work : All (λ k. IsAtWork s.search.tree s.commits k) s.cursors
    pub serials : Rise (λ k. k.serial) 0 s.last s.cursors
    -- the tree's potential bounds the number of its pages
    pub grown : potential s.search.fan s.search.tree ≤ length s.commits + 1
    pub few_commits : length s.commits ≤ s.limit
    pub commit_limit : s.limit ≤ most_commits
    pub few_cursors : length s.cursors ≤ most_cursors
    pub last_serial : s.last ≤ greatest_serial
    pub finders : HasFinders s.search.tree s.commits s.finders s.last_finder

  -- an open cursor by its place
  abbrev pub IsAt : State K A → ℕ → ℕ → Type 0
  IsAt s c at = IsMember (λ k. k.serial) s.cursors c at

  -- an open finder by its place
  abbrev pub IsFinderAt : State K A → ℕ → ℕ → Type 0
  IsFinderAt s f at = IsMember (λ k. k.serial) s.finders f at

  -- a finder of a live row, and the page that it visits next holds the row
  pub record Meets (s : State K A) (f at page : ℕ) : Type 0 where
    pub here : IsFinderAt s f at
    pub alive : is_ended s.commits here.value.row ≡ false
    pub finds : FindsRow s.search.tree here.value page
