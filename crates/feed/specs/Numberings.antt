-- The commits of a store as revisions.
use Rattle.std.specs.Prelude.{ℕ, ◌+◌, ◌-◌, ◌<◌, ◌≤◌, ◌^◌, List, length}
use Rattle.change_list.specs.declared.write.Write.{Write}
use Rattle.feed.specs.declared.numbering.Numbering.{Numbering}

-- the revision that a commit makes; for a first commit it is the oldest
abbrev pub revision_of : Numbering → ℕ → ℕ
revision_of numbering commit = numbering.oldest + (commit - numbering.begun)

-- the commit that makes a revision; for the oldest revision and those before it, the last of the first commits
abbrev pub commit_of : Numbering → ℕ → ℕ
commit_of numbering revision = numbering.begun + (revision - numbering.oldest)

-- the last revision of a store with these commits
abbrev pub last_revision : {K : Type 0} → Numbering → List (Write K) → ℕ
last_revision numbering commits = revision_of numbering (length commits)

-- these commits may be numbered so: all first ones are among them, and the last revision is in range
pub record MayNumber {K : Type 0} (numbering : Numbering) (commits : List (Write K)) : Type 0 where
  pub begun : numbering.begun ≤ length commits
  pub range : last_revision numbering commits < 2 ^ 64
