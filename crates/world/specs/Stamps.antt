-- A commit, as a reply tells it.
use Rattle.std.specs.Prelude.{ℕ}
use Rattle.change_list.specs.declared.write.Write.{Write}

-- a commit: its number, the seat that asked for it, and what it changed
pub record Stamp (K : Type 0) : Type 0 where
  pub number : ℕ
  pub seat : ℕ
  pub write : Write K
