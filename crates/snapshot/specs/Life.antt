-- Whether a row is live, as its tree tells.
use Rattle.std.specs.Prelude.{◌↔◌, ℕ, Bool, List, IsTrue, ◌&&◌, is_none, nat_eq}
use Rattle.std.specs.List.{list_any}
use Rattle.change_list.specs.Changes.{HasKey, NamesLive}
use Rattle.change_list.specs.declared.write.Write.{Write}
use Rattle.page_table.specs.Trees.{Tree}
use Rattle.row_version.specs.Entries.{Entry}
use Rattle.scan.specs.Agreement.{Agrees}

module _ {K : Type 0} where
  -- one of the entries is that of the row, and is live
  abbrev pub holds_live : ℕ → List (Entry K) → Bool
  holds_live row entries = list_any (λ e. nat_eq e.row row && is_none e.died) entries

  -- whether the row is live after the commits with which the tree agrees, if it was made with the key
  abbrev pub TellsLife : Tree K → ℕ → K → Bool → Type 0
  TellsLife tree row key lives = (commits : List (Write K)) → Agrees tree commits → HasKey commits row key → (IsTrue lives ↔ NamesLive commits row)
