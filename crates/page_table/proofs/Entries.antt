-- Entries that stay and entries that move.
use Rattle.std.proofs.Common.{◌≡◌, subst, sym}
use Rattle.std.specs.Prelude.{Contains}
use Rattle.std.proofs.lemmas.List.Elements.{All-weaker, All-contains_itself, All-contains}
use Rattle.row_version.specs.Entries.{Entry}
use Rattle.page_table.specs.Trees.{Tree, page_at}
use Rattle.page_table.specs.Keeping.{EachEntry, StandsIn}

pub entries_stay : {K : Type 0} (t : Tree K) → EachEntry (λ e. StandsIn t e) t
entries_stay t q l = All-weaker (λ e. Contains (page_at t q).rows e) (λ e. StandsIn t e) (λ e c. (q, l, c)) (page_at t q).rows (All-contains_itself (page_at t q).rows)

pub entries_same : {K : Type 0} (t t' : Tree K) → t' ≡ t → EachEntry (λ e. StandsIn t e) t'
entries_same t t' e = subst (λ u. EachEntry (λ e. StandsIn t e) u) (sym e) (entries_stay t)

-- what holds of each entry of a tree holds of each entry of another that has no others
pub entries_moved : {K : Type 0} (P : Entry K → Type 0) (t t' : Tree K) → EachEntry (λ e. StandsIn t e) t' → EachEntry P t → EachEntry P t'
entries_moved P t t' from each q l = All-weaker (λ e. StandsIn t e) P (λ e s. All-contains P (page_at t s.0).rows e (each s.0 s.1) s.2) (page_at t' q).rows (from q l)
