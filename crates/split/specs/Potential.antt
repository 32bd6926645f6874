-- Why a tree has at most one page more than there were commits: its potential is at least the number of its pages, a
-- tree of one empty leaf has potential 1, and only a commit raises it, by at most 1.
use Rattle.std.specs.Prelude.{ℕ, ◌+◌, ◌-◌, cond}
use Rattle.node.specs.Pages.{Page, entries_of}
use Rattle.page_table.specs.Weights.{weigh}
use Rattle.page_table.specs.Trees.{Tree}

-- one for the page, one more while it is unhung, and one for each entry beyond fan - 2
abbrev pub page_potential : {K : Type 0} → ℕ → Page K → ℕ
page_potential fan page = 1 + cond page.hung 0 1 + (entries_of page + 2 - fan)

unfoldable pub potential : {K : Type 0} → ℕ → Tree K → ℕ
potential fan t = weigh (λ page. page_potential fan page) t.pages
