-- What a counter counted.
use Rattle.std.specs.Prelude.{◌≡◌, ◌+◌, ◌%◌, ◌^◌, List, [], ◌++◌, length}
use Rattle.std.proofs.Common.{arith, length-append}
use Rattle.change_list.specs.declared.item.Row.{Row}
use Rattle.search.specs.declared.row_sink.Stop.{Stop}
use Rattle.search.specs.declared.sinks.Counter.{Counter}

-- so many rows more, modulo 2 ^ 64
abbrev pub counts : {K : Type 0} → Counter → List (Row K) → Counter → Type 0
counts old rows new = new.rows % 2 ^ 64 ≡ (old.rows + length rows) % 2 ^ 64

pub counts_none : (K : Type 0) (c : Counter) → counts {K = K} c [] c
counts_none K c = omega arith

pub counts_more : {K : Type 0} (a b c : Counter) (xs ys : List (Row K)) → counts a xs b → counts b ys c → counts a (xs ++ ys) c
counts_more a b c xs ys first then = omega (arith, first, then, length-append xs ys)

-- a counter never ends a search
abbrev pub never_stops : Counter → Stop → Type 0
never_stops counter why = ⊥
