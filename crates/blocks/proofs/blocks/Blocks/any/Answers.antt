use Rattle.std.proofs.Common.{◌≡◌, ◌∙◌, ℕ, Bool, List, sym}
use Rattle.std.specs.Prelude.{is_some, MatchOption, Option, Some, None}
use Rattle.std.specs.List.{list_any}
use Rattle.blocks.specs.Firsts.{IsFirstFrom, NonePassFrom}
use Rattle.blocks.proofs.Passing.{none_passes, some_passes}
use Rattle.blocks.proofs.blocks.Blocks.any.Goals as goal

told : {X : Type 0} (p : X → Bool) (xs : List X) (found : Option ℕ) → MatchOption found (NonePassFrom p xs 0) (IsFirstFrom p xs 0) → is_some found ≡ list_any p xs
told p xs None none = sym (none_passes p xs none)
told p xs (Some place) first = sym (some_passes p xs 0 place first)

pub returns : goal.returns
returns g c = c.is_some.ensures ∙ told (g.S.BlockTest.passes c.args.test.now) c.args.self.now c.first_from.result c.first_from.ensures
