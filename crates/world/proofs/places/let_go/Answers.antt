use Rattle.std.proofs.Common.{suc, ◌++◌, arith, ap, sym, ◌∙◌}
use Rattle.std.proofs.Math.ListN.{take, drop_of_length-le}
use Rattle.std.proofs.lemmas.List.{append-nil}
use Rattle.world.proofs.places.let_go.Goals as goal

pub returns-then-at-len : goal.returns-then-at-len
returns-then-at-len g c =
    let all = c.args.members.now.items in
    c.truncate.ensures.items ∙ sym (ap (λ rest. take c.args.at all ++ rest) (drop_of_length-le all {i = suc c.args.at} (omega arith)) ∙ append-nil (take c.args.at all))
