use Rattle.std.proofs.Common.{◌↔◌, drop}
use Rattle.key_class.specs.Queries.{query_of}
use Rattle.key_class.specs.Rules.{satisfies}
use Rattle.storm.specs.Looking.{AreTrueLooks}
use Rattle.storm.proofs.looks.are_true_looks.Given as goal

-- all looks are right exactly if those that are left are
abbrev pub invariant-loop-look : goal.invariant-loop-look
invariant-loop-look g l =
    let wanted = satisfies g.C.KeyClass.rules (query_of l.query) in
    AreTrueLooks wanted l.commits l.from (drop l.look-index l.looks) ↔ AreTrueLooks wanted l.commits 0 l.looks
