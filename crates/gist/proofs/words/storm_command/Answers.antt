use Rattle.std.proofs.Common.{◌∙◌, ap₂}
use Rattle.std.proofs.lemmas.Result.{IfOk-weaker}
use Rattle.clap.specs.Words.{with_rule}
use Rattle.gist.proofs.words.storm_command.Goals as goal

pub returns : goal.returns
returns c =
    let one = c.in_ok-arg.ensures.shape c.number_arg.ensures.local ∙ ap₂ with_rule c.new.ensures.app c.number_arg.ensures.rule in
    let two = c.in_ok-arg-2.ensures.shape c.number_arg-2.ensures.local ∙ ap₂ with_rule one c.number_arg-2.ensures.rule in
    let three = c.in_ok-arg-3.ensures.shape c.number_arg-3.ensures.local ∙ ap₂ with_rule two c.number_arg-3.ensures.rule in
    let four = c.in_ok-arg-4.ensures.shape c.number_arg-4.ensures.local ∙ ap₂ with_rule three c.number_arg-4.ensures.rule in
    let five = c.in_ok-arg-5.ensures.shape c.number_arg-5.ensures.local ∙ ap₂ with_rule four c.number_arg-5.ensures.rule in
    let six = c.in_ok-arg-6.ensures.shape c.number_arg-6.ensures.local ∙ ap₂ with_rule five c.number_arg-6.ensures.rule in
    let seven = c.in_ok-arg-7.ensures.shape c.number_arg-7.ensures.local ∙ ap₂ with_rule six c.number_arg-7.ensures.rule in
    let eight = c.in_ok-arg-8.ensures.shape c.number_arg-8.ensures.local ∙ ap₂ with_rule seven c.number_arg-8.ensures.rule in
    let nine = c.in_ok-arg-9.ensures.shape c.number_arg-9.ensures.local ∙ ap₂ with_rule eight c.number_arg-9.ensures.rule in
    IfOk-weaker c.arg-10.result _ _ (λ command added. λ names. added.shape c.number_arg-10.ensures.local ∙ ap₂ with_rule nine c.number_arg-10.ensures.rule) c.arg-10.ensures
