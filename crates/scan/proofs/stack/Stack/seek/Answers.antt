use Rattle.std.proofs.Common.{rules, ap}
use Rattle.scan.proofs.Finders.{further_finder, seek_pages}
use Rattle.scan.proofs.Seeking.{finds_here, seeks_further}
use Rattle.scan.proofs.Visiting.{next_exists}
use Rattle.scan.proofs.stack.Stack.seek.Goals as goal

pub returns-then-holds_row-clause-sought : goal.returns-then-holds_row-clause-sought
returns-then-holds_row-clause-sought g c =
    finds_here c.args.row c.args.table.now c.args.self.now c.in-Some.item c.item.inside.page c.in-Some.ensures (ap (λ i. i.page) c.item.view_is) (search rules)

pub go_on-requires-clause-exists : goal.go_on-requires-clause-exists
go_on-requires-clause-exists g c = (next_exists c.args.table.now c.args.self.now c.in-Some.item c.requires c.in-Some.ensures).0

pub returns-clause-sought : goal.returns-clause-sought
returns-clause-sought g c =
    seeks_further (λ bound. g.C.KeyClass.rules.is_cover bound c.args.key) c.args.row c.args.table.now c.args.self.now c.in-Some.item c.item-2.inside.page c.go_on.new.self c.in_ok-go_on.ensures.ok (ap (λ i. i.page) c.item-2.view_is) (search rules)

pub returns-clause-lost_nothing : goal.returns-clause-lost_nothing
returns-clause-lost_nothing g c fan commits sound agrees made find =
    further_finder g.C.KeyClass.rules.is_cover c.args.table.now fan sound commits agrees c.args.row g.met.C.KeyClass.lawful.bounds.through c.args.key made.0 made.1
    c.args.self.now c.item-2.inside.page c.go_on.new.self (returns-clause-sought g c) find

pub returns-clause-less_work : goal.returns-clause-less_work
returns-clause-less_work g c fan sound =
    seek_pages g.C.KeyClass.rules.is_cover c.args.table.now fan sound (λ bound. g.C.KeyClass.rules.is_cover bound c.args.key) c.args.self.now c.in-Some.item c.go_on.new.self c.requires c.in_ok-go_on.ensures.ok
