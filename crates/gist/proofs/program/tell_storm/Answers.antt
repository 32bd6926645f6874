use Rattle.std.proofs.Common.{◌++◌, subst}
use Rattle.std.specs.Prelude.{OnOk}
use Rattle.std.specs.Io.KnownBytes.{Appends}
use Rattle.std.proofs.KnownBytes.{Appends-trans}
use Rattle.std.proofs.lemmas.Result.{on_ok_weaker}
use Rattle.gist.specs.Storms.{client_lines, count_line}
use Rattle.gist.specs.declared.options.Role.TheVariants as role
use Rattle.gist.proofs.program.tell_storm.Goals as goal

pub returns : goal.returns
returns g c =
    let w = g.W.Write.contents in
    let o = c.args.outcome.now in
    let held = w c.args.writer.now in
    let counted = w c.tell_count.new.writer in
    let between = w c.tell_clients.new.writer in
    let beyond = w c.tell_clients-2.new.writer in
    let whole = w c.tell_clients-3.new.writer in
    let count = count_line o.commits in
    let readers = client_lines role.Reader o.commits 0 c.as_slice.result.now in
    let lookers = client_lines role.Looker o.commits 0 c.as_slice-2.result.now in
    let subscribers = client_lines role.Subscriber o.commits 0 c.as_slice-subscribers.result.now in
    subst (λ told. OnOk c.tell_clients-3.result (Appends held whole (count ++ (client_lines role.Reader o.commits 0 told ++ (client_lines role.Looker o.commits 0 o.lookers.items ++ client_lines role.Subscriber o.commits 0 o.subscribers.items))))) c.as_slice.ensures.value
    (subst (λ told. OnOk c.tell_clients-3.result (Appends held whole (count ++ (readers ++ (client_lines role.Looker o.commits 0 told ++ client_lines role.Subscriber o.commits 0 o.subscribers.items))))) c.as_slice-2.ensures.value
    (subst (λ told. OnOk c.tell_clients-3.result (Appends held whole (count ++ (readers ++ (lookers ++ client_lines role.Subscriber o.commits 0 told))))) c.as_slice-subscribers.ensures.value
    (on_ok_weaker c.tell_clients-3.result
    (λ last. Appends-trans held counted whole count (readers ++ (lookers ++ subscribers)) c.in_ok-tell_count.ensures
    (Appends-trans counted between whole readers (lookers ++ subscribers) c.in_ok-tell_clients.ensures (Appends-trans between beyond whole lookers subscribers c.in_ok-tell_clients-2.ensures last)))
    c.tell_clients-3.ensures)))
