use Rattle.front.specs.Conversations.{exchange}
use Rattle.front.proofs.FullPages.{lacks_pages}
use Rattle.front.proofs.Progress.{told_all, told_whole, told_first, if_well}
use Rattle.front.proofs.serve.session.Goals as goal

pub returns-clause-ok : goal.returns-clause-ok
returns-clause-ok g c =
    if_well c.converse.result (told_all g.C.ClassText.texts g.C.KeyClass.rules c.args.store.now c.converse.new.responder (exchange g.R.Read.remaining c.args.reader.now c.converse.new.reader g.W.Write.contents c.args.writer.now c.converse.new.writer) c.requires) c.converse.ensures.ok

pub returns-clause-read : goal.returns-clause-read
returns-clause-read g c =
    λ e. told_whole g.C.ClassText.texts g.C.KeyClass.rules c.args.store.now c.converse.new.responder (exchange g.R.Read.remaining c.args.reader.now c.converse.new.reader g.W.Write.contents c.args.writer.now c.converse.new.writer) c.requires (c.converse.ensures.read e)

pub returns-clause-write : goal.returns-clause-write
returns-clause-write g c =
    λ e. told_first g.C.ClassText.texts g.C.KeyClass.rules c.args.store.now c.converse.new.responder (exchange g.R.Read.remaining c.args.reader.now c.converse.new.reader g.W.Write.contents c.args.writer.now c.converse.new.writer) c.requires (c.converse.ensures.write e)

pub returns-clause-pages : goal.returns-clause-pages
returns-clause-pages g c = lacks_pages g.C.ClassText.texts g.C.KeyClass.rules c.converse.new.responder
