use Rattle.std.proofs.Common.{◌≤◌, length, vec_capacity}
use Rattle.front.specs.Lines.{HasNoFeed}
use Rattle.front.specs.Written.{HasRoomForLine}
use Rattle.front.proofs.Conversing.{Progress}
use Rattle.front.proofs.conversation.converse.Given as goal

abbrev pub invariant-reading : goal.invariant-reading
invariant-reading g l = record {
  capacity : 4096 ≤ vec_capacity l.lexemes;
  no_feed : HasNoFeed l.lines.rest;
  progress : Progress g.S.Responder.answers (g.R.Read.remaining l.initial.reader) (g.W.Write.contents l.initial.writer) l.initial.responder
      (g.R.Read.remaining l.reader) (g.W.Write.contents l.writer) l.gathered.items l.responder l.lines;
}

abbrev pub invariant-answering : goal.invariant-answering
invariant-answering g l = record {
  capacity : 4096 ≤ vec_capacity l.lexemes;
  room : HasRoomForLine l.gathered.items;
  progress : Progress g.S.Responder.answers (g.R.Read.remaining l.fn.reader) (g.W.Write.contents l.fn.writer) l.fn.responder
      (g.R.Read.remaining l.reader) (g.W.Write.contents l.writer) l.gathered.items l.responder l.lines;
}

abbrev pub decreases-answering : goal.decreases-answering
decreases-answering g l = length l.lines.rest
