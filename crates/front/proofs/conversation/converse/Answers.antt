use Rattle.std.proofs.Common.{arith, ◌+◌, Bool, length, drop, ap, subst}
use Rattle.front.specs.Buffered.{FillsHeld}
use Rattle.front.proofs.Writing.{fails_in}
use Rattle.front.proofs.Conversing.{begin, stands_now, sent, filled, cut_short, answered, stands_after, ended_all, stands_last, no_feed_at_end, keeps_itself}
use Rattle.front.proofs.conversation.converse.Goals as goal

pub reading-init : goal.reading-init
reading-init g c = record {
  capacity = omega (arith, c.in-Ok-with_capacity.ensures.capacity);
  no_feed = rw c.in-Ok.ensures tt;
  progress = rw (c.in-Ok.ensures, c.new-gathered.ensures) (begin g.S.Responder.answers (g.R.Read.remaining c.args.reader.now) (g.W.Write.contents c.args.writer.now) c.args.responder.now);
}

pub returns-in_err-send-clause-write : goal.returns-in_err-send-clause-write
returns-in_err-send-clause-write g c =
    λ _. stands_now g.S.Responder.answers (g.R.Read.remaining c.args.reader.now) (g.W.Write.contents c.args.writer.now) c.args.responder.now (g.R.Read.remaining c.reading.reader) (g.W.Write.contents c.reading.writer) c.reading.gathered.items c.reading.responder c.reading.lines c.reading.invariant.progress (g.W.Write.contents c.send.new.writer) c.in_err-send.ensures.written

pub returns-in_err-fill-clause-read : goal.returns-in_err-fill-clause-read
returns-in_err-fill-clause-read g c =
    let p = sent g.S.Responder.answers (g.R.Read.remaining c.args.reader.now) (g.W.Write.contents c.args.writer.now) c.args.responder.now (g.R.Read.remaining c.reading.reader) (g.W.Write.contents c.reading.writer) c.reading.gathered.items c.reading.responder c.reading.lines c.reading.invariant.progress (g.W.Write.contents c.send.new.writer) c.send.new.gathered.items c.in_ok-send.ensures.written in
    λ _. cut_short g.S.Responder.answers (g.R.Read.remaining c.args.reader.now) (g.W.Write.contents c.args.writer.now) c.args.responder.now (g.R.Read.remaining c.reading.reader) (g.W.Write.contents c.send.new.writer) c.send.new.gathered.items c.reading.responder c.reading.lines p (g.R.Read.remaining c.fill.new.reader) c.reading.invariant.no_feed c.in_err-fill.ensures.err.1 c.in_ok-send.ensures.empty

pub returns-in_err-answer_line-clause-write : goal.returns-in_err-answer_line-clause-write
returns-in_err-answer_line-clause-write g c =
    let p = filled g.S.Responder.answers (g.R.Read.remaining c.args.reader.now) (g.W.Write.contents c.args.writer.now) c.args.responder.now (g.R.Read.remaining c.reading.reader) (g.W.Write.contents c.send.new.writer) c.send.new.gathered.items c.reading.responder c.reading.lines (sent g.S.Responder.answers (g.R.Read.remaining c.args.reader.now) (g.W.Write.contents c.args.writer.now) c.args.responder.now (g.R.Read.remaining c.reading.reader) (g.W.Write.contents c.reading.writer) c.reading.gathered.items c.reading.responder c.reading.lines c.reading.invariant.progress (g.W.Write.contents c.send.new.writer) c.send.new.gathered.items c.in_ok-send.ensures.written) (g.R.Read.remaining c.fill.new.reader) c.in_ok-fill.field-0 c.fill.new.self c.reading.invariant.no_feed c.in_ok-fill.ensures.ok in
    let n = no_feed_at_end (g.R.Read.remaining c.reading.reader) (g.R.Read.remaining c.fill.new.reader) c.reading.lines c.fill.new.self c.reading.invariant.no_feed (subst (λ (b : Bool). FillsHeld (g.R.Read.remaining c.reading.reader) (g.R.Read.remaining c.fill.new.reader) c.reading.lines b c.fill.new.self) c.if-not-branch.true c.in_ok-fill.ensures.ok) in
    let f = rw (c.rest.ensures, c.is_overlong.ensures) at c.in_err-answer_line.ensures.answers in
    λ _. stands_last g.S.Responder.answers (g.R.Read.remaining c.args.reader.now) (g.W.Write.contents c.args.writer.now) c.args.responder.now (g.R.Read.remaining c.fill.new.reader) (g.W.Write.contents c.send.new.writer) c.send.new.gathered.items c.reading.responder c.fill.new.self p n c.answer_line.new.responder (g.W.Write.contents c.answer_line.new.writer) f

pub returns-then-not-branch-clause-ok : goal.returns-then-not-branch-clause-ok
returns-then-not-branch-clause-ok g c =
    let p = filled g.S.Responder.answers (g.R.Read.remaining c.args.reader.now) (g.W.Write.contents c.args.writer.now) c.args.responder.now (g.R.Read.remaining c.reading.reader) (g.W.Write.contents c.send.new.writer) c.send.new.gathered.items c.reading.responder c.reading.lines (sent g.S.Responder.answers (g.R.Read.remaining c.args.reader.now) (g.W.Write.contents c.args.writer.now) c.args.responder.now (g.R.Read.remaining c.reading.reader) (g.W.Write.contents c.reading.writer) c.reading.gathered.items c.reading.responder c.reading.lines c.reading.invariant.progress (g.W.Write.contents c.send.new.writer) c.send.new.gathered.items c.in_ok-send.ensures.written) (g.R.Read.remaining c.fill.new.reader) c.in_ok-fill.field-0 c.fill.new.self c.reading.invariant.no_feed c.in_ok-fill.ensures.ok in
    let n = no_feed_at_end (g.R.Read.remaining c.reading.reader) (g.R.Read.remaining c.fill.new.reader) c.reading.lines c.fill.new.self c.reading.invariant.no_feed (subst (λ (b : Bool). FillsHeld (g.R.Read.remaining c.reading.reader) (g.R.Read.remaining c.fill.new.reader) c.reading.lines b c.fill.new.self) c.if-not-branch.true c.in_ok-fill.ensures.ok) in
    let f = rw (c.rest.ensures, c.is_overlong.ensures) at c.in_ok-answer_line.ensures.answers in
    let s = c.in_ok-send-2.ensures in
    ended_all g.S.Responder.answers (g.R.Read.remaining c.args.reader.now) (g.W.Write.contents c.args.writer.now) c.args.responder.now (g.R.Read.remaining c.fill.new.reader) (g.W.Write.contents c.send.new.writer) c.send.new.gathered.items c.reading.responder c.fill.new.self p n c.answer_line.new.responder (g.W.Write.contents c.answer_line.new.writer) (g.W.Write.contents c.send-then-not-branch.new.writer) c.answer_line.new.gathered.items c.send-then-not-branch.new.gathered.items f s.written s.empty (c.in_ok-fill.ensures.ok.none_at_end c.if-not-branch.true).1

pub returns-in_err-send-2-clause-write : goal.returns-in_err-send-2-clause-write
returns-in_err-send-2-clause-write g c =
    let p = filled g.S.Responder.answers (g.R.Read.remaining c.args.reader.now) (g.W.Write.contents c.args.writer.now) c.args.responder.now (g.R.Read.remaining c.reading.reader) (g.W.Write.contents c.send.new.writer) c.send.new.gathered.items c.reading.responder c.reading.lines (sent g.S.Responder.answers (g.R.Read.remaining c.args.reader.now) (g.W.Write.contents c.args.writer.now) c.args.responder.now (g.R.Read.remaining c.reading.reader) (g.W.Write.contents c.reading.writer) c.reading.gathered.items c.reading.responder c.reading.lines c.reading.invariant.progress (g.W.Write.contents c.send.new.writer) c.send.new.gathered.items c.in_ok-send.ensures.written) (g.R.Read.remaining c.fill.new.reader) c.in_ok-fill.field-0 c.fill.new.self c.reading.invariant.no_feed c.in_ok-fill.ensures.ok in
    let n = no_feed_at_end (g.R.Read.remaining c.reading.reader) (g.R.Read.remaining c.fill.new.reader) c.reading.lines c.fill.new.self c.reading.invariant.no_feed (subst (λ (b : Bool). FillsHeld (g.R.Read.remaining c.reading.reader) (g.R.Read.remaining c.fill.new.reader) c.reading.lines b c.fill.new.self) c.if-not-branch.true c.in_ok-fill.ensures.ok) in
    let f = rw (c.rest.ensures, c.is_overlong.ensures) at c.in_ok-answer_line.ensures.answers in
    λ _. stands_last g.S.Responder.answers (g.R.Read.remaining c.args.reader.now) (g.W.Write.contents c.args.writer.now) c.args.responder.now (g.R.Read.remaining c.fill.new.reader) (g.W.Write.contents c.send.new.writer) c.send.new.gathered.items c.reading.responder c.fill.new.self p n c.answer_line.new.responder (g.W.Write.contents c.send-then-not-branch.new.writer)
    (λ whole is. let a = f whole is in (a.0, a.1, fails_in (g.W.Write.contents c.send.new.writer) (g.W.Write.contents c.answer_line.new.writer) (g.W.Write.contents c.send-then-not-branch.new.writer) c.send.new.gathered.items c.answer_line.new.gathered.items a.0 a.2 c.in_err-send-2.ensures.written))

pub answering-init : goal.answering-init
answering-init g c = record {
  capacity = c.reading.invariant.capacity;
  room = omega (arith, ap length c.in_ok-send.ensures.empty);
  progress = filled g.S.Responder.answers (g.R.Read.remaining c.args.reader.now) (g.W.Write.contents c.args.writer.now) c.args.responder.now (g.R.Read.remaining c.reading.reader) (g.W.Write.contents c.send.new.writer) c.send.new.gathered.items c.reading.responder c.reading.lines (sent g.S.Responder.answers (g.R.Read.remaining c.args.reader.now) (g.W.Write.contents c.args.writer.now) c.args.responder.now (g.R.Read.remaining c.reading.reader) (g.W.Write.contents c.reading.writer) c.reading.gathered.items c.reading.responder c.reading.lines c.reading.invariant.progress (g.W.Write.contents c.send.new.writer) c.send.new.gathered.items c.in_ok-send.ensures.written) (g.R.Read.remaining c.fill.new.reader) c.in_ok-fill.field-0 c.fill.new.self c.reading.invariant.no_feed c.in_ok-fill.ensures.ok;
}

pub returns-in_err-answer_line-2-clause-write : goal.returns-in_err-answer_line-2-clause-write
returns-in_err-answer_line-2-clause-write g c =
    let f = rw c.is_overlong-in-Some.ensures at c.in_err-answer_line-2.ensures.answers in
    λ _. stands_after g.S.Responder.answers (g.R.Read.remaining c.args.reader.now) (g.W.Write.contents c.args.writer.now) c.args.responder.now (g.R.Read.remaining c.fill.new.reader) (g.W.Write.contents c.answering.writer) c.answering.gathered.items c.answering.responder c.answering.lines c.answering.invariant.progress c.in-Some.line.now (drop (length c.in-Some.line.now + 1) c.answering.lines.rest) c.in-Some.ensures.line.1 c.in-Some.ensures.line.0 c.answer_line-in-Some.new.responder (g.W.Write.contents c.answer_line-in-Some.new.writer) f

pub answering-preserved : goal.answering-preserved
answering-preserved g c =
    let f = rw c.is_overlong-in-Some.ensures at c.in_ok-answer_line-2.ensures.answers in
    record {
      capacity = c.answer_line-in-Some.ensures.capacity;
      room = c.in_ok-answer_line-2.ensures.room;
      progress = rw c.pass.ensures (answered g.S.Responder.answers (g.R.Read.remaining c.args.reader.now) (g.W.Write.contents c.args.writer.now) c.args.responder.now (g.R.Read.remaining c.fill.new.reader) (g.W.Write.contents c.answering.writer) c.answering.gathered.items c.answering.responder c.answering.lines c.answering.invariant.progress c.in-Some.line.now (drop (length c.in-Some.line.now + 1) c.answering.lines.rest) c.in-Some.ensures.line.1 c.in-Some.ensures.line.0 c.answer_line-in-Some.new.responder (g.W.Write.contents c.answer_line-in-Some.new.writer) c.answer_line-in-Some.new.gathered.items f);
    }

pub returns-in_err-send-3-clause-write : goal.returns-in_err-send-3-clause-write
returns-in_err-send-3-clause-write g c =
    λ _. stands_now g.S.Responder.answers (g.R.Read.remaining c.args.reader.now) (g.W.Write.contents c.args.writer.now) c.args.responder.now (g.R.Read.remaining c.reading.reader) (g.W.Write.contents c.reading.writer) c.reading.gathered.items c.reading.responder c.reading.lines c.reading.invariant.progress (g.W.Write.contents c.send-2.new.writer) c.in_err-send-3.ensures.written

pub returns-clause-read : goal.returns-clause-read
returns-clause-read g c =
    let p = sent g.S.Responder.answers (g.R.Read.remaining c.args.reader.now) (g.W.Write.contents c.args.writer.now) c.args.responder.now (g.R.Read.remaining c.reading.reader) (g.W.Write.contents c.reading.writer) c.reading.gathered.items c.reading.responder c.reading.lines c.reading.invariant.progress (g.W.Write.contents c.send-2.new.writer) c.send-2.new.gathered.items c.in_ok-send-3.ensures.written in
    λ _. cut_short g.S.Responder.answers (g.R.Read.remaining c.args.reader.now) (g.W.Write.contents c.args.writer.now) c.args.responder.now (g.R.Read.remaining c.reading.reader) (g.W.Write.contents c.send-2.new.writer) c.send-2.new.gathered.items c.reading.responder c.reading.lines p (g.R.Read.remaining c.reading.reader) c.reading.invariant.no_feed (keeps_itself (g.R.Read.remaining c.reading.reader)) c.in_ok-send-3.ensures.empty
