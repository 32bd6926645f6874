use Rattle.std.proofs.Common.{List, ℕ, ap, false}
use Rattle.front.specs.Buffered.{Buffered}
use Rattle.front.proofs.Bytes.{held_behind}
use Rattle.front.proofs.line_buffer.LineBuffer.pass.Goals as goal

pub returns : goal.returns
returns c =
    rw (← c.self.view_is) (ap (λ (r : List ℕ). let h : Buffered = record { rest = r; overlong = false } in h) (held_behind c.self.inside.bytes.items c.self.inside.start c.args.count c.self.inside.end))
