use Rattle.std.proofs.Common.{arith, ◌≡◌, ◌<◌, ◌≤◌, ◌-◌, ℕ, List, take, drop, length, sym, ap, ◌∙◌, Ok, refl}
use Rattle.std.specs.Io.KnownBytes.{IsAtEnd}
use Rattle.std.specs.Vec.{with_items}
use Rattle.std.proofs.lemmas.List.{with_items_is}
use Rattle.front.specs.Buffered.{Buffered, with_room}
use Rattle.front.proofs.Filling.{holding, fills, room_kept, room_made}
use Rattle.front.proofs.line_buffer.LineBuffer.fill.Goals as goal
use Rattle.front.proofs.line_buffer.LineBuffer.fill.Goals.{in-Some, in-None}

pub returns-clause-ok : goal.returns-clause-ok
returns-clause-ok g c =
    let i = c.self.inside in
    let v = c.self.invariant in
    let h : Buffered = holding i.bytes.items i.start i.end i.overlong in
    let m = c.match-moved_to_front in
    let first : c.deref_mut.result.now ≡ i.bytes.items = c.deref_mut.ensures.value in
    let many : length c.deref_mut.result.now ≡ 4097 = ap length first ∙ v.0 in
    let ends : i.end ≤ length i.bytes.items = omega (arith, v.0, v.2) in
    let moved : (with_items i.bytes c.moved_to_front.new.bytes).items ≡ c.moved_to_front.new.bytes = with_items_is i.bytes c.moved_to_front.new.bytes (omega (arith, c.moved_to_front.auto.bytes, c.deref_mut.ensures.len)) in
    let read : (with_items m.self-inside.bytes c.read_behind.new.bytes).items ≡ c.read_behind.new.bytes = with_items_is m.self-inside.bytes c.read_behind.new.bytes (omega (arith, c.read_behind.auto.bytes, c.deref_mut-2.ensures.len)) in
    let rest : take m.held c.read_behind.new.bytes ≡ (with_room h).rest =
    elim m.branch [
      | in-Some w ↦
          let e = w.in-Some.ensures.some in
          let l : i.end - i.start < 4097 = omega (arith, e.0, e.1, many, c.moved_to_front.auto.bytes) in
          let r = room_kept i.bytes.items i.start i.end i.overlong v.1 ends l in
          c.read_behind.ensures.held
          ∙ ap (take m.held) (c.deref_mut-2.ensures.value ∙ ap (λ s. s.bytes.items) w.self-inside-is ∙ moved)
          ∙ ap (λ k. take k c.moved_to_front.new.bytes) w.held-is ∙ e.2
          ∙ ap (λ (xs : List ℕ). take w.in-Some.held (drop i.start xs)) first
          ∙ ap (λ k. take k (drop i.start i.bytes.items)) e.0 ∙ sym (ap (λ (x : Buffered). x.rest) r)
      | in-None w ↦
          let r = room_made i.bytes.items i.start i.end i.overlong v.1 ends (w.in-None.ensures.none refl ∙ many) in
          ap (λ k. take k c.read_behind.new.bytes) w.held-is ∙ sym (ap (λ (x : Buffered). x.rest) r)
    ] in
    let over : m.self-inside.overlong ≡ (with_room h).overlong =
    elim m.branch [
      | in-Some w ↦
          let e = w.in-Some.ensures.some in
          let l : i.end - i.start < 4097 = omega (arith, e.0, e.1, many, c.moved_to_front.auto.bytes) in
          ap (λ s. s.overlong) w.self-inside-is ∙ sym (ap (λ (x : Buffered). x.overlong) (room_kept i.bytes.items i.start i.end i.overlong v.1 ends l))
      | in-None w ↦
          ap (λ s. s.overlong) w.self-inside-is ∙ sym (ap (λ (x : Buffered). x.overlong) (room_made i.bytes.items i.start i.end i.overlong v.1 ends (w.in-None.ensures.none refl ∙ many)))
    ] in
    let ended : c.in_ok-count.count ≡ 0 → IsAtEnd (g.R.Read.remaining c.read_behind.new.reader) = λ z. c.read_behind.ensures.end (c.in_ok-count.was ∙ ap Ok z) in
    rw (← c.self.view_is, read) (fills (g.R.Read.remaining c.args.reader.now) (g.R.Read.remaining c.read_behind.new.reader) h c.read_behind.new.bytes m.held c.in_ok-count.count m.self-inside.overlong c.in_ok-count.ensures.ok ended c.in_ok-count.ensures.within rest over)
