use Rattle.std.proofs.Common.{◌≡◌, ◌+◌, ◌<◌, ◌∙◌, ap, arith, length, subst, sym}
use Rattle.std.proofs.lemmas.List.{length-map}
use Rattle.std.proofs.lemmas.Option.{slice_get-map}
use Rattle.std.specs.Prelude.{option_map}
use Rattle.change_list.specs.Records.{write_of, writes_of}
use Rattle.change_list.specs.Segments.{IsRun}
use Rattle.change_list.proofs.view.View.run.Goals as goal

pub returns : goal.returns
returns g c =
    let kept = c.self.inside.kept in
    let run = c.run.result.now in
    let stands : IsRun (writes_of kept) c.args.place (writes_of run) = λ i l.
    slice_get-map write_of kept (c.args.place + i)
    ∙ ap (option_map write_of) (c.run.ensures i (let m : i < length run = omega (arith, l, length-map run write_of) in m))
    ∙ sym (slice_get-map write_of run i) in
    subst (λ list. IsRun list c.args.place (writes_of run)) c.self.view_is stands
