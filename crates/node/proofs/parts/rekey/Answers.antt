use Rattle.std.proofs.Common.{◌≡◌, ◌∙◌, ◌+◌, ◌<◌, ◌++◌, ◌∷◌, [], arith, ap, ap₂, sym, drop, get_or, length, map, take}
use Rattle.std.proofs.lemmas.List.{drop-drop, drop-set-lt, get_or-drop, length-set, map-append, take_more, take_more_set}
use Rattle.node.specs.Changes.{rekeyed}
use Rattle.node.proofs.parts.rekey.Goals as goal

pub loop-place-preserved : goal.loop-place-preserved
loop-place-preserved g c =
    let xs = c.loop-place.branches in
    let old = c.args.branches.now in
    let i = c.loop-place.place in
    let b = c.get.result in
    let y = c.rekeyed-branch.result in
    let r = rekeyed c.args.child c.args.key in
    let inv = c.loop-place.invariant in
    let within : i < length xs = omega (arith, c.loop-place-test.true, c.requires, inv.len) in
    let here : i ≡ i + 0 = omega arith in
    let same = ap (λ n. get_or old n b) here ∙ sym (get_or-drop i old 0 b) ∙ ap (λ l. get_or l 0 b) (sym inv.rest) ∙ get_or-drop i xs 0 b ∙ ap (λ n. get_or xs n b) (sym here) ∙ sym c.get.ensures in record {
      done = ap (take (i + 1)) c.set.ensures
          ∙ take_more_set xs i y within
          ∙ ap₂ (λ l z. l ++ z ∷ []) inv.done (c.rekeyed-branch.ensures ∙ ap r (sym same))
          ∙ sym (map-append r (take i old) (get_or old i b ∷ []))
          ∙ ap (map r) (sym (take_more old i b (omega (arith, within, inv.len))));
      rest = ap (drop (i + 1)) c.set.ensures
          ∙ drop-set-lt (i + 1) xs i y (omega arith)
          ∙ sym (drop-drop 1 i xs)
          ∙ ap (drop 1) inv.rest
          ∙ drop-drop 1 i old;
      len = ap length c.set.ensures ∙ length-set xs i y ∙ inv.len;
    }
