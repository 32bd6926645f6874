use Rattle.std.proofs.Common.{◌≡◌, ◌+◌, ◌++◌, [], ◌∷◌, sym, ap, ◌∙◌, subst, take}
use Rattle.std.proofs.lemmas.List.{take_more}
use Rattle.feed.specs.Planting.{AreTagged, IsPlanted}
use Rattle.feed.proofs.Tending.{planted_more, planted_none, tends_insert, tends_join, tends_none, tends_same}
use Rattle.feed.proofs.tree.plant.Goals as goal

pub loop-key-init : goal.loop-key-init
loop-key-init g c = record {
  tends = tends_none c.args.tag c.args.tree.now.commits c.requires.legal;
  planted = planted_none c.args.tree.now.commits c.args.tag c.new-rows.result.items c.new-rows.ensures.items;
}

pub uproot-requires-clause-tagged : goal.uproot-requires-clause-tagged
uproot-requires-clause-tagged g c =
    let rows : c.deref.result.now ≡ c.loop-key.rows.items = cc (c.deref.ensures.value, c.try_reserve.ensures.items) in
    subst (λ l. AreTagged c.loop-key.tree.commits c.args.tag l) (sym rows) c.loop-key.invariant.planted.tagged

pub returns-in_default-clause-tends : goal.returns-in_default-clause-tends
returns-in_default-clause-tends g c = tends_join c.args.tag c.args.tree.now.commits c.loop-key.tree.commits c.uproot.new.tree.commits c.loop-key.invariant.tends c.uproot.ensures

pub uproot-requires-in-Err-clause-tagged : goal.uproot-requires-in-Err-clause-tagged
uproot-requires-in-Err-clause-tagged g c =
    let rows : c.deref-in-Err.result.now ≡ c.loop-key.rows.items = cc (c.deref-in-Err.ensures.value, c.try_reserve.ensures.items) in
    subst (λ cs. AreTagged cs c.args.tag c.deref-in-Err.result.now) (sym c.in-Err.ensures.err.commits)
    (subst (λ l. AreTagged c.loop-key.tree.commits c.args.tag l) (sym rows) c.loop-key.invariant.planted.tagged)

pub returns-in-Err-clause-tends : goal.returns-in-Err-clause-tends
returns-in-Err-clause-tends g c =
    let mid = c.loop-key.tree.commits in
    let refused = tends_same c.args.tag mid c.insert.new.self.commits c.loop-key.invariant.tends.legal c.in-Err.ensures.err.commits in
    tends_join c.args.tag c.args.tree.now.commits mid c.uproot-in-Err.new.tree.commits c.loop-key.invariant.tends
    (tends_join c.args.tag mid c.insert.new.self.commits c.uproot-in-Err.new.tree.commits refused c.uproot-in-Err.ensures)

pub loop-key-preserved : goal.loop-key-preserved
loop-key-preserved g c =
    let mid = c.loop-key.tree.commits in
    let new = c.insert.new.self.commits in
    let keys = c.args.keys.now in
    let planted = planted_more mid new c.key-item.result c.args.tag (take c.loop-key.key-index keys) c.loop-key.rows.items c.loop-key.invariant.tends.legal c.in-Ok-insert.ensures.ok.commits c.loop-key.invariant.planted c.in-Ok-insert.row
    c.in-Ok-insert.ensures.number in
    let rows : c.push_reserved.new.self.items ≡ c.loop-key.rows.items ++ c.in-Ok-insert.row ∷ [] = cc (c.push_reserved.ensures.items, c.try_reserve.ensures.items) in
    let more : take (c.loop-key.key-index + 1) keys ≡ take c.loop-key.key-index keys ++ c.key-item.result ∷ [] =
    take_more keys c.loop-key.key-index c.key-item.result c.loop-key-test.true ∙ ap (λ k. take c.loop-key.key-index keys ++ k ∷ []) (sym c.key-item.is) in
    record {
      tends = tends_join c.args.tag c.args.tree.now.commits mid new c.loop-key.invariant.tends (tends_insert mid new c.key-item.result c.args.tag c.in-Ok-insert.ensures.ok.commits c.insert.ensures.legal);
      planted = subst (λ l. IsPlanted new c.args.tag (take (c.loop-key.key-index + 1) keys) l) (sym rows) (subst (λ l. IsPlanted new c.args.tag l (c.loop-key.rows.items ++ c.in-Ok-insert.row ∷ [])) (sym more) planted);
    }
