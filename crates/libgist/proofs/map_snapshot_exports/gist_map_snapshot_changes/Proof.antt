-- `gist_map_snapshot_changes` calls `give_items`, with what is lent for the call as two references, and everything else unchanged.
use Rattle.libgist.proofs.Lending.{ℕ, [], ◌∷◌, refl, w32, w64, named, vptr, SProp, id⊢, WpFn, sem, tables, ‵, raw, prop, ◌⊛◌, some, later, ◌$◌, ◌∵◌, !, qed, move, drop, use1, use2, split, join, pick, fsplit, fjoin, regoal, suffices, await, done, whole, sub, agg, and_then, no_more, returns, enter, addr, of_opd, fld, hop, from, stop, alloc_all, pass_all, free_all, look_at, look_in_at, get, get_in, through, sets, lands_as, Is, shows, uint_vals, uint_Tells, uint_Lawful, u32, flat, owns, Ptr, block_ptr, rawptr_vals, rawptr_Tells, mut_vals, mut_Tells, mut_slice_vals, mut_slice_Tells, types_at, nothing, peeks, calls_at, Lasts, said_of, at_exit, alive, triple_of, framed, are_lent, lasts, both_last, ends, walked, comes_back, lent_ref, takes_lent}
use denote.Builtin.{u64}
use Rattle.libgist.specs.contracts.words.ShownMapItem.{the_row as ShownMapItem}
use Rattle.libgist.specs.contracts.map_snapshot_exports.gist_map_snapshot_changes as f
use Rattle.libgist.proofs.map_snapshot_exports.gist_map_snapshot_changes.Statement.{statement}
use Rattle.libgist.proofs.map_snapshot_exports.gist_map_snapshot_changes.Code as code
use Rattle.libgist.specs.contracts.map_snapshot_exports.give_items as g
use Rattle.libgist.proofs.map_snapshot_exports.give_items.Met.{met}

pub gist_map_snapshot_changes_spec : {M : Type 1} → statement M
gist_map_snapshot_changes_spec 𝓤 𝓛 𝓜 𝓡 wired =
    let 𝓣 = tables 𝓤 𝓛.H 𝓜 𝓡 𝓡.env in
    let fc = f.spec 𝓛 𝓜.mem 𝓡.returns in let gc = g.spec 𝓛 𝓜.mem 𝓡.returns in
    let F = triple_of 𝓛 f.signature fc in let G = triple_of 𝓛 g.signature gc in
    walked 𝓛 f.signature fc 𝓜 𝓡 f.Key.name code.function (code.unfolded 𝓤 𝓛.H 𝓜 𝓡 wired)
    (λ κs. (rawptr_vals, (rawptr_vals, (uint_vals w64, (mut_slice_vals, (mut_vals, (mut_vals, tt))))))) (λ κs. (rawptr_Tells, (rawptr_Tells, (uint_Tells w64, (mut_slice_Tells (named 0) κs.0 ShownMapItem, (mut_Tells (named 1) κs.1.0 u64, (mut_Tells (named 2) κs.1.1.0 u64, tt))))))) (λ κs qs bounds a loans are.
    let y : Ptr → Ptr → F.Ghost = λ p p'. ((κs, qs, bounds, (p, (p', (a.1.1.0, (a.1.1.1.0, (a.1.1.1.1.0, (a.1.1.1.1.1.0, tt)))))), (rawptr_vals p, (rawptr_vals p', (uint_vals w64 a.1.1.0, (mut_slice_vals a.1.1.1.0, (mut_vals a.1.1.1.1.0, (mut_vals a.1.1.1.1.1.0, tt))))))), loans) in
    let A : SProp 𝓤 = alive 𝓛 f.signature κs qs in
    qed 𝓛 ((raw A ⊛ ‵ (owns (types_at f.signature.params κs) a (rawptr_vals a.0, (rawptr_vals a.1.0, (uint_vals w64 a.1.1.0, (mut_slice_vals a.1.1.1.0, (mut_vals a.1.1.1.1.0, (mut_vals a.1.1.1.1.1.0, tt)))))))) ∷ ‵ (are_lent a.0 a.1.0 loans) ∷ []) ∵
    split ! $ move ! (1 ∷ []) $ fsplit ! $ drop ! $ fsplit ! $ drop ! $ move ! (2 ∷ []) $
    fsplit ! $
    takes_lent ! a.0 loans.0 (λ b o e. regoal ! (λ u. prop (WpFn 𝓤 𝓛.H 𝓣.C 𝓣.Λ code.function (flat (types_at f.signature.params κs) (rawptr_vals u, (rawptr_vals a.1.0, (uint_vals w64 a.1.1.0, (mut_slice_vals a.1.1.1.0, (mut_vals a.1.1.1.1.0, (mut_vals a.1.1.1.1.1.0, tt))))))) (F.post (y u a.1.0)))) e refl $
    move ! (2 ∷ []) $
    takes_lent ! a.1.0 loans.1 (λ b' o' e'. regoal ! (λ u. prop (WpFn 𝓤 𝓛.H 𝓣.C 𝓣.Λ code.function (flat (types_at f.signature.params κs) (rawptr_vals (block_ptr b o), (rawptr_vals u, (uint_vals w64 a.1.1.0, (mut_slice_vals a.1.1.1.0, (mut_vals a.1.1.1.1.0, (mut_vals a.1.1.1.1.1.0, tt))))))) (F.post (y (block_ptr b o) u)))) e' refl $
    let z : G.Ghost = (((loans.0.until, (loans.1.until, κs)), (loans.0.share, (loans.1.share, qs)), tt, (lent_ref b o loans.0, (lent_ref b' o' loans.1, (a.1.1.0, (a.1.1.1.0, (a.1.1.1.1.0, (a.1.1.1.1.1.0, tt)))))), (vptr b o ∷ [], (vptr b' o' ∷ [], (uint_vals w64 a.1.1.0, (mut_slice_vals a.1.1.1.0, (mut_vals a.1.1.1.1.0, (mut_vals a.1.1.1.1.1.0, tt))))))), tt) in
    move ! (0 ∷ 4 ∷ []) $ fjoin ! $ move ! (2 ∷ 0 ∷ []) $ fjoin ! $
    move ! (1 ∷ 3 ∷ []) $ join ! $ move ! (2 ∷ 0 ∷ []) $ join ! $ join ! $
    nothing ! $ move ! (1 ∷ 0 ∷ []) $ use2 𝓛 (raw (G.pre z)) (id⊢ 𝓤 _) $
    enter ! _ _ _ _ _ $ alloc_all ! (λ ls. pass_all ! refl ((tt, tt), ((tt, tt), ((tt, record { fits = are.1.1.0.1 }), ((tt, (tt, (record { fits = are.1.1.1.0.0.1.0 }, tt))), ((tt, tt), ((tt, tt), tt)))))) $
    sets ! (of_opd ! (get ! refl)) refl (tt, tt) $ sets ! (addr ! (through ! refl (stop !))) refl (tt, tt) $
    sets ! (of_opd ! (get ! refl)) refl (tt, tt) $ sets ! (addr ! (through ! refl (stop !))) refl (tt, tt) $
    sets ! (addr ! (from ! (fld ! refl (hop ! (look_in_at ! 4 (sub ! 0 refl (whole !))) (stop !))))) refl (tt, tt) $ sets ! (agg ! (and_then ! (get ! refl) (and_then ! (get_in ! (fld ! refl (stop !)) (sub ! 1 refl (whole !))) (no_more !)))) refl (tt, (tt, (record { fits = are.1.1.1.0.0.1.0 }, tt))) $
    sets ! (addr ! (through ! refl (stop !))) refl (tt, tt) $
    sets ! (addr ! (through ! refl (stop !))) refl (tt, tt) $
    calls_at ! (framed 𝓤 𝓛.H 𝓜 𝓣) G (met 𝓤 𝓛 𝓜 𝓡 (code.calls-libgist::map_snapshot_exports::give_items 𝓡.env wired)) z (and_then ! (get ! refl) (and_then ! (get ! refl) (and_then ! (get ! refl) (and_then ! (get ! refl) (and_then ! (get ! refl) (and_then ! (get ! refl) (no_more !))))))) (λ v.
    use1 𝓛 (later (some (λ (r : ℕ). ((‵ (lasts loans.0) ⊛ (‵ (lasts loans.1) ⊛ raw A)) ⊛ ‵ (u32.own_val r (v ∷ []))) ⊛ raw ((gc z.0.0 z.0.3).ensures tt r)))) (id⊢ 𝓤 _) $ await ! tt $ pick ! (λ r.
    split ! $ split ! $ move ! (1 ∷ []) $ peeks ! u32 (Is u32) (shows 𝓛 u32) r (v ∷ []) (λ is. lands_as ! refl refl ((uint_Lawful 𝓛 w32).typed r _ is).0 $
    returns ! (look_at ! 0 refl) $ free_all ! refl $
    move ! (1 ∷ []) $ split ! $ move ! (1 ∷ []) $ split ! $ move ! (2 ∷ 0 ∷ []) $ fjoin ! $ move ! (0 ∷ 3 ∷ []) $
    use2 𝓛 (raw ((fc κs a).ensures loans r)) (comes_back 𝓤 (λ (ws : Lasts g.ended z.0.0 z.0.3). sem 𝓛 (said_of g.ended z.0.0 z.0.3 ws)) (λ (ws : Lasts g.ended z.0.0 z.0.3). (g.clauses 𝓛 𝓜.mem 𝓡.returns z.0.0 z.0.3).ensures tt r (at_exit g.ended z.0.0 z.0.3 ws)) (sem 𝓛 (both_last loans))) $ move ! (1 ∷ 2 ∷ []) $ join ! $
    suffices ! _ (ends 𝓛 f.signature fc (y (block_ptr b o) (block_ptr b' o')) _ r) $ done !)))))))
