-- `gist_map_feed_advance` calls `advance_over_map`, with what is lent for the call as a reference, and everything else unchanged.
use Rattle.libgist.proofs.Lending.{ℕ, [], ◌∷◌, refl, w32, w64, named, vptr, SProp, id⊢, flft, WpFn, sem, tables, ‵, raw, prop, ◌⊛◌, some, later, ◌$◌, ◌∵◌, !, qed, move, drop, use1, use2, split, join, pick, fsplit, fjoin, regoal, suffices, await, done, whole, sub, agg, and_then, no_more, returns, enter, addr, of_opd, fld, hop, from, stop, alloc_all, pass_all, free_all, look_at, look_in_at, get, get_in, through, sets, lands_as, Is, shows, uint_vals, uint_Tells, uint_Lawful, u32, flat, owns, Ptr, block_ptr, rawptr_vals, rawptr_Tells, mut_vals, mut_Tells, mut_slice_vals, mut_slice_Tells, types_at, nothing, peeks, calls_at, Lasts, said_of, at_exit, triple_of, framed, is_lent, lasts, ends, walked, comes_back, lent_ref, takes_lent, toks}
use denote.Builtin.{u64}
use Rattle.libgist.specs.contracts.handle.Handle.{the_row as Handle}
use Rattle.libgist.specs.contracts.words.ToldMapItem.{the_row as ToldMapItem}
use Rattle.libgist.specs.contracts.map_feed_exports.gist_map_feed_advance as f
use Rattle.libgist.proofs.map_feed_exports.gist_map_feed_advance.Statement.{statement}
use Rattle.libgist.proofs.map_feed_exports.gist_map_feed_advance.Code as code
use Rattle.libgist.specs.contracts.map_feed_exports.advance_over_map as g
use Rattle.libgist.proofs.map_feed_exports.advance_over_map.Met.{met}

pub gist_map_feed_advance_spec : {M : Type 1} → statement M
gist_map_feed_advance_spec 𝓤 𝓛 𝓜 𝓡 wired =
    let 𝓣 = tables 𝓤 𝓛.H 𝓜 𝓡 𝓡.env in
    let fc = f.spec 𝓛 𝓜.mem 𝓡.returns in let gc = g.spec 𝓛 𝓜.mem 𝓡.returns in
    let F = triple_of 𝓛 f.signature fc in let G = triple_of 𝓛 g.signature gc in
    walked 𝓛 f.signature fc 𝓜 𝓡 f.Key.name code.function (code.unfolded 𝓤 𝓛.H 𝓜 𝓡 wired)
    (λ κs. (mut_vals, (rawptr_vals, (uint_vals w64, (mut_slice_vals, (mut_vals, (mut_vals, tt))))))) (λ κs. (mut_Tells (named 0) κs.0 Handle, (rawptr_Tells, (uint_Tells w64, (mut_slice_Tells (named 1) κs.1.0 ToldMapItem, (mut_Tells (named 2) κs.1.1.0 u64, (mut_Tells (named 3) κs.1.1.1.0 u64, tt))))))) (λ κs qs bounds a loan are.
    let y : Ptr → F.Ghost = λ p. ((κs, qs, bounds, (a.0, (p, (a.1.1.0, (a.1.1.1.0, (a.1.1.1.1.0, (a.1.1.1.1.1.0, tt)))))), (mut_vals a.0, (rawptr_vals p, (uint_vals w64 a.1.1.0, (mut_slice_vals a.1.1.1.0, (mut_vals a.1.1.1.1.0, (mut_vals a.1.1.1.1.1.0, tt))))))), loan) in
    let A : SProp 𝓤 = toks 𝓛 3 κs.1 qs.1 in
    qed 𝓛 (((‵ (flft κs.0 qs.0) ⊛ raw A) ⊛ ‵ (owns (types_at f.signature.params κs) a (mut_vals a.0, (rawptr_vals a.1.0, (uint_vals w64 a.1.1.0, (mut_slice_vals a.1.1.1.0, (mut_vals a.1.1.1.1.0, (mut_vals a.1.1.1.1.1.0, tt)))))))) ∷ ‵ (is_lent a.1.0 loan) ∷ []) ∵
    split ! $ split ! $ move ! (2 ∷ []) $ fsplit ! $ move ! (1 ∷ []) $ fsplit ! $ drop ! $ move ! (4 ∷ []) $
    takes_lent ! a.1.0 loan (λ b o e. regoal ! (λ u. prop (WpFn 𝓤 𝓛.H 𝓣.C 𝓣.Λ code.function (flat (types_at f.signature.params κs) (mut_vals a.0, (rawptr_vals u, (uint_vals w64 a.1.1.0, (mut_slice_vals a.1.1.1.0, (mut_vals a.1.1.1.1.0, (mut_vals a.1.1.1.1.1.0, tt))))))) (F.post (y u)))) e refl $
    let z : G.Ghost = (((κs.0, (loan.until, κs.1)), (qs.0, (loan.share, qs.1)), tt, (a.0, (lent_ref b o loan, (a.1.1.0, (a.1.1.1.0, (a.1.1.1.1.0, (a.1.1.1.1.1.0, tt)))))), (mut_vals a.0, (vptr b o ∷ [], (uint_vals w64 a.1.1.0, (mut_slice_vals a.1.1.1.0, (mut_vals a.1.1.1.1.0, (mut_vals a.1.1.1.1.1.0, tt))))))), tt) in
    move ! (0 ∷ 2 ∷ []) $ fjoin ! $ move ! (2 ∷ 0 ∷ []) $ fjoin ! $
    move ! (1 ∷ 3 ∷ []) $ join ! $ move ! (2 ∷ 0 ∷ []) $ join ! $ join ! $
    nothing ! $ move ! (1 ∷ 0 ∷ []) $ use2 𝓛 (raw (G.pre z)) (id⊢ 𝓤 _) $
    enter ! _ _ _ _ _ $ alloc_all ! (λ ls. pass_all ! refl ((tt, tt), ((tt, tt), ((tt, record { fits = are.1.1.0.1 }), ((tt, (tt, (record { fits = are.1.1.1.0.0.1.0 }, tt))), ((tt, tt), ((tt, tt), tt)))))) $
    sets ! (addr ! (through ! refl (stop !))) refl (tt, tt) $
    sets ! (of_opd ! (get ! refl)) refl (tt, tt) $ sets ! (addr ! (through ! refl (stop !))) refl (tt, tt) $
    sets ! (addr ! (from ! (fld ! refl (hop ! (look_in_at ! 4 (sub ! 0 refl (whole !))) (stop !))))) refl (tt, tt) $ sets ! (agg ! (and_then ! (get ! refl) (and_then ! (get_in ! (fld ! refl (stop !)) (sub ! 1 refl (whole !))) (no_more !)))) refl (tt, (tt, (record { fits = are.1.1.1.0.0.1.0 }, tt))) $
    sets ! (addr ! (through ! refl (stop !))) refl (tt, tt) $
    sets ! (addr ! (through ! refl (stop !))) refl (tt, tt) $
    calls_at ! (framed 𝓤 𝓛.H 𝓜 𝓣) G (met 𝓤 𝓛 𝓜 𝓡 (code.calls-libgist::map_feed_exports::advance_over_map 𝓡.env wired)) z (and_then ! (get ! refl) (and_then ! (get ! refl) (and_then ! (get ! refl) (and_then ! (get ! refl) (and_then ! (get ! refl) (and_then ! (get ! refl) (no_more !))))))) (λ v.
    use1 𝓛 (later (some (λ (r : ℕ). ((‵ (flft κs.0 qs.0) ⊛ (‵ (lasts loan) ⊛ raw A)) ⊛ ‵ (u32.own_val r (v ∷ []))) ⊛ raw ((gc z.0.0 z.0.3).ensures tt r)))) (id⊢ 𝓤 _) $ await ! tt $ pick ! (λ r.
    split ! $ split ! $ move ! (1 ∷ []) $ peeks ! u32 (Is u32) (shows 𝓛 u32) r (v ∷ []) (λ is. lands_as ! refl refl ((uint_Lawful 𝓛 w32).typed r _ is).0 $
    returns ! (look_at ! 0 refl) $ free_all ! refl $
    move ! (1 ∷ []) $ split ! $ move ! (1 ∷ []) $ split ! $ move ! (2 ∷ 1 ∷ []) $ join ! $ move ! (1 ∷ 3 ∷ []) $
    use2 𝓛 (raw ((fc κs a).ensures loan r)) (comes_back 𝓤 (λ (ws : Lasts g.ended z.0.0 z.0.3). sem 𝓛 (said_of g.ended z.0.0 z.0.3 ws)) (λ (ws : Lasts g.ended z.0.0 z.0.3). (g.clauses 𝓛 𝓜.mem 𝓡.returns z.0.0 z.0.3).ensures tt r (at_exit g.ended z.0.0 z.0.3 ws)) (sem 𝓛 (lasts loan))) $ move ! (1 ∷ 2 ∷ []) $ join ! $
    suffices ! _ (ends 𝓛 f.signature fc (y (block_ptr b o)) _ r) $ done !))))))
