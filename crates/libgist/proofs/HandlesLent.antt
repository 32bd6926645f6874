-- Owning a handle in memory is the same as owning what a lent handle has there, with the right to free what it points
-- to.
use base.Fraction.{full_share}
use base.Fml.{Lft, GName, Share, Fml, Incl-refl, ftrue, fsep, fobs, fauth, fbor, flft, fdead, fseps, fwand, fupd}
use base.Logic.{ent, sep, emp, wand, upd, upd_i, emp∗, id⊢, snd∗}
use seplogic.Ra.Ura.{Ura}
use mathlib.Core.List.{List, [], ◌∷◌}
use Prim.Native.Nat.{ℕ}
use mir.Raw.{raw as bare}
use mir.Val.{Val}
use types.Logic.{Logic, sem}
use types.Mut.{open_ref}
use types.SemTy.{Body}
use types.Tokens.{obor_alter}
use types.Kit.{‵, later, ◌⊛◌, ◌$◌, ◌∵◌, !, qed, by, move, keep, drop, assume, await, updating, now, use1, use2, split, fsplit, fjoin, fpick, fpack, done}
use denote.Memory.{lone, part_of, part_at, cell_raw, raw_all, mem, shared_of, hidden_shr}
use contract.BorrowLft.{⊑_static}
use denote.Opens.{hide}
use denote.Steps.{nothing}
use Rattle.libgist.proofs.lent.Lent.TheLaws as loan_laws
use denote.RattleType.{Valss}
use denote.Struct.Declared as declared
use denote.Struct.Struct.{within}
use denote.RawPtr.{Ptr}
use Rattle.std.specs.Prelude.{Option, Some, None}
use Rattle.std.specs.Global.{Global}
use Rattle.std.specs.contracts.impls.GlobalAllocator.TheImpl.{ghosts}
use Rattle.libgist.specs.Owning.{HeldState, owned, lent}
use Rattle.libgist.specs.contracts.held.Held as held
use Rattle.libgist.specs.contracts.handle.Handle as handle
use Rattle.libgist.specs.contracts.lent.Lent as loan

-- the right to free it
abbrev pub frees : Global → Ptr → Option HeldState → Fml
frees alloc at None = ftrue
frees alloc at (Some state) = ghosts.dealloc_token alloc (bare (lone (held.the_row).mir)) at

abbrev pub twin : (handle.the_row).Denot → (loan.the_row).Denot
twin h = record { is_open = h.is_open; inside = record { at = h.inside.at; alloc = h.inside.alloc; state = h.inside.state }; sound = h.sound }

module _ {M : Type 1} {𝓤 : Ura M} (𝓛 : Logic 𝓤) where
  cut : (alloc : Global) (at : Ptr) (state : Option HeldState) → ent 𝓤 (sem 𝓛 (owned alloc at state)) (sep 𝓤 (sem 𝓛 (lent at state)) (sem 𝓛 (frees alloc at state)))
  cut alloc at None = emp∗ 𝓤 (emp 𝓤)
  cut alloc at (Some state) = id⊢ 𝓤 (sem 𝓛 (owned alloc at (Some state)))

  glue : (alloc : Global) (at : Ptr) (state : Option HeldState) → ent 𝓤 (sep 𝓤 (sem 𝓛 (lent at state)) (sem 𝓛 (frees alloc at state))) (sem 𝓛 (owned alloc at state))
  glue alloc at None = snd∗ 𝓤 (emp 𝓤) (emp 𝓤)
  glue alloc at (Some state) = id⊢ 𝓤 (sem 𝓛 (owned alloc at (Some state)))

  module _ (h : (handle.the_row).Denot) (b o : ℕ) where
    abbrev Frees : Fml
    Frees = frees h.inside.alloc h.inside.at h.inside.state

    pub lends_out : ent 𝓤 (sem 𝓛 (part_at handle.the_row full_share h b o)) (sep 𝓤 (sem 𝓛 (part_at loan.the_row full_share (twin h) b o)) (sem 𝓛 Frees))
    unfolding part_of
    lends_out = qed 𝓛 (‵ (part_at handle.the_row full_share h b o) ∷ []) ∵ fpick ! (λ vs. fsplit ! $ move ! (1 ∷ []) $ fpick ! (λ vss. fsplit ! $ move ! (1 ∷ []) $
        fsplit ! $ move ! (1 ∷ []) $ fsplit ! $ fsplit ! $ move ! (1 ∷ []) $ use1 𝓛 (‵ (lent h.inside.at h.inside.state) ⊛ ‵ Frees) (cut h.inside.alloc h.inside.at h.inside.state) $ split ! $
        move ! (2 ∷ 0 ∷ []) $ fjoin ! $ move ! (0 ∷ 2 ∷ []) $ fjoin ! $ move ! (2 ∷ 0 ∷ []) $ fjoin ! $ move ! (2 ∷ 0 ∷ []) $ fjoin ! $
        fpack ! (Valss (declared.shape loan.the_type).fields) (within (declared.shape loan.the_type) (h.is_open, ((twin h).inside, tt)) vs) vss $
        move ! (2 ∷ 0 ∷ []) $ fjoin ! $ fpack ! (List Val) (λ us. fsep (cell_raw full_share (raw_all (loan.the_row).mir) us b o) ((loan.the_row).own_val (twin h) us)) vs $ done !))

    pub lends_back : ent 𝓤 (sep 𝓤 (sem 𝓛 (part_at loan.the_row full_share (twin h) b o)) (sem 𝓛 Frees)) (sem 𝓛 (part_at handle.the_row full_share h b o))
    unfolding part_of
    lends_back = qed 𝓛 (‵ (part_at loan.the_row full_share (twin h) b o) ∷ ‵ Frees ∷ []) ∵ fpick ! (λ vs. fsplit ! $ move ! (1 ∷ []) $ fpick ! (λ vss. fsplit ! $ move ! (1 ∷ []) $
        fsplit ! $ move ! (1 ∷ []) $ fsplit ! $ fsplit ! $ move ! (1 ∷ 6 ∷ []) $ use2 𝓛 (‵ (owned h.inside.alloc h.inside.at h.inside.state)) (glue h.inside.alloc h.inside.at h.inside.state) $
        move ! (1 ∷ 0 ∷ []) $ fjoin ! $ fjoin ! $ move ! (1 ∷ 0 ∷ []) $ fjoin ! $ move ! (1 ∷ 0 ∷ []) $ fjoin ! $
        fpack ! (Valss (declared.shape handle.the_type).fields) (within (declared.shape handle.the_type) (h.is_open, (h.inside, tt)) vs) vss $
        move ! (1 ∷ 0 ∷ []) $ fjoin ! $ fpack ! (List Val) (λ us. fsep (cell_raw full_share (raw_all (handle.the_row).mir) us b o) ((handle.the_row).own_val h us)) vs $ done !))

    module _ (κ : Lft) (q : Share) (γ : GName) where
      abbrev Lying : Fml
      Lying = part_at loan.the_row full_share (twin h) b o

      abbrev Lender : Fml
      Lender = Body (mem handle.the_row) b o γ

      way_back : ent 𝓤 (sep 𝓤 (sem 𝓛 Frees) (sem 𝓛 (fauth γ ((handle.the_row).coded.code h)))) (sem 𝓛 (fwand (fsep (fdead κ) (fseps (Lying ∷ []))) (fupd Lender)))
      unfolding fseps
      way_back = qed 𝓛 (‵ Frees ∷ ‵ (fauth γ ((handle.the_row).coded.code h)) ∷ []) {P = wand 𝓤 (sem 𝓛 (fsep (fdead κ) (fseps (Lying ∷ [])))) (upd 𝓤 (sem 𝓛 Lender))} (
          assume ! (‵ (fsep (fdead κ) (fseps (Lying ∷ [])))) $ fsplit ! $ drop ! $ fsplit ! $ move ! (0 ∷ 2 ∷ []) $ use2 𝓛 (‵ (part_at handle.the_row full_share h b o)) lends_back $ move ! (0 ∷ 2 ∷ []) $ fjoin ! $
          fpack ! (handle.the_row).Denot (λ y. fsep (part_at handle.the_row full_share y b o) (fauth γ ((handle.the_row).coded.code y))) h $ move ! (1 ∷ []) $ drop ! $ by ! (upd_i 𝓤 (sem 𝓛 Lender)))

      pub lends : ent 𝓤 (sep 𝓤 (sem 𝓛 (fobs γ ((handle.the_row).coded.code h))) (sep 𝓤 (sem 𝓛 (fbor κ Lender)) (sem 𝓛 (flft κ q)))) (𝓛.H.⇛ (sep 𝓤 (sem 𝓛 (hidden_shr loan.the_row κ (twin h) b o)) (sem 𝓛 (flft κ q))))
      unfolding fseps
      lends = qed 𝓛 (‵ (fobs γ ((handle.the_row).coded.code h)) ∷ ‵ (fbor κ Lender) ∷ ‵ (flft κ q) ∷ []) ∵ updating ! $ open_ref ! tt (mem handle.the_row) {b = b} {o = o} $
          use1 𝓛 (‵ Lying ⊛ ‵ Frees) lends_out $ split ! $
          -- [what lies there; the right to free; the open borrow; the value's name; what the lender has of it]
          move ! (1 ∷ 4 ∷ []) $ use2 𝓛 (‵ (fwand (fsep (fdead κ) (fseps (Lying ∷ []))) (fupd Lender))) way_back $ nothing ! $ move ! (2 ∷ 0 ∷ []) $ fjoin ! $ move ! (2 ∷ 0 ∷ 1 ∷ []) $ obor_alter ! tt (Lying ∷ []) $
          use1 𝓛 (‵ (fbor κ Lying) ⊛ ‵ ftrue) (id⊢ 𝓤 _) $ split ! $ move ! (0 ∷ 2 ∷ []) $
          use2 𝓛 (later (‵ (shared_of loan.the_row (twin h) b o κ) ⊛ ‵ (flft κ q))) ((loan_laws.the_row_laws).shares 𝓛 (twin h) κ ((κ, q) ∷ []) b o (⊑_static κ) (Incl-refl κ)) $ await ! tt $ split ! $ hide ! $ now ! $ keep ! (0 ∷ 1 ∷ []) $ done !
