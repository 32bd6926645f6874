-- `held` follows the pointer to what the handle owns, which the loan allows it to read.
use Rattle.std.proofs.Common.{ℕ, ◌+◌, List, [], ◌∷◌, refl, sym}
use Rattle.std.specs.Global.{Global}
use Rattle.std.specs.Prelude.{◌≢◌, Option, Some, None}
use seplogic.Ra.Ura.{Ura}
use mir.Syntax.{named, ty_ptr}
use mir.Val.{Val, vptr}
use base.Logic.{ent, fst∗, never}
use base.Fml.{ftrue, fat, flft, fsep, feq}
use prog.Wp.{WpFn}
use types.Logic.{Logic, sem}
use contract.Monad.{fact}
use contract.Running.{Running, MachineTables, tables}
use contract.Lifetimes.{Lfts, Shares}
use prog.Model.{Model}
use types.Kit.{‵, raw, at_ret, ◌⊛◌, ◌$◌, ◌∵◌, !, qed, move, keep, drop, split, join, fsplit, fjoin, feq_i, rewrite, suffices, frame, done}
use types.Run.{look, fld, load, of_opd, addr, stop, first, blocks, exec, returns, enter}
use types.ByLocal.{alloc_all, pass_all, free_all, look_at, get, through, sets, sets_last, env}
use denote.Memory.{shared_of, hidden_shr}
use denote.Opens.{hide, unhide}
use denote.RawPtr.{Ptr, ptr_val, in_a_block}
use denote.Ref.{shr_vals, shr_Tells}
use denote.Steps.{nothing, heard}
use denote.Struct.Lending.{lent_at}
use denote.Triple.Entry.{on_entry}
use denote.Triple.Walked.{says, Stays, stay_dropped, walk_of, ends_at, Goes-dropped}
use denote.Exit.{yes}
use denote.Builtin.{RefOf}
use denote.Signature.{plain}
use Rattle.std.proofs.raw_atomic.Walks.{proved}
use denote.Triple.Statement.{Contract}
use Rattle.libgist.proofs.Pointers.{pointer_seen, pointer_left}
use Rattle.libgist.specs.Owning.{HeldState}
use Rattle.libgist.specs.contracts.held.Held as held
use Rattle.libgist.specs.contracts.lent.LentInside.{the_row as R}
use Rattle.libgist.specs.contracts.lent.LentInside.held as f
use Rattle.libgist.proofs.lent.LentInside.held.Statement.{statement}
use Rattle.libgist.proofs.lent.LentInside.held.Code as code

abbrev stayed : Stays f.ended.signature.params f.ended.kept
stayed = (stay_dropped (RefOf (0 ∷ []) tt (plain (λ _. R)) (λ _. tt)) yes, tt)

module _ {M : Type 1} {𝓤 : Ura M} (𝓛 : Logic 𝓤) (𝓜 : Model 𝓤 𝓛.H) (𝓡 : Running 𝓤 𝓛.H 𝓜) (κs : Lfts 1) (qs : Shares 1) (b o : ℕ) where
  abbrev 𝓣 : MachineTables 𝓤 𝓛.H 𝓜
  𝓣 = tables 𝓤 𝓛.H 𝓜 𝓡 𝓡.env

  abbrev F : Contract 𝓤
  F = walk_of 𝓛 f.ended stayed (f.clauses 𝓛 𝓜.mem 𝓡.returns)

  abbrev bound : Ptr → Global → Option HeldState → F.Ghost
  bound at alloc state = ((κs, qs, tt, (record { ref_ptr = (b, o); now = record { at = at; alloc = alloc; state = state } }, tt), (vptr b o ∷ [], tt)), tt)

  walk : (at : Ptr) (alloc : Global) (state : Option HeldState) → ent 𝓤 (F.pre (bound at alloc state)) (WpFn 𝓤 𝓛.H 𝓣.C 𝓣.Λ code.function (vptr b o ∷ []) (F.post (bound at alloc state)))
  walk at alloc None =
      qed 𝓛 (raw (on_entry 𝓛 f.signature κs qs (bound at alloc None).0.3 (bound at alloc None).0.4) ∷ raw (fact 𝓤 ((bound at alloc None).0.3.0.now.state ≢ None)) ∷ []) ∵ move ! (1 ∷ []) $ heard ! _ (λ no. absurd (no refl))
  walk at alloc (Some x) =
      let d : R.Denot = record { at = at; alloc = alloc; state = Some x } in
      qed 𝓛 (((‵ (flft κs.0 qs.0) ⊛ ‵ ftrue) ⊛ ‵ (fsep (fsep (feq (List Val) (vptr b o ∷ []) (vptr b o ∷ [])) (hidden_shr R κs.0 d b o)) ftrue)) ∷ raw (fact 𝓤 (Some x ≢ None)) ∷ []) ∵
      split ! $ split ! $ move ! (2 ∷ []) $ fsplit ! $ fsplit ! $ drop ! $ unhide ! $ fsplit ! $ fsplit ! $ fsplit ! $ hide ! $ move ! (3 ∷ []) $
      in_a_block ! at (λ p. lent_at held.the_row p x κs.0) (fst∗ 𝓤 (never 𝓤) (sem 𝓛 (shared_of held.the_row x 0 0 κs.0))) (λ b' o' e. fsplit ! $ drop ! $ hide ! $
      enter ! _ _ _ _ _ $ alloc_all ! (λ ls. pass_all ! refl ((tt, tt), tt) $
      -- [what is lent; the pointer; ..; the token]
      move ! (1 ∷ 5 ∷ []) $ pointer_seen ! tt at b (o + 0) (λ part. rewrite ! 0 (λ (p : Ptr). ‵ (fat part ty_ptr b (o + 0) (ptr_val p))) e refl $
      first ! $ blocks ! $ sets ! (of_opd ! (load ! (through ! refl (fld ! refl (stop !))) (look ! 0 refl))) refl (tt, tt) $ sets ! (of_opd ! (get ! refl)) refl (tt, tt) $
      sets_last ! (addr ! (through ! refl (stop !))) refl (tt, tt) $
      exec ! 𝓣.C 𝓣.Λ (env code.Mir.locals ls) code.Mir.t-2 (at_ret _ (F.post (bound at alloc (Some x)))) $ sets ! (of_opd ! (get ! refl)) refl (tt, tt) $
      rewrite ! 0 (λ (p : Ptr). ‵ (fat part ty_ptr b (o + 0) (ptr_val p))) (sym e) refl $
      move ! (2 ∷ []) $ feq_i ! (List Val) (vptr b' o' ∷ []) (vptr b' o' ∷ []) refl $ fjoin ! $ move ! (1 ∷ 2 ∷ []) $ pointer_left ! tt at b (o + 0) $
      returns ! (look_at ! 0 refl) $ free_all ! refl $ keep ! (0 ∷ 1 ∷ []) $
      suffices ! _ (ends_at 𝓛 f.ended stayed (f.clauses 𝓛 𝓜.mem 𝓡.returns) (bound at alloc (Some x)) (vptr b' o') (record { ref_ptr = (b', o'); now = x }) (tt, tt) (tt, tt)) $ says ! refl $
      nothing ! $ move ! (1 ∷ 0 ∷ []) $ join ! $ frame ! $ nothing ! $ nothing ! $ fjoin ! $ done !)))

pub held_spec : {M : Type 1} → statement M
held_spec 𝓤 𝓛 𝓜 𝓡 wired =
    proved 𝓛 f.ended stayed (f.clauses 𝓛 𝓜.mem 𝓡.returns) 𝓜 𝓡 (Goes-dropped 𝓛 1 (RefOf (0 ∷ []) tt (plain (λ _. R)) (λ _. tt)) yes (λ κs x w. refl), tt)
    f.Key.name code.function (code.unfolded 𝓤 𝓛.H 𝓜 𝓡 wired)
    (λ κs. (shr_vals, tt)) (λ κs. (shr_Tells (named 0) κs.0 R, tt)) (λ κs qs bounds a _ are. walk 𝓛 𝓜 𝓡 κs qs a.0.ref_ptr.0 a.0.ref_ptr.1 a.0.now.at a.0.now.alloc a.0.now.state)
