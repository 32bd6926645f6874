-- A hand-written walk that turns the handles at raw pointers into references, for as long as they are lent, and
-- passes everything else on to a function of this crate.
-- Exports that read a handle are proved by such a walk. What these proofs share is stated here once.
pub use Rattle.std.proofs.Common.{ℕ, List, [], ◌∷◌, refl, w32, w64, Bor}
pub use mir.Syntax.{named}
pub use mir.Val.{Val, vptr}
pub use base.Logic.{SProp, id⊢}
pub use base.Fml.{ftrue, fsep, flft}
pub use prog.Wp.{WpFn}
pub use types.Logic.{sem}
pub use contract.Running.{tables}
pub use types.Kit.{‵, raw, prop, ◌⊛◌, some, later, ◌$◌, ◌∵◌, !, qed, move, drop, use1, use2, split, join, pick, fsplit, fjoin, regoal, suffices, await, done}
pub use types.Part.{whole, sub, agg}
pub use types.Run.{and_then, no_more, returns, enter, addr, of_opd, fld, hop, from, stop}
pub use types.ByLocal.{alloc_all, pass_all, free_all, look_at, look_in_at, get, get_in, through, sets, lands_as}
pub use denote.Laws.{Is, shows}
pub use denote.Plain.{uint_vals, uint_Tells, uint_Lawful}
pub use denote.Builtin.{u32}
pub use denote.RattleType.{flat, owns}
pub use denote.RawPtr.{Ptr, block_ptr, rawptr_vals, rawptr_Tells}
pub use denote.Ref.{mut_vals, mut_Tells, shr_vals, shr_Tells}
pub use denote.Slice.{mut_slice_vals, mut_slice_Tells, shr_slice_vals, shr_slice_Tells}
pub use denote.Signature.{type_at, types_at}
pub use denote.Steps.{nothing, peeks}
pub use denote.Triple.Call.{calls_at}
pub use denote.Triple.Clauses.{Lasts, lasts as said_of, at_exit}
pub use denote.Triple.Entry.{alive}
pub use contract.Lifetimes.{toks}
pub use denote.Triple.Spec.{triple_of}
pub use denote.Triple.Table.{framed}
pub use Rattle.libgist.specs.Loans.{is_lent, are_lent, lasts, both_last}
use seplogic.Ra.Ura.{Ura}
use mir.Syntax.{Fn, Callee}
use base.Logic.{ent, sep, wand, ex, via, comm∗, assoc∗, mono_l, mono_r, apply∗, wand_i, ex_i, ex∗, never, fst∗}
use base.Fml.{feq}
use mathlib.Core.Path.{◌≡◌}
use prog.Wp.{Closed}
use prog.Model.{Model}
use types.Kit.{Goal, Item, Seq, feq_i}
use types.Logic.{Logic}
use contract.Lifetimes.{Lfts, Shares, AllOutlive}
use contract.Running.{Running, MachineTables}
use denote.Laws.{Spells, Tellss, Ises, Are, valss}
use denote.Memory.{shared_of, hidden_shr}
use denote.Opens.{hide}
use denote.RawPtr.{null_ptr, block_of, count_of, in_a_block}
use denote.Signature.{Signature}
use denote.Steps.{said}
use denote.Struct.Lending.{lent_at}
use denote.Triple.Entry.{Args, Vals, Res, on_entry}
use denote.Triple.Spec.{Spec, Meets}
use denote.Triple.Table.{entered}
use Rattle.libgist.specs.Loans.{Loan}
use Rattle.libgist.specs.contracts.lent.Lent.{the_row}

module _ {M : Type 1} {𝓤 : Ura M} (𝓛 : Logic 𝓤) (S : Signature) (c : Spec 𝓤 S) where
  open 𝓛 use {H}

  -- the tokens, the result and the `ensures` are what a function leaves
  pub ends : (y : (triple_of 𝓛 S c).Ghost) (v : Val) (r : Res S y.0.0)
      → ent 𝓤 (sep 𝓤 (sep 𝓤 (alive 𝓛 S y.0.0 y.0.1) (sem 𝓛 ((type_at S.result y.0.0).own_val r (v ∷ [])))) ((c y.0.0 y.0.3).ensures y.1 r)) ((triple_of 𝓛 S c).post y v)
  ends y v r =
      let P : Res S y.0.0 → SProp 𝓤 = λ r'. sep 𝓤 (sep 𝓤 (alive 𝓛 S y.0.0 y.0.1) (sem 𝓛 ((type_at S.result y.0.0).own_val r' (v ∷ [])))) ((c y.0.0 y.0.3).ensures y.1 r') in
      via 𝓤 (ex 𝓤 P) (ex_i 𝓤 P r) (𝓛.laws.⇛_intro _)

  -- a function meets its contract by a walk with its parameters' machine values written out
  module _ (𝓜 : Model 𝓤 H) (𝓡 : Running 𝓤 H 𝓜) where
    abbrev 𝓣 : MachineTables 𝓤 H 𝓜
    𝓣 = tables 𝓤 H 𝓜 𝓡 𝓡.env

    pub walked : (k : Callee) (e : Fn) → Closed 𝓤 H 𝓣.C 𝓣.Λ k e
        → (sp : (κs : Lfts S.lifetimes) → Spells (types_at S.params κs)) → ((κs : Lfts S.lifetimes) → Tellss (types_at S.params κs) (Ises (types_at S.params κs)) (sp κs))
        → ((κs : Lfts S.lifetimes) (qs : Shares S.lifetimes) (bounds : AllOutlive S.lifetimes S.outlives κs) (a : Args S κs) (g : (c κs a).ghost)
        → Are (types_at S.params κs) (Ises (types_at S.params κs)) a (valss (types_at S.params κs) (sp κs) a)
        → ent 𝓤 (sep 𝓤 (on_entry 𝓛 S κs qs a (valss (types_at S.params κs) (sp κs) a)) ((c κs a).requires g))
        (WpFn 𝓤 H 𝓣.C 𝓣.Λ e (flat (types_at S.params κs) (valss (types_at S.params κs) (sp κs) a)) ((triple_of 𝓛 S c).post ((κs, qs, bounds, a, valss (types_at S.params κs) (sp κs) a), g))))
        → Meets 𝓛 S (𝓣.C k) c
    walked k e closed sp tl walk = entered 𝓤 H (triple_of 𝓛 S c) 𝓣.C 𝓣.Λ k e closed (λ y.
        let κs = y.0.0 in let a = y.0.3 in
        let R : SProp 𝓤 = (c κs a).requires y.1 in
        let Q : Vals S κs → SProp 𝓤 = λ us. WpFn 𝓤 H 𝓣.C 𝓣.Λ e (flat (types_at S.params κs) us) ((triple_of 𝓛 S c).post ((κs, y.0.1, y.0.2, a, us), y.1)) in
        via 𝓤 (sep 𝓤 R (wand 𝓤 R (Q y.0.4)))
        (via 𝓤 (sep 𝓤 (wand 𝓤 R (Q y.0.4)) R)
        (mono_l 𝓤 R (said 𝓛 S κs y.0.1 (sp κs) (tl κs) a (λ us. wand 𝓤 R (Q us)) y.0.4 (λ are. wand_i 𝓤 _ R _ (walk κs y.0.1 y.0.2 a y.1 are))))
        (comm∗ 𝓤 (wand 𝓤 R (Q y.0.4)) R))
        (apply∗ 𝓤 R (Q y.0.4)))

-- what was lent for a call comes back, together with what the call ensures
pub comes_back : {M : Type 1} (𝓤 : Ura M) {X : Type 0} (L P : X → SProp 𝓤) (T : SProp 𝓤)
    → ent 𝓤 (sep 𝓤 T (ex 𝓤 (λ (x : X). sep 𝓤 (L x) (P x)))) (ex 𝓤 (λ (x : X). sep 𝓤 (L x) (sep 𝓤 T (P x))))
comes_back 𝓤 {X} L P T =
    via 𝓤 (sep 𝓤 (ex 𝓤 (λ (x : X). sep 𝓤 (L x) (P x))) T) (comm∗ 𝓤 T (ex 𝓤 (λ (x : X). sep 𝓤 (L x) (P x))))
    (ex∗ 𝓤 (λ (x : X). sep 𝓤 (L x) (P x)) T (λ x.
    via 𝓤 (sep 𝓤 (L x) (sep 𝓤 T (P x)))
    (via 𝓤 (sep 𝓤 (L x) (sep 𝓤 (P x) T)) (assoc∗ 𝓤 (L x) (P x) T) (mono_r 𝓤 (L x) (comm∗ 𝓤 (P x) T)))
    (ex_i 𝓤 (λ (x' : X). sep 𝓤 (L x') (sep 𝓤 T (P x'))) x)))

-- a lent handle is in a block, and is available there as a reference, with a share of the loan's lifetime
abbrev pub lent_ref : ℕ → ℕ → Loan → Bor (the_row).Denot
lent_ref b o loan = record { ref_ptr = (b, o); now = loan.handle }

module _ {M : Type 1} {𝓤 : Ura M} {𝓛 : Logic 𝓤} {K : Type 0} {Γ : List (Item 𝓤)} {G : Goal 𝓤 𝓛.H} where
  pub takes_lent : K → (p : Ptr) (loan : Loan)
      → ((b o : ℕ) → p ≡ block_ptr b o → Seq K 𝓛 (‵ (fsep (feq (List Val) (vptr b o ∷ []) (vptr b o ∷ [])) (hidden_shr the_row loan.until loan.handle b o)) ∷ ‵ (lasts loan) ∷ Γ) G)
      → Seq K 𝓛 (‵ (is_lent p loan) ∷ Γ) G
  takes_lent t p loan k = fsplit t $ move t (1 ∷ []) $
      in_a_block t p (λ p'. lent_at the_row p' loan.handle loan.until) (fst∗ 𝓤 (never 𝓤) (sem 𝓛 (shared_of the_row loan.handle (block_of null_ptr) (count_of null_ptr) loan.until))) (λ b o e.
      fsplit t $ drop t $ hide t $ feq_i t (List Val) (vptr b o ∷ []) (vptr b o ∷ []) refl $ fjoin t $ k b o e)
