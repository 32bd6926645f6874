-- Every change of an event leaves open finders finders.
use Rattle.std.proofs.Common.{◌≡◌, ◌+◌, ◌<◌, ℕ, List, [], ◌∷◌, ◌++◌, length, arith, subst, length-append}
use Rattle.change_list.specs.declared.write.Write.{Write}
use Rattle.page_table.specs.Trees.{Tree}
use Rattle.descent.specs.Finders.{OpenFinder, IsSeeking}
use Rattle.world.specs.Serials.{put, without, Rise}
use Rattle.world.specs.States.{HasFinders}
use Rattle.world.proofs.Serials.{rise_push, rise_put, rise_without, all_put, all_push, all_without, length_put, length_without}

module _ {K : Type 0} (t : Tree K) (commits : List (Write K)) (ks : List (OpenFinder K)) (last : ℕ) (h : HasFinders t commits ks last) where
  -- where the tree or the commits have changed and each finder is one still
  pub finders_kept : (t' : Tree K) (later : List (Write K)) → ((k : OpenFinder K) → IsSeeking t commits k → IsSeeking t' later k) → HasFinders t' later ks last
  finders_kept t' later each = record {
    seeking = λ i d l. each _ (h.seeking i d l);
    serials = h.serials;
    few = h.few;
    last_serial = h.last_serial;
  }

  -- one finder more
  pub finders_push : (k : OpenFinder K) → k.serial ≡ last + 1 → IsSeeking t commits k → length ks < 64 → last < 4294967295 → HasFinders t commits (ks ++ k ∷ []) (last + 1)
  finders_push k e seeking few given = record {
    seeking = all_push (λ x. x.serial) (λ k. IsSeeking t commits k) k ks seeking h.seeking;
    serials = subst (λ n. Rise (λ x. x.serial) 0 n (ks ++ k ∷ [])) e (rise_push (λ x. x.serial) 0 last ks k (omega (arith, e)) h.serials);
    few = omega (arith, few, length-append ks (k ∷ []));
    last_serial = omega (arith, given);
  }

  -- a finder written back
  pub finders_put : (k : OpenFinder K) → IsSeeking t commits k → HasFinders t commits (put (λ x. x.serial) k ks) last
  finders_put k seeking = record {
    seeking = all_put (λ x. x.serial) (λ k. IsSeeking t commits k) k ks seeking h.seeking;
    serials = rise_put (λ x. x.serial) k 0 last ks h.serials;
    few = omega (arith, h.few, length_put (λ (x : OpenFinder K). x.serial) k ks);
    last_serial = h.last_serial;
  }

  -- a finder less
  pub finders_without : (f : ℕ) → HasFinders t commits (without (λ x. x.serial) f ks) last
  finders_without f = record {
    seeking = all_without (λ x. x.serial) (λ k. IsSeeking t commits k) f ks h.seeking;
    serials = rise_without (λ x. x.serial) f 0 last ks h.serials;
    few = omega (arith, h.few, length_without (λ (x : OpenFinder K). x.serial) f ks);
    last_serial = h.last_serial;
  }
