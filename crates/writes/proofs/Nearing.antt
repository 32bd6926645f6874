-- Where an event leads that comes next on a way.
use Rattle.std.proofs.Common.{◌≡◌, ◌<◌, ℕ, Bool, length, sym, ap, arith, subst}
use Rattle.key_class.specs.Rules.{Rules}
use Rattle.descent.proofs.Widening.{enlarged_length}
use Rattle.world.specs.declared.event.Event.{Event}
use Rattle.world.specs.declared.event.Event.TheVariants as event
use Rattle.world.specs.States.{State, IsSoundWorld}
use Rattle.writes.specs.PageSteps.{Moves}
use Rattle.writes.specs.InsertVisits.{LeadsOn}

at_root : {K A : Type 0} (is_cover : K → K → Bool) (s : State K A) (next : ℕ) → next ≡ 0 → IsSoundWorld is_cover s → next < length s.search.tree.pages
at_root is_cover s next is sound = subst (λ n. n < length s.search.tree.pages) (sym is) sound.tree.sound.root_exists

module _ {K A : Type 0} (rules : Rules K A) (old new : State K A) (here : ℕ) (key : K) where
  -- the way goes on at a page that there is
  pub leads_there : (e : Event K A) (next : ℕ) → LeadsOn rules old.search here key e next → Moves rules.union_of old e new → IsSoundWorld rules.is_cover new → next < length new.search.tree.pages
  leads_there (event.Grow sides) next leads moved sound = at_root rules.is_cover new next leads.0 sound
  leads_there (event.Post parent child) next leads moved sound = at_root rules.is_cover new next leads.0 sound
  leads_there (event.Enlarge parent child k) next (is, same, step) moved sound =
      omega (arith, is, step.2.exists, enlarged_length rules.union_of k old.search.tree parent child, ap (λ (s : State K A). length s.search.tree.pages) moved)
  leads_there e next leads moved sound = absurd leads
