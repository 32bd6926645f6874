-- What a visit of a row's finder tells.
use Rattle.std.proofs.Common.{◌≡◌, ℕ, [], ◌∷◌, ◌++◌, Option, Some, None, Ok, sym, ap, ◌∙◌, subst}
use Rattle.key_class.specs.Rules.{Rules}
use Rattle.mailbox.specs.Outlets.{Rule}
use Rattle.change_list.specs.declared.write.Write.TheVariants.{Delete, Move}
use Rattle.descent.specs.Finders.{OpenFinder}
use Rattle.writes.specs.Ending.{SeeksToEnd}
use Rattle.writes.specs.EndVisits.{EndsMet}
use Rattle.writes.specs.declared.ending.Ending.{Ending}
use Rattle.writes.specs.declared.ending.Ending.TheVariants as ending
use Rattle.world.specs.Stamps.{Stamp}
use Rattle.world.specs.States.{State, finder_at, IsFinderOf, IsNextStamp}
use Rattle.world.specs.Steps.{Buries, MovesRow, SeeksOn}

module _ {K A : Type 0} (old : State K A) (f row : ℕ) where
  -- the finder with the serial looks for one row
  its_row : IsFinderOf old f row → (other : OpenFinder K) → finder_at old f ≡ Some other → other.row ≡ row
  its_row (k, found, same) other is_open =
      let both : Some other ≡ Some k = sym is_open ∙ found in
      let is : other ≡ k = cc in
      ap (λ (x : OpenFinder K). x.row) is ∙ same

  module _ (finder : IsFinderOf old f row) (seat : ℕ) (stamp : Stamp K) (new : State K A) where
    deleted : Buries seat old f stamp new → EndsMet old seat f row ending.Delete stamp new
    deleted b =
        let is : b.finder.row ≡ row = its_row finder b.finder b.is_open in record {
          commits = ap (λ s. s.commits) b.after ∙ ap (λ r. old.commits ++ Delete r ∷ []) is;
          stamped = subst (λ r. IsNextStamp old seat (Delete r) stamp) is b.stamped;
          finders = ap (λ s. s.finders) b.after;
        }

    moved : (leaf : ℕ) (key : K) → MovesRow seat old f leaf key stamp new → EndsMet old seat f row (ending.Move leaf key) stamp new
    moved leaf key m =
        let is : m.finder.row ≡ row = its_row finder m.finder m.is_open in record {
          commits = ap (λ s. s.commits) m.after ∙ ap (λ r. old.commits ++ Move r key ∷ []) is;
          stamped = subst (λ r. IsNextStamp old seat (Move r key) stamp) is m.stamped;
          finders = ap (λ s. s.finders) m.after;
        }

module _ {K A E : Type 0} (rules : Rules K A) (rule : Rule) (old : State K A) (seat f : ℕ) where
  -- it goes on
  pub gone_on : (how : Ending K) (made : Option (Stamp K)) (new : State K A) → made ≡ None → SeeksToEnd E rules rule seat old f how (Ok made) new → SeeksOn rules rule old f new
  gone_on how made new is visits = by_ending how (subst (λ m. SeeksToEnd E rules rule seat old f how (Ok m) new) is visits)
    where
      by_ending : (how : Ending K) → SeeksToEnd E rules rule seat old f how (Ok None) new → SeeksOn rules rule old f new
      by_ending ending.Delete visit = visit.step.change
      by_ending (ending.Move leaf key) visit = visit.step.change

  -- it meets its row
  pub met_row : (row : ℕ) → IsFinderOf old f row → (how : Ending K) (made : Option (Stamp K)) (stamp : Stamp K) (new : State K A) → made ≡ Some stamp → SeeksToEnd E rules rule seat old f how (Ok made) new
      → EndsMet old seat f row how stamp new
  met_row row finder how made stamp new is visits = by_ending how (subst (λ m. SeeksToEnd E rules rule seat old f how (Ok m) new) is visits)
    where
      by_ending : (how : Ending K) → SeeksToEnd E rules rule seat old f how (Ok (Some stamp)) new → EndsMet old seat f row how stamp new
      by_ending ending.Delete visit = deleted old f row finder seat stamp new visit.step.change
      by_ending (ending.Move leaf key) visit = moved old f row finder seat stamp new leaf key visit.step.change
