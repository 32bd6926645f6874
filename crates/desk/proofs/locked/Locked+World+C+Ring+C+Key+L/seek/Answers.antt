use Rattle.std.proofs.Common.{◌≡◌, refl, sym, ap, subst, [], ◌∷◌, ◌++◌, ◌∙◌, rules}
use mathlib.Core.List.{IsPrefix}
use Rattle.change_list.specs.declared.write.Write.TheVariants.{Delete}
use Rattle.history.proofs.Pasts.{prefix_self, prefix_trans}
use Rattle.desk.specs.Visits.{IsHeld}
use Rattle.desk.proofs.Committing.{committed, counted}
use Rattle.desk.proofs.locked.Locked+World+C+Ring+C+Key+L.seek.Goals as goal
use Rattle.desk.proofs.locked.Locked+World+C+Ring+C+Key+L.seek.Goals.{in-On, in-Lost, in-Ended}

pub invariant_of-self-2 : goal.invariant_of-self-2
invariant_of-self-2 g c =
    let held : IsHeld g.C.KeyClass.rules c.seek_row.new.world = record { sound = c.seek_row.ensures.sound; mailboxes = c.seek_row.ensures.mailboxes refl c.self.invariant.2.mailboxes } in
    elim c.match-search.branch [
      | in-On w ↦
          let did = rw w.in-On.is at c.in-Ok.ensures.seeks in rw w.self-inside-is (search rules, c.self.invariant.1, held)
      | in-Lost w ↦
          let did = rw w.in-Lost.is at c.in-Ok.ensures.seeks in rw w.self-inside-is (search rules, c.self.invariant.1, held)
      | in-Ended w ↦
          let did = rw w.in-Ended.is at c.in-Ok.ensures.seeks in
          let write = Delete c.args.row in
          let grown : c.seek_row.new.world.commits ≡ c.self.inside.world.commits ++ write ∷ [] = did.1.commits in
          rw w.self-inside-is (
            grown ∙ (ap (λ l. l ++ write ∷ []) c.self.invariant.0 ∙ sym w.tell.ensures.added),
            counted write _ _ _ _ _ w.tell.ensures.added c.self.invariant.1 w.add.ensures.total w.audit.ensures.total,
            held,
          )
    ]

pub returns-clause-seeks : goal.returns-clause-seeks
returns-clause-seeks g c =
    elim c.match-search.branch [
      | in-On w ↦ rw (w.result-is, w.self-inside-is, ← c.self.view_is) (rw w.in-On.is at c.in-Ok.ensures.seeks)
      | in-Lost w ↦ rw (w.result-is, w.self-inside-is, ← c.self.view_is) (rw w.in-Lost.is at c.in-Ok.ensures.seeks)
      | in-Ended w ↦ rw (w.result-is, w.self-inside-is, ← c.self.view_is) (rw w.in-Ended.is at c.in-Ok.ensures.seeks)
    ]

pub returns-clause-held : goal.returns-clause-held
returns-clause-held g c =
    let held : IsHeld g.C.KeyClass.rules c.seek_row.new.world = record { sound = c.seek_row.ensures.sound; mailboxes = c.seek_row.ensures.mailboxes refl c.self.invariant.2.mailboxes } in (
      rw (← c.self.view_is) c.self.invariant.2,
      elim c.match-search.branch [
        | in-On w ↦ rw w.self-inside-is held
        | in-Lost w ↦ rw w.self-inside-is held
        | in-Ended w ↦ rw w.self-inside-is held
      ],
    )

pub returns-clause-seen : goal.returns-clause-seen
returns-clause-seen g c =
    elim c.match-search.branch [
      | in-On w ↦ rw w.told-is (prefix_self c.args.told.now)
      | in-Lost w ↦ rw w.told-is (prefix_self c.args.told.now)
      | in-Ended w ↦ rw w.told-is (prefix_trans c.args.told.now c.self.inside.history w.tell.new.past w.tell.ensures.seen ((Delete c.args.row) ∷ [], sym (w.tell.ensures.whole ∙ w.tell.ensures.added)))
    ]

pub returns-clause-committed : goal.returns-clause-committed
returns-clause-committed g c =
    let held : IsHeld g.C.KeyClass.rules c.seek_row.new.world = record { sound = c.seek_row.ensures.sound; mailboxes = c.seek_row.ensures.mailboxes refl c.self.invariant.2.mailboxes } in
    elim c.match-search.branch [
      | in-On w ↦ rw (w.result-is, w.told-is) refl
      | in-Lost w ↦ rw (w.result-is, w.told-is) refl
      | in-Ended w ↦
          let did = rw w.in-Ended.is at c.in-Ok.ensures.seeks in
          let write = Delete c.args.row in
          let grown : c.seek_row.new.world.commits ≡ c.self.inside.world.commits ++ write ∷ [] = did.1.commits in
          let begins : IsPrefix c.args.told.now c.self.inside.world.commits = subst (λ l. IsPrefix c.args.told.now l) (sym c.self.invariant.0) w.tell.ensures.seen in
          rw (w.result-is, w.told-is)
          (committed g.C.KeyClass.rules _ _ c.args.seat write w.in-Ended.stamp _ _
          c.self.invariant.2 held grown did.1.stamped
          begins (grown ∙ (ap (λ l. l ++ write ∷ []) c.self.invariant.0 ∙ sym (w.tell.ensures.whole ∙ w.tell.ensures.added))))
    ]
