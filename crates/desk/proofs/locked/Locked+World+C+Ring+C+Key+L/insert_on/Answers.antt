use Rattle.std.proofs.Common.{◌≡◌, refl, sym, ap, subst, [], ◌∷◌, ◌++◌, ◌∙◌, length, length-append, arith, rules}
use mathlib.Core.List.{IsPrefix}
use Rattle.change_list.specs.declared.write.Write.TheVariants.{Insert}
use Rattle.history.proofs.Pasts.{prefix_self, prefix_trans}
use Rattle.desk.specs.Visits.{IsHeld}
use Rattle.desk.proofs.Committing.{committed}
use Rattle.desk.proofs.locked.Locked+World+C+Ring+C+Key+L.insert_on.Goals as goal
use Rattle.desk.proofs.locked.Locked+World+C+Ring+C+Key+L.insert_on.Goals.{in-On, in-Split, in-Placed}

pub invariant_of-self-2 : goal.invariant_of-self-2
invariant_of-self-2 g c =
    let held : IsHeld g.C.KeyClass.rules c.insert_step.new.world = record { sound = c.insert_step.ensures.sound; mailboxes = c.insert_step.ensures.mailboxes refl c.self.invariant.2.mailboxes } in
    elim c.match-way.branch [
      | in-On w ↦
          let did = rw w.in-On.is at c.in-Ok.ensures.goes in rw w.self-inside-is (search rules, c.self.invariant.1, held)
      | in-Split w ↦
          let did = rw w.in-Split.is at c.in-Ok.ensures.goes in rw w.self-inside-is (search rules, c.self.invariant.1, held)
      | in-Placed w ↦
          let did = rw w.in-Placed.is at c.in-Ok.ensures.goes in
          let write = Insert c.args.key c.args.tag in
          let grown : c.insert_step.new.world.commits ≡ c.self.inside.world.commits ++ write ∷ [] = did.0 in
          rw w.self-inside-is (
            grown ∙ (ap (λ l. l ++ write ∷ []) c.self.invariant.0 ∙ sym w.tell.ensures.added),
            omega (arith, ap length w.tell.ensures.added, length-append c.self.inside.history (write ∷ []), c.self.invariant.1),
            held,
          )
    ]

pub returns-clause-held : goal.returns-clause-held
returns-clause-held g c =
    let held : IsHeld g.C.KeyClass.rules c.insert_step.new.world = record { sound = c.insert_step.ensures.sound; mailboxes = c.insert_step.ensures.mailboxes refl c.self.invariant.2.mailboxes } in (
      rw (← c.self.view_is) c.self.invariant.2,
      elim c.match-way.branch [
        | in-On w ↦ rw w.self-inside-is held
        | in-Split w ↦ rw w.self-inside-is held
        | in-Placed w ↦ rw w.self-inside-is held
      ],
    )

pub returns-clause-seen : goal.returns-clause-seen
returns-clause-seen g c =
    elim c.match-way.branch [
      | in-On w ↦ rw w.told-is (prefix_self c.args.told.now)
      | in-Split w ↦ rw w.told-is (prefix_self c.args.told.now)
      | in-Placed w ↦ rw w.told-is (prefix_trans c.args.told.now c.self.inside.history w.tell.new.past w.tell.ensures.seen ((Insert c.args.key c.args.tag) ∷ [], sym (w.tell.ensures.whole ∙ w.tell.ensures.added)))
    ]

pub returns-clause-committed : goal.returns-clause-committed
returns-clause-committed g c =
    let held : IsHeld g.C.KeyClass.rules c.insert_step.new.world = record { sound = c.insert_step.ensures.sound; mailboxes = c.insert_step.ensures.mailboxes refl c.self.invariant.2.mailboxes } in
    elim c.match-way.branch [
      | in-On w ↦ rw (w.result-is, w.told-is) refl
      | in-Split w ↦ rw (w.result-is, w.told-is) refl
      | in-Placed w ↦
          let did = rw w.in-Placed.is at c.in-Ok.ensures.goes in
          let write = Insert c.args.key c.args.tag in
          let grown : c.insert_step.new.world.commits ≡ c.self.inside.world.commits ++ write ∷ [] = did.0 in
          let begins : IsPrefix c.args.told.now c.self.inside.world.commits = subst (λ l. IsPrefix c.args.told.now l) (sym c.self.invariant.0) w.tell.ensures.seen in
          rw (w.result-is, w.told-is)
          (committed g.C.KeyClass.rules _ _ c.args.seat write w.in-Placed.stamp _ _
          c.self.invariant.2 held grown did.1
          begins (grown ∙ (ap (λ l. l ++ write ∷ []) c.self.invariant.0 ∙ sym (w.tell.ensures.whole ∙ w.tell.ensures.added))))
    ]
