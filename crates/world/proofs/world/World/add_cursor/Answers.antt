use Rattle.std.proofs.Common.{◌≡◌, ◌+◌, ◌++◌, ◌∷◌, [], ◌<◌, true, length, sym, ◌∙◌, subst}
use Rattle.std.specs.Prelude.{is_ok}
use Rattle.world.specs.States.{IsAtWork}
use Rattle.world.proofs.Refusing.{full_leaves_room}
use Rattle.world.proofs.Sounding.{opened_sound}
use Rattle.world.proofs.world.World.add_cursor.Goals as goal

pub invariant_of-self-2 : goal.invariant_of-self-2
invariant_of-self-2 g c =
    let left = full_leaves_room c.args.self.now c.requires.room in
    let kept : is_ok c.push.result ≡ true = c.if-is_err.ensures.negation in
    let pushed : c.push.new.self.items ≡ c.self.inside.cursors.items ++ c.args.cursor ∷ [] = rw kept at c.push.ensures.items in
    let number : c.args.cursor.serial ≡ c.self.inside.last + 1 = subst (λ s. c.args.cursor.serial ≡ s.last + 1) (sym c.self.view_is) c.requires.serial in
    let given : c.serial-serial.result ≡ c.self.inside.last + 1 = c.serial-serial.ensures ∙ number in
    rw (pushed, given)
    (opened_sound g.C.KeyClass.rules.is_cover _ c.self.invariant c.args.cursor number
    (subst (λ s. IsAtWork s.search.tree s.commits c.args.cursor) (sym c.self.view_is) c.requires.at_work)
    (subst (λ s. length s.cursors < 256) (sym c.self.view_is) left.0) (subst (λ s. s.last < 4294967295) (sym c.self.view_is) left.1))
