use Rattle.std.proofs.Common.{◌≡◌, ◌⊎◌, ⊎_elim, ℕ, List, ◌++◌, codes, decimal, refl, append_assoc}
use Rattle.key_class.specs.Refusals.{refusal_text, number_of, name_of}
use Rattle.key_class.specs.declared.refusal.Refusal.{Refusal}
use Rattle.key_class.specs.declared.refusal.Refusal.TheVariants.{QueryText, Line}
use Rattle.front.proofs.answers.append_refusal.Goals as goal

-- a fault of a text stands in its line with its place
placed : (why : Refusal) (place : ℕ) → (why ≡ QueryText place) ⊎ (why ≡ Line place) → refusal_text why ≡ decimal (number_of why) ++ (codes " " ++ (name_of why ++ (codes " " ++ decimal place)))
placed why place e = ⊎_elim (λ q. rw q refl) (λ l. rw l refl) e

joined : (g number name place t1 t2 t3 t4 t5 : List ℕ) → t1 ≡ g ++ codes "refused " → t2 ≡ t1 ++ number → t3 ≡ t2 ++ codes " " → t4 ≡ t3 ++ name → t5 ≡ t4 ++ (codes " " ++ (place ++ codes "\n"))
    → t5 ≡ g ++ (codes "refused " ++ ((number ++ (codes " " ++ (name ++ (codes " " ++ place)))) ++ codes "\n"))
joined g number name place t1 t2 t3 t4 t5 e1 e2 e3 e4 e5 = rw (e5, e4, e3, e2, e1) (simp append_assoc)

pub returns-in-QueryText : goal.returns-in-QueryText
returns-in-QueryText c =
    let why = c.args.why in
    let number = rw c.number.ensures at c.append_number.ensures.digits in
    let name = rw (c.as_bytes.ensures.value, c.name.ensures) at c.append-3.ensures in
    rw (placed why c.in-QueryText.place c.in-QueryText.is) (joined c.args.gathered.now.items (decimal (number_of why)) (name_of why) (decimal c.in-QueryText.place) c.append.new.text.items c.append_number.new.text.items c.append-2.new.text.items c.append-3.new.text.items c.append_numbered.new.gathered.items
    c.append.ensures number c.append-2.ensures name c.append_numbered.ensures)
