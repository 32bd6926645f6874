-- The text of a box: the lower ends and then the upper ends, between round brackets.
use Rattle.std.specs.Prelude.{ℕ, ℤ, int_le, List, ◌++◌, Option, Some, Ok, codes}
use Rattle.std.specs.Int.Signed.{le_z_yes}
use Rattle.std.specs.Fmt.{signed_decimal}
use Rattle.key_class.specs.declared.sides.Rel.{Rel}
use Rattle.box_class.specs.declared.boxes.BoxKey.{BoxKey}
use Rattle.box_class.specs.declared.atom.Atom.{Atom}
use Rattle.query_text.specs.Tokens.{Placed, least_i32, most_i32}
use Rattle.query_text.specs.Keys.{Reading, ◌>>=◌, or_fault_at, when, expected_at, number_at, is_open_bracket, is_close_bracket}
use Rattle.query_text.specs.ClassTexts.{Texts}

-- the box with these ends, if both pairs are in order
abbrev pub box_of : ℤ → ℤ → ℤ → ℤ → Option BoxKey
box_of x1 y1 x2 y2 =
    when (int_le x1 x2) (λ h. when (int_le y1 y2) (λ k. Some (record { x1 = x1; y1 = y1; x2 = x2; y2 = y2; x_ordered = le_z_yes h; y_ordered = le_z_yes k })))

-- the numbers of a point
unfoldable pub point_at : ℕ → List Placed → Reading (ℤ × ℤ)
point_at len ts = do
  x ← number_at least_i32 most_i32 len ts
  y ← number_at least_i32 most_i32 len x.1
  Ok ((x.0, y.0), y.1)

-- Ends that are out of order are refused at the opening bracket, once the closing one was read.
unfoldable pub box_at : ℕ → List Placed → Reading BoxKey
box_at len ts = do
  bracket ← expected_at is_open_bracket len ts
  x1 ← number_at least_i32 most_i32 len bracket.1
  y1 ← number_at least_i32 most_i32 len x1.1
  x2 ← number_at least_i32 most_i32 len y1.1
  y2 ← number_at least_i32 most_i32 len x2.1
  close ← expected_at is_close_bracket len y2.1
  or_fault_at bracket.0 close.1 (box_of x1.0 y1.0 x2.0 y2.0)

-- the numbers of a point
abbrev pub point_text : ℤ → ℤ → List ℕ
point_text x y = signed_decimal x ++ (codes " " ++ signed_decimal y)

abbrev pub box_text : BoxKey → List ℕ
box_text k = codes "(" ++ (signed_decimal k.x1 ++ (codes " " ++ (signed_decimal k.y1 ++ (codes " " ++ (signed_decimal k.x2 ++ (codes " " ++ (signed_decimal k.y2 ++ codes ")")))))))

abbrev pub atom_of : Rel → BoxKey → Atom
atom_of rel operand = record { rel = rel; operand = operand }

-- the texts of the class
abbrev pub box_texts : Texts BoxKey Atom
box_texts = record {
  key_at = box_at;
  key_text = box_text;
  atom_of = atom_of;
  rel_of = λ a. a.rel;
  operand_of = λ a. a.operand;
}
