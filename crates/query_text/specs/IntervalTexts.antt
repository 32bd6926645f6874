-- The text of an interval: its ends between round brackets.
use Rattle.std.specs.Prelude.{ℕ, ℤ, int_le, List, ◌++◌, Option, Some, codes}
use Rattle.std.specs.Int.Signed.{le_z_yes}
use Rattle.std.specs.Fmt.{signed_decimal}
use Rattle.key_class.specs.declared.sides.Rel.{Rel}
use Rattle.interval_class.specs.declared.interval.Interval.{Interval}
use Rattle.interval_class.specs.declared.atom.Atom.{Atom}
use Rattle.query_text.specs.Tokens.{Placed, least_i64, most_i64}
use Rattle.query_text.specs.Keys.{Reading, ◌>>=◌, or_fault_at, when, expected_at, number_at, is_open_bracket, is_close_bracket}
use Rattle.query_text.specs.ClassTexts.{Texts}

-- the interval with these ends, if they are in order
abbrev pub interval_of : ℤ → ℤ → Option Interval
interval_of lo hi = when (int_le lo hi) (λ h. Some (record { lo = lo; hi = hi; ordered = le_z_yes h }))

-- Ends that are out of order are refused at the opening bracket, once the closing one was read.
unfoldable pub interval_at : ℕ → List Placed → Reading Interval
interval_at len ts = do
  bracket ← expected_at is_open_bracket len ts
  lo ← number_at least_i64 most_i64 len bracket.1
  hi ← number_at least_i64 most_i64 len lo.1
  close ← expected_at is_close_bracket len hi.1
  or_fault_at bracket.0 close.1 (interval_of lo.0 hi.0)

abbrev pub interval_text : Interval → List ℕ
interval_text k = codes "(" ++ (signed_decimal k.lo ++ (codes " " ++ (signed_decimal k.hi ++ codes ")")))

abbrev pub atom_of : Rel → Interval → Atom
atom_of rel operand = record { rel = rel; operand = operand }

-- the texts of the class
abbrev pub interval_texts : Texts Interval Atom
interval_texts = record {
  key_at = interval_at;
  key_text = interval_text;
  atom_of = atom_of;
  rel_of = λ a. a.rel;
  operand_of = λ a. a.operand;
}
