use Rattle.query_text.proofs.Meaning.{some_meaning_of_text, one_query_of_text, one_place_of_text, not_both_of_text}
use Rattle.query_text.proofs.parser.one_meaning_for_text.Goals as goal

pub returns : goal.returns
returns g c = record {
  some_meaning = some_meaning_of_text g.C.ClassText.texts g.met.C.ClassText.key_leaves_fewer;
  one_query = one_query_of_text g.C.ClassText.texts;
  one_place = one_place_of_text g.C.ClassText.texts;
  not_both = λ text h. not_both_of_text g.C.ClassText.texts text h.0.0 h.1.0 h.0.1 h.1.1;
}
