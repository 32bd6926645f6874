use Rattle.query_text.proofs.Meaning.{some_meaning_of, one_query_of, one_place_of, not_both_of}
use Rattle.query_text.proofs.parser.one_meaning_for_tokens.Goals as goal

pub returns : goal.returns
returns g c = record {
  some_meaning = some_meaning_of g.C.ClassText.texts g.met.C.ClassText.key_leaves_fewer;
  one_query = one_query_of g.C.ClassText.texts;
  one_place = one_place_of g.C.ClassText.texts;
  not_both = λ n ts h. not_both_of g.C.ClassText.texts n ts h.0.0 h.1.0 h.0.1 h.1.1;
}
