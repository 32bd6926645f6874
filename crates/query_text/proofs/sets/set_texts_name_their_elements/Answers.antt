use Rattle.query_text.proofs.SetLaws.{mask_means, elements_mean}
use Rattle.query_text.proofs.sets.set_texts_name_their_elements.Goals as goal

pub returns : goal.returns
returns c = record {
  read = λ named e. (let m = mask_means named e in (m.1, m.0));
  written = λ set e. elements_mean 128 set.mask e;
}
