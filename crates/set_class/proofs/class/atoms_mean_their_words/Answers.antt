use Rattle.set_class.specs.SetLaws.{atom_means, bound_means, cover_means}
use Rattle.set_class.proofs.class.atoms_mean_their_words.Goals as goal

pub returns-clause-matches : goal.returns-clause-matches
returns-clause-matches c = atom_means

pub returns-clause-consistent : goal.returns-clause-consistent
returns-clause-consistent c = bound_means

pub returns-clause-covers : goal.returns-clause-covers
returns-clause-covers c = cover_means
