use Rattle.page_table.proofs.Chains.{chain_is, pages_by_chain, rows_by_chain}
use Rattle.page_table.proofs.laws.traversals_follow_chains.Goals as goal

pub returns : goal.returns
returns g c = record {
  chain = λ t fan sound. chain_is t sound.rank sound.ranked;
  pages = λ t fan sound. pages_by_chain t sound.rank sound.ranked;
  rows = λ t fan sound. rows_by_chain t sound.rank sound.ranked;
  once = λ t fan sound q l. (sound.reached q l).once;
}
