use Rattle.change_list.proofs.Resuming.{goes_on, begun, listing_stays}
use Rattle.change_list.proofs.laws.listings_go_on.Goals as goal

pub returns-clause-whole : goal.returns-clause-whole
returns-clause-whole g c = λ follows wanted s n later commits given resumed l a. goes_on wanted follows s n later commits given resumed l a

pub returns-clause-begun : goal.returns-clause-begun
returns-clause-begun g c = λ follows wanted s n later commits given resumed l b. begun wanted follows s n later commits given resumed l b

pub returns-clause-stays : goal.returns-clause-stays
returns-clause-stays g c = λ follows wanted s n commits further given l. listing_stays wanted follows s n commits further given l
