-- `find::find_put` meets its contract. The measure is the height, which each call lowers by one.
use Rattle.search.proofs.find.+find_put.Given as goal

abbrev pub decreases-find_put : goal.decreases-find_put
decreases-find_put l = l.height
