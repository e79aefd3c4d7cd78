use Rattle.bundle.proofs.stock.Supply.+place_of_last.Given as goal

abbrev pub decreases-place_of_last : goal.decreases-place_of_last
decreases-place_of_last l = l.left
