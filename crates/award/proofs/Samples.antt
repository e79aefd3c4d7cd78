-- The sample sales by computation. Assumes nothing.
use Rattle.std.proofs.Common.{refl}
use Rattle.bundle.specs.Reserves.{priced}
use Rattle.bundle.specs.Units.{less, within}
use Rattle.vcg.specs.Auction.{chosen}
use Rattle.vcg.specs.Optimum.{best_among, optimum, first_among, pick, award, charge_at}
use Rattle.award.specs.Samples.{SamplesComeOut}

pub samples_come_out : SamplesComeOut
unfolding priced less within chosen best_among optimum first_among pick award charge_at
samples_come_out =
    ((refl, refl), ((refl, refl), ((refl, refl), ((refl, refl), ((refl, refl), ((refl, refl), ((refl, refl), ((refl, refl), ((refl, refl), ((refl, refl), ((refl, refl), tt)))))))))))
