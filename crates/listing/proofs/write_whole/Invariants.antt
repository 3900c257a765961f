use lib.ListN.{length}
use Rattle.listing.proofs.write_whole.Given as goal

abbrev pub decreases-loop-rest : goal.decreases-loop-rest
decreases-loop-rest l = length l.rest
