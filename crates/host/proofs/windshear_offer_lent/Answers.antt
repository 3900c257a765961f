-- `host::windshear_offer_lent` meets its contract: the plain form's answer, and its state stored.
use Rattle.unit.proofs.Promises.{plain_says}
use Rattle.host.specs.Lent.{LentPromise}
use Rattle.host.proofs.windshear_offer_lent.Goals as goal

pub returns : goal.returns
unfolding LentPromise
returns c = plain_says _ _ _ _ c.offer-r.ensures
