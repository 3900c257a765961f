-- `host_c::windshear_offer` meets its contract: it promises what the function of that name in `host` does.
use Rattle.host_c.proofs.windshear_offer.Goals as goal

pub returns : goal.returns
returns c = c.windshear_offer.ensures
