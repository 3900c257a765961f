-- `host::windshear_offer` meets its contract: it promises what `State::offer` does.
use Rattle.host.proofs.windshear_offer.Goals as goal

pub returns : goal.returns
returns c = c.offer.ensures
