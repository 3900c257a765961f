-- `host::windshear_list` meets its contract: it promises what `listing` does.
use Rattle.host.proofs.windshear_list.Goals as goal

pub returns : goal.returns
returns c = c.before.before.listing.ensures
