-- `host::windshear_fresh` meets its contract: it promises what `State::fresh` does.
use Rattle.unit_core.specs.Core.{fresh_core}
use Rattle.unit.specs.Steps.{fresh_state}
use Rattle.host.proofs.windshear_fresh.Goals as goal

pub returns : goal.returns
unfolding fresh_state fresh_core
returns c = c.fresh.ensures
