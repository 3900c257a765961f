-- `host::windshear_run` meets its contract: it promises what `run` does.
use Rattle.host.proofs.windshear_run.Goals as goal

pub returns : goal.returns
returns c = c.before.before.run.ensures
