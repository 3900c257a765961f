-- `host::windshear_export` meets its contract: it promises what `export` does.
use Rattle.host.proofs.windshear_export.Goals as goal

pub returns : goal.returns
returns c = c.export.ensures
