-- `host::windshear_import` meets its contract: it promises what `import` does.
use Rattle.host.proofs.windshear_import.Goals as goal

pub returns : goal.returns
returns c = c.import.ensures
