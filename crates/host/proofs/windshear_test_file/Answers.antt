-- `host::windshear_test_file` meets its contract: it promises what `test_file` does.
use Rattle.host.proofs.windshear_test_file.Goals as goal

pub returns : goal.returns
returns c = c.test_file.ensures
