-- `host_c::windshear_read_record` meets its contract: it promises what the function of that name in `host` does.
use Rattle.host_c.proofs.windshear_read_record.Goals as goal

pub returns : goal.returns
returns c = c.windshear_read_record.ensures
