-- `host::windshear_read_record` meets its contract: it promises what `record_at` does.
use Rattle.host.proofs.windshear_read_record.Goals as goal

pub returns : goal.returns
returns c = c.record_at.ensures
