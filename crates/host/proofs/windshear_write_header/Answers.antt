-- `host::windshear_write_header` meets its contract: it promises what `write` does, by the number of what it answers.
use mathlib.Core.Path.{◌∙◌}
use Rattle.host.proofs.windshear_write_header.Goals as goal

pub returns : goal.returns
returns c = (c.number_of.ensures ∙ c.write.ensures.0, c.write.ensures.1)
