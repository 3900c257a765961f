-- `raw::float_of` meets its contract: no pattern that passes the test is a NaN's, and the other one is infinity's.
use borrow.Author.Tests.{le-ltb}
use lib.Dec.{lt→ltb}
use lib.Ieee.{of_bits}
use Rattle.raw.specs.Record.{float_of}
use Rattle.raw.proofs.Patterns.{pattern_no_nan}
use Rattle.raw.proofs.float_of.Goals as goal

pub float_from_bits-result : goal.float_from_bits-result
float_from_bits-result c = pattern_no_nan c.args.bits (lt→ltb _ _ c.if-bits-lt2139095040.true)

pub returns-else-bits-lt2139095040 : goal.returns-else-bits-lt2139095040
unfolding float_of of_bits
returns-else-bits-lt2139095040 c = rw (le-ltb _ _ c.if-bits-lt2139095040.false)
