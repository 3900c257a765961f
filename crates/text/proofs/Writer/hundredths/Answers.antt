-- `Writer::hundredths` meets its contract: the whole knots, the point and two decimals, one after another.
use Rattle.text.specs.Text.{hundredths}
use Rattle.text.proofs.WriterLaws.{then}
use Rattle.text.proofs.Writer.hundredths.Goals as goal

pub returns : goal.returns
unfolding hundredths
returns c = then c.number.ensures (then c.byte.ensures (then c.digit.ensures c.digit-2.ensures))
