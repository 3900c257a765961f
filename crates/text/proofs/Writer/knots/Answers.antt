-- `Writer::knots` meets its contract: the sign, then the size.
use native.Mathlib.Omega.{arith}
use lib.IntN.{nat_abs}
use mir.Facts.{to_z-of_z}
use Rattle.text.specs.Text.{hundredths, knots}
use Rattle.text.proofs.TextLaws.{signed_by_lem, signed_by_length, hundredths_length}
use Rattle.text.proofs.WriterLaws.{then}
use Rattle.text.proofs.Writer.knots.Goals as goal

pub sign-requires : goal.sign-requires
unfolding knots
sign-requires c = omega (arith, c.requires, signed_by_length hundredths c.args.x, hundredths_length (nat_abs c.args.x))

pub hundredths-requires : goal.hundredths-requires
unfolding knots
hundredths-requires c =
    let sign = rw (to_z-of_z c.ranges.x) at c.sign.ensures in
    rw (c.unsigned_abs.ensures.value, to_z-of_z c.ranges.x) (omega (arith, c.requires, sign.place, sign.size, signed_by_length hundredths c.args.x))

pub returns : goal.returns
unfolding knots
returns c =
    let sign = rw (to_z-of_z c.ranges.x) at c.sign.ensures in
    let size = rw (c.unsigned_abs.ensures.value, to_z-of_z c.ranges.x) at c.hundredths.ensures in
    rw (signed_by_lem hundredths c.args.x) (then sign size)
