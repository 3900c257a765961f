-- `Writer::signed` meets its contract: the sign, then the size.
use native.Mathlib.Omega.{arith}
use lib.IntN.{nat_abs}
use mir.Facts.{to_z-of_z}
use Rattle.text.specs.Text.{decimal, signed}
use Rattle.text.proofs.TextLaws.{signed_by_lem, signed_by_length, decimal_some}
use Rattle.text.proofs.WriterLaws.{then}
use Rattle.text.proofs.Writer.signed.Goals as goal

pub sign-requires : goal.sign-requires
unfolding signed
sign-requires c = omega (arith, c.requires, signed_by_length decimal c.args.x, decimal_some (nat_abs c.args.x))

pub number-requires : goal.number-requires
unfolding signed
number-requires c =
    let sign = rw (to_z-of_z c.ranges.x) at c.sign.ensures in
    rw (c.unsigned_abs.ensures.value, to_z-of_z c.ranges.x) (omega (arith, c.requires, sign.place, sign.size, signed_by_length decimal c.args.x))

pub returns : goal.returns
unfolding signed
returns c =
    let sign = rw (to_z-of_z c.ranges.x) at c.sign.ensures in
    let size = rw (c.unsigned_abs.ensures.value, to_z-of_z c.ranges.x) at c.number.ensures in
    rw (signed_by_lem decimal c.args.x) (then sign size)
