-- `read::digits` meets its contract, digit by digit.
use mathlib.Core.Path.{◌∙◌, ap}
use native.Mathlib.Omega.{arith}
use Prim.Native.Nat.{◌-◌}
use lib.ListN.{get_or}
use Rattle.std.proofs.Common.{Some, sym}
use Rattle.numbers.proofs.DigitLaws.{longer_below, digits_other, digits_next, digits_end}
use Rattle.numbers.proofs.read.digits.Goals as goal

pub returns-then-not-is_ascii_digit : goal.returns-then-not-is_ascii_digit
returns-then-not-is_ascii_digit c =
    digits_other c.loop-b.n c.args.s.now c.loop-b.b-index c.loop-b-test.true (sym c.is_ascii_digit.ensures.value ∙ c.if-not-is_ascii_digit.true) ∙ c.loop-b.invariant.1

pub loop-b-preserved : goal.loop-b-preserved
loop-b-preserved c =
    let r = c.if-not-is_ascii_digit.ensures.cases in (
      rw c.longer-n.ensures (longer_below c.loop-b.n (get_or c.args.s.now c.loop-b.b-index 0 - 48) c.loop-b.invariant.0 (omega (arith, r))),
      rw c.longer-n.ensures (digits_next c.loop-b.n c.args.s.now c.loop-b.b-index c.loop-b-test.true (omega (arith, r)) (omega (arith, r))) ∙ c.loop-b.invariant.1,
    )

pub returns : goal.returns
returns c = ap Some c.min.ensures ∙ digits_end c.loop-b.n c.args.s.now c.loop-b.b-index c.loop-b.auto.b-index-end c.loop-b-test.false ∙ c.loop-b.invariant.1
