-- `read::knots_size` meets its contract, by the laws of its ways.
use mathlib.Core.Path.{sym, ◌∙◌}
use native.Mathlib.Omega.{arith}
use borrow.Author.Rules.{part_to_end}
use Rattle.numbers.proofs.SizeLaws.{front_bad, knots_is, size-le}
use Rattle.numbers.proofs.read.knots_size.Goals as goal

pub returns-in_err-front : goal.returns-in_err-front
returns-in_err-front c =
    c.from_residual.ensures ∙ front_bad c.args.u.now (omega (arith, c.if-n-lt4.false)) c.if-u-n-ne46.false (sym (c.in_err-front.was) ∙ c.digits.ensures)

pub digits-requires-2 : goal.digits-requires-2
digits-requires-2 c = size-le _ _ (sym (c.in_ok-front.was) ∙ c.digits.ensures)

pub returns : goal.returns
returns c =
    (rw part_to_end at c.digits-2.ensures)
    ∙ knots_is c.args.u.now (omega (arith, c.if-n-lt4.false)) c.if-u-n-ne46.false _ (sym (c.in_ok-front.was) ∙ c.digits.ensures)
