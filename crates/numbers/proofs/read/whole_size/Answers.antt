-- `read::whole_size` meets its contract, by the laws of its ways.
use mathlib.Core.Path.{sym, ap, ◌∙◌}
use borrow.Author.Tests.{eqb-true, eqb-false}
use Rattle.numbers.specs.Number.{cut_size}
use Rattle.numbers.proofs.SizeLaws.{whole_none, whole_some}
use Rattle.numbers.proofs.read.whole_size.Goals as goal

pub returns-then-is_empty : goal.returns-then-is_empty
returns-then-is_empty c = whole_none _ (eqb-true _ 0 (sym c.if-is_empty.ensures))

pub returns : goal.returns
returns c = c.digits.ensures ∙ ap cut_size (whole_some _ (eqb-false _ 0 (sym c.if-is_empty.ensures)))
