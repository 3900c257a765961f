-- `read::knots` meets its contract: what it calls ensures, joined.
use mathlib.Core.Path.{ap, ◌∙◌}
use Rattle.numbers.specs.Number.{knots_size, with_sign, knots_of}
use Rattle.numbers.proofs.SizeLaws.{size-le, joined}
use Rattle.numbers.proofs.read.knots.Goals as goal

pub number-requires-clause-small : goal.number-requires-clause-small
number-requires-clause-small c u n e = size-le n _ e.says.met

pub returns : goal.returns
unfolding knots_of
returns c =
    let e = c.number.ensures in
    let sign = c.signed-negative.ensures in
    e.2 ∙ ap (λ t. with_sign t e.0) sign.negative ∙ joined knots_size c.args.s.now e.1.shown.now e.0 e.1.says.met (e.1.shows ∙ sign.rest)
