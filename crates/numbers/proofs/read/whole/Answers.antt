-- `read::whole` meets its contract: what it calls ensures, joined.
use mathlib.Core.Path.{ap, ◌∙◌}
use Rattle.numbers.specs.Number.{whole_size, with_sign, whole_of}
use Rattle.numbers.proofs.SizeLaws.{size-le, joined}
use Rattle.numbers.proofs.read.whole.Goals as goal

pub number-requires-clause-small : goal.number-requires-clause-small
number-requires-clause-small c u n e = size-le n _ e.says.met

pub returns : goal.returns
unfolding whole_of
returns c =
    let e = c.number.ensures in
    let sign = c.signed-negative.ensures in
    e.2 ∙ ap (λ t. with_sign t e.0) sign.negative ∙ joined whole_size c.args.s.now e.1.shown.now e.0 e.1.says.met (e.1.shows ∙ sign.rest)
