-- `unit::State::offer` meets its contract: what no number fits is accepted; a refusal is answered by its number, which is not 0, and zeros.
use mathlib.Core.Path.{sym}
use Rattle.unit_core.specs.Core.{refused_of}
use Rattle.unit.proofs.StepLaws.{leans, promised, refused}
use Rattle.unit.proofs.State.offer.Goals as goal

pub accept-requires : goal.accept-requires
accept-requires c = leans _ _ (sym c.in_default.ensures)

pub returns : goal.returns
returns c = promised c.args.self c.args.s (sym c.in_default.ensures) c.accept.ensures

pub returns-in-Err : goal.returns-in-Err
unfolding refused_of
returns-in-Err c =
    let d = c.default.ensures in
    rw (c.from.ensures, d.1.0, d.1.1.0, d.1.1.1.0, d.1.1.1.1.0, d.1.1.1.1.1) (refused c.args.self c.args.s c.in-Err.refusal c.in-Err.ensures)
