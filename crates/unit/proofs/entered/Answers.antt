-- `unit::entered` meets its contract: what `pushed_times` ensures; the sample's along wind and number are kept.
use borrow.Author.Rules.{rules}
use mir.Syntax.{w32}
use mir.Val.{SFits}
use mir.Facts.{to_z-of_z}
use Rattle.unit_core.specs.Core.{core_with}
use Rattle.unit.specs.Steps.{beside}
use Rattle.unit.proofs.StepLaws.{entered_is}
use Rattle.unit.proofs.entered.Goals as goal

pub returns : goal.returns
unfolding core_with
returns c =
    let along : SFits w32 c.args.s.along = search rules in
    let mode : SFits w32 c.args.core.mode = search rules in
    let command : SFits w32 c.args.core.command = search rules in
    let e = rw (to_z-of_z c.ranges.entry) at c.pushed_times-filled.ensures in
    rw (to_z-of_z along, to_z-of_z mode, to_z-of_z command) (entered_is (beside c.args.held.now c.args.core) c.args.s c.args.n c.args.entry e)
