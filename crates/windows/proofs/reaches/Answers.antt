-- `windows::reaches` meets its contract: downward, the code turns the limit and not the sum.
use mathlib.Core.Path.{refl}
use Prim.Native.Nat.{◌*◌}
use native.Mathlib.Nat.{mul-le-mul}
use lib.Dec.{lit<}
use lib.IntN.{pos}
use mir.Syntax.{w64}
use mir.Facts.{to_z-of_z}
use Rattle.rounding.proofs.Fits.{Holds, lit, kept, minus}
use Rattle.rules.specs.Rules.{limit}
use Rattle.windows.specs.Ring.{reached}
use Rattle.windows.proofs.WindowLaws.{le_turn}
use Rattle.windows.proofs.reaches.Goals as goal
use Rattle.windows.proofs.reaches.Goals.{After-from-limit}

limits : (c : After-from-limit) → Holds c.from-limit.result (pos (c.args.samples * c.args.value)) (200 * 100000)
limits c = record { is = c.from-limit.ensures; le = mul-le-mul c.requires.0 c.requires.1 }

pub returns-then-up : goal.returns-then-up
unfolding reached limit
returns-then-up c = rw (c.if-up.true, to_z-of_z c.ranges.sum, (kept w64 (limits c.before) (lit< tt)).is) refl

pub returns-else-up : goal.returns-else-up
unfolding reached limit
returns-else-up c =
    rw (c.if-up.false, to_z-of_z c.ranges.sum, (kept w64 (minus (lit 0) (kept w64 (limits c.before) (lit< tt))) (lit< tt)).is)
    (le_turn c.args.sum (pos (c.args.samples * c.args.value)))
