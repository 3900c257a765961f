use mathlib.Core.Path.{◌≡◌}
use Prim.Native.Nat.{◌*◌, ◌≤◌}
use lib.IntN.{nat_abs}
use lib.ListN.{take}
use Rattle.rounding.specs.Fraction.{sum_ℤ}
use Rattle.windows.specs.Ring.{read_from}
use Rattle.windows.proofs.Ring.sum_on.Given as goal

abbrev pub invariant-loop-i : goal.invariant-loop-i
invariant-loop-i l = (l.sum ≡ sum_ℤ (take l.i (read_from l.fn.self.place l.fn.self.held.now))) × (nat_abs (sum_ℤ (take l.i (read_from l.fn.self.place l.fn.self.held.now))) ≤ l.i * 2147483648)
