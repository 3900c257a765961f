-- `windows::Ring::sum_on` meets its contract: one entry more, whatever the entries are.
use mathlib.Core.Path.{◌≡◌, sym, ap, ◌∙◌}
use Prim.Native.Nat.{◌+◌, ◌*◌, ◌<◌, ◌^◌}
use mathlib.Core.List.{List}
use native.Mathlib.Omega.{arith}
use lib.IntN.{ℤ, ◌+ℤ◌}
use lib.ListN.{take}
use mir.Syntax.{w64}
use mir.Val.{to_z, of_z}
use Rattle.rounding.specs.Fraction.{sum_ℤ}
use Rattle.rounding.proofs.Fits.{Holds, kept, plus}
use Rattle.windows.specs.Ring.{read_from}
use Rattle.windows.proofs.RingLaws.{read_length}
use Rattle.windows.proofs.WindowLaws.{sum_more, widened}
use Rattle.windows.proofs.Ring.sum_on.Goals as goal
use Rattle.windows.proofs.Ring.sum_on.Goals.{After-from-sum}

abbrev entries : After-from-sum → List ℤ
entries c = read_from c.args.self.place c.args.self.held.now

abbrev so_far : After-from-sum → ℤ
so_far c = sum_ℤ (take c.loop-i.i (entries c))

added : (c : After-from-sum)
    → Holds (to_z w64 c.loop-i.sum-bits +ℤ to_z w64 (of_z w64 c.from-sum.result)) (so_far c +ℤ c.at.result) (c.loop-i.i * 2147483648 + 2 ^ 31)
added c = let inv = c.loop-i.invariant in plus (record { is = inv.0; le = inv.1 }) (widened (record { sfits = c.at.type_inv }) c.from-sum.ensures)

-- far inside 64 bits
room : (c : After-from-sum) → c.loop-i.i * 2147483648 + 2 ^ 31 < 2 ^ 63
room c = omega (arith, c.requires.1, c.loop-i-test.true)

-- one entry more
more : (c : After-from-sum) → sum_ℤ (take (c.loop-i.i + 1) (entries c)) ≡ so_far c +ℤ c.at.result
more c =
    let r = c.args.self in
    sum_more (entries c) c.loop-i.i (omega (arith, read_length r.held.now r.place r.whole r.on_ring, c.requires.1, c.loop-i-test.true))
    ∙ ap (λ (x : ℤ). so_far c +ℤ x) (sym c.at.ensures)

pub loop-i-preserved : goal.loop-i-preserved
loop-i-preserved c = ((kept w64 (added c) (room c)).is ∙ sym (more c), rw (more c) (omega (arith, (added c).le)))
