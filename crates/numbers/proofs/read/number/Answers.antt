-- `read::number` meets its contract: what was read has an opposite, as it was cut.
use Rattle.std.proofs.Common.{Some, None}
use mathlib.Core.Path.{◌≡◌, refl}
use Prim.Native.Nat.{ℕ, zero, suc, ◌≤◌}
use native.Mathlib.Omega.{arith}
use lib.IntN.{pos, neg_ℤ, ◌-ℤ◌, +ℤ_idl}
use mir.Syntax.{w32}
use mir.Val.{to_z, SFits}
use mir.Facts.{to_z-of_z, to_z_pos}
use Rattle.numbers.specs.Number.{number_limit, with_sign}
use Rattle.numbers.proofs.read.number.Goals as goal
use Rattle.numbers.proofs.read.number.Goals.{then-negative, else-negative}

opposite : (n : ℕ) → n ≤ number_limit → SFits w32 (pos 0 -ℤ pos n)
opposite n h = rw (+ℤ_idl (neg_ℤ (pos n))) (go n h)
  where
    go : (n : ℕ) → n ≤ number_limit → SFits w32 (neg_ℤ (pos n))
    go zero h = record { sfits = omega arith }
    go (suc n) h = record { sfits = omega arith }

read : (n : ℕ) → n ≤ number_limit → to_z w32 n ≡ pos n
read n h = to_z_pos w32 (omega arith)

pub returns-in_err-n : goal.returns-in_err-n
unfolding with_sign
returns-in_err-n g c =
    (None, record { shown = c.args.u; shows = refl; says = record { met = c.in_err-n.ensures } }, c.from_residual.ensures)

pub overflow_cast-n : goal.overflow_cast-n
overflow_cast-n g c =
    let h = c.requires.small _ _ (record { shown = c.args.u; shows = refl; says = record { met = c.in_ok-n.ensures } }) in
    record { sfits = omega (arith, h) }

pub overflow_sub-result : goal.overflow_sub-result
overflow_sub-result g c =
    let h = c.requires.small _ _ (record { shown = c.args.u; shows = refl; says = record { met = c.in_ok-n.ensures } }) in
    rw (read _ h) (opposite _ h)

pub returns : goal.returns
unfolding with_sign
returns g c =
    let h = c.requires.small _ _ (record { shown = c.args.u; shows = refl; says = record { met = c.in_ok-n.ensures } }) in (
      Some c.in_ok-n.field-0,
      record { shown = c.args.u; shows = refl; says = record { met = c.in_ok-n.ensures } },
      elim c.if-negative.branch [
        | then-negative w ↦ rw (w.result-is, w.if-negative.true, read _ h, to_z-of_z {w = w32} (opposite _ h), +ℤ_idl)
        | else-negative w ↦ rw (w.result-is, w.if-negative.false, read _ h)
      ],
    )
