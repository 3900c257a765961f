-- The change of along wind from one sample to another, as the code works it out, is the change itself, and fits 32 bits.
use Prim.Native.Nat.{◌≤◌}
use lib.Dec.{lit<}
use lib.IntN.{ℤ, nat_abs, ◌-ℤ◌}
use mir.Syntax.{w32}
use mir.Val.{SFits, to_z, of_z}
use Rattle.rounding.proofs.Fits.{Holds, exact, kept, minus, sfits}

-- a value of 32 bits as it is read back
abbrev pub back : ℤ → ℤ
back x = to_z w32 (of_z w32 x)

pub change : (x y : ℤ) → nat_abs x ≤ 20000 → nat_abs y ≤ 20000 → Holds (back x -ℤ back y) (x -ℤ y) 40000
change x y h k = minus (kept w32 (exact x h) (lit< tt)) (kept w32 (exact y k) (lit< tt))

pub change_fits : (x y : ℤ) → nat_abs x ≤ 20000 → nat_abs y ≤ 20000 → SFits w32 (to_z w32 (of_z w32 x) -ℤ to_z w32 (of_z w32 y))
change_fits x y h k = sfits w32 (change x y h k) (lit< tt)
