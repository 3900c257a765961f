-- The quotient of a whole number by 100 in binary32: both are exact there, so that it rounds once.
use mathlib.Core.Path.{◌≡◌}
use mathlib.Core.Bool.{Bool, true, false}
use Prim.Native.Nat.{ℕ, suc, ◌*◌, ◌^◌, ◌≤◌}
use native.Mathlib.Nat.{le_trans}
use native.Mathlib.Omega.{arith}
use lib.Dec.{T, le→leb, lt→ltb, lit<, lit≤}
use lib.IntN.{ℤ, pos, negsuc, nat_abs}
use lib.Ieee.{Float, nan, inf, fin, binary32, up, down, div, of_bits, of_int, in_float, round}
use lib.Ieee.Back.{round_whole}
use lib.Ieee.Exact.{HasValue}
use lib.Ieee.Fits.{down_pos}
use lib.Ieee.Scale.{round_same}
use Rattle.float.specs.Float.{nearest_float, nearest_limit}

-- a whole number that binary32 has, as every one up to 2 ^ 24
pub in_float_lem : (h : ℤ) → nat_abs h ≤ 2 ^ 24 → T (in_float binary32 h)
unfolding in_float
in_float_lem (pos n) k = le→leb n 16777216 k
in_float_lem (negsuc n) k = lt→ltb n 16777216 k

-- 100 is 25 × 2 ^ 2
abbrev pub hundred : Float
hundred = fin false 25 (pos 2)

same : (s : Bool) (m : ℕ) (e : ℤ) (n : ℕ) → m * up e * 1 ≡ n * down e → round binary32 s (m * up e * 1) (100 * down e) ≡ round binary32 s n 100
same s m e n h = round_same binary32 s (m * up e * 1) (100 * down e) n 100 (omega (arith, down_pos e)) (lit< tt) (omega arith)

-- x / 100 rounds what ± n / 100 does, where x is ± n
over : (x : Float) (s : Bool) (n : ℕ) → HasValue x s n 1 → div binary32 x hundred ≡ round binary32 s n 100
unfolding div
over nan s n h = absurd h
over (inf t) s n h = absurd h
over (fin true m e) s n h = rw (← h.0) (same true m e n h.1)
over (fin false m e) s n h = rw (← h.0) (same false m e n h.1)

pub quotient : (h : ℤ) → nat_abs h ≤ 2 ^ 24 → div binary32 (of_int binary32 h) hundred ≡ nearest_float h
unfolding of_int nearest_float
quotient (pos n) k = over (round binary32 false n 1) false n (round_whole binary32 false n k)
quotient (negsuc n) k = over (round binary32 true (suc n) 1) true (suc n) (round_whole binary32 true (suc n) k)

-- 100 by its pattern
pub divided : (h : ℤ) → nat_abs h ≤ nearest_limit → div binary32 (of_int binary32 h) (of_bits binary32 1120403456) ≡ nearest_float h
unfolding of_bits
divided h k = quotient h (le_trans k (lit≤ tt))
