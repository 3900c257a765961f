-- Laws of the held shear.
use mathlib.Core.Path.{◌≡◌, refl, ap, ◌∙◌}
use Prim.Native.Nat.{ℕ, ◌+◌, ◌*◌, ◌≤◌, ◌<◌}
use native.Mathlib.Nat.{le_refl, mul-pos, mul-le-mul}
use native.Mathlib.Omega.{arith}
use lib.Dec.{T, lit<}
use lib.IntN.{ℤ, pos, negsuc, nat_abs, ◌-ℤ◌, ◌*ℤ◌}
use lib.Signed.{non_neg}
use Rattle.rounding.specs.Rounding.{round_away}
use Rattle.rounding.proofs.Difference.{any, nat, -D, *D, eq_d}
use Rattle.rounding.proofs.Fits.{exact, lit, times, minus}
use Rattle.rounding.proofs.Rounding.{round_scale, round_le}
use Rattle.rules.specs.Rules.{exact_shear, held_shear}

-- without vertical wind the airspeed does not matter
pub shear_still : (c : ℤ) (a : ℕ) → 0 < a → held_shear c 1 (pos 0) (pos a) ≡ round_away (c *ℤ pos 18520 *ℤ pos 100000) 1765197
unfolding held_shear exact_shear
shear_still c a p =
    ap (λ (x : ℤ). round_away x (1765197 * a))
    (eq_d (*D (-D (*D (*D (any c) (nat 18520)) (nat a)) (*D (nat 0) (nat 1765197))) (nat 100000)) (*D (*D (*D (any c) (nat 18520)) (nat 100000)) (nat a)) (omega arith))
    ∙ round_scale (c *ℤ pos 18520 *ℤ pos 100000) 1765197 a p

-- the fraction as the code has it, over an airspeed that is not negative
pub shear_fraction : (c : ℤ) (n : ℕ) (v a : ℤ) → T (non_neg a)
    → round_away ((c *ℤ pos 18520 *ℤ a -ℤ v *ℤ pos (1765197 * n)) *ℤ pos 100000) (nat_abs (pos (1765197 * n) *ℤ a)) ≡ held_shear c n v a
unfolding held_shear exact_shear
shear_fraction c n v (pos a) t = refl
shear_fraction c n v (negsuc a) t = absurd t

-- a held shear is within 50,000,000, so that it fits 32 bits: over more frames the change of wind counts for less
pub shear_le : (c : ℤ) (n : ℕ) (v a : ℤ) → nat_abs c ≤ 40000 → 1 ≤ n → nat_abs v ≤ 10000 → 6000 ≤ nat_abs a → nat_abs (held_shear c n v a) ≤ 50000000
unfolding held_shear exact_shear
shear_le c n v a hc hn hv ha =
    round_le _ (1765197 * n * nat_abs a) 50000000 (mul-pos (mul-pos (lit< tt) hn) (omega arith))
    (least n (nat_abs a) hn ha (times (minus (times (times (exact c hc) (lit 18520)) (lit (nat_abs a))) (times (exact v hv) (lit (1765197 * n)))) (lit 100000)).le)
  where
    least : (n a : ℕ) → 1 ≤ n → 6000 ≤ a → {k : ℕ} → k ≤ (40000 * 18520 * a + 10000 * (1765197 * n)) * 100000 → k ≤ 50000000 * (1765197 * n * a)
    least n a h g e = omega (arith, mul-le-mul h (le_refl a), mul-le-mul (le_refl n) g)
