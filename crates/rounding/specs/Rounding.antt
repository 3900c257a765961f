-- The one rounding rule: a fraction to the nearest whole number, ties away from zero (01, "Shear").
use Rattle.std.specs.Prelude.{◌≡◌, ℕ, suc, ◌+◌, ◌*◌, ◌/◌, ◌≤◌, ◌<◌, ℤ, pos, negsuc, neg_ℤ, nat_abs, ◌-ℤ◌, ◌*ℤ◌}

-- n / d + 1 / 2, rounded down: the nearest to n / d, a tie to the larger
unfoldable pub nearest : ℕ → ℕ → ℕ
nearest n d = (2 * n + d) / (2 * d)

-- the same on the size of x, with the sign of x: the nearest to x / d, a tie away from zero
unfoldable pub round_away : ℤ → ℕ → ℤ
round_away (pos n) d = pos (nearest n d)
round_away (negsuc n) d = neg_ℤ (pos (nearest (suc n) d))

-- The rule as the paper says it, for a divisor d above 0, multiplied out: r is at most one half from x / d and, where it is just one half, farther from zero.
-- `round_is_nearest` (proofs/Rounding.antt) shows it of round_away.
pub record NearestAway (x : ℤ) (d : ℕ) (r : ℤ) : Type 0 where
  pub near : 2 * nat_abs (r *ℤ pos d -ℤ x) ≤ d
  pub away : 2 * nat_abs (r *ℤ pos d -ℤ x) ≡ d → nat_abs x < nat_abs r * d
