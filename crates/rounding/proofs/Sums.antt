-- Sums of fractions, and of their roundings.
use mathlib.Core.List.{List, [], ◌∷◌, map}
use Prim.Native.Nat.{ℕ, suc, ◌*◌, ◌≤◌}
use native.Mathlib.Nat.{mul-pos, mul-le-mul_right}
use native.Mathlib.Omega.{arith}
use lib.Dec.{lit≤, lit<}
use lib.IntN.{ℤ, pos, nat_abs, ◌+ℤ◌, ◌-ℤ◌, ◌*ℤ◌}
use lib.ListN.{length}
use Rattle.rounding.specs.Fraction.{Fraction, sum_f, round_f, Positive, AllPositive, sum_ℤ}
use Rattle.rounding.proofs.Difference.{any, nat, +D, -D, *D, size_d, of_size}
use Rattle.rounding.proofs.Rounding.{round_error}

pub sum_positive : (l : List Fraction) → AllPositive l → Positive (sum_f l)
sum_positive [] h = lit< tt
sum_positive (f ∷ l) h = mul-pos h.0 (sum_positive l h.1)

-- h within one half of x / d, and H within k / 2 of N / E: their sum is within (k + 1) / 2 of x / d + N / E
step : (h x H N : ℤ) (d E k : ℕ) → 2 * nat_abs (h *ℤ pos d -ℤ x) ≤ d → 2 * nat_abs (H *ℤ pos E -ℤ N) ≤ k * E
    → 2 * nat_abs ((h +ℤ H) *ℤ pos (d * E) -ℤ (x *ℤ pos E +ℤ N *ℤ pos d)) ≤ suc k * (d * E)
step h x H N d E k a b =
    let u = of_size 2 a (-D (*D (any h) (nat d)) (any x)) in
    let v = of_size 2 b (-D (*D (any H) (nat E)) (any N)) in
    size_d 2 (-D (*D (+D (any h) (any H)) (nat (d * E))) (+D (*D (any x) (nat E)) (*D (any N) (nat d))))
    (omega (arith, mul-le-mul_right E u.0, mul-le-mul_right d v.0))
    (omega (arith, mul-le-mul_right E u.1, mul-le-mul_right d v.1))

-- the sum of rounded fractions is within half the list's length of the exact sum, multiplied out
pub sum_error : (l : List Fraction) → AllPositive l
    → 2 * nat_abs (sum_ℤ (map round_f l) *ℤ pos (sum_f l).den -ℤ (sum_f l).num) ≤ length l * (sum_f l).den
sum_error [] h = lit≤ tt
sum_error (f ∷ l) h =
    step (round_f f) f.num (sum_ℤ (map round_f l)) (sum_f l).num f.den (sum_f l).den (length l)
    (round_error f.num f.den h.0) (sum_error l h.1)
